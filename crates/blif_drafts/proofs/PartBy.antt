-- Parts of drafts, one by one.
use Rattle.std.proofs.Common.{◌≡◌, List, [], ◌∷◌, ◌++◌, map, ap, sym, ◌∙◌}
use Rattle.std.proofs.lemmas.List.{map-append}
use Rattle.blif_drafts.specs.declared.drafts.Draft.{Draft}
use Rattle.blif_formals.specs.declared.interface.Interface.{Interface}
use Rattle.blif_drafts.specs.Parts.{AreInterfacesBy, IsInterfaceBy}

-- one part more
pub one_part : {X Y : Type 0} (f : X → Y) (xs : List X) (x : X) (old new : List Y) → new ≡ old ++ f x ∷ [] → old ≡ map f xs → new ≡ map f (xs ++ x ∷ [])
one_part {X} {Y} f xs x old new e same = e ∙ ap (λ (ys : List Y). ys ++ f x ∷ []) same ∙ sym (map-append f xs (x ∷ []))

pub one_interface : (drafts : List Draft) (interfaces : List Interface) (draft : Draft) (interface : Interface) → AreInterfacesBy drafts interfaces → IsInterfaceBy draft interface → AreInterfacesBy (drafts ++ draft ∷ []) (interfaces ++ interface ∷ [])
one_interface [] [] draft interface a b = (b, tt)
one_interface [] (other ∷ interfaces) draft interface a b = absurd a
one_interface (one ∷ drafts) [] draft interface a b = absurd a
one_interface (one ∷ drafts) (other ∷ interfaces) draft interface a b = (a.0, one_interface drafts interfaces draft interface a.1 b)
