-- Lists whose elements are mapped.
use Rattle.std.proofs.Common.{◌≡◌, List, [], ◌∷◌, length, map, refl, ap, ap₂, sym, ◌∙◌}
use Rattle.std.proofs.lemmas.List.{length-map}

pub map_same : {X Y : Type 0} (f g : X → Y) → ((x : X) → f x ≡ g x) → (xs : List X) → map f xs ≡ map g xs
map_same f g same [] = refl
map_same f g same (x ∷ xs) = ap₂ (λ y t. y ∷ t) (same x) (map_same f g same xs)

-- lists with one image are of one length
pub length_same : {X Y Z : Type 0} (f : X → Z) (g : Y → Z) (xs : List X) (ys : List Y) → map f xs ≡ map g ys → length xs ≡ length ys
length_same f g xs ys same = sym (length-map xs f) ∙ ap length same ∙ length-map ys g
