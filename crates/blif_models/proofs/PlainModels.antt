-- A model without instances is its own whole: no signal gets another name.
use Rattle.std.proofs.Common.{◌≡◌, ℕ, zero, suc, List, [], ◌∷◌, length, map, refl, ap, ◌∙◌}
use Rattle.job_words.specs.Text.{Word}
use Rattle.blif_models.specs.Circuits.{Cover}
use Rattle.blif_models.specs.Plain.{HoldsNone}
use Rattle.blif_models.specs.Models.{Model, Item, covered, latched, held, Instance, copies_within, cover_named, items_in, joins_of, laid_out, expanded, model_of, name_within, whole_items}

same_words : (words : List Word) → map (λ name. name) words ≡ words
same_words [] = refl
same_words (word ∷ words) = ap (λ more. word ∷ more) (same_words words)

same_cover : (cover : Cover) → cover_named (λ name. name) cover ≡ cover
same_cover cover = ap (λ (ins : List Word). record cover { ins = ins }) (same_words cover.ins)

same_items : (copy : ℕ → Instance → List Item) (inside : Instance → ℕ) (copies : ℕ) (items : List Item) → HoldsNone items → laid_out copy inside (λ name. name) copies items ≡ items
same_items copy inside copies [] none = refl
same_items copy inside copies (covered cover ∷ items) none =
    ap (λ one. covered one ∷ laid_out copy inside (λ name. name) copies items) (same_cover cover) ∙ ap (λ more. covered cover ∷ more) (same_items copy inside copies items none)
same_items copy inside copies (latched latch ∷ items) none = ap (λ more. latched latch ∷ more) (same_items copy inside copies items none)
same_items copy inside copies (held instance ∷ items) none = absurd none

expanded_plain : (models : List Model) (levels copies : ℕ) (items : List Item) → HoldsNone items → expanded models levels (λ name. name) copies items ≡ items
unfolding expanded
expanded_plain models zero copies items none = same_items (λ number instance. []) (λ instance. 0) copies items none
expanded_plain models (suc levels) copies items none =
    same_items (λ number instance. expanded models levels (name_within (λ name. name) number (joins_of instance)) number (items_in (model_of models instance)))
    (λ instance. copies_within models levels (items_in (model_of models instance))) copies items none

pub whole_plain : (models : List Model) (main : Model) → HoldsNone main.items → whole_items models main ≡ main.items
whole_plain models main none = expanded_plain models (length models) 0 main.items none
