-- Spots of a whole have names of their own.
use Rattle.std.proofs.Common.{◌≡◌, ℕ, ◌<◌, ◌==◌, ◌||◌, Bool, true, false, List, [], ◌∷◌, length, map, inl, inr, refl, ap, sym, ◌∙◌}
use Rattle.std.specs.Prelude.{◌⊎◌, All, slice_get, Some}
use Rattle.std.specs.Str.{bytes_eq}
use Rattle.std.proofs.lemmas.Bool.{false≢true}
use Rattle.std.proofs.lemmas.List.Elements.{All-head, All-tail}
use Rattle.std.proofs.lemmas.Option.{slice_get-get_or}
use Rattle.std.proofs.lemmas.Slice.Eq.{bytes_eq-Decides}
use Rattle.job_words.specs.Text.{Word, is_among}
use Rattle.blif_order.specs.Orders.{is_in}
use Rattle.blif_order.proofs.Walks.{own, same_or_not}
use Rattle.blif_models.specs.declared.numbered.Spot.{Spot}
use Rattle.blif_models.specs.Layouts.{no_spot, spot_at}
use Rattle.blif_models.specs.Numberings.{words_at}
use Rattle.blif_models.specs.SpotsApart.{HaveOneSpot}
use Rattle.blif_formals.specs.Words.{HaveOneNumber}
use Rattle.blif_drafts.specs.WholeNames.{ArePlain}
use Rattle.blif_drafts.proofs.NamesApart.{whole_names_apart}
use Rattle.blif_wholes.specs.Uses.{name_at}

module _ (words : List (List Word)) (spots : List Spot) (plain : ArePlain words) (one_number : (m : ℕ) → HaveOneNumber (words_at words m)) (one_spot : HaveOneSpot spots)
    (named : (i : ℕ) (one : Spot) → slice_get spots i ≡ Some one → (one.model < length words) × (one.name < length (words_at words one.model))) where
  pub names_apart : (i j : ℕ) → i < length spots → j < length spots → name_at words spots i ≡ name_at words spots j → i ≡ j
  names_apart i j p q e =
      let one = spot_at spots i in
      let other = spot_at spots j in
      let at : slice_get spots i ≡ Some one = slice_get-get_or spots i no_spot p in
      let also : slice_get spots j ≡ Some other = slice_get-get_or spots j no_spot q in
      let same = whole_names_apart words one other plain (one_number one.model) (named i one at).1 (named j other also).1 (λ c. (one_spot i j one other at also c).0) e in
      (one_spot i j one other at also same.0).1 same.1

  same_test : (n k : ℕ) → n < length spots → k < length spots → bytes_eq (name_at words spots n) (name_at words spots k) ≡ (k == n)
  same_test n k p q = by_cases (bytes_eq (name_at words spots n) (name_at words spots k)) refl (same_or_not k n)
    where
      by_cases : (b : Bool) → bytes_eq (name_at words spots n) (name_at words spots k) ≡ b → (k ≡ n) ⊎ ((k == n) ≡ false) → bytes_eq (name_at words spots n) (name_at words spots k) ≡ (k == n)
      by_cases true e (inl same) = e ∙ sym (ap (λ m. k == m) (sym same) ∙ own k)
      by_cases true e (inr other) = absurd (false≢true (sym other ∙ ap (λ m. k == m) (names_apart n k p q ((bytes_eq-Decides (name_at words spots n) (name_at words spots k)).0 e)) ∙ own k))
      by_cases false e (inl same) = absurd (false≢true (sym e ∙ (bytes_eq-Decides (name_at words spots n) (name_at words spots k)).1 (ap (name_at words spots) (sym same))))
      by_cases false e (inr other) = e ∙ sym other

  -- a name stands among those of spots where its spot does
  pub among_names : (n : ℕ) (ns : List ℕ) → n < length spots → All (λ k. k < length spots) ns → is_among (map (name_at words spots) ns) (name_at words spots n) ≡ is_in ns n
  among_names n [] p h = refl
  among_names n (k ∷ ns) p h =
      let here = same_test n k p (All-head (λ m. m < length spots) k ns h) in
      let rest = among_names n ns p (All-tail (λ m. m < length spots) k ns h) in
      λ j. here j || rest j
