-- The list of free places where one is taken off its end, or put there.
use Rattle.std.proofs.Common.{◌≡◌, ◌≢◌, ℕ, ◌+◌, ◌<◌, ◌≤◌, ◌⊎◌, inl, inr, List, [], ◌∷◌, ◌++◌, length, set, get_or, Option, Some, None, refl, ap, sym, subst, ◌∙◌, arith, length-append, length-set}
use Rattle.std.proofs.lemmas.Bool.{cases_lt}
use Rattle.std.proofs.lemmas.List.{get_or-set_other, get_or-set_same}
use Rattle.std.proofs.Math.ListN.{get_or-append}
use Rattle.std.proofs.Math.Seq.{get_or-append_seam}
use Rattle.handle_count.specs.declared.rows.Row.{Row}
use Rattle.handle_count.specs.RowMaps.{AreFree, live_from, IsPut, IsWithOne, held_at}
use Rattle.handle_count.proofs.RowLemmas.{filled, put_behind}

-- one of the places before the last
before_last : (free : List ℕ) (p i : ℕ) → i < length free → get_or (free ++ p ∷ []) i 0 ≡ get_or free i 0
before_last free p i lt = get_or-append free (p ∷ []) 0 i lt

last_is : (free : List ℕ) (p : ℕ) → get_or (free ++ p ∷ []) (length free) 0 ≡ p
last_is free p = get_or-append_seam free p [] 0

longer : (free : List ℕ) (p : ℕ) → length (free ++ p ∷ []) ≡ length free + 1
longer free p = length-append free (p ∷ [])

module _ (places : List (Option Row)) (free : List ℕ) (p : ℕ) where
  pub last_within : AreFree places (free ++ p ∷ []) → p < length places
  last_within are = subst (λ k. k < length places) (last_is free p) (are.within (length free) (omega (arith, longer free p)))

  pub last_vacant : AreFree places (free ++ p ∷ []) → get_or places p None ≡ None
  last_vacant are = ap (λ k. get_or places k None) (sym (last_is free p)) ∙ are.vacant (length free) (omega (arith, longer free p))

  -- the last one is taken, and has a row then
  pub taken : (o : Option Row) → AreFree places (free ++ p ∷ []) → AreFree (set places p o) free
  taken o are =
      let more = longer free p in record {
        within = λ i lt. subst (λ k. k < length (set places p o)) (before_last free p i lt) (subst (λ n. get_or (free ++ p ∷ []) i 0 < n) (sym (length-set places p o)) (are.within i (omega (arith, more, lt))));
        vacant = λ i lt.
            get_or-set_other places p (get_or free i 0) o None (λ same. are.apart i (length free) lt (omega (arith, more)) (before_last free p i lt ∙ same ∙ sym (last_is free p)))
            ∙ ap (λ k. get_or places k None) (sym (before_last free p i lt)) ∙ are.vacant i (omega (arith, more, lt));
        apart = λ i j lt le same. are.apart i j lt (omega (arith, more, le)) (before_last free p i (omega (arith, lt, le)) ∙ same ∙ sym (before_last free p j le));
      }

  -- a place whose row goes is free
  pub given_back : (row : Row) → AreFree places free → p < length places → get_or places p None ≡ Some row → AreFree (set places p None) (free ++ p ∷ [])
  given_back row are within some =
      let more = longer free p in record {
        within = λ i lt. subst (λ n. get_or (free ++ p ∷ []) i 0 < n) (sym (length-set places p None)) (in_places i (cases_lt i (length free)) (omega (arith, more, lt)));
        vacant = λ i lt. is_vacant i (cases_lt i (length free)) (omega (arith, more, lt));
        apart = λ i j lt le. are_apart i j lt (cases_lt j (length free)) (omega (arith, more, le));
      }
    where
      in_places : (i : ℕ) → (i < length free) ⊎ (length free ≤ i) → i < length free + 1 → get_or (free ++ p ∷ []) i 0 < length places
      in_places i (inl lt) le = subst (λ k. k < length places) (sym (before_last free p i lt)) (are.within i lt)
      in_places i (inr from) le = let same : i ≡ length free = omega (arith, from, le) in subst (λ k. k < length places) (sym (ap (λ j. get_or (free ++ p ∷ []) j 0) same ∙ last_is free p)) within

      not_it : (i : ℕ) → i < length free → get_or free i 0 ≢ p
      not_it i lt same = let e : None ≡ Some row = sym (are.vacant i lt) ∙ ap (λ k. get_or places k None) same ∙ some in cc

      is_vacant : (i : ℕ) → (i < length free) ⊎ (length free ≤ i) → i < length free + 1 → get_or (set places p None) (get_or (free ++ p ∷ []) i 0) None ≡ None
      is_vacant i (inl lt) le = ap (λ k. get_or (set places p None) k None) (before_last free p i lt) ∙ get_or-set_other places p (get_or free i 0) None None (not_it i lt) ∙ are.vacant i lt
      is_vacant i (inr from) le =
          let same : i ≡ length free = omega (arith, from, le) in
          ap (λ k. get_or (set places p None) k None) (ap (λ j. get_or (free ++ p ∷ []) j 0) same ∙ last_is free p) ∙ get_or-set_same places p None None within

      are_apart : (i j : ℕ) → i < j → (j < length free) ⊎ (length free ≤ j) → j < length free + 1 → get_or (free ++ p ∷ []) i 0 ≢ get_or (free ++ p ∷ []) j 0
      are_apart i j lt (inl below) le same = are.apart i j lt below (sym (before_last free p i (omega (arith, lt, below))) ∙ same ∙ before_last free p j below)
      are_apart i j lt (inr from) le same =
          let at : j ≡ length free = omega (arith, from, le) in
          not_it i (omega (arith, lt, le)) (sym (before_last free p i (omega (arith, lt, le))) ∙ same ∙ ap (λ k. get_or (free ++ p ∷ []) k 0) at ∙ last_is free p)

pub put_in : (places : List (Option Row)) (all free : List ℕ) (p : ℕ) (row : Row) → AreFree places all → all ≡ free ++ p ∷ [] → IsPut places all row (set places p (Some row)) free p
put_in places all free p row are is =
    let those = subst (AreFree places) is are in
    let more = longer free p in
    let count = ap length is in record {
      vacant = taken places free p (Some row) those;
      live = filled places p row (last_within places free p those) (last_vacant places free p those);
      counts = (omega (arith, more, count, length-set places p (Some row)), omega (arith, more, count));
      grown = inl (length-set places p (Some row));
    }

none_free : (places : List (Option Row)) → AreFree places []
none_free places = record { within = λ i lt. absurd (omega (arith, lt)); vacant = λ i lt. absurd (omega (arith, lt)); apart = λ i j lt le. absurd (omega (arith, le)) }

pub put_last : (places more : List (Option Row)) (all free : List ℕ) (p : ℕ) (row : Row) → p ≡ length places → more ≡ places ++ Some row ∷ [] → length all ≡ 0 → length free ≡ 0 → IsPut places all row more free p
put_last places more all free p row at is none_before none = record {
  vacant = subst (AreFree more) (sym (is_empty free none)) (none_free more);
  live = subst (λ ps. IsWithOne (live_from 0 places) (held_at p row) (live_from 0 ps)) (sym is) (put_behind places row p at);
  counts = (omega (arith, ap length is, length-append places (Some row ∷ []), none_before, none), omega (arith, none));
  grown = inr (none_before, omega (arith, ap length is, length-append places (Some row ∷ [])));
}
  where
    is_empty : (xs : List ℕ) → length xs ≡ 0 → xs ≡ []
    is_empty [] h = refl
    is_empty (x ∷ xs) h = absurd (omega (arith, h))
