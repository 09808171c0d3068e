-- The rows of a session stay a map where one is added or removed.
use Rattle.std.proofs.Common.{◌≡◌, ◌≢◌, ℕ, ◌+◌, ◌-◌, ◌<◌, ◌≤◌, ◌^◌, ◌==◌, ◌⊎◌, inl, inr, Bool, true, false, cond, List, [], ◌∷◌, ◌++◌, length, set, get_or, Option, Some, None, IsSome, refl, ap, sym, subst, ◌∙◌, arith, length-append, length-set, eqb-true, eq-eqb, ne_eqb}
use Rattle.std.specs.List.{All}
use Rattle.std.proofs.lemmas.Bool.{cases_lt}
use Rattle.std.proofs.lemmas.List.{get_or-set_same}
use Rattle.std.proofs.lemmas.List.Elements.{All-nil, All-cons, All-head, All-tail, All-append, All-weaker}
use Rattle.std.proofs.Math.ListN.{get_or-eq_default}
use Rattle.function_laws.specs.declared.history.Name.{Name}
use Rattle.handle_count.specs.declared.rows.Held.{Held}
use Rattle.handle_count.specs.declared.rows.Row.{Row}
use Rattle.handle_count.specs.RowMaps.{AreRows, IsPut, IsWithOne, find_row, held_at, live_from}
use Rattle.handle_count.proofs.RowLemmas.{emptied, found_at, held_if}
use Rattle.handle_count.proofs.FreePlaces.{given_back}

abbrev Given : ℕ → Held → Type 0
Given adds held = held.name.generation < adds

one_longer : (old new : List Held) (held : Held) → IsWithOne old held new → length new ≡ length old + 1
one_longer old new held one = omega (arith, ap length one.with_it, ap length one.without, length-append one.before (held ∷ one.behind), length-append one.before one.behind)

both_parts : (P : Held → Type 0) (xs ys : List Held) → All P (xs ++ ys) → All P xs × All P ys
both_parts P [] ys all = (All-nil P, all)
both_parts P (x ∷ xs) ys all = let rest = both_parts P xs ys (All-tail P x (xs ++ ys) all) in (All-cons P x xs (All-head P x (xs ++ ys) all) rest.0, rest.1)

all_with : (P : Held → Type 0) (old new : List Held) (held : Held) → IsWithOne old held new → All P old → P held → All P new
all_with P old new held one all here =
    let parts = both_parts P one.before one.behind (subst (All P) one.without all) in
    subst (All P) (sym one.with_it) (All-append P one.before (held ∷ one.behind) parts.0 (All-cons P held one.behind here parts.1))

all_without : (P : Held → Type 0) (old new : List Held) (held : Held) → IsWithOne old held new → All P new → All P old
all_without P old new held one all =
    let parts = both_parts P one.before (held ∷ one.behind) (subst (All P) one.with_it all) in
    subst (All P) (sym one.without) (All-append P one.before one.behind parts.0 (All-tail P held one.behind parts.1))

module _ (places : List (Option Row)) (room : ℕ) (free : List ℕ) (free_room adds spare : ℕ) (are : AreRows places room free free_room adds spare) where
  pub added : (row : Row) (new_places : List (Option Row)) (new_free : List ℕ) (p : ℕ) → IsPut places free row new_places new_free p → row.generation ≡ adds → 1 ≤ spare
      → AreRows new_places room new_free free_room (adds + 1) (spare - 1)
  added row new_places new_free p put at some =
      let longer = one_longer (live_from 0 places) (live_from 0 new_places) (held_at p row) put.live in
      record {
        vacant = put.vacant;
        counted = omega (arith, longer, put.counts.0, are.counted);
        fits = fits put.grown;
        has_room = omega (arith, longer, are.has_room, some);
        has_free_room = omega (arith, longer, are.has_free_room, some);
        few = omega (arith, longer, are.few, some);
        given = all_with (Given (adds + 1)) (live_from 0 places) (live_from 0 new_places) (held_at p row) put.live
            (All-weaker (Given adds) (Given (adds + 1)) (λ held lt. omega (arith, lt)) (live_from 0 places) are.given) (omega (arith, at));
      }
    where
      fits : (length new_places ≡ length places) ⊎ ((length free ≡ 0) × (length new_places ≡ length places + 1)) → length new_free ≤ spare - 1
      fits (inl same) = omega (arith, same, put.counts.0, are.fits, some)
      fits (inr more) = omega (arith, more.0, put.counts.1, some)

  module _ (row : Row) (p : ℕ) (some : get_or places p None ≡ Some row) where
    pub place_within : p < length places
    place_within = by (cases_lt p (length places))
      where
        by : (p < length places) ⊎ (length places ≤ p) → p < length places
        by (inl lt) = lt
        by (inr from) = let e : None ≡ Some row = sym (get_or-eq_default places None from) ∙ some in cc

    pub without_it : IsWithOne (live_from 0 (set places p None)) (held_at p row) (live_from 0 places)
    without_it = emptied places p row place_within some

    longer : length (live_from 0 places) ≡ length (live_from 0 (set places p None)) + 1
    longer = one_longer _ _ _ without_it

    pub free_fits : length free < free_room
    free_fits = omega (arith, longer, are.has_free_room, are.fits)

    pub spare_fits : spare + 1 < 2 ^ 32
    spare_fits = omega (arith, longer, are.few)

    pub removed : AreRows (set places p None) room (free ++ p ∷ []) free_room adds (spare + 1)
    removed = record {
      vacant = given_back places free p row are.vacant place_within some;
      counted = omega (arith, longer, are.counted, length-append free (p ∷ []), length-set places p None);
      fits = omega (arith, are.fits, length-append free (p ∷ []));
      has_room = omega (arith, longer, are.has_room);
      has_free_room = omega (arith, longer, are.has_free_room);
      few = omega (arith, longer, are.few);
      given = all_without (Given adds) _ _ (held_at p row) without_it are.given;
    }

-- what a name finds
module _ (places : List (Option Row)) (name : Name) where
  pub finds : (o : Option Row) → get_or places name.row None ≡ o → find_row (live_from 0 places) name ≡ held_if name.row name.generation o
  finds o is = found_at places name ∙ ap (held_if name.row name.generation) is

  pub is_found : (row : Row) → get_or places name.row None ≡ Some row → row.generation ≡ name.generation → find_row (live_from 0 places) name ≡ Some (held_at name.row row)
  is_found row is same = finds (Some row) is ∙ ap (λ b. cond b (Some (held_at name.row row)) None) (eq-eqb name.generation row.generation (sym same))

  pub is_not_found : (row : Row) → get_or places name.row None ≡ Some row → row.generation ≢ name.generation → find_row (live_from 0 places) name ≡ None
  is_not_found row is other = finds (Some row) is ∙ ap (λ b. cond b (Some (held_at name.row row)) None) (ne_eqb name.generation row.generation (λ same. other (sym same)))

  -- of a name that is live the place has its row
  pub has_row : IsSome (find_row (live_from 0 places) name) → (row : Row) × (get_or places name.row None ≡ Some row) × (name.generation ≡ row.generation)
  has_row live = by (get_or places name.row None) refl
    where
      none_live : find_row (live_from 0 places) name ≡ None → ⊥
      none_live is = let e = subst IsSome is live in cc

      with_row : (row : Row) → get_or places name.row None ≡ Some row → (b : Bool) → (name.generation == row.generation) ≡ b → (row : Row) × (get_or places name.row None ≡ Some row) × (name.generation ≡ row.generation)
      with_row row is true same = (row, is, eqb-true name.generation row.generation same)
      with_row row is false other = absurd (none_live (finds (Some row) is ∙ ap (λ b. cond b (Some (held_at name.row row)) None) other))

      by : (o : Option Row) → get_or places name.row None ≡ o → (row : Row) × (get_or places name.row None ≡ Some row) × (name.generation ≡ row.generation)
      by None is = absurd (none_live (finds None is))
      by (Some row) is = with_row row is (name.generation == row.generation) refl

  pub gone : find_row (live_from 0 (set places name.row None)) name ≡ None
  gone = by (cases_lt name.row (length places))
    where
      by : (name.row < length places) ⊎ (length places ≤ name.row) → find_row (live_from 0 (set places name.row None)) name ≡ None
      by (inl lt) = found_at (set places name.row None) name ∙ ap (held_if name.row name.generation) (get_or-set_same places name.row None None lt)
      by (inr from) = found_at (set places name.row None) name ∙ ap (held_if name.row name.generation) (get_or-eq_default (set places name.row None) None (omega (arith, from, length-set places name.row None)))
