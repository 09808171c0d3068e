-- The places of entries by their ranks, as a sort of the entries with their places leaves them.
use Rattle.std.proofs.Common.{◌≡◌, ◌≢◌, ℕ, zero, suc, ◌+◌, ◌<◌, ◌≤◌, ◌==◌, nat_lt, Bool, true, false, not, cond, List, [], ◌∷◌, length, get_or, slice_set, below_more, get_or-set_other, get_or-set_same, refl, sym, ◌∙◌, ap, subst, arith, inl, inr, eqb-true, eq-eqb}
use Rattle.std.proofs.Common.{Less, Equal, Greater}
use Rattle.std.specs.Prelude.{◌⊎◌, map, slice_index, slice_index_or, count_by}
use Rattle.std.specs.List.{All, range_with_len}
use Rattle.std.specs.List.Sorted.{IsPermutation, IsStrictlyIncreasing}
use Rattle.std.proofs.lemmas.Bool.{cases_lt}
use Rattle.std.proofs.lemmas.List.{get_or-map, length-map}
use Rattle.std.proofs.lemmas.List.Kept.{AllPairs-from_increasing}
use Rattle.std.specs.Ordering.{is_lt, nat_cmp, ordering_then}
use Rattle.std.proofs.lemmas.Bool.Decides.{nat_tests}
use Rattle.std.proofs.lemmas.List.Elements.{All-map}
use Rattle.std.proofs.lemmas.List.FromFn.{get_or-range_with_len, length-map-range_with_len, length-range_with_len}
use Rattle.std.proofs.lemmas.List.Sorted.{All-permutation, length_permutation, sum_by-IsPermutation}
use Rattle.std.proofs.lemmas.List.Sums.{sum_by-cons}
use Rattle.dddmp_text.specs.Ranks.{AreByRank, AreVariables, comes_before, place_of, placed, rank_of}
use Rattle.dddmp_text.proofs.Ranks.{before, before-total, bit-le, count, count-le, count-suc, place_of-rank, rank-below}

abbrev pub Entry : Type 0
Entry = ℕ × ℕ

no_entry : Entry
no_entry = (0, 0)

clash : {A : Type 0} → true ≡ false → A
clash c = cc

-- not after it
abbrev Le : Entry → Entry → Type 0
Le x y = (x.0 < y.0) ⊎ ((x.0 ≡ y.0) × (x.1 ≤ y.1))

le_then : (a b c : Entry) → Le a b → Le b c → Le a c
le_then a b c (inl x) (inl y) = inl (omega (arith, x, y))
le_then a b c (inl x) (inr y) = inl (let e = y.0 in omega (arith, x, e))
le_then a b c (inr x) (inl y) = inl (let e = x.0 in omega (arith, y, e))
le_then a b c (inr x) (inr y) = inr (x.0 ∙ y.0, (let p = x.1 in let q = y.1 in omega (arith, p, q)))

-- as std compares pairs
abbrev pub std_less : Entry → Entry → Bool
std_less x y = is_lt (ordering_then (nat_cmp x.0 y.0) (nat_cmp x.1 y.1))

by_tests : (less same less' same' : Bool) (a b u v : ℕ) → nat_lt a b ≡ less → (a == b) ≡ same → nat_lt u v ≡ less' → (u == v) ≡ same'
    → is_lt (ordering_then (cond less Less (cond same Equal Greater)) (cond less' Less (cond same' Equal Greater))) ≡ false → (b < a) ⊎ ((b ≡ a) × (v ≤ u))
by_tests true same less' same' a b u v p q r s h = clash h
by_tests false true true same' a b u v p q r s h = clash h
by_tests false true false same' a b u v p q r s h = inr (sym (eqb-true a b q), le_from u v r)
  where
    le_from : (a b : ℕ) → nat_lt a b ≡ false → b ≤ a
    le_from a b e = grind (arith, nat_tests)
by_tests false false less' same' a b u v p q r s h = inl (let le = le_from a b p in let ne = ne_from a b q in omega (arith, le, ne))
  where
    le_from : (a b : ℕ) → nat_lt a b ≡ false → b ≤ a
    le_from a b e = grind (arith, nat_tests)

    ne_from : (a b : ℕ) → (a == b) ≡ false → a ≢ b
    ne_from a b e same = clash (sym (eq-eqb a b same) ∙ e)

not_less : (x y : Entry) → std_less y x ≡ false → Le x y
not_less x y h = by_tests (nat_lt y.0 x.0) (y.0 == x.0) (nat_lt y.1 x.1) (y.1 == x.1) y.0 x.0 y.1 x.1 refl refl refl refl h

not_before : (x y : Entry) → Le x y → before y.0 y.1 x.0 x.1 ≡ false
not_before x y (inl h) = grind (arith, nat_tests)
not_before x y (inr h) = let e = h.0 in let le = h.1 in grind (arith, nat_tests)

abbrev pub Sorted : List Entry → Type 0
Sorted xs = (k : ℕ) (d : Entry) → 0 ≤ k → k + 1 < length xs → std_less (slice_index_or xs (k + 1) d) (slice_index_or xs k d) ≡ false

far : (xs : List Entry) → Sorted xs → (i n : ℕ) (d : Entry) → i + n < length xs → Le (get_or xs i d) (get_or xs (i + n) d)
far xs up i zero d within =
    let here : i ≡ i + zero = omega arith in
    subst (λ j. Le (get_or xs i d) (get_or xs j d)) here (inr (refl, omega arith))
far xs up i (suc n) d within =
    let next : (i + n) + 1 ≡ i + suc n = omega arith in
    let less : (i + n) + 1 < length xs = omega (arith, within) in
    let sooner = far xs up i n d (omega (arith, within)) in
    subst (λ j. Le (get_or xs i d) (get_or xs j d)) next
    (le_then (get_or xs i d) (get_or xs (i + n) d) (get_or xs ((i + n) + 1) d) sooner (not_less (get_or xs (i + n) d) (get_or xs ((i + n) + 1) d) (up (i + n) d (omega arith) less)))

-- the later one of two does not come before the sooner one
later : (xs : List Entry) → Sorted xs → (i j : ℕ) (d : Entry) → i ≤ j → j < length xs
    → before (get_or xs j d).0 (get_or xs j d).1 (get_or xs i d).0 (get_or xs i d).1 ≡ false
later xs up i j d le within = by_gap (nat_gap i j le)
  where
    nat_gap : (i j : ℕ) → i ≤ j → (n : ℕ) × (i + n ≡ j)
    nat_gap zero j le = (j, omega arith)
    nat_gap (suc i) zero le = absurd (omega arith)
    nat_gap (suc i) (suc j) le = let rest = nat_gap i j (omega (arith, le)) in (rest.0, (let e = rest.1 in omega (arith, e)))

    by_gap : (n : ℕ) × (i + n ≡ j) → before (get_or xs j d).0 (get_or xs j d).1 (get_or xs i d).0 (get_or xs i d).1 ≡ false
    by_gap (n, e) =
        let less : i + n < length xs = omega (arith, e, within) in
        not_before (get_or xs i d) (get_or xs j d) (subst (λ k. Le (get_or xs i d) (get_or xs k d)) e (far xs up i n d less))

count-cons : {X : Type 0} (p : X → Bool) (x : X) (xs : List X) → count_by p (x ∷ xs) ≡ cond (p x) 1 0 + count_by p xs
count-cons p x xs = sum_by-cons (λ x. cond (p x) 1 0) x xs

-- none passes from a place on
count-front : {X : Type 0} (p : X → Bool) (xs : List X) (n : ℕ) (d : X) → ((k : ℕ) → n ≤ k → k < length xs → p (get_or xs k d) ≡ false) → count_by p xs ≤ n
count-front p [] n d h = omega arith
count-front p (x ∷ xs) zero d h =
    let head : p x ≡ false = h 0 (omega arith) (omega arith) in
    let none : ◌≡◌ {A = ℕ} (cond (p x) 1 0) 0 = ap (λ b. cond b 1 0) head in
    let rest = count-front p xs zero d (λ k low less. h (suc k) (omega arith) (omega (arith, less))) in
    omega (arith, rest, none, count-cons p x xs)
count-front p (x ∷ xs) (suc n) d h =
    let rest = count-front p xs n d (λ k low less. h (suc k) (omega (arith, low)) (omega (arith, less))) in
    let one = bit-le (p x) true (λ _. refl) in
    omega (arith, rest, one, count-cons p x xs)

-- all pass up to a place
count-back : {X : Type 0} (p : X → Bool) (xs : List X) (n : ℕ) (d : X) → ((k : ℕ) → k < n → p (get_or xs k d) ≡ true) → n ≤ length xs → n ≤ count_by p xs
count-back p xs zero d h within = omega arith
count-back p [] (suc n) d h within = absurd (omega (arith, within))
count-back p (x ∷ xs) (suc n) d h within =
    let head : p x ≡ true = h 0 (omega arith) in
    let one : ◌≡◌ {A = ℕ} (cond (p x) 1 0) 1 = ap (λ b. cond b 1 0) head in
    let rest = count-back p xs n d (λ k less. h (suc k) (omega (arith, less))) (omega (arith, within)) in
    omega (arith, rest, one, count-cons p x xs)

-- no other than one of those that pass fails the second test
count-one : (p q : ℕ → Bool) (n at : ℕ) → ((k : ℕ) → k < n → p k ≡ true → (q k ≡ true) ⊎ (k ≡ at)) → count p n ≤ count q n + 1
count-one p q zero at h = omega arith
count-one p q (suc n) at h = by_last (n == at) refl (count-one p q n at below)
  where
    below : (k : ℕ) → k < n → p k ≡ true → (q k ≡ true) ⊎ (k ≡ at)
    below k less = let next : k < suc n = omega (arith, less) in h k next

    last : n < suc n
    last = omega arith

    other : n ≡ at → (k : ℕ) → k < n → (q k ≡ true) ⊎ (k ≡ at) → q k ≡ true
    other here k less (inl passes) = passes
    other here k less (inr there) = absurd (omega (arith, here, less, there))

    here_too : n ≢ at → (q n ≡ true) ⊎ (n ≡ at) → q n ≡ true
    here_too apart (inl passes) = passes
    here_too apart (inr there) = absurd (apart there)

    by_last : (b : Bool) → (n == at) ≡ b → count p n ≤ count q n + 1 → count p (suc n) ≤ count q (suc n) + 1
    by_last true e sooner =
        let here : n ≡ at = eqb-true n at e in
        let same = count-le p q n (λ k less passes. other here k less (below k less passes)) in
        omega (arith, same, count-suc p n, count-suc q n, bit-le (p n) true (λ _. refl))
    by_last false e sooner =
        let apart : n ≢ at = λ s. clash (sym (eq-eqb n at s) ∙ e) in
        omega (arith, sooner, count-suc p n, count-suc q n, bit-le (p n) (q n) (λ passes. here_too apart (h n last passes)))

over_pairs : (entries : List ℕ) (q : Entry → Bool) (a n : ℕ) → count_by q (map (placed entries) (range_with_len a n)) ≡ count_by (λ j. q (placed entries j)) (range_with_len a n)
over_pairs entries q a zero = refl
over_pairs entries q a (suc n) =
    count-cons q (placed entries a) (map (placed entries) (range_with_len (a + 1) n)) ∙ ap (λ k. cond (q (placed entries a)) 1 0 + k) (over_pairs entries q (a + 1) n)
    ∙ sym (count-cons (λ j. q (placed entries j)) a (range_with_len (a + 1) n))

abbrev pub pairs : List ℕ → List Entry
pairs entries = map (placed entries) (range_with_len 0 (length entries))

-- a pair of an entry and its place
abbrev IsPair : List ℕ → Entry → Type 0
IsPair entries e = (e.1 < length entries) × (e.0 ≡ slice_index entries e.1)

all_pairs : (entries : List ℕ) → All (IsPair entries) (pairs entries)
all_pairs entries = All-map (IsPair entries) (placed entries) (range_with_len 0 (length entries)) below
  where
    below : All (λ j. IsPair entries (placed entries j)) (range_with_len 0 (length entries))
    below k d within =
        let less : k < length entries = omega (arith, within, length-range_with_len 0 (length entries)) in
        (omega (arith, less, get_or-range_with_len 0 (length entries) k d less), refl)

module _ (entries : List ℕ) (sorted : List Entry) (moved : IsPermutation (pairs entries) sorted) (up : Sorted sorted) where
  pub as_many : length sorted ≡ length entries
  as_many = length_permutation (pairs entries) sorted moved ∙ length-map-range_with_len (placed entries) 0 (length entries)

  moved_count : (q : Entry → Bool) → count_by q sorted ≡ count (λ j. q (placed entries j)) (length entries)
  moved_count q = sum_by-IsPermutation (λ e. cond (q e) 1 0) (pairs entries) sorted moved ∙ over_pairs entries q 0 (length entries)

  is_pair : All (IsPair entries) sorted
  is_pair = All-permutation (IsPair entries) (pairs entries) sorted moved (all_pairs entries)

  pub place_within : (rank : ℕ) (d : Entry) → rank < length entries → (get_or sorted rank d).1 < length entries
  place_within rank d within = (is_pair rank d (omega (arith, within, as_many))).0

  -- no more come before it than stand before it
  not_more : (rank : ℕ) (d : Entry) → rank < length entries → rank_of entries (get_or sorted rank d).1 ≤ rank
  not_more rank d within =
      let here : rank < length sorted = omega (arith, within, as_many) in
      let e = get_or sorted rank d in
      let q : Entry → Bool = λ f. before f.0 f.1 e.0 e.1 in
      let counted : count_by q sorted ≡ rank_of entries e.1 = moved_count q ∙ ap (λ x. count (λ j. before (slice_index entries j) j x e.1) (length entries)) (is_pair rank d here).1 in
      let few = count-front q sorted rank d (λ k low less. later sorted up rank k d low less) in
      omega (arith, counted, few)

  -- all that stand before it do
  not_fewer : (rank : ℕ) (d : Entry) → rank < length entries → rank ≤ rank_of entries (get_or sorted rank d).1
  not_fewer rank d within =
      let here : rank < length sorted = omega (arith, within, as_many) in
      let e = get_or sorted rank d in
      let p : Entry → Bool = λ f. not (before e.0 e.1 f.0 f.1) in
      let shown : count_by p sorted ≡ count (λ j. not (comes_before entries e.1 j)) (length entries) =
      moved_count p ∙ ap (λ x. count (λ j. not (before x e.1 (slice_index entries j) j)) (length entries)) (is_pair rank d here).1 in
      let many = count-back p sorted (rank + 1) d (λ k less. ap not (later sorted up k rank d (omega (arith, less)) here)) (omega (arith, here)) in
      let one_more = count-one (λ j. not (comes_before entries e.1 j)) (λ j. comes_before entries j e.1) (length entries) e.1 (λ k less fails. by_place e.1 k (k == e.1) refl fails) in
      omega (arith, shown, many, one_more)
    where
      by_sides : (i k : ℕ) → (comes_before entries i k ≡ true) ⊎ (comes_before entries k i ≡ true) → not (comes_before entries i k) ≡ true → comes_before entries k i ≡ true
      by_sides i k (inl before_it) fails = clash (sym fails ∙ ap not before_it)
      by_sides i k (inr behind_it) fails = behind_it

      by_place : (i k : ℕ) (b : Bool) → (k == i) ≡ b → not (comes_before entries i k) ≡ true → (comes_before entries k i ≡ true) ⊎ (k ≡ i)
      by_place i k true e fails = inr (eqb-true k i e)
      by_place i k false e fails =
          let apart : i ≢ k = λ s. clash (sym (eq-eqb k i (sym s)) ∙ e) in
          inl (by_sides i k (before-total (slice_index entries i) i (slice_index entries k) k apart) fails)

  pub ranked : (rank : ℕ) (d : Entry) → rank < length entries → rank_of entries (get_or sorted rank d).1 ≡ rank
  ranked rank d within = omega (arith, not_more rank d within, not_fewer rank d within)

-- what std sorted, with the places alone
pub by-rank : (entries : List ℕ) (sorted : List Entry) → IsPermutation (pairs entries) sorted → Sorted sorted → AreByRank entries (map (λ (pair : Entry). pair.1) sorted)
by-rank entries sorted moved up = record {
  as_many = length-map sorted (λ (pair : Entry). pair.1) ∙ as_many entries sorted moved up;
  within = λ rank below. subst (λ place. place < length entries) (sym (place_at rank below)) (place_within entries sorted moved up rank no_entry below);
  ranked = λ rank below. ap (rank_of entries) (place_at rank below) ∙ ranked entries sorted moved up rank no_entry below;
}
  where
    place_at : (rank : ℕ) → rank < length entries → slice_index (map (λ (pair : Entry). pair.1) sorted) rank ≡ (get_or sorted rank no_entry).1
    place_at rank below =
        let inside : rank < length sorted = omega (arith, below, as_many entries sorted moved up) in
        get_or-map (λ (pair : Entry). pair.1) sorted rank no_entry 0 inside

-- the place of a rank is that of the table
pub place_by_rank : (entries places : List ℕ) → AreByRank entries places → (rank : ℕ) → rank < length entries → place_of entries rank ≡ slice_index places rank
place_by_rank entries places by rank below = ap (place_of entries) (sym (by.ranked rank below)) ∙ place_of-rank entries (slice_index places rank) (by.within rank below)

pub variables-by : (ids permids places variables : List ℕ) → AreByRank permids places → variables ≡ map (slice_index ids) places → AreVariables ids permids variables
variables-by ids permids places variables by is = record {
  as_many = ap length is ∙ length-map places (slice_index ids) ∙ by.as_many;
  told = λ internal below.
      let inside : internal < length places = omega (arith, below, by.as_many) in
      ap (λ xs. slice_index xs internal) is ∙ get_or-map (slice_index ids) places internal 0 0 inside ∙ ap (slice_index ids) (sym (place_by_rank permids places by internal below));
}

-- the ranks of ids that rise are set one after another
pub set_more : (ids permids places internals : List ℕ) (rank : ℕ) → AreByRank permids places → IsStrictlyIncreasing ids → length permids ≡ length ids → rank < length permids
    → slice_index ids (slice_index places rank) < length internals
    → ((r : ℕ) → r < rank → slice_index internals (slice_index ids (slice_index places r)) ≡ r)
    → (r : ℕ) → r < rank + 1 → slice_index (slice_set internals (slice_index ids (slice_index places rank)) rank) (slice_index ids (slice_index places r)) ≡ r
set_more ids permids places internals rank by rises as_many below room so_far =
    below_more (λ r. slice_index (slice_set internals (slice_index ids (slice_index places rank)) rank) (slice_index ids (slice_index places r)) ≡ r) rank
    (λ r less. get_or-set_other internals (slice_index ids (slice_index places rank)) (slice_index ids (slice_index places r)) rank 0 (other r less) ∙ so_far r less)
    (get_or-set_same internals (slice_index ids (slice_index places rank)) rank 0 room)
  where
    other_place : (r : ℕ) → r < rank → slice_index places r ≢ slice_index places rank
    other_place r less same = let e : r ≡ rank = sym (by.ranked r (omega (arith, less, below))) ∙ ap (rank_of permids) same ∙ by.ranked rank below in omega (arith, e, less)

    apart : (i j : ℕ) → i < length ids → j < length ids → i ≢ j → slice_index ids i ≢ slice_index ids j
    apart i j first second differ same = elim (cases_lt i j) [
      | inl lower ↦ omega (arith, same, AllPairs-from_increasing ids rises i j 0 lower second)
      | inr higher ↦ let less : j < i = omega (arith, higher, differ) in omega (arith, same, AllPairs-from_increasing ids rises j i 0 less first)
    ]

    other : (r : ℕ) → r < rank → slice_index ids (slice_index places r) ≢ slice_index ids (slice_index places rank)
    other r less =
        let first = by.within r (omega (arith, less, below)) in
        let second = by.within rank below in
        apart (slice_index places r) (slice_index places rank) (omega (arith, first, as_many)) (omega (arith, second, as_many)) (other_place r less)

-- by place, where all were set
pub all_set : (ids permids places internals : List ℕ) → AreByRank permids places
    → ((r : ℕ) → r < length permids → slice_index internals (slice_index ids (slice_index places r)) ≡ r)
    → (i : ℕ) → i < length permids → slice_index internals (slice_index ids i) ≡ rank_of permids i
all_set ids permids places internals by all i below =
    let rank = rank_of permids i in
    let inside : rank < length permids = rank-below permids i below in
    let here : slice_index places rank ≡ i = sym (place_by_rank permids places by rank inside) ∙ place_of-rank permids i below in
    ap (λ place. slice_index internals (slice_index ids place)) (sym here) ∙ all rank inside

-- the same, as the ids and the place are read
pub rank_set : (ids shown permids places internals : List ℕ) (rank place : ℕ) → shown ≡ ids → place ≡ slice_index places rank → AreByRank permids places → IsStrictlyIncreasing ids
    → length permids ≡ length ids → rank < length permids → slice_index ids (slice_index places rank) < length internals
    → ((r : ℕ) → r < rank → slice_index internals (slice_index ids (slice_index places r)) ≡ r)
    → (r : ℕ) → r < rank + 1 → slice_index (slice_set internals (slice_index shown place) rank) (slice_index ids (slice_index places r)) ≡ r
rank_set ids shown permids places internals rank place shown_is place_is by rises as_many below room so_far r less =
    ap (λ xs. slice_index (slice_set internals (slice_index xs place) rank) (slice_index ids (slice_index places r))) shown_is
    ∙ ap (λ p. slice_index (slice_set internals (slice_index ids p) rank) (slice_index ids (slice_index places r))) place_is
    ∙ set_more ids permids places internals rank by rises as_many below room so_far r less
