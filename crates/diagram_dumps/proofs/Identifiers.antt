-- The ids of a listing: they rise, hold each line's variable, and have distinct places.
use Rattle.std.proofs.Common.{◌≡◌, ◌≢◌, ℕ, zero, suc, ◌+◌, ◌<◌, ◌≤◌, ◌⊎◌, inl, inr, Bool, true, false, cond, List, [], ◌∷◌, Some, None, Contains, length, map, get_or, slice_index, eqb-true, eq-eqb, refl, sym, ap, ◌∙◌, subst, arith, true≢false}
use Rattle.std.specs.Prelude.{◌==◌, All, ◌||◌}
use Rattle.std.specs.List.{AllPairs, filter, list_any, position_or_len, range_with_len}
use Rattle.std.specs.List.Sorted.{IsStrictlyIncreasing}
use Rattle.std.specs.Option.{unwrap_or}
use Rattle.std.proofs.lemmas.Bool.{cases_lt, lt-ltb}
use Rattle.std.proofs.lemmas.List.{get_or-map, length-map}
use Rattle.std.proofs.lemmas.List.FromFn.{get_or-range_with_len, length-range_with_len}
use Rattle.std.proofs.lemmas.List.Kept.{AllPairs-from_increasing, IsStrictlyIncreasing-filter}
use Rattle.std.proofs.lemmas.List.Sums.{fails_before_first, passes_at_first}
use Rattle.edge_bits.specs.declared.edges.Line.{Line}
use Rattle.diagram_dumps.specs.Dumps.{place_among}
use Rattle.function_laws.specs.SiftedOrders.{place_of}
use Rattle.diagram_dumps.specs.Listings.{ids_of}
use Rattle.diagram_dumps.proofs.Listed.{ids_below}

range_rises : (n : ℕ) → IsStrictlyIncreasing (range_with_len 0 n)
range_rises n k lt =
    let long = length-range_with_len 0 n in
    let here : k < n = omega (arith, lt, long) in
    let more : k + 1 < n = omega (arith, lt, long) in
    omega (arith, get_or-range_with_len 0 n k 0 here, get_or-range_with_len 0 n (k + 1) 0 more)

pub ids_rise : (n : ℕ) (lines : List Line) → IsStrictlyIncreasing (ids_of n lines)
ids_rise n lines = IsStrictlyIncreasing-filter (λ v. list_any (λ line. line.var == v) lines) (range_with_len 0 n) (range_rises n)

-- a line's variable is one of the ids
any_at : (test : Line → Bool) (lines : List Line) (k : ℕ) (d : Line) → k < length lines → test (get_or lines k d) ≡ true → list_any test lines ≡ true
any_at test [] k d lt passed = absurd (omega arith)
any_at test (line ∷ lines) zero d lt passed = ap (λ b. b || list_any test lines) passed
any_at test (line ∷ lines) (suc k) d lt passed = by_head (test line) (any_at test lines k d (omega arith) passed)
  where
    by_head : (b : Bool) → list_any test lines ≡ true → (b || list_any test lines) ≡ true
    by_head true h = refl
    by_head false h = h

in_more : (xs : List ℕ) (u v : ℕ) → Contains xs v → Contains (u ∷ xs) v
in_more xs u v (k, lt, here) = (suc k, omega (arith, lt), here)

in_filter : (test : ℕ → Bool) (xs : List ℕ) (v : ℕ) → Contains xs v → test v ≡ true → Contains (filter test xs) v
in_filter test [] v (k, lt, here) passed = absurd (omega (arith, lt))
in_filter test (x ∷ xs) v (zero, lt, here) passed =
    let passes : test x ≡ true = ap test here ∙ passed in
    subst (λ (ys : List ℕ). Contains ys v) (sym (ap (λ b. cond b (x ∷ filter test xs) (filter test xs)) passes)) (0, omega arith, here)
in_filter test (x ∷ xs) v (suc k, lt, here) passed = by_head (test x) (in_filter test xs v (k, omega (arith, lt), here) passed)
  where
    by_head : (b : Bool) → Contains (filter test xs) v → Contains (cond b (x ∷ filter test xs) (filter test xs)) v
    by_head true h = in_more (filter test xs) x v h
    by_head false h = h

pub ids_hold : (n : ℕ) (lines : List Line) → All (λ line. line.var < n) lines → All (λ line. Contains (ids_of n lines) line.var) lines
ids_hold n lines below k d lt =
    let v = (get_or lines k d).var in
    let less : v < n = below k d lt in
    let same : 0 + v ≡ v = omega arith in
    in_filter (λ u. list_any (λ line. line.var == u) lines) (range_with_len 0 n) v
    (v, omega (arith, less, length-range_with_len 0 n), get_or-range_with_len 0 n v v less ∙ same)
    (any_at (λ line. line.var == v) lines k d lt (eq-eqb v v refl))

-- where an id stands, its place in the order does
pub place_listed : (place : ℕ → ℕ) (ids : List ℕ) (v : ℕ) → Contains ids v → slice_index (map place ids) (place_among ids v) ≡ place v
place_listed place ids v (k, lt, here) = by_place (cases_lt (position_or_len (λ id. id == v) ids) (length ids))
  where
    by_place : (position_or_len (λ id. id == v) ids < length ids) ⊎ (length ids ≤ position_or_len (λ id. id == v) ids) → slice_index (map place ids) (place_among ids v) ≡ place v
    by_place (inl inside) =
        let found : place_among ids v ≡ position_or_len (λ id. id == v) ids =
        ap (λ b. unwrap_or (cond b (Some (position_or_len (λ id. id == v) ids)) None) 0) (lt-ltb (position_or_len (λ id. id == v) ids) (length ids) inside) in
        let is : get_or ids (position_or_len (λ id. id == v) ids) 0 ≡ v = eqb-true _ v (passes_at_first (λ id. id == v) ids 0 inside) in
        ap (slice_index (map place ids)) found ∙ get_or-map place ids (position_or_len (λ id. id == v) ids) 0 0 inside ∙ ap place is
    by_place (inr past) =
        let no : (get_or ids k v == v) ≡ false = fails_before_first (λ id. id == v) ids k v (omega (arith, lt, past)) in
        absurd (true≢false (sym (eq-eqb (get_or ids k v) v here) ∙ no))

-- no two of them have one place
pub places_apart : (order : List ℕ) (lines : List Line) → ((u v : ℕ) → u < length order → v < length order → place_of u order ≡ place_of v order → u ≡ v)
    → AllPairs (λ position other. position ≢ other) (map (λ v. place_of v order) (ids_of (length order) lines))
places_apart order lines once i j d before lt = λ e.
    let ids = ids_of (length order) lines in
    let place : ℕ → ℕ = λ v. place_of v order in
    let long : length (map place ids) ≡ length ids = length-map ids place in
    let second : j < length ids = omega (arith, lt, long) in
    let first : i < length ids = omega (arith, before, second) in
    let rises : get_or ids i 0 < get_or ids j 0 = AllPairs-from_increasing ids (ids_rise (length order) lines) i j 0 before second in
    let same : place (get_or ids i 0) ≡ place (get_or ids j 0) = sym (get_or-map place ids i 0 d first) ∙ e ∙ get_or-map place ids j 0 d second in
    let one = once (get_or ids i 0) (get_or ids j 0) (ids_below (length order) lines i 0 first) (ids_below (length order) lines j 0 second) same in
    omega (arith, one, rises)
