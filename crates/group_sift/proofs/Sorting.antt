-- What std's sort leaves is the list of the definition.
use Rattle.std.proofs.Common.{◌≡◌, ◌≢◌, ℕ, zero, suc, ◌+◌, ◌-◌, ◌<◌, ◌≤◌, ◌⊎◌, inl, inr, Bool, true, false, cond, ◌||◌, ◌&&◌, List, [], ◌∷◌, ◌++◌, length, take, drop, eqb-true, eq-eqb, refl, sym, ap, ◌∙◌, subst, arith}
use Rattle.std.specs.Prelude.{map, nat_lt, ◌==◌, slice_index, slice_index_or}
use Rattle.std.specs.List.{All, sum_by}
use Rattle.std.specs.List.Sorted.{IsPermutation}
use Rattle.std.specs.Ordering.{is_lt, nat_cmp, ordering_then}
use Rattle.std.proofs.Common.{Less, Equal, Greater}
use Rattle.std.proofs.lemmas.Bool.{cases_lt}
use Rattle.std.proofs.lemmas.Bool.Decides.{nat_tests}
use Rattle.std.proofs.lemmas.List.Sums.{sum_by-cons}
use Rattle.std.proofs.lemmas.List.Sorted.{sum_by-IsPermutation}
use Rattle.std.proofs.lemmas.List.Elements.{All-tail, All-cons}
use Rattle.function_laws.specs.SiftedOrders.{Block, is_default, default_ones, comes_first, put_in, in_falling_width}
use Rattle.group_sift.specs.Turns.{width_entry, some_ones}
use Rattle.group_sift.proofs.Listing.{Entry}

by_both : {A : Type 0} (b : Bool) → (b ≡ true → A) → (b ≡ false → A) → A
by_both true when_true when_false = when_true refl
by_both false when_true when_false = when_false refl

clash : {A : Type 0} → true ≡ false → A
clash c = cc

module _ (w : ℕ → ℕ) where
  -- not after it
  abbrev pub Le : ℕ → ℕ → Type 0
  Le u v = (w v < w u) ⊎ ((w u ≡ w v) × (u ≤ v))

  le_same : (u v : ℕ) → u ≡ v → Le u v
  le_same u v e = inr (ap w e, omega (arith, e))

  le_then : (a b c : ℕ) → Le a b → Le b c → Le a c
  le_then a b c (inl x) (inl y) = inl (omega (arith, x, y))
  le_then a b c (inl x) (inr y) = inl (let e = y.0 in omega (arith, x, e))
  le_then a b c (inr x) (inl y) = inl (let e = x.0 in omega (arith, y, e))
  le_then a b c (inr x) (inr y) = inr (x.0 ∙ y.0, (let p = x.1 in let q = y.1 in omega (arith, p, q)))

  le_both : (a b : ℕ) → Le a b → Le b a → a ≡ b
  le_both a b (inl x) (inl y) = absurd (omega (arith, x, y))
  le_both a b (inl x) (inr y) = absurd (let e = y.0 in omega (arith, x, e))
  le_both a b (inr x) (inl y) = absurd (let e = x.0 in omega (arith, y, e))
  le_both a b (inr x) (inr y) = let p = x.1 in let q = y.1 in omega (arith, p, q)

  -- one of the two, by the test
  tested : (less same : Bool) (u v : ℕ) → nat_lt (w v) (w u) ≡ less → (w u == w v) ≡ same → ((less || (same && nat_lt u v)) ≡ true → Le u v) × ((less || (same && nat_lt u v)) ≡ false → Le v u)
  tested true same u v a b = ((λ h. inl (lt_from (w v) (w u) a)), (λ h. clash h))
    where
      lt_from : (a b : ℕ) → nat_lt a b ≡ true → a < b
      lt_from a b e = grind (arith, nat_tests)
  tested false true u v a b = ((λ h. inr (eqb-true (w u) (w v) b, (let lt = lt_from u v h in omega (arith, lt)))), (λ h. inr (sym (eqb-true (w u) (w v) b), le_from u v h)))
    where
      lt_from : (a b : ℕ) → nat_lt a b ≡ true → a < b
      lt_from a b e = grind (arith, nat_tests)

      le_from : (a b : ℕ) → nat_lt a b ≡ false → b ≤ a
      le_from a b e = grind (arith, nat_tests)
  tested false false u v a b = ((λ h. clash (sym h)), (λ h. inl (let le = le_from (w v) (w u) a in let ne = ne_from (w u) (w v) b in omega (arith, le, ne))))
    where
      le_from : (a b : ℕ) → nat_lt a b ≡ false → b ≤ a
      le_from a b e = grind (arith, nat_tests)

      ne_from : (a b : ℕ) → (a == b) ≡ false → a ≢ b
      ne_from a b e same = clash (sym (eq-eqb a b same) ∙ e)

  first_le : (u v : ℕ) → comes_first w u v ≡ true → Le u v
  first_le u v h = (tested (nat_lt (w v) (w u)) (w u == w v) u v refl refl).0 h

  later_le : (u v : ℕ) → comes_first w u v ≡ false → Le v u
  later_le u v h = (tested (nat_lt (w v) (w u)) (w u == w v) u v refl refl).1 h

  Low : ℕ → List ℕ → Type 0
  Low x [] = Unit {0}
  Low x (y ∷ ys) = Le x y × Low x ys

  Up : List ℕ → Type 0
  Up [] = Unit {0}
  Up (x ∷ xs) = Low x xs × Up xs

  low_then : (a b : ℕ) (ys : List ℕ) → Le a b → Low b ys → Low a ys
  unfolding Low
  low_then a b [] h k = tt
  low_then a b (y ∷ ys) h k = (le_then a b y h k.0, low_then a b ys h k.1)

  put_low : (a v : ℕ) (us : List ℕ) → Le a v → Low a us → Low a (put_in w v us)
  unfolding Low
  put_low a v [] h k = (h, tt)
  put_low a v (u ∷ us) h k = at (comes_first w v u) (put_low a v us h k.1)
    where
      at : (b : Bool) → Low a (put_in w v us) → Low a (cond b (v ∷ (u ∷ us)) (u ∷ put_in w v us))
      at true rest = (h, k)
      at false rest = (k.0, rest)

  put_up : (v : ℕ) (us : List ℕ) → Up us → Up (put_in w v us)
  unfolding Up Low
  put_up v [] h = (tt, tt)
  put_up v (u ∷ us) h = at (comes_first w v u) refl (put_up v us h.1)
    where
      at : (b : Bool) → comes_first w v u ≡ b → Up (put_in w v us) → Up (cond b (v ∷ (u ∷ us)) (u ∷ put_in w v us))
      at true e rest = ((first_le v u e, low_then v u us (first_le v u e) h.0), h)
      at false e rest = (put_low u v us (later_le v u e) h.0, rest)

  falling_up : (vs : List ℕ) → Up (in_falling_width w vs)
  unfolding Up
  falling_up [] = tt
  falling_up (v ∷ vs) = put_up v (in_falling_width w vs) (falling_up vs)

  one_if : ℕ → ℕ → ℕ
  one_if z x = cond (x == z) 1 0

  count : ℕ → List ℕ → ℕ
  count z [] = 0
  count z (x ∷ xs) = one_if z x + count z xs

  put_count : (z v : ℕ) (us : List ℕ) → count z (put_in w v us) ≡ one_if z v + count z us
  unfolding count
  put_count z v [] = refl
  put_count z v (u ∷ us) = at (comes_first w v u) (put_count z v us)
    where
      at : (b : Bool) → count z (put_in w v us) ≡ one_if z v + count z us → count z (cond b (v ∷ (u ∷ us)) (u ∷ put_in w v us)) ≡ one_if z v + (one_if z u + count z us)
      at true rest = refl
      at false rest = omega (arith, rest)

  falling_count : (z : ℕ) (vs : List ℕ) → count z (in_falling_width w vs) ≡ count z vs
  unfolding count
  falling_count z [] = refl
  falling_count z (v ∷ vs) = put_count z v (in_falling_width w vs) ∙ ap (λ n. one_if z v + n) (falling_count z vs)

  one_same : (z : ℕ) → one_if z z ≡ 1
  unfolding one_if
  one_same z = ap (λ b. cond b 1 0) (eq-eqb z z refl)

  one_other : (z x : ℕ) → 0 < one_if z x → x ≡ z
  unfolding one_if
  one_other z x lt = by_both (x == z) (λ e. eqb-true x z e) (λ e. absurd (let n : one_if z x ≡ 0 = ap (λ b. cond b 1 0) e in omega (arith, lt, n)))

  in_le : (z y : ℕ) (ys : List ℕ) → Low y ys → 0 < count z ys → Le y z
  unfolding count Low
  in_le z y [] h lt = absurd (omega (arith, lt))
  in_le z y (x ∷ xs) h lt = elim (cases_lt 0 (one_if z x)) [
    | inl here ↦ subst (Le y) (one_other z x here) h.0
    | inr none ↦ in_le z y xs h.1 (omega (arith, lt, none))
  ]

  head_le : (z y : ℕ) (ys : List ℕ) → Low y ys → 0 < one_if z y + count z ys → Le y z
  head_le z y ys h lt = elim (cases_lt 0 (one_if z y)) [
    | inl here ↦ le_same y z (one_other z y here)
    | inr none ↦ in_le z y ys h (omega (arith, lt, none))
  ]

  same_sorted : (xs ys : List ℕ) → Up xs → Up ys → ((z : ℕ) → count z xs ≡ count z ys) → xs ≡ ys
  unfolding Up count
  same_sorted [] [] h k e = refl
  same_sorted [] (y ∷ ys) h k e = absurd (let n = e y in omega (arith, n, one_same y))
  same_sorted (x ∷ xs) [] h k e = absurd (let n = e x in omega (arith, n, one_same x))
  same_sorted (x ∷ xs) (y ∷ ys) h k e =
      let ex = e x in
      let ey = e y in
      let a : Le y x = head_le x y ys k.0 (omega (arith, ex, one_same x)) in
      let b : Le x y = head_le y x xs h.0 (omega (arith, ey, one_same y)) in
      let same : x ≡ y = le_both x y b a in
      let rest : xs ≡ ys = same_sorted xs ys h.1 k.1 (λ z. (let n = e z in let o = ap (one_if z) same in omega (arith, n, o))) in
      ap (λ t. t ∷ xs) same ∙ ap (λ t. y ∷ t) rest

  -- the entries that std sorted
  abbrev std_first : Entry → Entry → Bool
  std_first x y = is_lt (ordering_then (nat_cmp y.0.0 x.0.0) (nat_cmp x.1 y.1))

  std_le : (less same less' same' : Bool) (a b u v : ℕ) → nat_lt a b ≡ less → (a == b) ≡ same → nat_lt u v ≡ less' → (u == v) ≡ same'
      → is_lt (ordering_then (cond less Less (cond same Equal Greater)) (cond less' Less (cond same' Equal Greater))) ≡ false → (b < a) ⊎ ((a ≡ b) × (v ≤ u))
  std_le true same less' same' a b u v p q r s h = clash h
  std_le false true true same' a b u v p q r s h = clash h
  std_le false true false same' a b u v p q r s h = inr (eqb-true a b q, le_from u v r)
    where
      le_from : (a b : ℕ) → nat_lt a b ≡ false → b ≤ a
      le_from a b e = grind (arith, nat_tests)
  std_le false false less' same' a b u v p q r s h = inl (let le = le_from a b p in let ne = ne_from a b q in omega (arith, le, ne))
    where
      le_from : (a b : ℕ) → nat_lt a b ≡ false → b ≤ a
      le_from a b e = grind (arith, nat_tests)

      ne_from : (a b : ℕ) → (a == b) ≡ false → a ≢ b
      ne_from a b e same = clash (sym (eq-eqb a b same) ∙ e)

  -- y does not come before x, at entries with their widths
  entry_le : (x y : Entry) → x.0.0 ≡ w x.1 → y.0.0 ≡ w y.1 → std_first y x ≡ false → Le x.1 y.1
  entry_le x y ex ey h =
      elim (std_le (nat_lt x.0.0 y.0.0) (x.0.0 == y.0.0) (nat_lt y.1 x.1) (y.1 == x.1) x.0.0 y.0.0 y.1 x.1 refl refl refl refl h) [
        | inl lt ↦ inl (omega (arith, lt, ex, ey))
        | inr e ↦ inr ((let f = e.0 in omega (arith, f, ex, ey)), e.1)
      ]

  numbers : List Entry → List ℕ
  numbers xs = map (λ (e : Entry). e.1) xs

  zero_entry : Entry
  zero_entry = (record { 0 = 0 }, 0)

  entries_up : (xs : List Entry) → All (λ (e : Entry). e.0.0 ≡ w e.1) xs → ((k : ℕ) (d : Entry) → 0 ≤ k → k + 1 < length xs → std_first (slice_index_or xs (k + 1) d) (slice_index_or xs k d) ≡ false) → Up (numbers xs)
  unfolding Up Low numbers
  entries_up [] all h = tt
  entries_up (x ∷ []) all h = (tt, tt)
  entries_up (x ∷ (y ∷ ys)) all h =
      let rest = entries_up (y ∷ ys) (All-tail (λ (e : Entry). e.0.0 ≡ w e.1) x (y ∷ ys) all) (λ k d z lt. shifted k d lt) in
      let le = entry_le x y (all 0 zero_entry (omega arith)) (all 1 zero_entry (omega arith)) (h 0 zero_entry (omega arith) (omega arith)) in
      ((le, low_then x.1 y.1 (numbers ys) le rest.0), rest)
    where
      shifted : (k : ℕ) (d : Entry) → k + 1 < length (y ∷ ys) → std_first (slice_index_or (y ∷ ys) (k + 1) d) (slice_index_or (y ∷ ys) k d) ≡ false
      shifted k d lt =
          let n : k + 1 + 1 ≡ suc (k + 1) = omega arith in
          let n' : k + 1 ≡ suc k = omega arith in
          subst (λ i. std_first (slice_index_or (y ∷ ys) (k + 1) d) (slice_index_or (x ∷ (y ∷ ys)) i d) ≡ false) n'
          (subst (λ i. std_first (slice_index_or (x ∷ (y ∷ ys)) i d) (slice_index_or (x ∷ (y ∷ ys)) (k + 1) d) ≡ false) n (h (k + 1) d (omega arith) (omega (arith, lt))))

  entry_count : (z : ℕ) (xs : List Entry) → count z (numbers xs) ≡ sum_by (λ (e : Entry). one_if z e.1) xs
  unfolding count numbers
  entry_count z [] = refl
  entry_count z (x ∷ xs) = ap (λ n. one_if z x.1 + n) (entry_count z xs) ∙ sym (sum_by-cons (λ (e : Entry). one_if z e.1) x xs)

  numbers_of : (vs : List ℕ) → numbers (map (width_entry w) vs) ≡ vs
  unfolding numbers
  numbers_of [] = refl
  numbers_of (v ∷ vs) = ap (λ t. v ∷ t) (numbers_of vs)

  pub sorted_is : (vs : List ℕ) (xs : List Entry) → IsPermutation (map (width_entry w) vs) xs → All (λ (e : Entry). e.0.0 ≡ w e.1) xs
      → ((k : ℕ) (d : Entry) → 0 ≤ k → k + 1 < length xs → std_first (slice_index_or xs (k + 1) d) (slice_index_or xs k d) ≡ false) → map (λ (e : Entry). e.1) xs ≡ in_falling_width w vs
  unfolding numbers
  sorted_is vs xs perm all sorted =
      same_sorted (numbers xs) (in_falling_width w vs) (entries_up xs all sorted) (falling_up vs)
      (λ z. entry_count z xs ∙ sum_by-IsPermutation (λ (e : Entry). one_if z e.1) (map (width_entry w) vs) xs perm ∙ sym (entry_count z (map (width_entry w) vs)) ∙ ap (count z) (numbers_of vs) ∙ sym (falling_count z vs))

-- what all of the default ones have
Each : ℕ → List ℕ → Type 0
Each n [] = Unit {0}
Each n (v ∷ vs) = (v < n) × Each n vs

each_take : (n k : ℕ) (vs : List ℕ) → Each n vs → Each n (take k vs)
unfolding Each
each_take n zero vs h = tt
each_take n (suc k) [] h = tt
each_take n (suc k) (v ∷ vs) h = (h.0, each_take n k vs h.1)

each_drop : (n k : ℕ) (vs : List ℕ) → Each n vs → Each n (drop k vs)
unfolding Each
each_drop n zero vs h = h
each_drop n (suc k) [] h = tt
each_drop n (suc k) (v ∷ vs) h = each_drop n k vs h.1

each_append : (n : ℕ) (us vs : List ℕ) → Each n us → Each n vs → Each n (us ++ vs)
unfolding Each
each_append n [] vs h k = k
each_append n (u ∷ us) vs h k = (h.0, each_append n us vs h.1 k)

each_from : (n : ℕ) (vs : List ℕ) → ((l : ℕ) → l < length vs → slice_index vs l < n) → Each n vs
unfolding Each
each_from n [] h = tt
each_from n (v ∷ vs) h = (h 0 (omega arith), each_from n vs (λ l lt. h (suc l) (omega (arith, lt))))

each_default : (n start : ℕ) (bs : List Block) (vs : List ℕ) → Each n vs → Each n (default_ones start bs vs)
unfolding Each
each_default n start [] vs h = tt
each_default n start (b ∷ bs) vs h = each_append n (some_ones (is_default b.mode) (b.end - start) vs) (default_ones b.end bs (drop (b.end - start) vs)) (at (is_default b.mode)) (each_default n b.end bs (drop (b.end - start) vs) (each_drop n (b.end - start) vs h))
  where
    at : (t : Bool) → Each n (some_ones t (b.end - start) vs)
    at true = each_take n (b.end - start) vs h
    at false = tt

all_below : (n : ℕ) (w : ℕ → ℕ) (vs : List ℕ) → Each n vs → All (λ (e : Entry). e.1 < n) (map (width_entry w) vs)
unfolding Each
all_below n w [] h = λ k d lt. absurd (omega (arith, lt))
all_below n w (v ∷ vs) h = All-cons (λ (e : Entry). e.1 < n) (width_entry w v) (map (width_entry w) vs) h.0 (all_below n w vs h.1)

pub default_below : (w : ℕ → ℕ) (bs : List Block) (order : List ℕ) → ((l : ℕ) → l < length order → slice_index order l < length order) → All (λ (e : Entry). e.1 < length order) (map (width_entry w) (default_ones 0 bs order))
default_below w bs order h = all_below (length order) w (default_ones 0 bs order) (each_default (length order) 0 bs order (each_from (length order) order h))

pub all_entries : (w : ℕ → ℕ) (vs : List ℕ) → All (λ (e : Entry). e.0.0 ≡ w e.1) (map (width_entry w) vs)
all_entries w [] = λ k d lt. absurd (omega (arith, lt))
all_entries w (v ∷ vs) = All-cons (λ (e : Entry). e.0.0 ≡ w e.1) (width_entry w v) (map (width_entry w) vs) refl (all_entries w vs)
