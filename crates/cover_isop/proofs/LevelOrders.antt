-- The order of the levels: it has each variable that has a level, once, and the levels rise.
use Rattle.std.proofs.Common.{◌≡◌, ◌≢◌, ℕ, zero, suc, ◌+◌, ◌<◌, ◌≤◌, ◌==◌, Bool, true, false, true≢false, cond, inl, inr, List, [], ◌∷◌, ◌++◌, refl, sym, ap, ◌∙◌, subst, arith}
use Rattle.std.proofs.lemmas.Bool.{eqb-true, eq-eqb}
use Rattle.std.specs.List.{filter, flat_map, range_with_len}
use Rattle.function_laws.proofs.CoverLaws.{IsVars}
use Rattle.function_laws.proofs.DistinctLemmas.{In, In-append, In-left, In-right}
use Rattle.node_store.specs.Memo.{by_level}

-- each number once
abbrev pub Once : List ℕ → Type 0
Once [] = Unit {0}
Once (x ∷ xs) = (In x xs → ⊥) × Once xs

-- the levels never fall
abbrev pub Rises : (ℕ → ℕ) → List ℕ → Type 0
Rises level [] = Unit {0}
Rises level (x ∷ xs) = ((u : ℕ) → In u xs → level x ≤ level u) × Rises level xs

pub once-append : (xs ys : List ℕ) → Once xs → Once ys → ((x : ℕ) → In x xs → In x ys → ⊥) → Once (xs ++ ys)
once-append [] ys a b apart = b
once-append (x ∷ xs) ys a b apart = (
  (λ i. elim (In-append x xs ys i) [ inl here ↦ a.0 here | inr there ↦ apart x (inl refl) there ]),
  once-append xs ys a.1 b (λ u i j. apart u (inr i) j),
)

pub once-right : (xs ys : List ℕ) → Once (xs ++ ys) → Once ys
once-right [] ys o = o
once-right (x ∷ xs) ys o = once-right xs ys o.1

pub once-apart : (xs ys : List ℕ) → Once (xs ++ ys) → (x : ℕ) → In x xs → In x ys → ⊥
once-apart [] ys o x i j = i
once-apart (u ∷ xs) ys o x (inl same) j = o.0 (In-right u xs ys (subst (λ v. In v ys) same j))
once-apart (u ∷ xs) ys o x (inr i) j = once-apart xs ys o.1 x i j

pub rises-append : (level : ℕ → ℕ) (xs ys : List ℕ) → Rises level xs → Rises level ys → ((x y : ℕ) → In x xs → In y ys → level x ≤ level y) → Rises level (xs ++ ys)
rises-append level [] ys a b le = b
rises-append level (x ∷ xs) ys a b le = (
  (λ u i. elim (In-append u xs ys i) [ inl here ↦ a.0 u here | inr there ↦ le x u (inl refl) there ]),
  rises-append level xs ys a.1 b (λ u v i j. le u v (inr i) j),
)

pub rises-right : (level : ℕ → ℕ) (xs ys : List ℕ) → Rises level (xs ++ ys) → Rises level ys
rises-right level [] ys r = r
rises-right level (x ∷ xs) ys r = rises-right level xs ys r.1

-- the numbers of a range
range-within : (a n v : ℕ) → In v (range_with_len a n) → (a ≤ v) × (v < a + n)
range-within a zero v i = absurd i
range-within a (suc n) v (inl same) = (omega arith, omega arith)
range-within a (suc n) v (inr i) = let r = range-within (a + 1) n v i in (omega (arith, r.0), omega (arith, r.1))

beyond : (a v : ℕ) → a ≤ v → (v ≡ a → ⊥) → a + 1 ≤ v
beyond a v le ne = omega (arith, le, ne)

pub within-range : (a n v : ℕ) → a ≤ v → v < a + n → In v (range_with_len a n)
within-range a zero v le lt = absurd (omega arith)
within-range a (suc n) v le lt = at (v == a) refl (λ more. within-range (a + 1) n v more (omega arith))
  where
    at : (b : Bool) → (v == a) ≡ b → (a + 1 ≤ v → In v (range_with_len (a + 1) n)) → In v (range_with_len a (suc n))
    at true same later = inl (eqb-true v a same)
    at false other later = inr (later (beyond a v le (λ e. true≢false (sym (eq-eqb v a e) ∙ other))))

range-once : (a n : ℕ) → Once (range_with_len a n)
range-once a zero = tt
range-once a (suc n) = ((λ i. let r = range-within (a + 1) n a i in omega (arith, r.0)), range-once (a + 1) n)

-- those of a list that pass a test
module _ (test : ℕ → Bool) where
  filter-head : (b : Bool) (x v : ℕ) (xs : List ℕ) → In v (cond b (x ∷ xs) xs) → (b ≡ true → v ≡ x → test v ≡ true) → (In v xs → test v ≡ true) → test v ≡ true
  filter-head true x v xs (inl same) here there = here refl same
  filter-head true x v xs (inr i) here there = there i
  filter-head false x v xs i here there = there i

  filter-test : (v : ℕ) (xs : List ℕ) → In v (filter test xs) → test v ≡ true
  filter-test v [] i = absurd i
  filter-test v (x ∷ xs) i = filter-head (test x) x v (filter test xs) i (λ is same. ap test same ∙ is) (filter-test v xs)

  from-head : (b : Bool) (x v : ℕ) (xs ys : List ℕ) → (In v xs → In v ys) → In v (cond b (x ∷ xs) xs) → In v (x ∷ ys)
  from-head true x v xs ys more (inl same) = inl same
  from-head true x v xs ys more (inr j) = inr (more j)
  from-head false x v xs ys more j = inr (more j)

  filter-from : (v : ℕ) (xs : List ℕ) → In v (filter test xs) → In v xs
  filter-from v [] i = i
  filter-from v (x ∷ xs) i = from-head (test x) x v (filter test xs) xs (filter-from v xs) i

  keeps-head : (b : Bool) (x v : ℕ) (xs : List ℕ) → b ≡ true → v ≡ x → In v (cond b (x ∷ xs) xs)
  keeps-head true x v xs is same = inl same
  keeps-head false x v xs is same = absurd (true≢false (sym is))

  keeps-later : (b : Bool) (x v : ℕ) (xs : List ℕ) → In v xs → In v (cond b (x ∷ xs) xs)
  keeps-later true x v xs i = inr i
  keeps-later false x v xs i = i

  filter-keeps : (v : ℕ) (xs : List ℕ) → test v ≡ true → In v xs → In v (filter test xs)
  filter-keeps v [] holds i = i
  filter-keeps v (x ∷ xs) holds (inl same) = keeps-head (test x) x v (filter test xs) (ap test (sym same) ∙ holds) same
  filter-keeps v (x ∷ xs) holds (inr i) = keeps-later (test x) x v (filter test xs) (filter-keeps v xs holds i)

  once-head : (b : Bool) (x : ℕ) (xs : List ℕ) → (In x xs → ⊥) → Once xs → Once (cond b (x ∷ xs) xs)
  once-head true x xs out o = (out, o)
  once-head false x xs out o = o

  filter-once : (xs : List ℕ) → Once xs → Once (filter test xs)
  filter-once [] o = o
  filter-once (x ∷ xs) o = once-head (test x) x (filter test xs) (λ i. o.0 (filter-from x xs i)) (filter-once xs o.1)

-- the levels from a on
module _ (n : ℕ) (level : ℕ → ℕ) where
  at_level : ℕ → List ℕ
  at_level l = filter (λ v. level v == l) (range_with_len 0 n)

  levels_from : ℕ → ℕ → List ℕ
  levels_from a k = flat_map (λ l. filter (λ v. level v == l) (range_with_len 0 n)) (range_with_len a k)

  level-is : (l v : ℕ) → In v (at_level l) → (v < n) × (level v ≡ l)
  unfolding at_level
  level-is l v i = (
    (let r = range-within 0 n v (filter-from (λ u. level u == l) v (range_with_len 0 n) i) in omega (arith, r.1)),
    eqb-true (level v) l (filter-test (λ u. level u == l) v (range_with_len 0 n) i),
  )

  level-has : (l v : ℕ) → v < n → level v ≡ l → In v (at_level l)
  unfolding at_level
  level-has l v lt same = filter-keeps (λ u. level u == l) v (range_with_len 0 n) (eq-eqb (level v) l same) (within-range 0 n v (omega arith) (omega (arith, lt)))

  level-once : (l : ℕ) → Once (at_level l)
  unfolding at_level
  level-once l = filter-once (λ v. level v == l) (range_with_len 0 n) (range-once 0 n)

  level-rises : (l : ℕ) (xs : List ℕ) → ((v : ℕ) → In v xs → level v ≡ l) → Rises level xs
  level-rises l [] same = tt
  level-rises l (x ∷ xs) same = ((λ u i. let a = same x (inl refl) in let b = same u (inr i) in omega (arith, a, b)), level-rises l xs (λ v i. same v (inr i)))

  levels-within : (a k v : ℕ) → In v (levels_from a k) → (v < n) × (a ≤ level v) × (level v < a + k)
  unfolding levels_from at_level
  levels-within a zero v i = absurd i
  levels-within a (suc k) v i = elim (In-append v (at_level a) (levels_from (a + 1) k) i) [
    | inl here ↦ (let r = level-is a v here in (r.0, omega (arith, r.1), omega (arith, r.1)))
    | inr there ↦ (let r = levels-within (a + 1) k v there in (r.0, omega (arith, r.1), omega (arith, r.2)))
  ]

  levels-have : (a k v : ℕ) → v < n → a ≤ level v → level v < a + k → In v (levels_from a k)
  unfolding levels_from at_level
  levels-have a zero v lt le below = absurd (omega arith)
  levels-have a (suc k) v lt le below = at (level v == a) refl (λ more. levels-have (a + 1) k v lt more (omega (arith, below)))
    where
      at : (b : Bool) → (level v == a) ≡ b → (a + 1 ≤ level v → In v (levels_from (a + 1) k)) → In v (at_level a ++ levels_from (a + 1) k)
      at true same later = In-left v (at_level a) (levels_from (a + 1) k) (level-has a v lt (eqb-true (level v) a same))
      at false other later = In-right v (at_level a) (levels_from (a + 1) k) (later (beyond a (level v) le (λ e. true≢false (sym (eq-eqb (level v) a e) ∙ other))))

  levels-once : (a k : ℕ) → Once (levels_from a k)
  unfolding levels_from at_level
  levels-once a zero = tt
  levels-once a (suc k) = once-append (at_level a) (levels_from (a + 1) k) (level-once a) (levels-once (a + 1) k)
      (λ x i j. let here = (level-is a x i).1 in let there = (levels-within (a + 1) k x j).1 in omega (arith, here, there))

  levels-rise : (a k : ℕ) → Rises level (levels_from a k)
  unfolding levels_from at_level
  levels-rise a zero = tt
  levels-rise a (suc k) = rises-append level (at_level a) (levels_from (a + 1) k) (level-rises a (at_level a) (λ v i. (level-is a v i).1)) (levels-rise (a + 1) k)
      (λ x y i j. let here = (level-is a x i).1 in let there = (levels-within (a + 1) k y j).1 in omega (arith, here, there))

  pub by_level-within : (v : ℕ) → In v (by_level n level) → v < n
  unfolding levels_from
  by_level-within v i = (levels-within 0 n v i).0

  pub by_level-has : (v : ℕ) → v < n → level v < n → In v (by_level n level)
  unfolding levels_from
  by_level-has v lt below = levels-have 0 n v lt (omega arith) (omega (arith, below))

  pub by_level-once : Once (by_level n level)
  unfolding levels_from
  by_level-once = levels-once 0 n

  pub by_level-rises : Rises level (by_level n level)
  unfolding levels_from
  by_level-rises = levels-rise 0 n

pub vars_of : (n : ℕ) (xs : List ℕ) → Once xs → ((v : ℕ) → In v xs → v < n) → IsVars n xs
vars_of n [] once below = tt
vars_of n (x ∷ xs) once below = (below x (inl refl), once.0, vars_of n xs once.1 (λ v i. below v (inr i)))

-- a list parts at one of its numbers
pub record PartsAtOne (level : ℕ → ℕ) (x : ℕ) (xs : List ℕ) : Type 0 where
  pub above : List ℕ
  pub below : List ℕ
  pub is : xs ≡ above ++ (x ∷ below)
  pub upper : (u : ℕ) → In u above → (level u ≤ level x) × (u ≢ x)
  pub lower : (u : ℕ) → In u below → (level x ≤ level u) × (u ≢ x)

pub parts_at : (level : ℕ → ℕ) (x : ℕ) (xs : List ℕ) → Once xs → Rises level xs → In x xs → PartsAtOne level x xs
parts_at level x [] once rises i = absurd i
parts_at level x (y ∷ ys) once rises (inl same) = record {
  above = [];
  below = ys;
  is = ap (λ z. z ∷ ys) (sym same);
  upper = λ u i. absurd i;
  lower = λ u i. (subst (λ z. level z ≤ level u) (sym same) (rises.0 u i), (λ e. once.0 (subst (λ z. In z ys) (e ∙ same) i)));
}
parts_at level x (y ∷ ys) once rises (inr i) =
    let r = parts_at level x ys once.1 rises.1 i in
    record {
      above = y ∷ r.above;
      below = r.below;
      is = ap (λ zs. y ∷ zs) r.is;
      upper = λ u j. elim j [
        | inl same ↦ (subst (λ z. level z ≤ level x) (sym same) (rises.0 x i), (λ e. once.0 (subst (λ z. In z ys) (sym e ∙ same) i)))
        | inr k ↦ r.upper u k
      ];
      lower = r.lower;
    }
