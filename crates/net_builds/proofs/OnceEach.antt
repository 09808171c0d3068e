-- A list of the numbers below n, each once, is a permutation of 0, 1, 2, ..
use Rattle.std.proofs.Common.{◌≡◌, ◌≢◌, ◌⊎◌, ℕ, zero, suc, ◌+◌, ◌<◌, ◌≤◌, List, [], ◌∷◌, ◌++◌, length, refl, ap, sym, ◌∙◌, subst, arith, inl, inr, All}
use Rattle.std.specs.Prelude.{IsPermutation}
use Rattle.std.specs.List.{AllPairs, range_with_len}
use Rattle.std.proofs.lemmas.Bool.{cases_eq, cases_order}
use Rattle.std.proofs.lemmas.List.Sorted.{IsPermutation-cons, IsPermutation-middle, IsPermutation-refl, IsPermutation-sym, IsPermutation-to_front, IsPermutation-trans}

abbrev Below : ℕ → List ℕ → Type 0
Below n [] = Unit {0}
Below n (x ∷ xs) = (x < n) × Below n xs

-- the number does not stand in the list
abbrev Lacks : ℕ → List ℕ → Type 0
Lacks c [] = Unit {0}
Lacks c (x ∷ xs) = (c ≡ x → ⊥) × Lacks c xs

abbrev Once : List ℕ → Type 0
Once [] = Unit {0}
Once (x ∷ xs) = Lacks x xs × Once xs

all_below : (n : ℕ) (xs : List ℕ) → All (λ v. v < n) xs → Below n xs
all_below n [] all = tt
all_below n (x ∷ xs) all = (all 0 x (omega arith), all_below n xs (λ k d less. all (suc k) d (omega (arith, less))))

all_lack : (c : ℕ) (xs : List ℕ) → All (λ v. c ≢ v) xs → Lacks c xs
all_lack c [] all = tt
all_lack c (x ∷ xs) all = (all 0 x (omega arith), all_lack c xs (λ k d less. all (suc k) d (omega (arith, less))))

all_once : (xs : List ℕ) → AllPairs (λ v other. v ≢ other) xs → Once xs
all_once [] pairs = tt
all_once (x ∷ xs) pairs = (
  all_lack x xs (λ k d less. pairs 0 (suc k) d (omega arith) (omega (arith, less))),
  all_once xs (λ i j d before inside. pairs (suc i) (suc j) d (omega (arith, before)) (omega (arith, inside))),
)

-- a number stands in the list, or does not
find : (c : ℕ) (xs : List ℕ) → ((front : List ℕ) × (back : List ℕ) × (xs ≡ front ++ c ∷ back)) ⊎ Lacks c xs
find c [] = inr tt
find c (x ∷ xs) = elim (cases_eq c x) [
  | inl same ↦ inl ([], xs, ap (λ y. y ∷ xs) (sym same))
  | inr apart ↦ elim (find c xs) [
    | inl there ↦ inl (x ∷ there.0, there.1, ap (λ t. x ∷ t) there.2)
    | inr lacks ↦ inr (apart, lacks)
  ]
]

-- without the one in the middle
below_middle : (n : ℕ) (front back : List ℕ) (c : ℕ) → Below n (front ++ c ∷ back) → Below n (front ++ back)
below_middle n [] back c below = below.1
below_middle n (x ∷ front) back c below = (below.0, below_middle n front back c below.1)

lacks_middle : (d : ℕ) (front back : List ℕ) (c : ℕ) → Lacks d (front ++ c ∷ back) → (d ≡ c → ⊥) × Lacks d (front ++ back)
lacks_middle d [] back c lacks = (lacks.0, lacks.1)
lacks_middle d (x ∷ front) back c lacks = let rest = lacks_middle d front back c lacks.1 in (rest.0, (lacks.0, rest.1))

once_middle : (front back : List ℕ) (c : ℕ) → Once (front ++ c ∷ back) → Lacks c (front ++ back) × Once (front ++ back)
once_middle [] back c once = (once.0, once.1)
once_middle (x ∷ front) back c once =
    let rest = once_middle front back c once.1 in
    let lacks = lacks_middle x front back c once.0 in
    (((λ same. lacks.0 (sym same)), rest.0), (lacks.1, rest.1))

long_middle : (front back : List ℕ) (c : ℕ) → length (front ++ c ∷ back) ≡ suc (length (front ++ back))
long_middle [] back c = refl
long_middle (x ∷ front) back c = ap suc (long_middle front back c)

-- less than the greatest, where that is not there
below_less : (m : ℕ) (xs : List ℕ) → Below (suc m) xs → Lacks m xs → Below m xs
below_less m [] below lacks = tt
below_less m (x ∷ xs) below lacks = (less (cases_order x m), below_less m xs below.1 lacks.1)
  where
    less : (x ≡ m) ⊎ ((x < m) ⊎ (m < x)) → x < m
    less (inl same) = absurd (lacks.0 (sym same))
    less (inr (inl is)) = is
    less (inr (inr past)) = absurd (omega (arith, past, below.0))

-- there are no more of them than m
few : (m : ℕ) (xs : List ℕ) → Below m xs → Once xs → length xs ≤ m
few zero [] below once = omega arith
few zero (x ∷ xs) below once = absurd (omega (arith, below.0))
few (suc m) xs below once = elim (find m xs) [
  | inl there ↦ (
      let front = there.0 in
      let back = there.1 in
      let rest = few m (front ++ back) (below_less m (front ++ back) (below_middle (suc m) front back m (subst (Below (suc m)) there.2 below)) (once_middle front back m (subst Once there.2 once)).0)
      (once_middle front back m (subst Once there.2 once)).1 in
      omega (arith, rest, ap (length {A = ℕ}) there.2, long_middle front back m))
  | inr lacks ↦ (let less = few m xs (below_less m xs below lacks) once in omega (arith, less))
]

range_more : (a n : ℕ) → range_with_len a (suc n) ≡ range_with_len a n ++ (a + n) ∷ []
range_more a zero = ap (λ (k : ℕ). k ∷ []) (omega arith)
range_more a (suc n) = ap (λ (t : List ℕ). a ∷ t) (range_more (a + 1) n ∙ ap (λ (k : ℕ). range_with_len (a + 1) n ++ k ∷ []) (omega arith))

range_next : (m : ℕ) → range_with_len 0 (suc m) ≡ range_with_len 0 m ++ m ∷ []
range_next m = range_more 0 m ∙ ap (λ (k : ℕ). range_with_len 0 m ++ k ∷ []) (omega arith)

all_once_each : (n : ℕ) (xs : List ℕ) → length xs ≡ n → Below n xs → Once xs → IsPermutation (range_with_len 0 n) xs
all_once_each zero [] long below once = IsPermutation-refl []
all_once_each zero (x ∷ xs) long below once = absurd (omega (arith, long))
all_once_each (suc m) xs long below once = elim (find m xs) [
  | inl there ↦ (
      let front = there.0 in
      let back = there.1 in
      let apart = once_middle front back m (subst Once there.2 once) in
      let rest : IsPermutation (range_with_len 0 m) (front ++ back) =
      all_once_each m (front ++ back) (omega (arith, long, ap (length {A = ℕ}) there.2, long_middle front back m))
      (below_less m (front ++ back) (below_middle (suc m) front back m (subst (Below (suc m)) there.2 below)) apart.0) apart.1 in
      subst (λ (t : List ℕ). IsPermutation (range_with_len 0 (suc m)) t) (sym there.2)
      (subst (λ (t : List ℕ). IsPermutation t (front ++ m ∷ back)) (sym (range_next m))
      (IsPermutation-trans (range_with_len 0 m ++ m ∷ []) (m ∷ range_with_len 0 m) (front ++ m ∷ back) (IsPermutation-to_front (range_with_len 0 m) m)
      (IsPermutation-trans (m ∷ range_with_len 0 m) (m ∷ (front ++ back)) (front ++ m ∷ back) (IsPermutation-cons m (range_with_len 0 m) (front ++ back) rest)
      (IsPermutation-sym (front ++ m ∷ back) (m ∷ (front ++ back)) (IsPermutation-middle front m back))))))
  | inr lacks ↦ absurd (let less = few m xs (below_less m xs below lacks) once in omega (arith, less, long))
]

-- an order of n variables that has none twice and none from n on
pub once_each : (n : ℕ) (order : List ℕ) → length order ≡ n → All (λ v. v < length order) order → AllPairs (λ v other. v ≢ other) order → IsPermutation (range_with_len 0 n) order
once_each n order long below once =
    all_once_each n order long (subst (λ m. Below m order) long (all_below (length order) order below)) (all_once order once)
