-- The size of functions of n variables depends on their values below 2 ^ n alone.
use Rattle.std.proofs.Common.{◌≡◌, ℕ, ◌<◌, ◌^◌, Bool, true, false, not, List, [], ◌∷◌, length, map, refl, sym, subst, inl, inr}
use Rattle.std.proofs.lemmas.Bool.{or_left}
use Rattle.edge_bits.specs.Assignments.{set_bit}
use Rattle.diagram_dumps.specs.Agreement.{AreSame, IsSame}
use Rattle.edge_bits.proofs.AssignmentLemmas.{set_bit-below}
use Rattle.function_laws.specs.Kinds.{BddFunction}
use Rattle.function_laws.specs.Sizes.{Orders, agree, all_parts, distinct, is_one, parts, size}
use Rattle.function_laws.specs.Values.{cofactor, differs, negation}
use Rattle.function_laws.proofs.DistinctLemmas.{In, In-append, In-distinct, In-left, In-right, Apart-distinct, Matched, Matched-distinct, counted}
use Rattle.function_laws.proofs.ListLemmas.{all_below-true}
use Rattle.function_laws.proofs.OneFunctions.{is_one-refl, is_one-sym, is_one-trans}

AreSame_back : (n : ℕ) (fs gs : List (ℕ → Bool)) → AreSame n fs gs → AreSame n gs fs
AreSame_back n [] [] same = tt
AreSame_back n [] (g ∷ gs) same = absurd same
AreSame_back n (f ∷ fs) [] same = absurd same
AreSame_back n (f ∷ fs) (g ∷ gs) same = ((λ k below. sym (same.0 k below)), AreSame_back n fs gs same.1)

not_differ : (a b : Bool) → a ≡ b → not (differs a b) ≡ true
not_differ true true e = refl
not_differ true false e = cc
not_differ false true e = cc
not_differ false false e = refl

-- such functions agree
same_agree : (n : ℕ) (f g : ℕ → Bool) → IsSame n f g → agree n f g ≡ true
same_agree n f g same = all_below-true (2 ^ n) (λ k. not (differs (f k) (g k))) (λ k below. not_differ (f k) (g k) (same k below))

module _ (orders : Orders) where
  abbrev n : ℕ
  n = length orders.variables

  same_one : (f g : ℕ → Bool) → IsSame n f g → is_one orders (BddFunction f) (BddFunction g) ≡ true
  same_one f g same = or_left (agree n f g) (agree n (negation f) g) (same_agree n f g same)

  same_cofactor : (f g : ℕ → Bool) (v : ℕ) (b : Bool) → v < n → IsSame n f g → IsSame n (cofactor f v b) (cofactor g v b)
  same_cofactor f g v b inside same = λ k below. same (set_bit k v b) (set_bit-below n k v b below inside)

  -- each part of the one is the same as a part of the other
  parts_match : (order : List ℕ) → ((v : ℕ) → In v order → v < n) → (f g : ℕ → Bool) → IsSame n f g
      → Matched (is_one orders) (parts order (BddFunction f)) (parts order (BddFunction g))
  unfolding parts
  parts_match [] inside f g same x (inl e) = (BddFunction g, inl refl, subst (λ y. is_one orders y (BddFunction g) ≡ true) (sym e) (same_one f g same))
  parts_match [] inside f g same x (inr i) = absurd i
  parts_match (v ∷ vs) inside f g same x (inl e) = (BddFunction g, inl refl, subst (λ y. is_one orders y (BddFunction g) ≡ true) (sym e) (same_one f g same))
  parts_match (v ∷ vs) inside f g same x (inr i) =
      let later : (u : ℕ) → In u vs → u < n = λ u j. inside u (inr j) in
      elim (In-append x (parts vs (BddFunction (cofactor f v true))) (parts vs (BddFunction (cofactor f v false))) i) [
        | inl h ↦ (
            let m = parts_match vs later (cofactor f v true) (cofactor g v true) (same_cofactor f g v true (inside v (inl refl)) same) x h in
            (m.0, inr (In-left m.0 (parts vs (BddFunction (cofactor g v true))) (parts vs (BddFunction (cofactor g v false))) m.1), m.2))
        | inr h ↦ (
            let m = parts_match vs later (cofactor f v false) (cofactor g v false) (same_cofactor f g v false (inside v (inl refl)) same) x h in
            (m.0, inr (In-right m.0 (parts vs (BddFunction (cofactor g v true))) (parts vs (BddFunction (cofactor g v false))) m.1), m.2))
      ]

  all_match : ((v : ℕ) → In v orders.variables → v < n) → (fs gs : List (ℕ → Bool)) → AreSame n fs gs
      → Matched (is_one orders) (all_parts orders (map BddFunction fs)) (all_parts orders (map BddFunction gs))
  unfolding all_parts
  all_match inside [] [] same x i = absurd i
  all_match inside [] (g ∷ gs) same x i = absurd same
  all_match inside (f ∷ fs) [] same x i = absurd same
  all_match inside (f ∷ fs) (g ∷ gs) same x i =
      elim (In-append x (parts orders.variables (BddFunction f)) (all_parts orders (map BddFunction fs)) i) [
        | inl h ↦ (
            let m = parts_match orders.variables inside f g same.0 x h in
            (m.0, In-left m.0 (parts orders.variables (BddFunction g)) (all_parts orders (map BddFunction gs)) m.1, m.2))
        | inr h ↦ (
            let m = all_match inside fs gs same.1 x h in
            (m.0, In-right m.0 (parts orders.variables (BddFunction g)) (all_parts orders (map BddFunction gs)) m.1, m.2))
      ]

  pub size_same : ((v : ℕ) → In v orders.variables → v < n) → (fs gs : List (ℕ → Bool)) → AreSame n fs gs
      → size orders (map BddFunction fs) ≡ size orders (map BddFunction gs)
  size_same inside fs gs same =
      let one = is_one orders in
      let xs = all_parts orders (map BddFunction fs) in
      let ys = all_parts orders (map BddFunction gs) in
      counted one (is_one-refl orders) (is_one-sym orders) (is_one-trans orders) (distinct one xs) ys (Apart-distinct one xs)
      (λ x i. all_match inside fs gs same x (In-distinct one x xs i))
      (λ y i.
      let m = all_match inside gs fs (AreSame_back n fs gs same) y i in
      let d = Matched-distinct one (is_one-refl orders) xs m.0 m.1 in
      (d.0, d.1, is_one-trans orders y m.0 d.0 m.2 d.2))
