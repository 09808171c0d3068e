-- What a sort by place leaves of each part of a list that rises.
use Rattle.std.proofs.Common.{◌≡◌, ℕ, ◌+◌, ◌<◌, ◌≤◌, ◌==◌, ◌⊎◌, inl, inr, Bool, true, false, cond, List, [], ◌∷◌, filter, refl, ap, ap₂, sym, subst, ◌∙◌, arith, eq-eqb, eqb-true}
use Rattle.std.specs.List.{sum_by}
use Rattle.std.proofs.lemmas.List.Sums.{sum_by-cons}
use Rattle.std.specs.List.Sorted.{IsPermutation}
use Rattle.std.specs.Prelude.{All}
use Rattle.std.proofs.lemmas.List.Elements.{All-cons, All-head, All-nil, All-tail}
use Rattle.std.proofs.lemmas.List.Sorted.{All-permutation, IsPermutation-sym, sum_by-IsPermutation}
use Rattle.function_laws.specs.SessionEntries.{Each}

abbrev one_if : Bool → ℕ
one_if b = cond b 1 0

module _ {X : Type 0} where
  -- the value stands in the list
  abbrev pub In : X → List X → Type 0
  In x [] = ⊥
  In x (y ∷ ys) = (x ≡ y) ⊎ In x ys

  pub member : (P : X → Type 0) (xs : List X) (x : X) → Each P xs → In x xs → P x
  member P [] x all at = absurd at
  member P (y ∷ ys) x all (inl is) = subst P (sym is) all.0
  member P (y ∷ ys) x all (inr at) = member P ys x all.1 at

  pub each_in : (xs : List X) → Each (λ x. In x xs) xs
  each_in [] = tt
  each_in (x ∷ xs) = (inl refl, more xs (λ y at. inr at) (each_in xs))
    where
      more : (ys : List X) → ((y : X) → In y xs → In y (x ∷ xs)) → Each (λ y. In y xs) ys → Each (λ y. In y (x ∷ xs)) ys
      more [] f all = tt
      more (y ∷ ys) f all = (f y all.0, more ys f all.1)

  pub each_all : (P : X → Type 0) (xs : List X) → Each P xs → All P xs
  each_all P [] all = All-nil P
  each_all P (x ∷ xs) all = All-cons P x xs all.0 (each_all P xs all.1)

  pub all_each : (P : X → Type 0) (xs : List X) → All P xs → Each P xs
  all_each P [] all = tt
  all_each P (x ∷ xs) all = (All-head P x xs all, all_each P xs (All-tail P x xs all))

  -- what stands in a list stands in it in another order
  moved : (xs ys : List X) → IsPermutation xs ys → (x : X) → In x xs → In x ys
  moved xs ys permutes x at = member (λ y. In y ys) xs x (all_each (λ y. In y ys) xs (All-permutation (λ y. In y ys) ys xs (IsPermutation-sym xs ys permutes) (each_all (λ y. In y ys) ys (each_in ys)))) at

  in_filter : (p : X → Bool) (xs : List X) (x : X) → In x (filter p xs) → In x xs × (p x ≡ true)
  in_filter p [] x at = absurd at
  in_filter p (y ∷ ys) x at = by (p y) refl (in_filter p ys x) at
    where
      by : (b : Bool) → p y ≡ b → (In x (filter p ys) → In x ys × (p x ≡ true)) → In x (cond b (y ∷ filter p ys) (filter p ys)) → In x (y ∷ ys) × (p x ≡ true)
      by true is rest (inl same) = (inl same, ap p same ∙ is)
      by true is rest (inr there) = let r = rest there in (inr r.0, r.1)
      by false is rest there = let r = rest there in (inr r.0, r.1)

  filter_in : (p : X → Bool) (xs : List X) (x : X) → In x xs → p x ≡ true → In x (filter p xs)
  filter_in p [] x at is = absurd at
  filter_in p (y ∷ ys) x (inl same) is = subst (λ b. In x (cond b (y ∷ filter p ys) (filter p ys))) (sym (ap p (sym same) ∙ is)) (inl same)
  filter_in p (y ∷ ys) x (inr there) is = by (p y) (filter_in p ys x there is)
    where
      by : (b : Bool) → In x (filter p ys) → In x (cond b (y ∷ filter p ys) (filter p ys))
      by true rest = inr rest
      by false rest = rest

  abbrev pub weigh : (X → ℕ) → List X → ℕ
  weigh f [] = 0
  weigh f (x ∷ xs) = f x + weigh f xs

  weigh-sum : (f : X → ℕ) (xs : List X) → weigh f xs ≡ sum_by f xs
  weigh-sum f [] = refl
  weigh-sum f (x ∷ xs) = let a = weigh-sum f xs in let b = sum_by-cons f x xs in omega (arith, a, b)

  weigh-filter : (f : X → ℕ) (p : X → Bool) (xs : List X) → weigh f (filter p xs) ≡ weigh (λ x. cond (p x) (f x) 0) xs
  weigh-filter f p [] = refl
  weigh-filter f p (x ∷ xs) = by (p x) (weigh-filter f p xs)
    where
      by : (b : Bool) → weigh f (filter p xs) ≡ weigh (λ x. cond (p x) (f x) 0) xs → weigh f (cond b (x ∷ filter p xs) (filter p xs)) ≡ cond b (f x) 0 + weigh (λ x. cond (p x) (f x) 0) xs
      by true rest = omega (arith, rest)
      by false rest = omega (arith, rest)

  each_filter : (P : X → Type 0) (p : X → Bool) (xs : List X) → Each P xs → Each P (filter p xs)
  each_filter P p [] all = tt
  each_filter P p (x ∷ xs) all = by (p x) (each_filter P p xs all.1)
    where
      by : (b : Bool) → Each P (filter p xs) → Each P (cond b (x ∷ filter p xs) (filter p xs))
      by true rest = (all.0, rest)
      by false rest = rest

  module _ (key : X → ℕ) where
    abbrev pub Rising : List X → Type 0
    Rising [] = Unit {0}
    Rising (x ∷ xs) = Each (λ y. key x < key y) xs × Rising xs

    abbrev pub SortedBy : List X → Type 0
    SortedBy [] = Unit {0}
    SortedBy (x ∷ xs) = Each (λ y. key x ≤ key y) xs × SortedBy xs

    sorted_filter : (p : X → Bool) (xs : List X) → SortedBy xs → SortedBy (filter p xs)
    sorted_filter p [] sorted = tt
    sorted_filter p (x ∷ xs) sorted = by (p x) (sorted_filter p xs sorted.1)
      where
        by : (b : Bool) → SortedBy (filter p xs) → SortedBy (cond b (x ∷ filter p xs) (filter p xs))
        by true rest = (each_filter (λ y. key x ≤ key y) p xs sorted.0, rest)
        by false rest = rest

    -- how many have this key
    abbrev tally : ℕ → List X → ℕ
    tally k xs = weigh (λ x. one_if (key x == k)) xs

    tally_none : (k : ℕ) (xs : List X) → Each (λ y. k < key y) xs → tally k xs ≡ 0
    tally_none k [] all = refl
    tally_none k (x ∷ xs) all = by (key x == k) refl (tally_none k xs all.1)
      where
        by : (b : Bool) → (key x == k) ≡ b → tally k xs ≡ 0 → one_if b + tally k xs ≡ 0
        by true is rest = absurd (let same : key x ≡ k = eqb-true (key x) k is in let above = all.0 in omega (arith, same, above))
        by false is rest = omega (arith, rest)

    tally_some : (k : ℕ) (xs : List X) (x : X) → In x xs → key x ≡ k → 0 < tally k xs
    tally_some k [] x at is = absurd at
    tally_some k (y ∷ ys) x (inl same) is = let one : one_if (key y == k) ≡ 1 = ap one_if (eq-eqb (key y) k (ap key (sym same) ∙ is)) in omega (arith, one)
    tally_some k (y ∷ ys) x (inr there) is = let rest = tally_some k ys x there is in omega (arith, rest)

    -- a list that rises is the sorted list of the same values
    same_order : (us vs : List X) → Rising us → SortedBy vs → ((v : X) → In v vs → In v us) → ((u : X) → In u us → In u vs) → ((k : ℕ) → tally k us ≡ tally k vs) → us ≡ vs
    same_order [] [] rising sorted into onto counts = refl
    same_order [] (v ∷ vs) rising sorted into onto counts = absurd (into v (inl refl))
    same_order (u ∷ us) [] rising sorted into onto counts = absurd (onto u (inl refl))
    same_order (u ∷ us) (v ∷ vs) rising sorted into onto counts = ap₂ (λ a l. a ∷ l) first (same_order us vs rising.1 sorted.1 below above rest)
      where
        first : u ≡ v
        first = by (into v (inl refl)) (onto u (inl refl))
          where
            by : (v ≡ u) ⊎ In v us → (u ≡ v) ⊎ In u vs → u ≡ v
            by (inl is) there = sym is
            by (inr at) (inl is) = is
            by (inr at) (inr there) = absurd (let a : key u < key v = member (λ y. key u < key y) us v rising.0 at in let b : key v ≤ key u = member (λ y. key v ≤ key y) vs u sorted.0 there in omega (arith, a, b))

        alone : tally (key u) us ≡ 0
        alone = tally_none (key u) us rising.0

        heads : (k : ℕ) → one_if (key u == k) ≡ one_if (key v == k)
        heads k = ap (λ (x : X). one_if (key x == k)) first

        rest : (k : ℕ) → tally k us ≡ tally k vs
        rest k = let a = counts k in let b = heads k in omega (arith, a, b)

        below : (w : X) → In w vs → In w us
        below w at = by (into w (inr at))
          where
            by : (w ≡ u) ⊎ In w us → In w us
            by (inl is) = absurd (let some : 0 < tally (key u) vs = tally_some (key u) vs w at (ap key is) in let none = alone in let same = rest (key u) in omega (arith, some, none, same))
            by (inr there) = there

        above : (w : X) → In w us → In w vs
        above w at = by (onto w (inr at))
          where
            by : (w ≡ v) ⊎ In w vs → In w vs
            by (inl is) = absurd (let more : key u < key w = member (λ y. key u < key y) us w rising.0 at in let same : key w ≡ key u = ap key (is ∙ sym first) in omega (arith, more, same))
            by (inr there) = there

    -- each part of a sorted permutation is the part of the list, if that rises
    pub part_sorted : (p : X → Bool) (xs ys : List X) → IsPermutation xs ys → SortedBy ys → Rising (filter p xs) → filter p xs ≡ filter p ys
    part_sorted p xs ys permutes sorted rising =
        same_order (filter p xs) (filter p ys) rising (sorted_filter p ys sorted)
        (λ v at. let i = in_filter p ys v at in filter_in p xs v (moved ys xs (IsPermutation-sym xs ys permutes) v i.0) i.1)
        (λ u at. let i = in_filter p xs u at in filter_in p ys u (moved xs ys permutes u i.0) i.1)
        (λ k.
        let f : X → ℕ = λ x. cond (p x) (one_if (key x == k)) 0 in
        weigh-filter (λ x. one_if (key x == k)) p xs ∙ weigh-sum f xs ∙ sym (sum_by-IsPermutation f xs ys permutes) ∙ sym (weigh-sum f ys) ∙ sym (weigh-filter (λ x. one_if (key x == k)) p ys))
