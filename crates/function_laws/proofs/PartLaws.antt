-- The cofactors of a function by the first variables of an order, one by one.
use Rattle.std.proofs.Common.{◌≡◌, ℕ, ◌⊎◌, inl, inr, Bool, true, false, List, [], ◌∷◌, refl, sym, ◌∙◌, subst}
use Rattle.function_laws.specs.Kinds.{Denoted}
use Rattle.function_laws.specs.Sizes.{part_of, parts}
use Rattle.function_laws.proofs.DistinctLemmas.{In, In-left, In-right, In-append}

-- the first is a part of the second
pub whole_part : (order : List ℕ) (f : Denoted) → In f (parts order f)
unfolding parts
whole_part [] f = inl refl
whole_part (v ∷ vs) f = inl refl

pub half_part : (v : ℕ) (vs : List ℕ) (f g : Denoted) (b : Bool) → In g (parts vs (part_of f v b)) → In g (parts (v ∷ vs) f)
unfolding parts
half_part v vs f g true h = inr (In-left g (parts vs (part_of f v true)) (parts vs (part_of f v false)) h)
half_part v vs f g false h = inr (In-right g (parts vs (part_of f v true)) (parts vs (part_of f v false)) h)

-- A fact that holds of the parts' halves from the first on holds of all parts.
pub each_part : (P : Denoted → Type 0) (order : List ℕ) (f : Denoted)
    → ((g : Denoted) (v : ℕ) (b : Bool) → In v order → P g → P (part_of g v b)) → P f → (g : Denoted) → In g (parts order f) → P g
unfolding parts
each_part P [] f step here g (inl e) = subst P (sym e) here
each_part P [] f step here g (inr i) = absurd i
each_part P (v ∷ vs) f step here g (inl e) = subst P (sym e) here
each_part P (v ∷ vs) f step here g (inr i) =
    elim (In-append g (parts vs (part_of f v true)) (parts vs (part_of f v false)) i) [
      | inl h ↦ each_part P vs (part_of f v true) (λ h u b j. step h u b (inr j)) (step f v true (inl refl) here) g h
      | inr h ↦ each_part P vs (part_of f v false) (λ h u b j. step h u b (inr j)) (step f v false (inl refl) here) g h
    ]

-- free of those above the variable
abbrev pub Above : (Denoted → ℕ → Type 0) → List ℕ → ℕ → Denoted → Type 0
Above Free [] v f = Unit {0}
Above Free (u ∷ us) v f = (u ≡ v) ⊎ (Free f u × Above Free us v f)

-- the parts by a variable, of a part that lacks those above it and depends on it, are parts
module _ (Free : Denoted → ℕ → Type 0)
    (free_part : (f : Denoted) (v : ℕ) → Free f v → part_of f v false ≡ f)
    (part_free : (f : Denoted) (v : ℕ) (b : Bool) → Free (part_of f v b) v)
    (free_more : (f : Denoted) (u v : ℕ) (b : Bool) → Free f u → Free (part_of f v b) u) where
  parts_free : (u : ℕ) (us : List ℕ) (f g : Denoted) (b : Bool) → In g (parts us (part_of f u b)) → Free g u
  parts_free u us f g b i =
      each_part (λ h. Free h u) us (part_of f u b) (λ h w c j free. free_more h u w c free) (part_free f u b) g i

  pub part_in : (order : List ℕ) (f g : Denoted) (v : ℕ) (b : Bool) → In v order → In g (parts order f) → (Free g v → ⊥) → Above Free order v g
      → In (part_of g v b) (parts order f)
  unfolding parts
  part_in [] f g v b there i depends above = absurd there
  part_in (u ∷ us) f g v b there (inl e) depends (inl same) =
      subst (λ x. In (part_of g v b) (parts (u ∷ us) x)) e
      (subst (λ x. In (part_of g v b) (parts (x ∷ us) g)) (sym same) (half_part v us g (part_of g v b) b (whole_part us (part_of g v b))))
  part_in (u ∷ us) f g v b (inl at) (inl e) depends (inr (free, rest)) = absurd (depends (subst (Free g) (sym at) free))
  part_in (u ∷ us) f g v b (inr later) (inl e) depends (inr (free, rest)) =
      let here : part_of f u false ≡ g = free_part f u (subst (λ x. Free x u) e free) ∙ sym e in
      half_part u us f (part_of g v b) false
      (part_in us (part_of f u false) g v b later (subst (λ x. In g (parts us x)) (sym here) (whole_part us g)) depends rest)
  part_in (u ∷ us) f g v b there (inr i) depends above =
      elim (In-append g (parts us (part_of f u true)) (parts us (part_of f u false)) i) [
        | inl j ↦ half_part u us f (part_of g v b) true (inside true there j above (λ later rest. part_in us (part_of f u true) g v b later j depends rest))
        | inr j ↦ half_part u us f (part_of g v b) false (inside false there j above (λ later rest. part_in us (part_of f u false) g v b later j depends rest))
      ]
    where
      inside : (c : Bool) → (v ≡ u) ⊎ In v us → In g (parts us (part_of f u c)) → (u ≡ v) ⊎ (Free g u × Above Free us v g)
          → (In v us → Above Free us v g → In (part_of g v b) (parts us (part_of f u c))) → In (part_of g v b) (parts us (part_of f u c))
      inside c (inl at) j a next = absurd (depends (subst (Free g) (sym at) (parts_free u us f g c j)))
      inside c (inr later) j (inl same) next = absurd (depends (subst (Free g) same (parts_free u us f g c j)))
      inside c (inr later) j (inr (free, rest)) next = next later rest
