-- A slot on the chain of its head, where that has been loaded.
use Rattle.std.proofs.Common.{◌≡◌, ℕ, suc, ◌+◌, ◌-◌, ◌<◌, ◌≤◌, inl, ⊎_elim, List, [], ◌∷◌, ◌++◌, Some, None, refl, ap, sym, ◌∙◌, subst, arith}
use Rattle.step_store.specs.Chains.{Lists, head_of, link_to}
use Rattle.step_store.specs.Knowing.{Walk}
use Rattle.hold_store.specs.Held.{ComesBehind, HasLevel, HasTurnOf, IsFront, IsOfLevel, IsWhole, Knowledge, StandsBefore, handed}
use Rattle.hold_store.proofs.Passing.{append_one, middle, none_some}

-- the chain of a head was loaded
abbrev pub walked : Knowledge → ℕ → ℕ → List ℕ → Knowledge
walked k head level chain = handed k (record k.hand { walk = Some (record { head = head; level = level; rest = chain }) })

module _ (k : Knowledge) (slot head level : ℕ) (chain : List ℕ) (whole : IsWhole k head level chain) (calm : k.hand.loose ≡ None) (high : 3 ≤ slot)
    (word : IsOfLevel k slot level) (head_is : head ≡ head_of k.heads (k.bits slot)) where
  there : Lists chain slot
  there = ⊎_elim (λ loose. absurd (none_some slot (sym calm ∙ loose))) (λ on. on)
      (whole.all slot (record { high = high; word = word.0; has = word.1; head_is = head_is; level_is = word.2 }))

  module _ (link : ℕ) (link_is : link ≡ link_to chain) where
    pub is_first : link ≡ slot + 1 → IsFront (walked k head level chain) head slot
    is_first e = by chain refl
      where
        by : (l : List ℕ) → chain ≡ l → IsFront (walked k head level chain) head slot
        by [] is = absurd (let z : link ≡ 0 = link_is ∙ ap link_to is in omega (arith, e, z))
        by (x ∷ xs) is = (record { head = head; level = level; rest = chain }, xs, refl, refl, is ∙ ap (λ (y : ℕ). y ∷ xs) (let at : link ≡ suc x = link_is ∙ ap link_to is in omega (arith, e, at)))

    pub is_later : (link ≡ slot + 1 → ⊥) → (0 < link) × ComesBehind (walked k head level chain) (link - 1) slot
    is_later other = by chain refl there
      where
        by : (l : List ℕ) → chain ≡ l → Lists l slot → (0 < link) × ComesBehind (walked k head level chain) (link - 1) slot
        by [] is on = absurd on
        by (x ∷ xs) is on =
            let at : link ≡ suc x = link_is ∙ ap link_to is in
            let here : x ≡ link - 1 = omega (arith, at) in (
              omega (arith, at),
              (
                record { head = head; level = level; rest = chain },
                xs,
                refl,
                is ∙ ap (λ (y : ℕ). y ∷ xs) here,
                ⊎_elim (λ same. absurd (other (omega (arith, at, same)))) (λ rest. rest) on,
                whole.chained,
              ),
            )

-- a slot that stands behind another
module _ (k : Knowledge) (before slot : ℕ) (s : StandsBefore k before slot) where
  split : s.0.rest ≡ (s.1 ++ before ∷ []) ++ slot ∷ s.2
  split = s.4 ∙ sym (append_one s.1 before (slot ∷ s.2))

  pub on_it : (n : Walk) × (k.hand.walk ≡ Some n) × Lists n.rest slot
  on_it = (s.0, s.3, subst (λ (l : List ℕ). Lists l slot) (sym split) (middle (s.1 ++ before ∷ []) slot s.2))

-- the first of the chain
pub front_on : (k : Knowledge) (head slot : ℕ) → IsFront k head slot → (n : Walk) × (k.hand.walk ≡ Some n) × Lists n.rest slot
front_on k head slot f = (f.0, f.2, subst (λ (l : List ℕ). Lists l slot) (sym f.4) (inl refl))

-- the turn of its level is in hand
pub turn_of_level : (k : Knowledge) (slot level : ℕ) → IsOfLevel k slot level → HasLevel k.hand level → HasTurnOf k slot
turn_of_level k slot level of has = (of.0, of.1, subst (HasLevel k.hand) of.2 has)
