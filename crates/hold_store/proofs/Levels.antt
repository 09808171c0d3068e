-- The levels whose turns are in hand.
use Rattle.std.proofs.Common.{◌≡◌, ℕ, zero, suc, ◌<◌, ◌≤◌, inl, inr, cond, List, [], ◌∷◌, Some, None, refl, ap, sym, ◌∙◌, subst, arith, eq-eqb, ne_eqb}
use Rattle.std.proofs.lemmas.Bool.{cases_eq}
use Rattle.step_store.specs.Chains.{Lists}
use Rattle.step_store.specs.Knowing.{without_level}
use Rattle.hold_store.specs.Held.{Hand, IsReady, Knowledge, all_turns, down, handed, idle}

pub down_none : down 0 ≡ []
unfolding down
down_none = refl

pub down_more : (n : ℕ) → down (suc n) ≡ n ∷ down n
unfolding down
down_more n = refl

-- no level below n is n or above
others_stay : (n l : ℕ) → n ≤ l → without_level l (down n) ≡ down n
unfolding down
others_stay zero l le = refl
others_stay (suc n) l le = ap (λ b. cond b (without_level l (down n)) (n ∷ without_level l (down n))) (ne_eqb n l (λ e. omega (arith, le, e))) ∙ ap (λ (xs : List ℕ). n ∷ xs) (others_stay n l (omega (arith, le)))

pub last_goes : (n : ℕ) → without_level n (down (suc n)) ≡ down n
last_goes n = ap (without_level n) (down_more n) ∙ ap (λ b. cond b (without_level n (down n)) (n ∷ without_level n (down n))) (eq-eqb n n refl) ∙ others_stay n n (omega arith)

-- each level has its turn in hand
pub each_there : (n l : ℕ) → l < n → Lists (down n) l
unfolding down
each_there zero l lt = absurd (omega (arith, lt))
each_there (suc n) l lt = elim (cases_eq n l) [
  | inl e ↦ inl e
  | inr ne ↦ inr (each_there n l (omega (arith, lt, ne)))
]

-- a level is given back, the last first
module _ (k new : Knowledge) (left : ℕ) (levels : k.hand.levels ≡ down left) (level : ℕ) (is : left ≡ suc level) where
  pub has_last : (others : List ℕ) × (k.hand.levels ≡ level ∷ others)
  has_last = (down level, levels ∙ ap down is ∙ down_more level)

  pub gave_last : new ≡ handed k (record k.hand { levels = without_level level k.hand.levels; walk = None }) → new ≡ handed k (record k.hand { levels = down level; walk = None })
  gave_last e = e ∙ ap (λ (l : List ℕ). handed k (record k.hand { levels = l; walk = None })) (ap (without_level level) (levels ∙ ap down is) ∙ last_goes level)

-- all turns and the free list were taken by an idle hand
pub all_taken : (k new : Knowledge) (list : List ℕ) → k.hand ≡ idle → new ≡ handed k (record k.hand { levels = down (all_turns k); free = Some list }) → IsReady new
all_taken k new list is e = subst IsReady (sym (e ∙ ap (λ (h : Hand). handed k (record h { levels = down (all_turns k); free = Some list })) is)) (record {
  levels = refl;
  free = list;
  has_free = refl;
  loose = refl;
  renewed = refl;
  link = refl;
  pending = refl;
})

pub all_given : (k : Knowledge) → IsReady k → k.hand.named ≡ None → record k.hand { free = None; levels = []; walk = None } ≡ idle
all_given k r named i = record {
  levels = [];
  free = None;
  loose = r.loose i;
  renewed = r.renewed i;
  link = r.link i;
  walk = None;
  pending = r.pending i;
  named = named i;
}
