-- What the operations by one element make of a node, of the element or of another.
use Rattle.std.proofs.Common.{◌≡◌, ◌≢◌, ℕ, Bool, true, false, not, cond, ◌&&◌, refl, sym, ap, ap₂, ◌∙◌}
use Rattle.edge_bits.specs.Assignments.{bit, set_bit}
use Rattle.edge_bits.proofs.AssignmentLemmas.{bit-set_same, bit-set_other, set_bit-own, set_bit-set_same, set_bit_comm}
use Rattle.function_laws.specs.Families.{IsWithout, change, joined, subset0, subset1}
use Rattle.function_laws.proofs.ValueLemmas.{everywhere}

and_nothing : (b : Bool) → (b && false) ≡ false
and_nothing true = refl
and_nothing false = refl

into_branch : (b c x y : Bool) → (b && cond c x y) ≡ cond c (b && x) (b && y)
into_branch b true x y = refl
into_branch b false x y = refl

pub subset1-other : (p q : ℕ → Bool) (x e : ℕ) → x ≢ e → subset1 (joined x p q) e ≡ joined x (subset1 p e) (subset1 q e)
subset1-other p q x e apart = everywhere (subset1 (joined x p q) e) (joined x (subset1 p e) (subset1 q e)) (λ a.
    ap₂ (λ c k. not (bit a e) && cond c (p k) (q (set_bit a e true))) (bit-set_other a e x true apart) (set_bit_comm a e x true false (λ s. apart (sym s)))
    ∙ into_branch (not (bit a e)) (bit a x) (p (set_bit (set_bit a x false) e true)) (q (set_bit a e true))
    ∙ ap (λ b. cond (bit a x) (not b && p (set_bit (set_bit a x false) e true)) (not (bit a e) && q (set_bit a e true))) (sym (bit-set_other a x e false (λ s. apart (sym s)))))

pub subset0-other : (p q : ℕ → Bool) (x e : ℕ) → x ≢ e → subset0 (joined x p q) e ≡ joined x (subset0 p e) (subset0 q e)
subset0-other p q x e apart = everywhere (subset0 (joined x p q) e) (joined x (subset0 p e) (subset0 q e)) (λ a.
    into_branch (not (bit a e)) (bit a x) (p (set_bit a x false)) (q a)
    ∙ ap (λ b. cond (bit a x) (not b && p (set_bit a x false)) (not (bit a e) && q a)) (sym (bit-set_other a x e false (λ s. apart (sym s)))))

pub change-other : (p q : ℕ → Bool) (x e : ℕ) → x ≢ e → change (joined x p q) e ≡ joined x (change p e) (change q e)
change-other p q x e apart = everywhere (change (joined x p q) e) (joined x (change p e) (change q e)) (λ a.
    ap₂ (λ c k. cond c (p k) (q (set_bit a e (not (bit a e))))) (bit-set_other a e x (not (bit a e)) apart) (set_bit_comm a e x (not (bit a e)) false (λ s. apart (sym s)))
    ∙ ap (λ b. cond (bit a x) (p (set_bit (set_bit a x false) e (not b))) (q (set_bit a e (not (bit a e))))) (sym (bit-set_other a x e false (λ s. apart (sym s)))))

pub subset1-lacks : (p : ℕ → Bool) (e u : ℕ) → u ≢ e → IsWithout p u → IsWithout (subset1 p e) u
subset1-lacks p e u apart without a has =
    ap (λ c. not (bit a e) && c) (without (set_bit a e true) (bit-set_other a e u true apart ∙ has)) ∙ and_nothing (not (bit a e))

pub subset0-lacks : (p : ℕ → Bool) (e u : ℕ) → u ≢ e → IsWithout p u → IsWithout (subset0 p e) u
subset0-lacks p e u apart without a has = ap (λ c. not (bit a e) && c) (without a has) ∙ and_nothing (not (bit a e))

pub change-lacks : (p : ℕ → Bool) (e u : ℕ) → u ≢ e → IsWithout p u → IsWithout (change p e) u
change-lacks p e u apart without a has = without (set_bit a e (not (bit a e))) (bit-set_other a e u (not (bit a e)) apart ∙ has)

-- a node of the element with its children exchanged
pub change-joined : (p q : ℕ → Bool) (e : ℕ) → IsWithout p e → IsWithout q e → change (joined e p q) e ≡ joined e q p
change-joined p q e hp hq = everywhere (change (joined e p q) e) (joined e q p) (λ a. by_bit a (bit a e) refl)
  where
    by_bit : (a : ℕ) (b : Bool) → bit a e ≡ b → joined e p q (set_bit a e (not b)) ≡ cond b (q (set_bit a e false)) (p a)
    by_bit a true has = ap (λ b. cond b (p (set_bit (set_bit a e false) e false)) (q (set_bit a e false))) (bit-set_same a e false)
    by_bit a false lacks =
        ap (λ b. cond b (p (set_bit (set_bit a e true) e false)) (q (set_bit a e true))) (bit-set_same a e true)
        ∙ ap p (set_bit-set_same a e true false ∙ ap (set_bit a e) (sym lacks) ∙ set_bit-own a e)
