-- Two literals are one function only where they are of one variable with one sign.
use Rattle.std.proofs.Common.{◌≡◌, ◌≢◌, ℕ, eqb, Bool, true, false, not, refl, ap, sym, ◌∙◌, arith}
use Rattle.edge_bits.specs.Assignments.{set_bit}
use Rattle.edge_bits.proofs.AssignmentLemmas.{bit-set_other, bit-set_same}
use Rattle.function_laws.specs.Values.{negation, projection}
use Rattle.node_store.specs.Memo.{literal}
use Rattle.node_store.proofs.ComplementWork.{negation-negation}
use Rattle.node_store.proofs.TwoParts.{bit-zero}

pub same_variable : (u v : ℕ) → projection u ≡ projection v → u ≡ v
same_variable u v same = by_test (eqb u v) refl
  where
    never : true ≡ false → ⊥
    never e = cc

    by_test : (c : Bool) → eqb u v ≡ c → u ≡ v
    by_test true t = grind (arith, t)
    by_test false t =
        let apart : u ≢ v = grind (arith, t) in
        let k = set_bit 0 v true in
        absurd (never (sym (bit-set_same 0 v true) ∙ sym (ap (λ (f : ℕ → Bool). f k) same) ∙ bit-set_other 0 v u true apart ∙ bit-zero u))

-- a variable's projection holds nowhere at the first assignment
at_first : (v : ℕ) (b : Bool) → literal v b 0 ≡ not b
at_first v true = bit-zero v
at_first v false = ap not (bit-zero v)

pub same_literal : (u v : ℕ) (a b : Bool) → literal u a ≡ literal v b → (u ≡ v) × (a ≡ b)
same_literal u v a b same = by_sign a b same (sym (at_first u a) ∙ ap (λ (f : ℕ → Bool). f 0) same ∙ at_first v b)
  where
    by_sign : (a b : Bool) → literal u a ≡ literal v b → not a ≡ not b → (u ≡ v) × (a ≡ b)
    by_sign true true same e = (same_variable u v same, refl)
    by_sign false false same e = (same_variable u v (negation-negation (projection u) ∙ ap negation same ∙ sym (negation-negation (projection v))), refl)
    by_sign true false same e = cc
    by_sign false true same e = cc
