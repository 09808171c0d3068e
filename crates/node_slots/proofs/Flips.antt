-- Bits of the assignment where the first variables are true, and what a slot denotes by an edge to it.
use Rattle.std.proofs.Common.{◌≡◌, ℕ, zero, suc, ◌<◌, inl, inr, Bool, true, false, not, Option, Some, None, refl, sym, ◌∙◌, subst, arith}
use Rattle.std.proofs.lemmas.Bool.{cases_eq}
use Rattle.edge_bits.specs.declared.edges.Kind.{Kind}
use Rattle.edge_bits.specs.declared.edges.Kind.TheVariants.{Bdd, Add, Zdd}
use Rattle.edge_bits.specs.Assignments.{bit}
use Rattle.edge_bits.proofs.AssignmentLemmas.{bit-set_same, bit-set_other}
use Rattle.function_laws.specs.Values.{negation}
use Rattle.node_slots.specs.Stores.{ones}
use Rattle.function_laws.specs.Kinds.{Denoted, BddFunction, AddFunction, ZddFamily, ValueOf, function_of, flipped, Lacks}

pub bit-ones : (n v : ℕ) → v < n → bit (ones n) v ≡ true
unfolding ones
bit-ones zero v lt = absurd (omega arith)
bit-ones (suc n) v lt = elim (cases_eq v n) [
  | inl e ↦ rw e (bit-set_same (ones n) n true)
  | inr ne ↦ bit-set_other (ones n) n v true ne ∙ bit-ones n v (omega arith)
]

pub not-injective : (a b : Bool) → not a ≡ not b → a ≡ b
not-injective true true e = refl
not-injective true false e = cc
not-injective false true e = cc
not-injective false false e = refl

-- what a slot denotes, by what an edge to it denotes
pub record Unflipped (k : Kind) (o : Option Denoted) (f : ℕ → ValueOf k) : Type 0 where
  pub inner : ℕ → ValueOf k
  pub is : o ≡ Some (function_of k inner)
  pub lacks : (v : ℕ) → Lacks k f v → Lacks k inner v

pub unflip : (k : Kind) (c : Bool) (o : Option Denoted) (f : ℕ → ValueOf k) → flipped c o ≡ Some (function_of k f) → Unflipped k o f
unflip k false o f h = record { inner = f; is = h; lacks = λ v p. p }
unflip k true None f h = cc
unflip k true (Some (AddFunction g)) f h = cc
unflip k true (Some (ZddFamily g)) f h = cc
unflip Add true (Some (BddFunction g)) f h = cc
unflip Zdd true (Some (BddFunction g)) f h = cc
unflip Bdd true (Some (BddFunction g)) f h =
    let e : negation g ≡ f = cc in
    record { inner = g; is = refl; lacks = λ v p k b. not-injective _ _ (subst (λ (x : ℕ → Bool). Lacks Bdd x v) (sym e) p k b) }
