-- Edges are equal where their words are.
use Rattle.std.proofs.Common.{◌≡◌, ℕ, ◌+◌, ◌*◌, Bool, true, false, ◌&&◌, eqb, inl, inr, sym, ◌∙◌, ap, refl, arith}
use Rattle.std.proofs.Math.Bool.{beq}
use Rattle.std.proofs.lemmas.Bool.{cases_eq, eq-eqb, ne_eqb}
use Rattle.edge_bits.specs.declared.edges.Edge.{Edge}
use Rattle.edge_bits.specs.Words.{digit, word_of_edge}

-- the words of two slots with the same digit are equal where the slots are
same_digit : (i j d : ℕ) → eqb (i * 2 + d) (j * 2 + d) ≡ eqb i j
same_digit i j d = elim (cases_eq i j) [
  | inl same ↦ eq-eqb (i * 2 + d) (j * 2 + d) (ap (λ n. n * 2 + d) same) ∙ sym (eq-eqb i j same)
  | inr differ ↦ ne_eqb (i * 2 + d) (j * 2 + d) (λ same. differ (omega (arith, same))) ∙ sym (ne_eqb i j differ)
]

and-true : (b : Bool) → b ≡ (b && true)
and-true true = refl
and-true false = refl

and-false : (b : Bool) → false ≡ (b && false)
and-false true = refl
and-false false = refl

digits : (i j : ℕ) (b c : Bool) → eqb (i * 2 + digit b) (j * 2 + digit c) ≡ (eqb i j && beq b c)
digits i j true true = same_digit i j 1 ∙ and-true (eqb i j)
digits i j true false = ne_eqb (i * 2 + 1) (j * 2 + 0) (λ same. omega (arith, same)) ∙ and-false (eqb i j)
digits i j false true = ne_eqb (i * 2 + 0) (j * 2 + 1) (λ same. omega (arith, same)) ∙ and-false (eqb i j)
digits i j false false = same_digit i j 0 ∙ and-true (eqb i j)

-- the test of the words is that of the slots and of the complements
pub words_same : (e f : Edge) → eqb (word_of_edge e) (word_of_edge f) ≡ (eqb e.index f.index && beq e.complement f.complement)
words_same e f = digits e.index f.index e.complement f.complement
