use Rattle.std.proofs.Common.{◌≡◌, ℕ, inl, inr, None, Some, slice_index, ◌∙◌, ap, sym, subst, arith}
use Rattle.std.proofs.lemmas.Bool.{cases_lt}
use Rattle.std.proofs.lemmas.List.{get_or_past}
use Rattle.edge_bits.specs.Words.{unpack_of}
use Rattle.edge_bits.specs.declared.words.Word.TheVariants.{Inner}
use Rattle.store_tests.proofs.walks.is_named.Goals as goal

pub returns-then-names : goal.returns-then-names
returns-then-names c = λ unnamed.
    let y = c.names.ensures.yes c.if-names.true in
    let apart = unnamed c.loop-bits.bits-index y.0 (sym (c.words-bits-items.ensures.words c.loop-bits.bits-index) ∙ y.1) in
    elim y.2 [ inl hi ↦ apart.0 hi | inr lo ↦ apart.1 lo ]

pub returns : goal.returns
returns c = λ s node is.
    let read = c.words-bits-items.ensures.words s ∙ is in
    elim (cases_lt s c.loop-bits.bits-index) [
      | inl lt ↦ c.loop-bits.invariant s node lt read
      | inr ge ↦ absurd (let e : None ≡ Some (Inner node) = sym (ap unpack_of (get_or_past c.words-bits-items.result.now s 0 (let t = c.loop-bits-test.false in omega arith))) ∙ read in cc)
    ]

pub loop-bits-preserved : goal.loop-bits-preserved
loop-bits-preserved c = λ s node below read. elim (cases_lt s c.loop-bits.bits-index) [
  | inl lt ↦ c.loop-bits.invariant s node lt read
  | inr ge ↦ (
      let same : s ≡ c.loop-bits.bits-index = omega arith in
      c.names.ensures.no c.if-names.false node (subst (λ (i : ℕ). unpack_of (slice_index c.words-bits-items.result.now i) ≡ Some (Inner node)) same read))
]
