use Rattle.std.proofs.Common.{sym, ◌∙◌}
use Rattle.ite_core.proofs.Terminals.{not_leaves}
use Rattle.ite_core.proofs.TripleLaws.{equal_edges}
use Rattle.ite_core.proofs.ImplicationLaws.{equal_tell, false_tells, constant_tells, not_second, second_tells}
use Rattle.ite_core.proofs.implication.terminal.Goals as goal

pub returns-then-eq : goal.returns-then-eq
returns-then-eq c = λ w p. equal_tell w c.args.f c.args.g (equal_edges c.args.f c.args.g c.if-eq.ensures)

pub returns-then-complement : goal.returns-then-complement
returns-then-complement c = λ w p. false_tells w p c.args.f c.args.g (sym c.index.ensures ∙ c.if-index-eq-TRUE_SLOT.true) (sym c.complement.ensures ∙ c.if-complement.true)

pub returns-then-index-eq-TRUE_SLOT-2 : goal.returns-then-index-eq-TRUE_SLOT-2
returns-then-index-eq-TRUE_SLOT-2 c = λ w p.
    rw c.complement-then-index-eq-TRUE_SLOT-2.ensures (constant_tells w p c.args.f c.args.g (sym c.index.ensures ∙ c.if-index-eq-TRUE_SLOT.true) (sym c.complement.ensures ∙ c.if-complement.false) (sym c.index-then-index-eq-TRUE_SLOT.ensures ∙ c.if-index-eq-TRUE_SLOT-2.true))

pub returns-then-index-eq-TRUE_SLOT : goal.returns-then-index-eq-TRUE_SLOT
returns-then-index-eq-TRUE_SLOT c = λ w p. not_second w c.args.f c.args.g (λ is. c.if-index-eq-TRUE_SLOT-2.false (c.index-then-index-eq-TRUE_SLOT.ensures ∙ is))

pub returns-then-not-complement : goal.returns-then-not-complement
returns-then-not-complement c = λ w p. second_tells w p c.args.f c.args.g (sym c.index-2.ensures ∙ c.if-index-eq-TRUE_SLOT-3.true) (rw c.complement-then-index-eq-TRUE_SLOT-3.ensures at c.if-not-complement.true)

pub returns : goal.returns
returns c = λ w p. not_leaves w c.args.f c.args.g (λ is. c.if-index-eq-TRUE_SLOT.false (c.index.ensures ∙ is))
