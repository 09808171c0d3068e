use Rattle.std.proofs.Common.{sym, ◌∙◌}
use Rattle.ite_core.proofs.Terminals.{not_leaves}
use Rattle.ite_core.proofs.ImplicationLaws.{not_second}
use Rattle.quantify_ops.proofs.quantification.known.Goals as goal

pub returns-else-index-eq-TRUE_SLOT : goal.returns-else-index-eq-TRUE_SLOT
returns-else-index-eq-TRUE_SLOT c = λ w p d. not_leaves w c.args.f c.args.g (λ is. c.if-index-eq-TRUE_SLOT.false (c.index-then-index.ensures ∙ is))

pub returns-else-complement-2 : goal.returns-else-complement-2
returns-else-complement-2 c = λ w p d. not_second w c.args.f c.args.g (λ zero.
    c.if-index.false (c.index.ensures ∙ sym c.index-3.ensures ∙ c.if-index-eq-TRUE_SLOT-2.true ∙ sym zero ∙ sym c.index-2.ensures))

pub returns-else-complement-3 : goal.returns-else-complement-3
returns-else-complement-3 c = λ w p d. not_leaves w c.args.f c.args.g (λ is. c.if-index-eq-TRUE_SLOT-2.false (c.index-3.ensures ∙ is))

pub returns : goal.returns
returns c = λ w p d. not_leaves w c.args.f c.args.g (λ is. c.if-index-eq-TRUE_SLOT-2.false (c.index-3.ensures ∙ is))
