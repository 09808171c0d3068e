use Rattle.std.proofs.Common.{sym, ◌∙◌}
use Rattle.zdd_ops.proofs.ProductLaws.{first_base, first_empty, no_leaf, second_base, second_empty}
use Rattle.zdd_ops.proofs.products.terminal.Goals as goal

pub returns-then-index-eq-EMPTY_SLOT : goal.returns-then-index-eq-EMPTY_SLOT
returns-then-index-eq-EMPTY_SLOT c = λ w p d. first_empty w c.args.f c.args.g p d (sym c.index.ensures ∙ c.if-index-eq-EMPTY_SLOT.true)

pub returns-then-index-eq-EMPTY_SLOT-2 : goal.returns-then-index-eq-EMPTY_SLOT-2
returns-then-index-eq-EMPTY_SLOT-2 c = λ w p d. second_empty w c.args.f c.args.g p d (sym c.index-2.ensures ∙ c.if-index-eq-EMPTY_SLOT-2.true)

pub returns-then-index-eq-BASE_SLOT : goal.returns-then-index-eq-BASE_SLOT
returns-then-index-eq-BASE_SLOT c = λ w p d. first_base w c.args.f c.args.g p d (sym c.index-3.ensures ∙ c.if-index-eq-BASE_SLOT.true)

pub returns-then-index-eq-BASE_SLOT-2 : goal.returns-then-index-eq-BASE_SLOT-2
returns-then-index-eq-BASE_SLOT-2 c = λ w p d. second_base w c.args.f c.args.g p d (sym c.index-4.ensures ∙ c.if-index-eq-BASE_SLOT-2.true)

pub returns : goal.returns
returns c = λ w p d. no_leaf w c.args.f c.args.g (λ is. c.if-index-eq-EMPTY_SLOT.false (c.index.ensures ∙ is)) (λ is. c.if-index-eq-BASE_SLOT.false (c.index-3.ensures ∙ is))
