use Rattle.std.proofs.Common.{refl}
use Rattle.node_store.proofs.TwoParts.{PartsAt-own, PartsAt-inner, PartsAt-leaf}
use Rattle.node_store.proofs.parts.parts_of.Goals as goal

pub returns-then-top-var : goal.returns-then-top-var
returns-then-top-var c = λ k w p. PartsAt-own k _ _ _ _ _ _ _ c.if-top-var.true (rw c.in-Inner.is at p.operand.opens)

pub returns-else-top-var : goal.returns-else-top-var
returns-else-top-var c = λ k w p.
    rw c.absent_part.ensures (PartsAt-inner k w p.permanent c.args.var c.args.operand.edge _ _ _ _ p.in_range p.operand.is refl
    (rw c.in-Inner.is at p.operand.opens) p.above p.within c.if-top-var.false)

pub returns-in-Leaf : goal.returns-in-Leaf
returns-in-Leaf c = λ k w p.
    rw c.absent_part-in-Leaf.ensures (PartsAt-leaf k w p.permanent c.args.var c.args.operand.edge _ _ p.in_range p.operand.is refl
    (rw c.in-Leaf.is at p.operand.opens) p.within)
