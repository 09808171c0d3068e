use Rattle.std.proofs.Common.{sym, ◌∙◌}
use Rattle.ite_core.proofs.Terminals.{first_leaf_false, first_leaf_true}
use Rattle.ite_core.proofs.conjunction.ConjunctionPointwise.at_leaves.Goals as goal

pub returns-then-complement-clause-answer : goal.returns-then-complement-clause-answer
returns-then-complement-clause-answer g c = first_leaf_false _ c.requires.permanent c.args.f c.args.g c.args._x c.requires.first (sym c.complement.ensures ∙ c.if-complement.true) c.requires.operands

pub returns-else-complement-clause-answer : goal.returns-else-complement-clause-answer
returns-else-complement-clause-answer g c = first_leaf_true _ c.requires.permanent c.args.f c.args.g c.args._x c.requires.first (sym c.complement.ensures ∙ c.if-complement.false) c.requires.operands
