use Rattle.std.proofs.Common.{inr, ap}
use Rattle.words_rule.proofs.seat.Guard.op_in.Goals as goal

pub leave_operation-requires-clause-has : goal.leave_operation-requires-clause-has
leave_operation-requires-clause-has g c = inr (ap (λ v. v.shares.op) (c.enter_operation-found.ensures.owed c.if-found-lt-ORDER.false))
