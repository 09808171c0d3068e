use Rattle.std.proofs.Common.{inr, ap}
use Rattle.words_rule.proofs.seat.Guard.walk_in.Goals as goal

pub leave_walk-requires-clause-has : goal.leave_walk-requires-clause-has
leave_walk-requires-clause-has g c = inr (ap (λ v. v.shares.walk) (c.enter_walk-found.ensures.owed c.if-found-lt-FULL.false))
