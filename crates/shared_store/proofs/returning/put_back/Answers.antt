use Rattle.seat_guard.specs.Passes.{known}
use Rattle.shared_store.proofs.Storing.{leaving_of, leaving_of-is}
use Rattle.shared_store.proofs.returning.put_back.Goals as goal

pub leave-requires-clause-leaving : goal.leave-requires-clause-leaving
leave-requires-clause-leaving g = leaving_of-is (known g.args.pass.now) g.args.shared

pub returns-clause-gave : goal.returns-clause-gave
returns-clause-gave g = (leaving_of (known g.args.pass.now) g.args.shared, g.leave.ensures.gave, leaving_of-is (known g.args.pass.now) g.args.shared)
