use Rattle.std.proofs.Common.{Some}
use Rattle.step_store.proofs.Learning.{learns_same}
use Rattle.step_store.proofs.Placements.{placed_learns}
use Rattle.step_store.proofs.placing.add.Goals as goal

pub returns-then-has_free-clause-placed : goal.returns-then-has_free-clause-placed
returns-then-has_free-clause-placed g c = placed_learns c.args.job.now (Some c.store.result) (learns_same (g.S.Steps.known c.args.seat.now) (g.S.Steps.known c.claim_free.new.seat) _ c.claim_free.ensures.taken.1) c.store.ensures.placed
