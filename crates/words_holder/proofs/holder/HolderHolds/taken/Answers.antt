use Rattle.words_holder.proofs.Holding.{beyond_told}
use Rattle.words_holder.proofs.holder.HolderHolds.taken.Goals as goal

pub returns-clause-beyond : goal.returns-clause-beyond
returns-clause-beyond g c = let s = c.args.self.now in beyond_told s.guard.now s.pass s.pass s.list s.memo s.due c.requires.own c.taken.result c.taken.ensures.beyond
