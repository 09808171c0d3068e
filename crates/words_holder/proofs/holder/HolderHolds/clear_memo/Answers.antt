use Rattle.words_holder.proofs.Holding.{cleared_on}
use Rattle.words_holder.proofs.holder.HolderHolds.clear_memo.Goals as goal

pub returns-clause-own : goal.returns-clause-own
returns-clause-own g c = let s = c.args.self.now in cleared_on s.guard.now s.pass s.pass s.list s.memo s.due c.requires.own c.clear.new.self c.clear.ensures.empty c.clear.ensures.places
