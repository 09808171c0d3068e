use Rattle.std.proofs.Common.{ap}
use Rattle.words_holder.specs.Holders.{knows}
use Rattle.words_holder.proofs.Holding.{same_on}
use Rattle.words_holder.proofs.holder.HolderHolds.load_node.Goals as goal

pub returns-clause-own : goal.returns-clause-own
returns-clause-own g c = let s = c.args.self.now in same_on s.guard.now s.pass c.load_held.new.pass s.list s.memo s.due c.requires.own c.load_held.ensures.own c.load_held.ensures.same

pub returns-clause-same : goal.returns-clause-same
returns-clause-same g c = let s = c.args.self.now in ap (λ m. knows m.0 s.renewed s.due s.lent) c.load_held.ensures.same
