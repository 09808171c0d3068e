use Rattle.std.proofs.Common.{ap, inr}
use Rattle.words_holder.specs.Holders.{knows}
use Rattle.words_holder.proofs.Holding.{link_stored_on}
use Rattle.words_holder.proofs.holder.HolderHolds.store_next.Goals as goal

pub store_next-requires-clause-within : goal.store_next-requires-clause-within
store_next-requires-clause-within g c = c.requires.own.has.loose c.args.slot c.requires.loose

pub store_next-requires-clause-owns : goal.store_next-requires-clause-owns
store_next-requires-clause-owns g c = inr c.requires.loose

pub returns-clause-own : goal.returns-clause-own
returns-clause-own g c = let s = c.args.self.now in let e = c.store_next.ensures in link_stored_on s.guard.now s.pass c.store_next.new.pass s.list s.memo s.due c.requires.own e.own.0 e.own.1 c.args.slot c.args.link e.stored

pub returns-clause-stored : goal.returns-clause-stored
returns-clause-stored g c = let s = c.args.self.now in ap (λ v. knows v s.renewed s.due s.lent) c.store_next.ensures.stored
