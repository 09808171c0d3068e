use Rattle.std.proofs.Common.{◌<◌, ap, subst}
use Rattle.words_holder.specs.Holders.{knows}
use Rattle.words_holder.proofs.Holding.{turn_taken_on, turns_same}
use Rattle.words_rule.specs.Passes.{view}
use Rattle.words_holder.proofs.holder.HolderHolds.take_turn.Goals as goal

pub take_turn-requires-clause-within : goal.take_turn-requires-clause-within
take_turn-requires-clause-within g c = subst (λ n. c.args.level < n) (turns_same (view c.args.self.now.pass) c.requires.own.has.knows_all) c.requires.within

pub returns-clause-own : goal.returns-clause-own
returns-clause-own g c = let s = c.args.self.now in let e = c.take_turn.ensures in turn_taken_on s.guard.now s.pass c.take_turn.new.pass s.list s.memo s.due c.requires.own e.own.0 e.own.1 c.args.level c.requires.within c.take_turn.result e.taken e.missed

pub returns-clause-taken : goal.returns-clause-taken
returns-clause-taken g c = λ is. let s = c.args.self.now in ap (λ v. knows v s.renewed s.due s.lent) (c.take_turn.ensures.taken is)

pub returns-clause-missed : goal.returns-clause-missed
returns-clause-missed g c = λ is. let s = c.args.self.now in ap (λ v. knows v s.renewed s.due s.lent) (c.take_turn.ensures.missed is)
