use Rattle.std.proofs.Common.{ap, arith}
use Rattle.words_holder.specs.Holders.{knows}
use Rattle.words_holder.proofs.Holding.{head_loaded_on}
use Rattle.words_holder.proofs.Telling.{whole_told}
use Rattle.words_rule.specs.Passes.{view}
use Rattle.words_rule.proofs.HandClauses.{stands_at}
use Rattle.words_rule.proofs.Steppers.{link_few}
use Rattle.words_holder.proofs.holder.HolderHolds.load_head.Goals as goal

pub load_whole-requires-clause-has : goal.load_whole-requires-clause-has
load_whole-requires-clause-has g c = stands_at (view c.args.self.now.pass).hand.levels c.args.level c.requires.has

pub overflow_cast-result : goal.overflow_cast-result
overflow_cast-result g c = let l = c.load_whole.ensures.loaded in let few = link_few (view c.args.self.now.pass).draws.slots l.0 l.3.chained in let most = c.requires.own.has.knows_all.sound.few_slots in let is = l.2 in omega (arith, few, most, is)

pub returns-clause-own : goal.returns-clause-own
returns-clause-own g c = let s = c.args.self.now in head_loaded_on s.guard.now s.pass c.load_whole.new.pass s.list s.memo s.due c.requires.own c.load_whole.ensures.own c.args.head c.args.level c.load_whole.result c.requires.within c.load_whole.ensures.loaded

pub returns-clause-loaded : goal.returns-clause-loaded
returns-clause-loaded g c = let s = c.args.self.now in let l = c.load_whole.ensures.loaded in (l.0, ap (λ m. knows m.0 s.renewed s.due s.lent) l.1, l.2, whole_told (view s.pass) s.renewed s.due s.lent c.args.head c.args.level l.0 c.requires.own.has.knows_all l.3)
