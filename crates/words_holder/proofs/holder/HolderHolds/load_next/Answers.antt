use Rattle.std.proofs.Common.{◌∙◌, ap, arith}
use Rattle.words_holder.specs.Holders.{knows}
use Rattle.words_holder.proofs.Holding.{next_few, same_on, walk_within}
use Rattle.words_rule.specs.Passes.{view}
use Rattle.words_rule.proofs.NodeLoads.{walk_in}
use Rattle.words_holder.proofs.holder.HolderHolds.load_next.Goals as goal

pub load_next-requires-clause-within : goal.load_next-requires-clause-within
load_next-requires-clause-within g c = let s = c.args.self.now in let on = c.requires.on in walk_within s.guard.now s.pass s.pass s.list s.memo s.due c.requires.own on.0 on.1 c.args.slot on.2

pub overflow_cast-result : goal.overflow_cast-result
overflow_cast-result g c = let s = c.args.self.now in let few = next_few s.guard.now s.pass s.pass s.list s.memo s.due c.requires.own c.args.slot c.load_next.result c.requires.on c.load_next.ensures.next in let most = c.requires.own.has.knows_all.sound.few_slots in omega (arith, few, most)

pub returns-clause-own : goal.returns-clause-own
returns-clause-own g c = let s = c.args.self.now in same_on s.guard.now s.pass c.load_next.new.pass s.list s.memo s.due c.requires.own c.load_next.ensures.own c.load_next.ensures.same

pub returns-clause-same : goal.returns-clause-same
returns-clause-same g c = let s = c.args.self.now in ap (λ m. knows m.0 s.renewed s.due s.lent) c.load_next.ensures.same

pub returns-clause-next : goal.returns-clause-next
returns-clause-next g c = λ n front behind walk parts. let m = walk_in (view c.args.self.now.pass).hand.walk n walk in c.load_next.ensures.next m.0 front behind m.1 (ap (λ x. x.rest) m.2 ∙ parts)
