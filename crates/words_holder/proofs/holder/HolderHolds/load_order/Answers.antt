use Rattle.std.proofs.Common.{◌∙◌, ap, arith}
use Rattle.words_holder.specs.Holders.{dues_in, knows, pending_of}
use Rattle.words_holder.proofs.Holding.{same_on}
use Rattle.words_holder.proofs.Telling.{number_few}
use Rattle.words_rule.specs.HeldContents.{held_content}
use Rattle.words_rule.specs.Passes.{view}
use Rattle.words_rule.specs.Shapes.{shape_in}
use Rattle.words_rule.proofs.HandClauses.{none_back}
use Rattle.words_holder.proofs.holder.HolderHolds.load_order.Goals as goal

pub load_position-requires-clause-settled : goal.load_position-requires-clause-settled
load_position-requires-clause-settled g c = let s = c.args.self.now in c.requires.own.has.pending ∙ ap (dues_in (shape_in (view s.pass).draws)) (none_back pending_of s.due c.requires.settled)

pub overflow_cast-result : goal.overflow_cast-result
overflow_cast-result g c = let s = c.args.self.now in let few = number_few (held_content (view s.pass)) c.requires.own.has.knows_all.sound c.args.order c.args.level c.requires.within in let is = c.load_position.ensures.there in omega (arith, few, is)

pub returns-clause-own : goal.returns-clause-own
returns-clause-own g c = let s = c.args.self.now in same_on s.guard.now s.pass c.load_position.new.pass s.list s.memo s.due c.requires.own c.load_position.ensures.own c.load_position.ensures.same

pub returns-clause-same : goal.returns-clause-same
returns-clause-same g c = let s = c.args.self.now in ap (λ m. knows m.0 s.renewed s.due s.lent) c.load_position.ensures.same
