use Rattle.std.proofs.Common.{None, ap}
use Rattle.words_holder.specs.Holders.{knows}
use Rattle.words_holder.proofs.Holding.{can_unlink, front_told, loosened_on, used_within}
use Rattle.words_rule.specs.Passes.{view}
use Rattle.words_holder.proofs.holder.HolderHolds.unlink_first.Goals as goal

pub unlink_first-requires-clause-within : goal.unlink_first-requires-clause-within
unlink_first-requires-clause-within g c =
    let s = c.args.self.now in
    let t = c.requires.turn in (
      (front_told s.guard.now s.pass s.pass s.list s.memo s.due c.requires.own s.lent c.args.head c.args.slot c.args.link c.requires.first c.requires.link).0,
      used_within (view s.pass) c.requires.own.has.knows_all c.args.slot (t.0, t.1),
    )

pub unlink_first-requires-clause-can : goal.unlink_first-requires-clause-can
unlink_first-requires-clause-can g c = let s = c.args.self.now in let t = c.requires.turn in can_unlink s.guard.now s.pass s.pass s.list s.memo s.due c.requires.own c.args.slot c.requires.calm t.0 t.1 t.2

pub unlink_first-requires-clause-front : goal.unlink_first-requires-clause-front
unlink_first-requires-clause-front g c = let s = c.args.self.now in (front_told s.guard.now s.pass s.pass s.list s.memo s.due c.requires.own s.lent c.args.head c.args.slot c.args.link c.requires.first c.requires.link).1

pub returns-clause-own : goal.returns-clause-own
returns-clause-own g c = let s = c.args.self.now in let e = c.unlink_first.ensures in let t = c.requires.turn in loosened_on s.guard.now s.pass c.unlink_first.new.pass s.list s.memo s.due c.requires.own e.own.0 e.own.1 c.args.slot (used_within (view s.pass) c.requires.own.has.knows_all c.args.slot (t.0, t.1)) e.off

pub returns-clause-off : goal.returns-clause-off
returns-clause-off g c = let s = c.args.self.now in ap (λ v. knows v None s.due s.lent) c.unlink_first.ensures.off
