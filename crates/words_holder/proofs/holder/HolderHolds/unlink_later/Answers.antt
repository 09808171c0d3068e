use Rattle.std.proofs.Common.{None, ap}
use Rattle.words_holder.specs.Holders.{knows}
use Rattle.words_holder.proofs.Holding.{behind_told, can_unlink, loosened_on, used_within}
use Rattle.words_rule.specs.Passes.{view}
use Rattle.words_holder.proofs.holder.HolderHolds.unlink_later.Goals as goal

pub unlink_later-requires-clause-within : goal.unlink_later-requires-clause-within
unlink_later-requires-clause-within g c =
    let s = c.args.self.now in
    let t = c.requires.turn in (
      (behind_told s.guard.now s.pass s.pass s.list s.memo s.due c.requires.own s.lent c.args.before c.args.slot c.args.link c.requires.later c.requires.link).0,
      used_within (view s.pass) c.requires.own.has.knows_all c.args.slot (t.0, t.1),
    )

pub unlink_later-requires-clause-can : goal.unlink_later-requires-clause-can
unlink_later-requires-clause-can g c = let s = c.args.self.now in let t = c.requires.turn in can_unlink s.guard.now s.pass s.pass s.list s.memo s.due c.requires.own c.args.slot c.requires.calm t.0 t.1 t.2

pub unlink_later-requires-clause-behind : goal.unlink_later-requires-clause-behind
unlink_later-requires-clause-behind g c = let s = c.args.self.now in (behind_told s.guard.now s.pass s.pass s.list s.memo s.due c.requires.own s.lent c.args.before c.args.slot c.args.link c.requires.later c.requires.link).1

pub returns-clause-own : goal.returns-clause-own
returns-clause-own g c = let s = c.args.self.now in let e = c.unlink_later.ensures in let t = c.requires.turn in loosened_on s.guard.now s.pass c.unlink_later.new.pass s.list s.memo s.due c.requires.own e.own.0 e.own.1 c.args.slot (used_within (view s.pass) c.requires.own.has.knows_all c.args.slot (t.0, t.1)) e.off

pub returns-clause-off : goal.returns-clause-off
returns-clause-off g c = let s = c.args.self.now in ap (λ v. knows v None s.due s.lent) c.unlink_later.ensures.off
