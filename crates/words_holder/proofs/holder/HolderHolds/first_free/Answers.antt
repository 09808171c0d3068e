use Rattle.std.proofs.Common.{◌∙◌, Some, ap, sym}
use Rattle.words_holder.specs.Holders.{knows}
use Rattle.words_holder.proofs.Holding.{first_none, first_some, lent_told}
use Rattle.words_rule.specs.Passes.{view}
use Rattle.words_holder.proofs.holder.HolderHolds.first_free.Goals as goal

pub returns-clause-some : goal.returns-clause-some
returns-clause-some g c = let s = c.args.self.now in let f = c.requires.free in first_some c.first.result s.list.slots (knows (view s.pass) s.renewed s.due s.lent).hand.free (f.1 ∙ ap Some (sym (lent_told s.guard.now s.pass s.pass s.list s.memo s.due c.requires.own s.lent.free f.0 f.1).2)) c.first.ensures.some

pub returns-clause-none : goal.returns-clause-none
returns-clause-none g c = let s = c.args.self.now in let f = c.requires.free in first_none c.first.result s.list.slots (knows (view s.pass) s.renewed s.due s.lent).hand.free (f.1 ∙ ap Some (sym (lent_told s.guard.now s.pass s.pass s.list s.memo s.due c.requires.own s.lent.free f.0 f.1).2)) c.first.ensures.none
