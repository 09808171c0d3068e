use Rattle.std.proofs.Common.{◌<◌, None, ap, inr, subst, sym}
use mathlib.Core.Logic.{dite}
use native.Mathlib.Decide.{ℕ_discrete}
use Rattle.words_holder.specs.Holders.{knows}
use Rattle.words_holder.specs.HolderLaws.{holder_stands}
use Rattle.words_holder.proofs.Holding.{head_pushed_on, same_view_on}
use Rattle.words_holder.proofs.Telling.{head_below, head_noted}
use Rattle.words_rule.specs.HeldContents.{held_bits}
use Rattle.words_rule.specs.Layout.{heads}
use Rattle.words_rule.specs.Passes.{view}
use Rattle.words_rule.specs.Shapes.{shape_in}
use Rattle.words_rule.proofs.Steppers.{link_back}
use Rattle.words_holder.proofs.holder.HolderHolds.push_head.Goals as goal

pub push_head-found-requires-clause-within : goal.push_head-found-requires-clause-within
push_head-found-requires-clause-within g c = let s = c.args.self.now in let z = shape_in (view s.pass).draws in subst (λ n. n < heads z) (sym c.requires.head) (head_below (held_bits (view s.pass) c.args.slot) (heads z) (holder_stands s c.requires.own).some_heads)

pub push_head-found-requires-clause-linked : goal.push_head-found-requires-clause-linked
push_head-found-requires-clause-linked g c = link_back (view c.args.self.now.pass).hand c.args.slot c.args.link c.requires.linked

pub push_head-found-requires-clause-share : goal.push_head-found-requires-clause-share
push_head-found-requires-clause-share g c = inr c.requires.own.has.order

pub push_head-found-requires-clause-noted : goal.push_head-found-requires-clause-noted
push_head-found-requires-clause-noted g c = let s = c.args.self.now in head_noted (view s.pass) c.requires.own.has.knows_all c.args.slot c.args.head (c.requires.own.has.loose c.args.slot c.requires.loose) c.requires.head

pub returns-then-found-link-clause-own : goal.returns-then-found-link-clause-own
returns-then-found-link-clause-own g c = let s = c.args.self.now in let e = c.push_head-found.ensures in same_view_on s.guard.now s.pass c.push_head-found.new.pass s.list s.memo s.due c.requires.own e.own.0 e.own.1 (e.missed (λ hit. c.if-found-link.true (c.found_link-found.ensures.other hit)))

pub returns-clause-own : goal.returns-clause-own
returns-clause-own g c = let s = c.args.self.now in let e = c.push_head-found.ensures in head_pushed_on s.guard.now s.pass c.push_head-found.new.pass s.list s.memo s.due c.requires.own e.own.0 e.own.1 (e.done (c.found_link-found.ensures.same c.if-found-link.false))
