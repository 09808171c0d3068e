use Rattle.std.proofs.Common.{◌≡◌, ◌<◌, ◌∙◌, None, ap, length, subst}
use Rattle.function_laws.specs.Sizes.{in_order}
use Rattle.words_holder.specs.Holders.{dues_in, knows, pending_of}
use Rattle.words_holder.proofs.Holding.{due_stored_on}
use Rattle.words_holder.proofs.Telling.{none_left}
use Rattle.words_rule.specs.Exchanges.{position}
use Rattle.words_rule.specs.Hands.{without_level}
use Rattle.words_rule.specs.Passes.{view}
use Rattle.words_rule.specs.Shapes.{shape_in}
use Rattle.words_rule.specs.Views.{orders_of}
use Rattle.words_rule.proofs.HandClauses.{some_back}
use Rattle.words_holder.proofs.holder.HolderHolds.store_lower.Goals as goal

pub store_position-requires-clause-hold : goal.store_position-requires-clause-hold
store_position-requires-clause-hold g c = (c.requires.own.has.full, c.requires.own.has.taken)

pub store_position-requires-clause-within : goal.store_position-requires-clause-within
store_position-requires-clause-within g c =
    let s = c.args.self.now in
    let d = some_back pending_of s.due _ c.requires.due in
    subst (λ p. p.level < length (in_order (orders_of (view s.pass).known) p.order)) d.2 (c.requires.own.has.due_within d.0 d.1)

pub returns-clause-own : goal.returns-clause-own
returns-clause-own g c =
    let s = c.args.self.now in
    let e = c.store_position.ensures in
    let d = some_back pending_of s.due _ c.requires.due in
    let z = shape_in (view s.pass).draws in
    due_stored_on s.guard.now s.pass c.store_position.new.pass s.list s.memo s.due c.requires.own e.own.0 e.own.1 (without_level (position z c.args.order c.args.level) (view s.pass).known.pending) _
    (none_left z c.args.order c.args.level d.0 (ap (λ p. p.order) d.2, ap (λ p. p.level) d.2) (view s.pass).known.pending (c.requires.own.has.pending ∙ ap (dues_in z) d.1)) e.stored

pub returns-clause-stored : goal.returns-clause-stored
returns-clause-stored g c = let s = c.args.self.now in ap (λ v. knows v s.renewed None s.lent) c.store_position.ensures.stored
