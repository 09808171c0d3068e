use Rattle.std.proofs.Common.{true, ◌∷◌}
use Rattle.words_holder.proofs.Holding.{pinned_on}
use Rattle.words_holder.proofs.Telling.{pinned_told}
use Rattle.words_rule.specs.Passes.{view}
use Rattle.words_holder.proofs.holder.HolderHolds.pin_count.Goals as goal

pub returns-clause-own : goal.returns-clause-own
returns-clause-own g c = let s = c.args.self.now in let e = c.pin_slot.ensures in pinned_on s.guard.now s.pass c.pin_slot.new.pass s.list s.memo s.due c.requires.own e.own.0 e.own.1 c.args.slot true (c.args.slot ∷ (view s.pass).counts.pins) _ e.pinned

pub returns-clause-pinned : goal.returns-clause-pinned
returns-clause-pinned g c = let s = c.args.self.now in pinned_told (view s.pass) (view c.pin_slot.new.pass) s.renewed s.due s.lent c.args.slot true (c.args.slot ∷ (view s.pass).counts.pins) _ c.pin_slot.ensures.pinned
