use Rattle.std.proofs.Common.{false}
use Rattle.words_holder.proofs.Holding.{pinned_on, pinned_within}
use Rattle.words_holder.proofs.Telling.{pinned_told}
use Rattle.words_rule.specs.HeldContents.{numbers_without}
use Rattle.words_rule.specs.Passes.{view}
use Rattle.words_holder.proofs.holder.HolderHolds.unpin_count.Goals as goal

pub unpin_slot-requires-clause-within : goal.unpin_slot-requires-clause-within
unpin_slot-requires-clause-within g c = pinned_within (view c.args.self.now.pass) c.requires.own.has.knows_all c.args.slot c.requires.pinned

pub returns-clause-own : goal.returns-clause-own
returns-clause-own g c = let s = c.args.self.now in let e = c.unpin_slot.ensures in pinned_on s.guard.now s.pass c.unpin_slot.new.pass s.list s.memo s.due c.requires.own e.own.0 e.own.1 c.args.slot false (numbers_without c.args.slot (view s.pass).counts.pins) _ e.unpinned

pub returns-clause-unpinned : goal.returns-clause-unpinned
returns-clause-unpinned g c = let s = c.args.self.now in pinned_told (view s.pass) (view c.unpin_slot.new.pass) s.renewed s.due s.lent c.args.slot false (numbers_without c.args.slot (view s.pass).counts.pins) _ c.unpin_slot.ensures.unpinned
