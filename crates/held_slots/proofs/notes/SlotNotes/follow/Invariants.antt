use Rattle.std.proofs.Common.{◌≡◌, ℕ, ◌-◌, nat_eq, ◌^◌, Bool, false, length}
use Rattle.std.specs.Prelude.{if◌then◌else◌}
use Rattle.edge_bits.specs.Reading.{slots_of}
use Rattle.held_slots.specs.Linked.{AreLinked, Leads}
use Rattle.held_slots.proofs.notes.SlotNotes.follow.Given as goal

abbrev pub invariant-loop-link : goal.invariant-loop-link
invariant-loop-link l = (gathered : ℕ → Bool) (are : AreLinked (slots_of l.words) gathered l.self.chain.links l.self.chain.firsts l.self.chain.stale l.self.chain.cursor) → gathered l.var ≡ false
    → Leads (slots_of l.words) are.chain (length l.self.chain.links) l.var l.from l.initial.link → Leads (slots_of l.words) are.chain (length l.self.chain.links) l.var l.from l.link

abbrev pub decreases-loop-link : goal.decreases-loop-link
decreases-loop-link l = if nat_eq l.link 0 then 0 else 2 ^ 32 - l.link
