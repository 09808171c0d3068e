use Rattle.std.proofs.Common.{◌≡◌, false}
use Rattle.group_sift.specs.Turns.{last_end}
use Rattle.node_slots.specs.Stores.{is_held}
use Rattle.hold_times.proofs.holds.over_store.Given as goal

abbrev pub invariant-loop : goal.invariant-loop
invariant-loop l = record {
  idle : is_held l.store ≡ false;
  end : last_end 0 l.blocks ≡ l.end;
}
