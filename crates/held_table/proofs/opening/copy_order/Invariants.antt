use Rattle.std.proofs.Common.{◌≡◌, take}
use Rattle.function_laws.specs.Sizes.{in_order}
use Rattle.node_slots.specs.Held.{held_view}
use Rattle.held_table.proofs.opening.copy_order.Given as goal

abbrev pub invariant-loop-level : goal.invariant-loop-level
invariant-loop-level l = record {
  same : (held_view l.store).orders ≡ (held_view l.fn.store).orders;
  at : l.at.items ≡ take l.level (in_order (held_view l.fn.store).orders l.order);
}
