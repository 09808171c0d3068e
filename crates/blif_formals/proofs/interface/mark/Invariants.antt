use Rattle.std.proofs.Common.{◌≡◌, ℕ, length, take, if◌then◌else◌}
use Rattle.blif_order.specs.Orders.{is_in}
use Rattle.blif_formals.specs.Joining.{port_of}
use Rattle.blif_formals.proofs.interface.mark.Given as goal

abbrev pub invariant-loop-number : goal.invariant-loop-number
invariant-loop-number l = record {
  many : length l.ports.items ≡ length l.initial.ports.items;
  ports : (n : ℕ) → port_of l.ports.items n ≡ (if is_in (take l.number-index l.numbers) n then l.port else port_of l.initial.ports.items n);
}
