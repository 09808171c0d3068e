use Rattle.std.proofs.Common.{◌≡◌, ℕ, length, take, true, if◌then◌else◌}
use Rattle.blif_order.specs.Orders.{is_in}
use Rattle.blif_drafts.specs.Signals.{is_marked}
use Rattle.blif_wholes.specs.Uses.{signals_laid}
use Rattle.blif_wholes.proofs.uses.mark_laid.Given as goal

abbrev pub invariant-loop-one : goal.invariant-loop-one
invariant-loop-one l = record {
  many : length l.marks.items ≡ length l.initial.marks.items;
  marks : (n : ℕ) → is_marked l.marks.items n ≡ (if is_in (signals_laid (take l.one-index l.laid)) n then true else is_marked l.initial.marks.items n);
}
