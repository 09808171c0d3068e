use Rattle.std.proofs.Common.{◌≤◌, length, ℕ}
use Rattle.blif_models.specs.Layouts.{IsRanked, counted, laid_whole, main_table, model_at}
use Rattle.blif_models.specs.SpotsApart.{AreEnough, copies_over}
use Rattle.blif_models.specs.Unfinished.{AreFresh, AreMore, LayoutIs, steps_left}
use Rattle.blif_models.proofs.layout.lay_out.Given as goal

abbrev pub invariant-loop-frame : goal.invariant-loop-frame
invariant-loop-frame l = record {
  layout : (rank : ℕ → ℕ) → IsRanked l.models rank → rank l.main ≤ length l.models → LayoutIs l.models (counted l.copies l.signals) rank (length l.models) (laid_whole l.models (counted l.copies l.signals) (length l.models) l.main) l.layout;
  spots : AreMore (main_table l.main (model_at l.models l.main).names) l.layout.spots.items;
  fresh : AreEnough l.models l.copies → AreFresh l.models l.copies (copies_over l.copies (model_at l.models l.main).entries) l.layout.spots.items l.layout.stack.items;
}

abbrev pub decreases-loop-frame : goal.decreases-loop-frame
decreases-loop-frame l = steps_left l.models (length l.models) l.layout.stack.items
