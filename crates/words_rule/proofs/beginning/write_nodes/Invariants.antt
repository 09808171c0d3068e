use Rattle.std.proofs.Common.{◌≡◌, length}
use Rattle.words_rule.specs.Shapes.{shape_by}
use Rattle.words_rule.proofs.NewTables.{AreWritten}
use Rattle.words_rule.proofs.beginning.write_nodes.Given as goal

abbrev pub invariant-loop-slot : goal.invariant-loop-slot
invariant-loop-slot l = record { long : length l.words.items ≡ length l.initial.words.items; written : AreWritten (shape_by l.sizes) l.initial.words.items l.words.items l.slot }
