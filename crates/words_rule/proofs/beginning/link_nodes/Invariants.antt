use Rattle.std.proofs.Common.{◌≡◌, ◌-◌, length}
use Rattle.words_rule.specs.Shapes.{shape_by}
use Rattle.words_rule.specs.Beginnings.{AreLinked}
use Rattle.words_rule.proofs.FirstChains.{on_upto}
use Rattle.words_rule.proofs.beginning.link_nodes.Given as goal

abbrev pub invariant-loop-slot : goal.invariant-loop-slot
invariant-loop-slot l = record { long : length l.words.items ≡ length l.initial.words.items; linked : AreLinked (shape_by l.sizes) l.initial.words.items l.words.items (on_upto (l.slot - 3)) }
