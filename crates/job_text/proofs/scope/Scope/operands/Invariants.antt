use Rattle.std.proofs.Common.{◌≡◌, ◌++◌, List, true, length}
use Rattle.std.specs.List.{list_all}
use Rattle.job_commands.specs.declared.commands.Place.{Place}
use Rattle.job_commands.specs.Commands.{has_form}
use Rattle.job_commands.specs.Slots.{slots_of}
use Rattle.job_words.specs.Text.{Word}
use Rattle.job_text.specs.declared.operands.Operand.{Operand}
use Rattle.job_commands.specs.Commands.{no_operands}
use Rattle.job_text.specs.Places.{AllFit, with_operands}
use Rattle.job_text.specs.Drafts.{AreOperands}
use Rattle.job_text.proofs.scope.Scope.operands.Given as goal

abbrev pub invariant-loop-slot : goal.invariant-loop-slot
invariant-loop-slot l =
    (front : List (Place × Word)) × (each : List Operand) × (slots_of l.slots ≡ front ++ slots_of l.left) × (list_all has_form (slots_of l.left) ≡ true)
    × AreOperands l.self.counts l.self.registers front each × AllFit l.self.counts l.self.registers no_operands each × (l.operands ≡ with_operands l.self.registers no_operands each)

abbrev pub decreases-loop-slot : goal.decreases-loop-slot
decreases-loop-slot l = length (slots_of l.left)
