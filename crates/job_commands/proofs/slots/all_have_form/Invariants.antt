use Rattle.std.proofs.Common.{◌≡◌, length}
use Rattle.std.specs.List.{list_all}
use Rattle.job_commands.specs.Commands.{has_form}
use Rattle.job_commands.specs.Slots.{slots_of}
use Rattle.job_commands.proofs.slots.all_have_form.Given as goal

abbrev pub invariant-loop-slot : goal.invariant-loop-slot
invariant-loop-slot l = list_all has_form (slots_of l.slots) ≡ list_all has_form (slots_of l.rest)

abbrev pub decreases-loop-slot : goal.decreases-loop-slot
decreases-loop-slot l = length (slots_of l.rest)
