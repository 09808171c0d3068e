use Rattle.std.proofs.Common.{◌≡◌, map, take, None}
use Rattle.job_commands.specs.Commands.{form_in}
use Rattle.job_commands.specs.Slots.{form_of}
use Rattle.job_commands.proofs.commands.find_command.Given as goal

abbrev pub invariant-loop-command : goal.invariant-loop-command
invariant-loop-command l = form_in (map form_of (take l.command-index l.commands)) l.word ≡ None
