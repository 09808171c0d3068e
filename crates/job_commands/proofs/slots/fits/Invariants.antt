use Rattle.std.proofs.Common.{◌≡◌, is_some, length}
use Rattle.job_commands.specs.Commands.{filled}
use Rattle.job_words.specs.Text.{split_words}
use Rattle.job_commands.proofs.slots.fits.Given as goal

abbrev pub invariant-loop-after : goal.invariant-loop-after
invariant-loop-after l =
    is_some (filled l.command.places.now l.command.repeated.now (split_words l.words)) ≡ is_some (filled l.due l.command.repeated.now (split_words l.rest))

abbrev pub decreases-loop-after : goal.decreases-loop-after
decreases-loop-after l = length (split_words l.rest)
