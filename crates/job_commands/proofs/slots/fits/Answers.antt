use Rattle.std.proofs.Common.{is_some, ap, ◌∙◌}
use Rattle.job_commands.specs.Commands.{filled}
use Rattle.job_words.specs.Text.{split_words}
use Rattle.job_commands.proofs.Filling.{fits_more}
use Rattle.job_commands.proofs.slots.fits.Goals as goal

pub loop-after-preserved : goal.loop-after-preserved
loop-after-preserved c =
    let due = c.loop-after.due.now in
    let repeated = c.args.command.repeated.now in
    c.loop-after.invariant
    ∙ ap (λ t. is_some (filled due repeated t)) c.in-Some.ensures.words
    ∙ fits_more due repeated (split_words c.in-Some.after.now) c.in-Some.field-0-0.now c.in-Some-next_place.field-0-0.now c.in-Some-next_place.behind.now c.in-Some-next_place.ensures
