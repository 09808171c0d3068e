use Rattle.std.proofs.Common.{ap, sym, ◌∙◌}
use Rattle.job_commands.specs.Commands.{command_of}
use Rattle.job_words.specs.Text.{is_assignment, split_words}
use Rattle.job_commands.proofs.Forms.{telling_is}
use Rattle.job_commands.proofs.slots.command_line.Goals as goal

pub returns-in-None : goal.returns-in-None
returns-in-None c =
    let first = c.as_command.result.0.now in
    let rest = split_words c.as_command.result.1.now in
    let same = c.as_command.ensures in
    c.statement.ensures ∙ sym (ap command_of same ∙ telling_is first rest (sym (ap is_assignment same) ∙ c.in-None.ensures))

pub returns-in-Some : goal.returns-in-Some
returns-in-Some c =
    let line = c.in-Some.ensures in
    c.assignment.ensures line.0 line.1 line.3 ∙ sym (ap command_of line.2)
