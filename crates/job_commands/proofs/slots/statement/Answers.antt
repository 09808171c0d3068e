use Rattle.std.proofs.Common.{[], ◌∙◌}
use Rattle.job_commands.specs.Commands.{telling}
use Rattle.job_words.specs.Text.{split_words}
use Rattle.job_commands.proofs.Filling.{filled_is}
use Rattle.job_commands.proofs.slots.statement.Goals as goal

pub returns : goal.returns
returns c = c.filled.ensures ∙ filled_is telling [] c.args.command.now (λ known. split_words c.args.words.now) c.in-Some.command c.in-Some.ensures
