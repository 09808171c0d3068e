use Rattle.std.proofs.Common.{map, ap, sym, ◌∙◌}
use Rattle.std.proofs.lemmas.List.{take_all}
use Rattle.job_commands.specs.Commands.{form_in}
use Rattle.job_commands.specs.Slots.{form_of}
use Rattle.job_commands.proofs.Filling.{found_here, none_here}
use Rattle.job_commands.proofs.commands.find_command.Goals as goal

pub loop-command-preserved : goal.loop-command-preserved
loop-command-preserved c =
    none_here c.args.commands.now c.args.word.now c.loop-command.command-index _ c.loop-command-test.true c.loop-command.invariant (sym c.eq.ensures ∙ c.if-eq.false)

pub returns-then-eq : goal.returns-then-eq
returns-then-eq c =
    sym (found_here c.args.commands.now c.args.word.now c.loop-command.command-index _ c.loop-command-test.true c.loop-command.invariant (sym c.eq.ensures ∙ c.if-eq.true))

pub returns : goal.returns
returns c =
    sym c.loop-command.invariant ∙ ap (λ t. form_in (map form_of t) c.args.word.now) (take_all c.loop-command.command-index c.args.commands.now c.loop-command-test.false)
