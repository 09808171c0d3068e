use Rattle.std.proofs.Common.{ap, sym, ◌∙◌}
use Rattle.job_commands.specs.declared.acts.Act.TheVariants as acts
use Rattle.job_commands.specs.Commands.{act_of}
use Rattle.job_commands.proofs.operands.Operands.take_act.Goals as goal

pub returns-in_ok-making-in-Makes : goal.returns-in_ok-making-in-Makes
returns-in_ok-making-in-Makes c = ap acts.Makes c.in_ok-making-in-Makes.ensures ∙ ap (λ opcode. act_of opcode c.args.self.now) (sym c.in-Makes.is)
