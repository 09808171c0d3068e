use Rattle.zdd_ops.proofs.QuotientSteps.{Quotient-keeps}
use Rattle.zdd_ops.proofs.quotients.DivisionApply.key.Goals as goal

pub returns : goal.returns
returns g c = λ w d. Quotient-keeps c.args.self.now.p c.args.self.now.q c.args.task c.key_of.result w c.key_of.ensures d
