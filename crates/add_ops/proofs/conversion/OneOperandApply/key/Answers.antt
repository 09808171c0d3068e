use Rattle.add_ops.proofs.ConversionLaws.{if_some}
use Rattle.add_ops.proofs.conversion.OneOperandApply.key.Goals as goal

pub returns : goal.returns
returns g c = if_some _ _ c.key.result (λ key of. λ w d. record { is_key = of.is_key w d.edge; holds = λ e a. of.memo w e d.edge a }) c.key.ensures
