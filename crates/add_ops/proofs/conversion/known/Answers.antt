use Rattle.add_ops.proofs.ConversionLaws.{if_some}
use Rattle.add_ops.proofs.conversion.known.Goals as goal

pub memo_get-requires : goal.memo_get-requires
memo_get-requires g c = c.in-Some.ensures.is_key _ c.requires

pub returns-in-Some-clause-known : goal.returns-in-Some-clause-known
returns-in-Some-clause-known g c = if_some _ _ c.memo_get.result (c.in-Some.ensures.hit _) c.memo_get.ensures.hit
