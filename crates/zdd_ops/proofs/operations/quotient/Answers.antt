use Rattle.zdd_ops.proofs.CallLaws.{ok_only, quotient_members}
use Rattle.zdd_ops.proofs.operations.quotient.Goals as goal

pub returns-clause-members : goal.returns-clause-members
returns-clause-members g c =
    ok_only _ _ c.without_overflow.result c.without_overflow.ensures (quotient_members _ _ c.args.p c.args.q c.in_scratch.result c.requires c.in_scratch.ensures.answer)
