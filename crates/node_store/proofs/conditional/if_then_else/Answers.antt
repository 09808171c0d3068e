use Rattle.std.proofs.Common.{inl}
use Rattle.node_store.specs.Work.{whole}
use Rattle.node_store.specs.ThreeLaws.{ite_at-grown, value_of_three-back}
use Rattle.node_store.proofs.Running.{runs, same_answer, same_scratch}
use Rattle.node_store.proofs.conditional.if_then_else.Goals as goal

pub evaluate-requires-clause-due : goal.evaluate-requires-clause-due
evaluate-requires-clause-due g c = record { permanent = c.requires.permanent; roots = c.requires.operands; three = c.requires.operands; part = inl whole }

pub returns-clause-runs : goal.returns-clause-runs
returns-clause-runs g c =
    let k = g.O.IfThenElse.kind in let r = c.evaluate.ensures in
    let m = r.moved.moves.grown in
    runs r.moved.moves c.requires.operands (λ F is. value_of_three-back k c.args.f c.args.g c.args.h _ _ F m c.requires.operands is)
    (same_answer k _ _ _ (ite_at-grown k m c.requires.operands) c.evaluate.result r.answer) (λ over. absurd (r.overflow over)) r.memory r.full r.due

pub returns-clause-stack : goal.returns-clause-stack
returns-clause-stack g c = let r = c.evaluate.ensures in same_scratch _ _ r.frames r.free r.moved.known r.moved.marks
