use Rattle.node_store.specs.RememberingLaws.{Knows-nothing}
use Rattle.node_store.specs.Work.{whole}
use Rattle.node_store.proofs.Running.{runs, same_answer}
use Rattle.add_ops.specs.Conversions.{OneAnswers, OneDue}
use Rattle.add_ops.specs.ConversionLasts.{converted_at-grown, value_of_one-back}
use Rattle.add_ops.proofs.conversion.RememberedOperandOperation.run.Goals as goal

pub evaluate-requires-clause-due : goal.evaluate-requires-clause-due
evaluate-requires-clause-due g c =
    let o = g.C.Conversion in let op = o.op c.args.self.0.op in let e = c.two-task.ensures in (
      record { permanent = c.requires.permanent; root = c.requires.asks; edge = rw e.f c.requires.asks; part = rw e.f whole },
      Knows-nothing (OneDue o.source o.target op c.args.self.0.f) (OneAnswers o.source o.target op) (g.G.Grow.view c.args.store.now) c.args.stack.now.answers c.requires.blank,
    )

pub returns-clause-runs : goal.returns-clause-runs
returns-clause-runs g c =
    let o = g.C.Conversion in let op = o.op c.args.self.0.op in let f = c.args.self.0.f in let r = c.evaluate.ensures in
    let m = r.moved.moves.grown in
    runs r.moved.moves c.requires.asks (λ F is. value_of_one-back o.source o.target op f _ _ F m c.requires.asks is)
    (same_answer o.target _ _ _ (converted_at-grown o.source o.target op m c.requires.asks) c.evaluate.result (rw c.two-task.ensures.f at r.answer)) r.overflow r.memory r.full r.due
