use Rattle.edge_bits.specs.declared.edges.Kind.TheVariants.{Zdd}
use Rattle.node_store.specs.RememberingLaws.{Knows-nothing}
use Rattle.node_store.specs.Work.{whole}
use Rattle.node_store.proofs.Running.{runs, same_answer}
use Rattle.zdd_ops.specs.Subsets.{SubsetAnswers, SubsetDue, subset_at-grown, subset_work-back}
use Rattle.zdd_ops.proofs.subsets.OneElementOperation.run.Goals as goal

pub evaluate-requires-clause-due : goal.evaluate-requires-clause-due
evaluate-requires-clause-due g c =
    let o = g.O.ByElement in let p = c.args.self.family in let v = c.args.self.element in let e = c.two-task.ensures in (
      record { permanent = c.requires.permanent; element = c.requires.asks.element; of_root = c.requires.asks.family; family = rw e.f c.requires.asks.family; is_part = rw e.f whole },
      Knows-nothing (SubsetDue o.part v p) (SubsetAnswers o.part v) (g.G.Grow.view c.args.store.now) c.args.stack.now.answers c.requires.blank,
    )

pub returns-clause-runs : goal.returns-clause-runs
returns-clause-runs g c =
    let o = g.O.ByElement in let p = c.args.self.family in let v = c.args.self.element in let r = c.evaluate.ensures in
    let m = r.moved.moves.grown in
    runs r.moved.moves c.requires.asks.family (λ F is. subset_work-back o.part v p _ _ F m c.requires.asks is)
    (same_answer Zdd _ _ _ (subset_at-grown o.part v p _ _ m c.requires.asks.family) c.evaluate.result (rw c.two-task.ensures.f at r.answer)) r.overflow r.memory r.full r.due
