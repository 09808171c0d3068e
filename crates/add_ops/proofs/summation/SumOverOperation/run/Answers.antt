use Rattle.edge_bits.specs.declared.edges.Kind.TheVariants.{Add}
use Rattle.node_store.specs.ViewLaws.{Grown-trans, Permanent-grown}
use Rattle.node_store.specs.Work.{whole}
use Rattle.node_store.proofs.Running.{after_kept, runs, same_answer}
use Rattle.add_ops.specs.SumLasts.{HasSum-grown, sum-overflows, summed_at-grown, value_of_sum-back}
use Rattle.add_ops.proofs.summation.SumOverOperation.run.Goals as goal

pub evaluate-requires-clause-due : goal.evaluate-requires-clause-due
evaluate-requires-clause-due g c =
    let e = c.two.ensures in let p = c.projection-projection.ensures in let m = p.kept.grown in let d = HasSum-grown m c.requires.asks in record {
      projection = p.projection.denotes;
      permanent = Permanent-grown m c.requires.permanent;
      root = d;
      edge = rw e.f d.edge;
      part = rw e.f whole;
    }

pub returns-clause-runs : goal.returns-clause-runs
returns-clause-runs g c =
    let f = c.args.self.f in let v = c.args.self.var in let r = c.evaluate.ensures in let p = c.projection-projection.ensures in
    let d = HasSum-grown p.kept.grown c.requires.asks in
    let m = Grown-trans p.kept.grown r.moved.moves.grown in
    after_kept p.kept (runs r.moved.moves d (λ F is. value_of_sum-back f v _ _ F m c.requires.asks is)
    (same_answer Add _ _ _ (summed_at-grown v m c.requires.asks.edge) c.evaluate.result (rw c.two.ensures.f at r.answer)) (λ over. sum-overflows f v m c.requires.asks (rw c.two.ensures.f at r.overflow over)) r.memory r.full r.due)
