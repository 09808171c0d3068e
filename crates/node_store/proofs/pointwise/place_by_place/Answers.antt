use Rattle.node_store.specs.Work.{whole}
use Rattle.node_store.specs.TwoLaws.{place_at-grown, overflows-back, value-back}
use Rattle.node_store.proofs.Running.{runs, same_answer, same_scratch}
use Rattle.node_store.proofs.pointwise.place_by_place.Goals as goal

pub evaluate-requires-clause-due : goal.evaluate-requires-clause-due
evaluate-requires-clause-due g c =
    let e = c.two.ensures in let r = c.requires.operands in
    record { permanent = c.requires.permanent; roots = r; two = record { first = rw e.f r.first; second = rw e.g r.second }; part = rw (e.f, e.g) whole }

pub returns-clause-runs : goal.returns-clause-runs
returns-clause-runs g c =
    let o = g.O.Pointwise in let e = c.two.ensures in let r = c.evaluate.ensures in
    let m = r.moved.moves.grown in
    let same = place_at-grown o.kind o.op m c.requires.operands in
    runs r.moved.moves c.requires.operands (λ F is. value-back o.kind o.op c.args.f c.args.g _ _ F m c.requires.operands is)
    (same_answer o.kind _ _ _ same c.evaluate.result (rw (e.f, e.g) at r.answer)) (λ over. overflows-back o.kind o.op m c.requires.operands (rw (e.f, e.g) at r.overflow over)) r.memory r.full r.due

pub returns-clause-stack : goal.returns-clause-stack
returns-clause-stack g c = let r = c.evaluate.ensures in same_scratch _ _ r.frames r.free r.moved.known r.moved.marks
