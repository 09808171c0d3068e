use Rattle.std.proofs.Common.{Ok, sym, subst}
use Rattle.edge_bits.specs.declared.edges.Edge.{Edge}
use Rattle.step_store.specs.declared.job.Job.TheVariants.{Node}
use Rattle.step_store.specs.Knowing.{Answers}
use Rattle.step_store.proofs.Answering.{child_answers, may_store, node_answers}
use Rattle.step_store.proofs.making.make.Goals as goal

pub returns-in-Some-clause-answers : goal.returns-in-Some-clause-answers
returns-in-Some-clause-answers g c = child_answers (g.S.Steps.known c.args.seat.now) c.args.var c.args.hi c.args.lo c.in-Some.child (g.met.S.Steps.stands c.args.seat.now c.requires.own) c.in-Some.ensures.child

pub place-requires-clause-may : goal.place-requires-clause-may
place-requires-clause-may g c =
    (c.requires.can, may_store (g.S.Steps.known c.args.seat.now) (g.met.S.Steps.stands c.args.seat.now c.requires.own) c.requires.can.0 c.args.var c.args.hi c.args.lo c.requires.can.1 c.in_default.ensures.none)

pub returns-in-Some-place-clause-answers : goal.returns-in-Some-place-clause-answers
returns-in-Some-place-clause-answers g c =
    let old = g.S.Steps.known c.args.seat.now in
    let new = g.S.Steps.known c.place.new.seat in
    subst (λ (e : Edge). Answers old new (Node c.args.var c.args.hi c.args.lo) (Ok e)) (sym c.new.ensures)
    (node_answers old new c.args.var c.args.hi c.args.lo (record { index = c.in-Some-place.slot; complement = c.complement.result }) c.complement.ensures c.in-Some-place.ensures.placed)
