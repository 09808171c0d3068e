use Rattle.std.proofs.Common.{Some, ap, ◌∙◌, subst}
use Rattle.std.proofs.lemmas.Result.{err_from_is_err_and}
use Rattle.function_laws.specs.Kinds.{function_of}
use Rattle.node_store.specs.Views.{Denotes}
use Rattle.node_store.proofs.TwoParts.{Two-can_make, Two-node, Two-joined}
use Rattle.node_store.proofs.TwoWork.{Part-moved, Part-refused}
use Rattle.node_store.proofs.Stops.{full_stop}
use Rattle.node_store.proofs.pointwise.TwoOperandsApply.join.Goals as goal

pub make-requires : goal.make-requires
make-requires g c =
    let o = g.O.Pointwise in let keeps = g.met.O.Pointwise.keeps in
    let p = c.requires.parts.1 in (o.kind, Two-can_make o.kind o.op keeps p.splits p.hi_is p.lo_is)

pub returns-clause-answer : goal.returns-clause-answer
returns-clause-answer g c =
    let o = g.O.Pointwise in let keeps = g.met.O.Pointwise.keeps in
    let p = c.requires.parts.1 in let e = c.in_ok-make.ensures in
    Two-joined o.kind o.op p.due.two p.splits p.hi_is p.lo_is e.grown (e.ok o.kind (Two-can_make o.kind o.op keeps p.splits p.hi_is p.lo_is))

pub returns-clause-moved : goal.returns-clause-moved
returns-clause-moved g c =
    let o = g.O.Pointwise in let keeps = g.met.O.Pointwise.keeps in
    let p = c.requires.parts.1 in let e = c.in_ok-make.ensures in
    let made = e.ok o.kind (Two-can_make o.kind o.op keeps p.splits p.hi_is p.lo_is) in
    Part-moved o.kind o.op c.args.self.now.f c.args.self.now.g _ _ c.args._task c.in_ok-make.field-0 p.due e.grown e.made
    (subst (λ x. Denotes o.kind (g.G.Grow.view c.make.new.self) c.in_ok-make.field-0 x) (Two-node o.kind o.op p.splits p.hi_is p.lo_is) made)

pub returns-in_err-make-clause-due : goal.returns-in_err-make-clause-due
returns-in_err-make-clause-due g c =
    let o = g.O.Pointwise in let keeps = g.met.O.Pointwise.keeps in
    let p = c.requires.parts.1 in let e = c.in_err-make.ensures in
    let q = err_from_is_err_and c.from_residual.result c.from_residual.ensures.1 in rw (q.1, q.2) (λ is.
    Part-refused o.kind o.op c.args.self.now.f c.args.self.now.g _ _ c.args._task p.due e.grown
    (e.due (full_stop _ is) o.kind (Two-can_make o.kind o.op keeps p.splits p.hi_is p.lo_is) ∙ ap (λ x. Some (function_of o.kind x)) (Two-node o.kind o.op p.splits p.hi_is p.lo_is)))
