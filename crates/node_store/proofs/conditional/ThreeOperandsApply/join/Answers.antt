use Rattle.std.proofs.Common.{Some, ap, ◌∙◌, subst}
use Rattle.std.proofs.lemmas.Result.{err_from_is_err_and}
use Rattle.function_laws.specs.Kinds.{function_of}
use Rattle.node_store.specs.Views.{Denotes}
use Rattle.node_store.proofs.ThreeParts.{Three-can_make, Three-node, Three-joined}
use Rattle.node_store.proofs.ThreeWork.{Three-moved, Three-refused}
use Rattle.node_store.proofs.Stops.{full_stop}
use Rattle.node_store.proofs.conditional.ThreeOperandsApply.join.Goals as goal

pub make-requires : goal.make-requires
make-requires g c =
    let k = g.O.IfThenElse.kind in let on = g.met.O.IfThenElse.on_variables in
    let p = c.requires.parts.1 in (k, Three-can_make k on p.splits p.hi_is p.lo_is)

pub returns-clause-answer : goal.returns-clause-answer
returns-clause-answer g c =
    let k = g.O.IfThenElse.kind in let on = g.met.O.IfThenElse.on_variables in
    let p = c.requires.parts.1 in let e = c.in_ok-make.ensures in
    Three-joined k on p.due.three p.splits p.hi_is p.lo_is e.grown (e.ok k (Three-can_make k on p.splits p.hi_is p.lo_is))

pub returns-clause-moved : goal.returns-clause-moved
returns-clause-moved g c =
    let k = g.O.IfThenElse.kind in let on = g.met.O.IfThenElse.on_variables in let o = c.args.self.now in
    let p = c.requires.parts.1 in let e = c.in_ok-make.ensures in
    let made = e.ok k (Three-can_make k on p.splits p.hi_is p.lo_is) in
    Three-moved k o.f o.g o.h _ _ c.args._task c.in_ok-make.field-0 p.due e.grown e.made
    (subst (λ x. Denotes k (g.G.Grow.view c.make.new.self) c.in_ok-make.field-0 x) (Three-node k on p.splits p.hi_is p.lo_is) made)

pub returns-in_err-make-clause-due : goal.returns-in_err-make-clause-due
returns-in_err-make-clause-due g c =
    let k = g.O.IfThenElse.kind in let on = g.met.O.IfThenElse.on_variables in let o = c.args.self.now in
    let p = c.requires.parts.1 in let e = c.in_err-make.ensures in
    let q = err_from_is_err_and c.from_residual.result c.from_residual.ensures.1 in rw (q.1, q.2) (λ is.
    Three-refused k o.f o.g o.h _ _ c.args._task p.due e.grown
    (e.due (full_stop _ is) k (Three-can_make k on p.splits p.hi_is p.lo_is) ∙ ap (λ x. Some (function_of k x)) (Three-node k on p.splits p.hi_is p.lo_is)))
