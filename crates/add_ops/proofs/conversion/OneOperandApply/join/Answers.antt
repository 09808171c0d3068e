use Rattle.std.proofs.Common.{Some, ap, ◌∙◌, subst}
use Rattle.std.proofs.lemmas.Result.{err_from_is_err_and}
use Rattle.function_laws.specs.Kinds.{function_of}
use Rattle.node_store.specs.Views.{Denotes}
use Rattle.node_store.proofs.Stops.{full_stop}
use Rattle.add_ops.proofs.ConversionLaws.{One-can_make, One-node, One-joined, One-moved, One-refused}
use Rattle.add_ops.proofs.conversion.OneOperandApply.join.Goals as goal

pub make-requires : goal.make-requires
make-requires g c =
    let o = g.C.Conversion in let m = g.met.C.Conversion in let s = c.args.self.now in let p = c.requires.parts.1 in
    (o.target, One-can_make o.source o.target m.from_variables m.on_variables (o.op s.op) p.splits p.hi_is p.lo_is)

pub returns-clause-answer : goal.returns-clause-answer
returns-clause-answer g c =
    let o = g.C.Conversion in let m = g.met.C.Conversion in let s = c.args.self.now in let p = c.requires.parts.1 in let e = c.in_ok-make.ensures in
    One-joined o.source o.target m.from_variables m.on_variables (o.op s.op) p.due.edge p.splits p.hi_is p.lo_is e.grown
    (e.ok o.target (One-can_make o.source o.target m.from_variables m.on_variables (o.op s.op) p.splits p.hi_is p.lo_is))

pub returns-clause-moved : goal.returns-clause-moved
returns-clause-moved g c =
    let o = g.C.Conversion in let m = g.met.C.Conversion in let s = c.args.self.now in let p = c.requires.parts.1 in let e = c.in_ok-make.ensures in
    let made = e.ok o.target (One-can_make o.source o.target m.from_variables m.on_variables (o.op s.op) p.splits p.hi_is p.lo_is) in
    One-moved o.source o.target (o.op s.op) s.f _ _ c.args._task c.in_ok-make.field-0 p.due e.grown e.made
    (subst (λ x. Denotes o.target (g.G.Grow.view c.make.new.self) c.in_ok-make.field-0 x) (One-node o.source o.target m.from_variables m.on_variables (o.op s.op) p.splits p.hi_is p.lo_is) made)

pub returns-in_err-make-clause-due : goal.returns-in_err-make-clause-due
returns-in_err-make-clause-due g c =
    let o = g.C.Conversion in let m = g.met.C.Conversion in let s = c.args.self.now in let p = c.requires.parts.1 in let e = c.in_err-make.ensures in
    let q = err_from_is_err_and c.from_residual.result c.from_residual.ensures.1 in rw (q.1, q.2) (λ is.
    One-refused o.source o.target (o.op s.op) s.f _ _ c.args._task p.due e.grown
    (e.due (full_stop _ is) o.target (One-can_make o.source o.target m.from_variables m.on_variables (o.op s.op) p.splits p.hi_is p.lo_is)
    ∙ ap (λ x. Some (function_of o.target x)) (One-node o.source o.target m.from_variables m.on_variables (o.op s.op) p.splits p.hi_is p.lo_is)))
