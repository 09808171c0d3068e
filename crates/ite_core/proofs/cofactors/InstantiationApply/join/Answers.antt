use Rattle.std.proofs.Common.{Some, ap, ◌∙◌, subst}
use Rattle.std.proofs.lemmas.Result.{err_from_is_err_and}
use Rattle.edge_bits.specs.declared.edges.Kind.TheVariants.{Bdd}
use Rattle.function_laws.specs.Kinds.{BddFunction}
use Rattle.node_store.specs.Views.{Denotes}
use Rattle.node_store.proofs.Stops.{full_stop}
use Rattle.ite_core.proofs.CofactorLaws.{Cofactor-can_make, Cofactor-node, Cofactor-joined, Cofactor-moved, Cofactor-refused}
use Rattle.ite_core.proofs.cofactors.InstantiationApply.join.Goals as goal

pub make-requires : goal.make-requires
make-requires g c = let o = c.args.self.now in let p = c.requires.parts.1 in (Bdd, Cofactor-can_make o.var o.bit p.splits p.hi_is p.lo_is)

pub returns-clause-answer : goal.returns-clause-answer
returns-clause-answer g c =
    let o = c.args.self.now in let p = c.requires.parts.1 in let e = c.in_ok-make.ensures in
    Cofactor-joined o.var o.bit p.due.edge p.splits p.hi_is p.lo_is e.grown (e.ok Bdd (Cofactor-can_make o.var o.bit p.splits p.hi_is p.lo_is))

pub returns-clause-moved : goal.returns-clause-moved
returns-clause-moved g c =
    let o = c.args.self.now in let p = c.requires.parts.1 in let e = c.in_ok-make.ensures in
    let made = e.ok Bdd (Cofactor-can_make o.var o.bit p.splits p.hi_is p.lo_is) in
    Cofactor-moved o.f o.var o.bit o.literal _ _ c.args._task c.in_ok-make.field-0 p.due e.grown e.made
    (subst (λ x. Denotes Bdd (g.G.Grow.view c.make.new.self) c.in_ok-make.field-0 x) (Cofactor-node o.var o.bit p.splits p.hi_is p.lo_is) made)

pub returns-in_err-make-clause-due : goal.returns-in_err-make-clause-due
returns-in_err-make-clause-due g c =
    let o = c.args.self.now in let p = c.requires.parts.1 in let e = c.in_err-make.ensures in
    let q = err_from_is_err_and c.from_residual.result c.from_residual.ensures.1 in rw (q.1, q.2) (λ is.
    Cofactor-refused o.f o.var o.bit o.literal _ _ c.args._task p.due e.grown
    (e.due (full_stop _ is) Bdd (Cofactor-can_make o.var o.bit p.splits p.hi_is p.lo_is) ∙ ap (λ x. Some (BddFunction x)) (Cofactor-node o.var o.bit p.splits p.hi_is p.lo_is)))
