use Rattle.std.proofs.lemmas.Result.{err_from_is_err_and}
use Rattle.node_store.proofs.Frames.{other_err}
use Rattle.node_store.specs.ViewLaws.{Permanent-grown}
use Rattle.zdd_ops.proofs.ProductSteps.{First-due, First-moved, First-two, Product-both, Quarters-two, With-answer, With-due, With-moved}
use Rattle.zdd_ops.proofs.products.Multiplication.unite.Goals as goal

pub union-requires-clause-operands : goal.union-requires-clause-operands
union-requires-clause-operands g c = let o = c.args.self.now in Quarters-two o.p o.q _ c.args.task c.args.var c.args.quarters c.requires.parts

pub union-requires-clause-permanent : goal.union-requires-clause-permanent
union-requires-clause-permanent g c = c.requires.parts.due.permanent

pub returns-in_err-first-clause-moved : goal.returns-in_err-first-clause-moved
returns-in_err-first-clause-moved g c =
    let o = c.args.self.now in let e = c.in_err-first.ensures in First-moved o.p o.q _ c.args.task c.args.var c.args.quarters c.requires.parts _ e.runs.grown e.runs.work

pub returns-in_err-first-clause-due : goal.returns-in_err-first-clause-due
returns-in_err-first-clause-due g c =
    let o = c.args.self.now in let e = c.in_err-first.ensures in
    let r = err_from_is_err_and c.from_residual.result c.from_residual.ensures.1 in rw (r.1, r.2) (λ full.
    First-due o.p o.q _ c.args.task c.args.var c.args.quarters c.requires.parts _ e.runs.grown _ (e.runs.due (other_err _ _ full)))

pub union-requires-2-clause-operands : goal.union-requires-2-clause-operands
union-requires-2-clause-operands g c =
    let o = c.args.self.now in let e = c.in_ok-first.ensures in First-two o.p o.q _ c.args.task c.args.var c.args.quarters c.requires.parts _ e.runs.grown c.in_ok-first.first e.runs.answer

pub union-requires-2-clause-permanent : goal.union-requires-2-clause-permanent
union-requires-2-clause-permanent g c = Permanent-grown c.in_ok-first.ensures.runs.grown c.requires.parts.due.permanent

pub returns-in_err-union-clause-moved : goal.returns-in_err-union-clause-moved
returns-in_err-union-clause-moved g c =
    let o = c.args.self.now in let a = c.in_ok-first.ensures.runs in let e = c.in_err-union.ensures.runs in
    Product-both o.p o.q _ _ _ (First-moved o.p o.q _ c.args.task c.args.var c.args.quarters c.requires.parts _ a.grown a.work)
    (With-moved o.p o.q _ c.args.task c.args.var c.args.quarters c.requires.parts _ a.grown c.in_ok-first.first a.answer _ e.grown e.work)

pub returns-in_err-union-clause-due : goal.returns-in_err-union-clause-due
returns-in_err-union-clause-due g c =
    let o = c.args.self.now in let a = c.in_ok-first.ensures.runs in let e = c.in_err-union.ensures.runs in
    let r = err_from_is_err_and c.from_residual-in_err-union.result c.from_residual-in_err-union.ensures.1 in rw (r.1, r.2) (λ full.
    With-due o.p o.q _ c.args.task c.args.var c.args.quarters c.requires.parts _ a.grown c.in_ok-first.first a.answer _ e.grown _ (e.due (other_err _ _ full)))

pub returns-clause-moved : goal.returns-clause-moved
returns-clause-moved g c =
    let o = c.args.self.now in let a = c.in_ok-first.ensures.runs in let e = c.in_ok-union.ensures.runs in
    Product-both o.p o.q _ _ _ (First-moved o.p o.q _ c.args.task c.args.var c.args.quarters c.requires.parts _ a.grown a.work)
    (With-moved o.p o.q _ c.args.task c.args.var c.args.quarters c.requires.parts _ a.grown c.in_ok-first.first a.answer _ e.grown e.work)

pub returns-clause-answer : goal.returns-clause-answer
returns-clause-answer g c =
    let o = c.args.self.now in let a = c.in_ok-first.ensures.runs in let e = c.in_ok-union.ensures.runs in
    With-answer o.p o.q _ c.args.task c.args.var c.args.quarters c.requires.parts _ a.grown c.in_ok-first.first a.answer _ c.in_ok-union.field-0 e.answer
