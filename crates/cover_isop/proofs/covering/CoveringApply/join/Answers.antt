use Rattle.std.proofs.lemmas.Result.{err_from_is_err_and}
use Rattle.node_store.specs.ViewLaws.{Permanent-grown}
use Rattle.cover_isop.specs.CoverLasts.{HasCover-grown}
use Rattle.cover_isop.proofs.CoverSteps.{Both-answer, Both-two, Both-work, Cover-both, Cover-moved, Cover-work, With-work}
use Rattle.cover_isop.proofs.covering.CoveringApply.join.Goals as goal

pub returns-in_err-with-clause-moved : goal.returns-in_err-with-clause-moved
returns-in_err-with-clause-moved g c =
    let o = c.args.self.now in let t = c.requires.parts.0 in let p = c.requires.parts.1 in let e = c.in_err-with.ensures.runs in
    Cover-moved o.vars o.family _ _ _ e.grown (With-work o.vars o.family o.last _ c.args._task t.0 t.1 c.args.var c.args.hi c.args.lo p.due p.splits p.hi_is p.lo_is) e.work

pub returns-in_err-with-clause-due : goal.returns-in_err-with-clause-due
returns-in_err-with-clause-due g c =
    let o = c.args.self.now in let t = c.requires.parts.0 in let p = c.requires.parts.1 in let e = c.in_err-with.ensures.runs in
    let q = err_from_is_err_and c.from_residual.result c.from_residual.ensures.1 in rw (q.1, q.2) (λ is.
    Cover-work o.vars o.family _ _ _ e.grown (With-work o.vars o.family o.last _ c.args._task t.0 t.1 c.args.var c.args.hi c.args.lo p.due p.splits p.hi_is p.lo_is) p.due.root _ (e.due is))

pub or-requires-clause-operands : goal.or-requires-clause-operands
or-requires-clause-operands g c =
    let o = c.args.self.now in let t = c.requires.parts.0 in let p = c.requires.parts.1 in let a = c.in_ok-with.ensures.runs in
    Both-two o.vars o.family o.last _ c.args._task t.0 t.1 c.args.var c.args.hi c.args.lo p.due p.splits p.hi_is p.lo_is _ a.grown c.in_ok-with.with a.answer

pub or-requires-clause-permanent : goal.or-requires-clause-permanent
or-requires-clause-permanent g c = Permanent-grown c.in_ok-with.ensures.runs.grown c.requires.parts.1.due.permanent

pub returns-in_err-or-clause-moved : goal.returns-in_err-or-clause-moved
returns-in_err-or-clause-moved g c =
    let o = c.args.self.now in let t = c.requires.parts.0 in let p = c.requires.parts.1 in let a = c.in_ok-with.ensures.runs in let e = c.in_err-or.ensures.runs in
    Cover-both o.vars o.family _ _ _
    (Cover-moved o.vars o.family _ _ _ a.grown (With-work o.vars o.family o.last _ c.args._task t.0 t.1 c.args.var c.args.hi c.args.lo p.due p.splits p.hi_is p.lo_is) a.work)
    (Cover-moved o.vars o.family _ _ _ e.grown (Both-work o.vars o.family o.last _ c.args._task t.0 t.1 c.args.var c.args.hi c.args.lo p.due p.splits p.hi_is p.lo_is _ a.grown c.in_ok-with.with a.answer) e.work)

pub returns-in_err-or-clause-due : goal.returns-in_err-or-clause-due
returns-in_err-or-clause-due g c =
    let o = c.args.self.now in let t = c.requires.parts.0 in let p = c.requires.parts.1 in let a = c.in_ok-with.ensures.runs in let e = c.in_err-or.ensures.runs in
    let q = err_from_is_err_and c.from_residual-in_err-or.result c.from_residual-in_err-or.ensures.1 in rw (q.1, q.2) (λ is.
    Cover-work o.vars o.family _ _ _ e.grown (Both-work o.vars o.family o.last _ c.args._task t.0 t.1 c.args.var c.args.hi c.args.lo p.due p.splits p.hi_is p.lo_is _ a.grown c.in_ok-with.with a.answer)
    (HasCover-grown a.grown p.due.root) _ (e.due is))

pub returns-clause-moved : goal.returns-clause-moved
returns-clause-moved g c =
    let o = c.args.self.now in let t = c.requires.parts.0 in let p = c.requires.parts.1 in let a = c.in_ok-with.ensures.runs in let e = c.in_ok-or.ensures.runs in
    Cover-both o.vars o.family _ _ _
    (Cover-moved o.vars o.family _ _ _ a.grown (With-work o.vars o.family o.last _ c.args._task t.0 t.1 c.args.var c.args.hi c.args.lo p.due p.splits p.hi_is p.lo_is) a.work)
    (Cover-moved o.vars o.family _ _ _ e.grown (Both-work o.vars o.family o.last _ c.args._task t.0 t.1 c.args.var c.args.hi c.args.lo p.due p.splits p.hi_is p.lo_is _ a.grown c.in_ok-with.with a.answer) e.work)

pub returns-clause-answer : goal.returns-clause-answer
returns-clause-answer g c =
    let o = c.args.self.now in let t = c.requires.parts.0 in let p = c.requires.parts.1 in let a = c.in_ok-with.ensures.runs in let e = c.in_ok-or.ensures.runs in
    Both-answer o.vars o.family o.last _ c.args._task t.0 t.1 c.args.var c.args.hi c.args.lo p.due p.splits p.hi_is p.lo_is _ a.grown c.in_ok-with.with a.answer _ c.in_ok-or.field-0 e.grown e.answer
