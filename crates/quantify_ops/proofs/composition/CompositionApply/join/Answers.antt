use Rattle.std.proofs.lemmas.Result.{err_from_is_err_and}
use Rattle.edge_bits.specs.declared.edges.Kind.TheVariants.{Bdd}
use Rattle.node_store.proofs.Stops.{full_stop}
use Rattle.node_store.proofs.Running.{Serves-memory}
use Rattle.quantify_ops.proofs.CompositionLaws.{own_moved, own_refused, own_answer, other_node, other_moved, other_refused, other_answer}
use Rattle.quantify_ops.proofs.composition.CompositionApply.join.Goals as goal

pub returns-in_err-ite-clause-moved : goal.returns-in_err-ite-clause-moved
returns-in_err-ite-clause-moved g c =
    let o = c.args.self.now in let t = c.requires.parts.0 in let p = c.requires.parts.1 in let e = c.in_err-ite.ensures in
    own_moved o.f o.var o.g o.projection _ _ c.args.task t.0 t.1 c.args.var c.args.hi c.args.lo p.due p.splits p.hi_is p.lo_is e.runs.grown c.if-var-self.true e.runs.work

pub returns-in_err-ite-clause-due : goal.returns-in_err-ite-clause-due
returns-in_err-ite-clause-due g c =
    let o = c.args.self.now in let t = c.requires.parts.0 in let p = c.requires.parts.1 in let e = c.in_err-ite.ensures in
    let q = err_from_is_err_and c.from_residual.result c.from_residual.ensures.1 in rw (q.1, q.2) (λ is.
    own_refused o.f o.var o.g o.projection _ _ c.args.task t.0 t.1 c.args.var c.args.hi c.args.lo p.due p.splits p.hi_is p.lo_is e.runs.grown c.if-var-self.true _ (e.runs.due is))

pub returns-in_ok-ite-clause-moved : goal.returns-in_ok-ite-clause-moved
returns-in_ok-ite-clause-moved g c =
    let o = c.args.self.now in let t = c.requires.parts.0 in let p = c.requires.parts.1 in let e = c.in_ok-ite.ensures in
    own_moved o.f o.var o.g o.projection _ _ c.args.task t.0 t.1 c.args.var c.args.hi c.args.lo p.due p.splits p.hi_is p.lo_is e.runs.grown c.if-var-self.true e.runs.work

pub returns-in_ok-ite-clause-answer : goal.returns-in_ok-ite-clause-answer
returns-in_ok-ite-clause-answer g c =
    let o = c.args.self.now in let t = c.requires.parts.0 in let p = c.requires.parts.1 in let e = c.in_ok-ite.ensures in
    own_answer o.f o.var o.g o.projection _ _ c.args.task t.0 t.1 c.args.var c.args.hi c.args.lo p.due p.splits p.hi_is p.lo_is e.runs.grown c.if-var-self.true c.in_ok-ite.field-0 e.runs.answer

pub make-requires : goal.make-requires
make-requires g c =
    let o = c.args.self.now in let t = c.requires.parts.0 in let p = c.requires.parts.1 in
    (Bdd, other_node o.f o.var o.g o.projection _ c.args.task t.0 t.1 c.args.var c.args.hi c.args.lo p.due p.splits p.hi_is p.lo_is c.if-var-self.false)

pub returns-in_err-make-clause-due : goal.returns-in_err-make-clause-due
returns-in_err-make-clause-due g c =
    let o = c.args.self.now in let t = c.requires.parts.0 in let p = c.requires.parts.1 in let e = c.in_err-make.ensures in
    let node = other_node o.f o.var o.g o.projection _ c.args.task t.0 t.1 c.args.var c.args.hi c.args.lo p.due p.splits p.hi_is p.lo_is c.if-var-self.false in
    let q = err_from_is_err_and c.from_residual-in_err-make.result c.from_residual-in_err-make.ensures.1 in rw (q.1, q.2) (λ is.
    other_refused o.f o.var o.g o.projection _ _ c.args.task t.0 t.1 c.args.var c.args.hi c.args.lo p.due p.splits p.hi_is p.lo_is e.grown c.if-var-self.false (e.due (full_stop _ is) Bdd node))

pub returns-in_ok-make-clause-moved : goal.returns-in_ok-make-clause-moved
returns-in_ok-make-clause-moved g c =
    let o = c.args.self.now in let t = c.requires.parts.0 in let p = c.requires.parts.1 in let e = c.in_ok-make.ensures in
    let node = other_node o.f o.var o.g o.projection _ c.args.task t.0 t.1 c.args.var c.args.hi c.args.lo p.due p.splits p.hi_is p.lo_is c.if-var-self.false in
    other_moved o.f o.var o.g o.projection _ _ c.args.task t.0 t.1 c.args.var c.args.hi c.args.lo p.due p.splits p.hi_is p.lo_is e.grown c.if-var-self.false c.in_ok-make.field-0 e.made (e.ok Bdd node)

pub returns-in_ok-make-clause-answer : goal.returns-in_ok-make-clause-answer
returns-in_ok-make-clause-answer g c =
    let o = c.args.self.now in let t = c.requires.parts.0 in let p = c.requires.parts.1 in let e = c.in_ok-make.ensures in
    let node = other_node o.f o.var o.g o.projection _ c.args.task t.0 t.1 c.args.var c.args.hi c.args.lo p.due p.splits p.hi_is p.lo_is c.if-var-self.false in
    other_answer o.f o.var o.g o.projection _ _ c.args.task t.0 t.1 c.args.var c.args.hi c.args.lo p.due p.splits p.hi_is p.lo_is e.grown c.if-var-self.false c.in_ok-make.field-0 (e.ok Bdd node)

pub returns-in_err-ite-clause-memory : goal.returns-in_err-ite-clause-memory
returns-in_err-ite-clause-memory g c =
    let q = err_from_is_err_and c.from_residual.result c.from_residual.ensures.1 in rw (q.1, q.2) (λ is. Serves-memory _ c.in_err-ite.ensures.runs is)

pub returns-in_err-ite-clause-full : goal.returns-in_err-ite-clause-full
returns-in_err-ite-clause-full g c =
    let q = err_from_is_err_and c.from_residual.result c.from_residual.ensures.1 in rw (q.1, q.2) (λ is. c.in_err-ite.ensures.runs.full is)
