use Rattle.std.proofs.Common.{arith}
use Rattle.std.proofs.lemmas.Result.{err_from_is_err_and}
use Rattle.node_store.specs.WorkLaws.{Moves-both, Moves-kept}
use Rattle.node_store.proofs.Running.{Serves-memory}
use Rattle.quantify_ops.specs.Substituted.{AreSubstituted, value_of_vector_compose}
use Rattle.quantify_ops.specs.SubstitutedLasts.{AreSubstituted-grown, value_of_vector_compose-stays}
use Rattle.quantify_ops.proofs.SubstitutionLaws.{substitute_at, substitute_three, substitute_due, substitute_moved, substitute_answer}
use Rattle.quantify_ops.proofs.substitution.SubstitutionApply.join.Goals as goal

pub image-image-requires : goal.image-image-requires
image-image-requires g c = c.requires.parts.1.splits.in_range

pub ite-requires-clause-operands : goal.ite-requires-clause-operands
ite-requires-clause-operands g c =
    let o = c.args.self.now in let t = c.requires.parts.0 in let k = c.image-image.ensures.kept in let p = substitute_at o.f o.pairs.now o.lowest _ _ c.args._task t.0 t.1 c.args.var c.args.hi c.args.lo k.grown c.requires.parts.1 in
    substitute_three o.f o.pairs.now o.lowest _ c.args._task t.0 t.1 c.args.var c.args.hi c.args.lo c.image-image.result c.image-image.ensures.image p.due p.splits p.hi_is p.lo_is

pub ite-requires-clause-permanent : goal.ite-requires-clause-permanent
ite-requires-clause-permanent g c =
    let o = c.args.self.now in let t = c.requires.parts.0 in let k = c.image-image.ensures.kept in let p = substitute_at o.f o.pairs.now o.lowest _ _ c.args._task t.0 t.1 c.args.var c.args.hi c.args.lo k.grown c.requires.parts.1 in
    p.due.permanent

pub ite-requires-clause-room : goal.ite-requires-clause-room
ite-requires-clause-room g c = let n = c.image-image.ensures.kept.grown.vars in let room = c.requires.room in omega arith

pub returns-in_err-ite-clause-moved : goal.returns-in_err-ite-clause-moved
returns-in_err-ite-clause-moved g c =
    let o = c.args.self.now in let t = c.requires.parts.0 in let k = c.image-image.ensures.kept in let p = substitute_at o.f o.pairs.now o.lowest _ _ c.args._task t.0 t.1 c.args.var c.args.hi c.args.lo k.grown c.requires.parts.1 in
    let e = c.in_err-ite.ensures.runs in
    Moves-both (λ w. AreSubstituted w o.f o.pairs.now) (value_of_vector_compose o.f o.pairs.now) (λ v w m d. AreSubstituted-grown m d) (value_of_vector_compose-stays o.f o.pairs.now) _ _ _
    (Moves-kept (λ w. AreSubstituted w o.f o.pairs.now) (value_of_vector_compose o.f o.pairs.now) _ _ k)
    (substitute_moved o.f o.pairs.now o.lowest _ c.args._task t.0 t.1 c.args.var c.args.hi c.args.lo c.image-image.result c.image-image.ensures.image p.due p.splits p.hi_is p.lo_is _ e.grown e.work)

pub returns-in_err-ite-clause-due : goal.returns-in_err-ite-clause-due
returns-in_err-ite-clause-due g c =
    let o = c.args.self.now in let t = c.requires.parts.0 in let k = c.image-image.ensures.kept in let p = substitute_at o.f o.pairs.now o.lowest _ _ c.args._task t.0 t.1 c.args.var c.args.hi c.args.lo k.grown c.requires.parts.1 in
    let e = c.in_err-ite.ensures.runs in
    let q = err_from_is_err_and c.from_residual.result c.from_residual.ensures.1 in rw (q.1, q.2) (λ is. substitute_due o.f o.pairs.now o.lowest _ c.args._task t.0 t.1 c.args.var c.args.hi c.args.lo c.image-image.result c.image-image.ensures.image p.due p.splits p.hi_is p.lo_is _ e.grown _ (e.due is))

pub returns-in_err-ite-clause-memory : goal.returns-in_err-ite-clause-memory
returns-in_err-ite-clause-memory g c =
    let q = err_from_is_err_and c.from_residual.result c.from_residual.ensures.1 in rw (q.1, q.2) (λ is. c.image-image.ensures.kept.grown.wants (Serves-memory _ c.in_err-ite.ensures.runs is))

pub returns-in_err-ite-clause-full : goal.returns-in_err-ite-clause-full
returns-in_err-ite-clause-full g c =
    let q = err_from_is_err_and c.from_residual.result c.from_residual.ensures.1 in rw (q.1, q.2) (λ is few. (let a = c.in_err-ite.ensures.runs.full is few in let k = c.image-image.ensures.kept.fulls in omega arith))

pub returns-clause-moved : goal.returns-clause-moved
returns-clause-moved g c =
    let o = c.args.self.now in let t = c.requires.parts.0 in let k = c.image-image.ensures.kept in let p = substitute_at o.f o.pairs.now o.lowest _ _ c.args._task t.0 t.1 c.args.var c.args.hi c.args.lo k.grown c.requires.parts.1 in
    let e = c.in_ok-ite.ensures.runs in
    Moves-both (λ w. AreSubstituted w o.f o.pairs.now) (value_of_vector_compose o.f o.pairs.now) (λ v w m d. AreSubstituted-grown m d) (value_of_vector_compose-stays o.f o.pairs.now) _ _ _
    (Moves-kept (λ w. AreSubstituted w o.f o.pairs.now) (value_of_vector_compose o.f o.pairs.now) _ _ k)
    (substitute_moved o.f o.pairs.now o.lowest _ c.args._task t.0 t.1 c.args.var c.args.hi c.args.lo c.image-image.result c.image-image.ensures.image p.due p.splits p.hi_is p.lo_is _ e.grown e.work)

pub returns-clause-answer : goal.returns-clause-answer
returns-clause-answer g c =
    let o = c.args.self.now in let t = c.requires.parts.0 in let k = c.image-image.ensures.kept in let p = substitute_at o.f o.pairs.now o.lowest _ _ c.args._task t.0 t.1 c.args.var c.args.hi c.args.lo k.grown c.requires.parts.1 in
    let e = c.in_ok-ite.ensures.runs in
    substitute_answer o.f o.pairs.now o.lowest _ c.args._task t.0 t.1 c.args.var c.args.hi c.args.lo c.image-image.result c.image-image.ensures.image p.due p.splits p.hi_is p.lo_is _ e.grown c.in_ok-ite.field-0 e.answer
