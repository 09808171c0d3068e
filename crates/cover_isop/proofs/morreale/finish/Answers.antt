use Rattle.std.proofs.lemmas.Result.{err_from_is_err_and}
use Rattle.node_store.specs.WorkLaws.{Moves-kept}
use Rattle.node_store.specs.TwoLaws.{AreTwo-grown}
use Rattle.edge_bits.specs.declared.edges.Kind.TheVariants.{Bdd}
use Rattle.cover_isop.specs.Isops.{HasBounds, isop_work}
use Rattle.cover_isop.specs.IsopLasts.{Isop-both, MorrealeAnswers-stay}
use Rattle.cover_isop.proofs.DoesLaws.{answered, failed}
use Rattle.cover_isop.proofs.IsopAnswers.{Isop-kept, Isop-key, key-is}
use Rattle.cover_isop.proofs.morreale.finish.Goals as goal

pub returns-in_err-edge-clause-does : goal.returns-in_err-edge-clause-does
returns-in_err-edge-clause-does g c =
    let l = g.W.Wanted.lower c.args.wanted.now in let u = g.W.Wanted.upper c.args.wanted.now in
    let q = err_from_is_err_and c.from_residual.result c.from_residual.ensures.1 in rw (q.1, q.2) (failed l u _ c.in_err-edge.ensures.does)

pub memo_put-requires-clause-key : goal.memo_put-requires-clause-key
memo_put-requires-clause-key g c =
    let t = c.args.task in let e = c.in_ok-edge.ensures.does in
    rw (key-is g.W.Wanted.family c.number.result t.f t.g c.key_of-key.result c.key_of-key.ensures c.number.ensures) (Isop-key g.W.Wanted.family _ t.f t.g (AreTwo-grown Bdd e.moved.grown c.requires.answered.due.bounds.two))

pub memo_put-requires-clause-holds : goal.memo_put-requires-clause-holds
memo_put-requires-clause-holds g c =
    let t = c.args.task in let e = c.in_ok-edge.ensures.does in
    rw (key-is g.W.Wanted.family c.number.result t.f t.g c.key_of-key.result c.key_of-key.ensures c.number.ensures) (Isop-kept g.W.Wanted.family _ t.f t.g c.in_ok-edge.edge (AreTwo-grown Bdd e.moved.grown c.requires.answered.due.bounds.two) e.answer)

pub returns-clause-does : goal.returns-clause-does
returns-clause-does g c =
    let l = g.W.Wanted.lower c.args.wanted.now in let u = g.W.Wanted.upper c.args.wanted.now in let e = c.in_ok-edge.ensures.does in let k = c.memo_put.ensures.kept in
    answered l u c.in_ok-edge.edge (Isop-both l u _ _ _ e.moved (Moves-kept (λ w. HasBounds w l u) (isop_work l u) _ _ k))
    (MorrealeAnswers-stay g.W.Wanted.family _ _ c.args.task c.in_ok-edge.edge k.grown (AreTwo-grown Bdd e.moved.grown c.requires.answered.due.bounds.two) e.answer)
