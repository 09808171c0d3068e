use Rattle.std.proofs.lemmas.Result.{IfOk-weaker}
use Rattle.edge_bits.specs.declared.edges.Kind.TheVariants.{Bdd}
use Rattle.node_store.specs.ViewLaws.{Grown-trans, Permanent-grown}
use Rattle.node_store.specs.TwoLaws.{AreTwo-grown}
use Rattle.node_store.proofs.Running.{runs, same_scratch}
use Rattle.node_store.proofs.Running.{Serves-after, Serves-kept}
use Rattle.quantify_ops.specs.RestrictedLasts.{work_of_restrict-back}
use Rattle.quantify_ops.proofs.RestrictLaws.{root_answer, root_due, root_false}
use Rattle.quantify_ops.proofs.restriction.simplify.Goals as goal

pub returns-then-is_false-clause-runs : goal.returns-then-is_false-clause-runs
returns-then-is_false-clause-runs g c =
    let e = c.is_false.ensures in let m = e.kept.grown in
    Serves-kept c.truth.result e.kept (root_false _ _ c.args.f c.args.c _ m (Permanent-grown m c.requires.permanent) c.requires.operands (e.yes c.if-is_false.true) c.truth.ensures)

pub evaluate-requires-clause-due : goal.evaluate-requires-clause-due
evaluate-requires-clause-due g c =
    let e = c.is_false.ensures in let m = e.kept.grown in
    root_due c.args.f c.args.c _ c.two.result (Permanent-grown m c.requires.permanent) (AreTwo-grown Bdd m c.requires.operands) c.two.ensures.f c.two.ensures.g (e.no c.if-is_false.false)

pub returns-clause-runs : goal.returns-clause-runs
returns-clause-runs g c =
    let k = c.is_false.ensures.kept in let r = c.evaluate.ensures in let m = Grown-trans k.grown r.moved.moves.grown in
    Serves-after k (runs r.moved.moves (AreTwo-grown Bdd k.grown c.requires.operands) (λ F is. work_of_restrict-back _ _ c.args.f c.args.c m c.requires.operands F is)
    (IfOk-weaker c.evaluate.result _ _ (λ e a. root_answer _ _ c.args.f c.args.c e c.two.result m c.requires.operands c.two.ensures.f c.two.ensures.g a) r.answer) r.overflow r.memory r.full r.due)

pub returns-clause-stack : goal.returns-clause-stack
returns-clause-stack g c = let r = c.evaluate.ensures in same_scratch _ _ r.frames r.free r.moved.known r.moved.marks
