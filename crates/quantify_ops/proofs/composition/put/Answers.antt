use Rattle.std.proofs.Common.{inl}
use Rattle.std.proofs.lemmas.Result.{IfOk-weaker}
use Rattle.edge_bits.specs.declared.edges.Kind.TheVariants.{Bdd}
use Rattle.node_store.specs.ViewLaws.{Grown-trans, IsVariable-grown, Permanent-grown}
use Rattle.node_store.specs.TwoLaws.{AreTwo-grown}
use Rattle.node_store.specs.Work.{whole}
use Rattle.node_store.proofs.Running.{runs, same_scratch}
use Rattle.node_store.proofs.Running.{Serves-after}
use Rattle.quantify_ops.specs.Composed.{AreComposed}
use Rattle.quantify_ops.specs.ComposedLasts.{AreComposed-grown, value_of_compose-back}
use Rattle.quantify_ops.proofs.CompositionLaws.{root_answer}
use Rattle.quantify_ops.proofs.composition.put.Goals as goal

pub evaluate-requires-clause-due : goal.evaluate-requires-clause-due
evaluate-requires-clause-due g c =
    let e = c.two.ensures in let p = c.projection-projection.ensures in let m = p.kept.grown in
    let two = AreTwo-grown Bdd m c.requires.operands in record {
      projection = p.projection.denotes;
      permanent = Permanent-grown m c.requires.permanent;
      root = record { two = two; in_range = IsVariable-grown Bdd m c.args.var c.requires.in_range };
      two = rw (e.f, e.g) two;
      place = rw (e.f, e.g) (inl (inl whole));
    }

pub returns-clause-runs : goal.returns-clause-runs
returns-clause-runs g c =
    let k = c.projection-projection.ensures.kept in let r = c.evaluate.ensures in
    let m = Grown-trans k.grown r.moved.moves.grown in
    let d : AreComposed (g.G.Grow.view c.args.store.now) c.args.f c.args.var c.args.g = record { two = c.requires.operands; in_range = c.requires.in_range } in
    Serves-after k (runs r.moved.moves (AreComposed-grown k.grown d) (λ F is. value_of_compose-back c.args.f c.args.var c.args.g _ _ F m d is)
    (IfOk-weaker c.evaluate.result _ _ (λ e a. root_answer _ _ c.args.f c.args.g c.two.result c.args.var e m c.requires.operands c.two.ensures.f c.two.ensures.g a) r.answer) r.overflow r.memory r.full r.due)

pub returns-clause-stack : goal.returns-clause-stack
returns-clause-stack g c = let r = c.evaluate.ensures in same_scratch _ _ r.frames r.free r.moved.known r.moved.marks
