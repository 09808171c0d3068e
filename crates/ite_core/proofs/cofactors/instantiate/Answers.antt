use Rattle.std.proofs.Common.{inl, refl}
use Rattle.edge_bits.specs.declared.edges.Kind.TheVariants.{Bdd}
use Rattle.node_store.specs.ViewLaws.{Grown-trans, Is-grown, IsVariable-grown, Permanent-grown}
use Rattle.node_store.specs.Work.{whole}
use Rattle.node_store.proofs.Running.{runs, same_answer, same_scratch}
use Rattle.ite_core.specs.Cofactors.{HasCofactor}
use Rattle.ite_core.specs.CofactorLasts.{HasCofactor-grown, cofactor_at-grown, value_of_cofactor-back}
use Rattle.ite_core.proofs.CofactorLaws.{literal_from}
use Rattle.node_store.proofs.Running.{Serves-after}
use Rattle.ite_core.proofs.cofactors.instantiate.Goals as goal

pub evaluate-requires-clause-due : goal.evaluate-requires-clause-due
evaluate-requires-clause-due g c =
    let p = c.projection.ensures in let e = c.two.ensures in let m = p.kept.grown in record {
      literal = literal_from _ c.args.var c.args.bit _ _ _ p.projection.denotes refl c.flip_if-literal.ensures;
      permanent = Permanent-grown m c.requires.permanent;
      root = record { edge = Is-grown Bdd m c.requires.operand; in_range = IsVariable-grown Bdd m c.args.var c.requires.in_range };
      edge = rw e.f (Is-grown Bdd m c.requires.operand);
      part = rw e.f (inl whole);
    }

pub returns-clause-runs : goal.returns-clause-runs
returns-clause-runs g c =
    let k = c.projection.ensures.kept in let r = c.evaluate.ensures in
    let m = Grown-trans k.grown r.moved.moves.grown in
    let d : HasCofactor (g.G.Grow.view c.args.store.now) c.args.f c.args.var = record { edge = c.requires.operand; in_range = c.requires.in_range } in
    Serves-after k (runs r.moved.moves (HasCofactor-grown k.grown d) (λ F is. value_of_cofactor-back c.args.f c.args.var c.args.bit _ _ F m d is)
    (same_answer Bdd _ _ _ (cofactor_at-grown c.args.var c.args.bit m c.requires.operand) c.evaluate.result (rw c.two.ensures.f at r.answer)) r.overflow r.memory r.full r.due)

pub returns-clause-stack : goal.returns-clause-stack
returns-clause-stack g c = let r = c.evaluate.ensures in same_scratch _ _ r.frames r.free r.moved.known r.moved.marks
