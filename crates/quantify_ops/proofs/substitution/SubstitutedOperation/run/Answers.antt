use Rattle.std.proofs.Common.{subst, ℕ, Bool}
use Rattle.edge_bits.specs.declared.edges.Kind.TheVariants.{Bdd}
use Rattle.node_store.specs.Views.{Denotes}
use Rattle.node_store.specs.ViewLaws.{Permanent-grown}
use Rattle.node_store.proofs.Running.{Serves-after, Serves-named}
use Rattle.quantify_ops.specs.SubstitutedLasts.{AreSubstituted-grown, substituted_at-grown, value_of_vector_compose-back}
use Rattle.quantify_ops.proofs.substitution.SubstitutedOperation.run.Goals as goal

pub substitute-requires-clause-operands : goal.substitute-requires-clause-operands
substitute-requires-clause-operands g c = AreSubstituted-grown c.lowest_level-lowest.ensures.kept.grown c.requires.asks

pub substitute-requires-clause-permanent : goal.substitute-requires-clause-permanent
substitute-requires-clause-permanent g c = Permanent-grown c.lowest_level-lowest.ensures.kept.grown c.requires.permanent

pub returns-clause-runs : goal.returns-clause-runs
returns-clause-runs g c =
    let o = c.args.self in let k = c.lowest_level-lowest.ensures.kept in let d = c.requires.asks in
    Serves-after k (Serves-named
    (λ e is. subst (λ (h : ℕ → Bool). Denotes Bdd (g.G.Grow.view c.substitute.new.store) e h) (substituted_at-grown o.pairs.now k.grown d.each d.edge) is)
    (λ bad. bad) (λ F is. value_of_vector_compose-back o.f o.pairs.now _ _ F k.grown d is) c.substitute.ensures.runs)
