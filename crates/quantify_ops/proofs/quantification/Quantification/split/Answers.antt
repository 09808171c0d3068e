use Rattle.edge_bits.specs.declared.edges.Kind.TheVariants.{Bdd}
use Rattle.quantify_ops.proofs.QuantifiedLaws.{leaves_back}
use Rattle.quantify_ops.proofs.quantification.Quantification.split.Goals as goal

pub split_two-requires : goal.split_two-requires
split_two-requires g c = (Bdd, c.requires.two)

pub unreachable-requires : goal.unreachable-requires
unreachable-requires g c = let e = c.in-Leaves.ensures in leaves_back _ _ c.args.task.f c.args.task.g _ _ e.kept.grown c.requires.two c.requires.inner (e.split Bdd c.requires.two)

pub returns-clause-halves : goal.returns-clause-halves
returns-clause-halves g c = c.in-At.ensures.split Bdd c.requires.two
