use Rattle.std.proofs.Common.{◌+◌, subst}
use Rattle.edge_bits.specs.Permanent.{first_element}
use Rattle.edge_bits.specs.declared.edges.Kind.TheVariants.{Zdd}
use Rattle.function_laws.specs.Families.{subset1}
use Rattle.node_store.specs.Operations.{Calls}
use Rattle.node_store.specs.ViewLaws.{Grown-refl}
use Rattle.zdd_ops.specs.Subsets.{subset_work}
use Rattle.zdd_ops.proofs.OperationLaws.{element_at, element_value}
use Rattle.zdd_ops.proofs.operations.subset1.Goals as goal

pub in_scratch-requires : goal.in_scratch-requires
in_scratch-requires g c = record { family = c.requires.family; element = element_at _ _ c.args.e (Grown-refl _) c.requires.element }

pub returns : goal.returns
returns g c =
    let v = g.G.Grow.view c.args.store.now in let w = g.G.Grow.view c.in_scratch.new.store in
    rw c.without_overflow.ensures (subst (λ f. Calls Zdd f (subset_work subset1 (first_element + c.args.e) c.args.p v) v w c.in_scratch.result) (element_value subset1 v c.args.p c.args.e) c.in_scratch.ensures)
