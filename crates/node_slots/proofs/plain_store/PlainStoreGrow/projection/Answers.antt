use Rattle.std.proofs.Common.{◌+◌, subst}
use Rattle.edge_bits.specs.Permanent.{first_projection}
use Rattle.edge_bits.specs.Reading.{plain}
use Rattle.edge_bits.specs.declared.edges.Kind.TheVariants.{Bdd}
use Rattle.node_store.specs.Views.{IsProjection, IsVariable}
use Rattle.node_slots.specs.Stores.{Plain, plain_view}
use Rattle.node_slots.specs.contracts.plain_store.PlainStore.{the_view}
use Rattle.node_slots.proofs.Calls.{projection_denotes}
use Rattle.node_slots.proofs.plain_store.PlainStoreGrow.projection.Goals as goal

pub returns-clause-projection : goal.returns-clause-projection
returns-clause-projection c = rw c.new.ensures (subst (λ (p : Plain). IsVariable Bdd (plain_view p) c.args.var → IsProjection (plain_view p) c.args.var (plain (first_projection + c.args.var)))
    c.self.view_is (projection_denotes (the_view c.self.inside) c.self.invariant c.args.var) c.requires)
