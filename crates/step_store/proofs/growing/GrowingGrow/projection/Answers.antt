use Rattle.std.proofs.Common.{sym, subst}
use Rattle.edge_bits.specs.declared.edges.Kind.TheVariants.{Bdd}
use Rattle.node_store.specs.Views.{IsProjection, IsVariable}
use Rattle.step_store.proofs.Opened.{projects}
use Rattle.step_store.proofs.growing.GrowingGrow.projection.Goals as goal

pub returns-clause-projection : goal.returns-clause-projection
returns-clause-projection g c =
    let seat = c.self.inside.seat in
    subst (λ s. IsProjection (g.S.Steps.known s).view c.args.var c.new.result) c.self.view_is
    (projects (g.S.Steps.known seat) (g.met.S.Steps.stands seat c.self.invariant.0) c.args.var (subst (λ s. IsVariable Bdd (g.S.Steps.known s).view c.args.var) (sym c.self.view_is) c.requires) c.new.result c.new.ensures)
