use Rattle.std.proofs.Common.{true, sym, subst}
use Rattle.edge_bits.specs.declared.edges.Kind.TheVariants.{Bdd}
use Rattle.node_store.specs.Views.{Denotes}
use Rattle.node_store.specs.ViewLaws.{Denotes-truth}
use Rattle.cover_isop.proofs.CoverFunctions.{cover-base}
use Rattle.cover_isop.proofs.covers.FunctionWanted.everything.Goals as goal

pub returns : goal.returns
returns g c = λ w p. rw c.truth.ensures (subst (Denotes Bdd w _) (sym (cover-base w.vars w.elements)) (Denotes-truth w p true))
