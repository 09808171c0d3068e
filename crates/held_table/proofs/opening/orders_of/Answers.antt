use Rattle.std.proofs.Common.{ap, ◌∙◌}
use Rattle.function_laws.specs.Sizes.{Orders}
use Rattle.node_store.specs.Contents.{Content}
use Rattle.held_table.proofs.opening.orders_of.Goals as goal

pub returns-clause-variables : goal.returns-clause-variables
returns-clause-variables c = c.in_ok-variables_at.ensures.order ∙ ap (λ (w : Content). w.orders.variables) c.hold-held.ensures.content

pub returns-clause-elements : goal.returns-clause-elements
returns-clause-elements c = c.in_ok-elements_at.ensures.order ∙ ap (λ (o : Orders). o.elements) c.in_ok-variables_at.ensures.same ∙ ap (λ (w : Content). w.orders.elements) c.hold-held.ensures.content
