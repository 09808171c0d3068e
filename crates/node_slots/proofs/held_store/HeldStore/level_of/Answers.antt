use Rattle.node_slots.specs.contracts.held_store.HeldStore.{the_view}
use Rattle.node_slots.proofs.HeldRewriting.{variable_level_few, element_level_few}
use Rattle.node_slots.proofs.held_store.HeldStore.level_of.Goals as goal

pub returns-then-var-lt-FIRST_ELEMENT-clause-few : goal.returns-then-var-lt-FIRST_ELEMENT-clause-few
returns-then-var-lt-FIRST_ELEMENT-clause-few c =
    variable_level_few (the_view c.self.inside) c.args.self.now c.self.view_is c.self.invariant c.args.var c.index.result.now c.requires c.if-var-lt-FIRST_ELEMENT.true c.index.ensures

pub returns-else-var-lt-FIRST_ELEMENT-clause-few : goal.returns-else-var-lt-FIRST_ELEMENT-clause-few
returns-else-var-lt-FIRST_ELEMENT-clause-few c =
    element_level_few (the_view c.self.inside) c.args.self.now c.self.view_is c.self.invariant c.args.var c.index-else-var-lt-FIRST_ELEMENT.result.now c.requires c.if-var-lt-FIRST_ELEMENT.false
    c.index-else-var-lt-FIRST_ELEMENT.ensures
