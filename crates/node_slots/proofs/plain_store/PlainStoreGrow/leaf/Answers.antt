use Rattle.std.proofs.Common.{refl, rules}
use Rattle.edge_bits.specs.declared.edges.Kind.TheVariants.{Add}
use Rattle.function_laws.specs.Values.{constant}
use Rattle.node_slots.specs.contracts.plain_store.PlainStore.{the_view}
use Rattle.node_slots.proofs.Making.{Stored, with_words, missing_leaf, refused-store, unknown_leaf}
use Rattle.node_slots.proofs.Answering.{passed, leaf_answer, not_refused, leaf_refused}
use Rattle.node_slots.proofs.plain_store.PlainStoreGrow.leaf.Goals as goal
use Rattle.node_slots.proofs.plain_store.PlainStoreGrow.leaf.Goals.{After-new}

stored : (c : After-new) → Stored Add c.args.self.now (with_words (the_view c.self.inside) c.place.new.self) c.new.result (constant c.args.value)
stored c = leaf_answer (the_view c.self.inside) c.args.self.now c.self.view_is c.self.invariant _ c.args.value (passed c.args.value (search rules)) c.requires
    c.place.new.self c.in-Some.slot c.in-Some.ensures.placed c.new.result c.new.ensures

pub invariant_of-self : goal.invariant_of-self
invariant_of-self c = (stored c).store

pub invariant_of-self-in-None : goal.invariant_of-self-in-None
invariant_of-self-in-None c =
    let q = the_view c.self.inside in
    let none = c.in-None.ensures.full in
    rw none.same (refused-store q c.self.invariant c.risen-self-inside.result _ c.risen-self-inside.ensures.least none.full (missing_leaf q c.self.invariant _ (unknown_leaf q c.self.invariant _ none.absent)))

pub returns-in-Some-clause-grown : goal.returns-in-Some-clause-grown
returns-in-Some-clause-grown c = (stored c).grown

pub returns-in-Some-clause-ok : goal.returns-in-Some-clause-ok
returns-in-Some-clause-ok c = (stored c).denotes

pub returns-in-Some-clause-made : goal.returns-in-Some-clause-made
returns-in-Some-clause-made c = (stored c).made

pub returns-in-Some-clause-still_due : goal.returns-in-Some-clause-still_due
returns-in-Some-clause-still_due c = (stored c).due

pub returns-in-Some-clause-exactly : goal.returns-in-Some-clause-exactly
returns-in-Some-clause-exactly c = not_refused Add _ _ _ _ (stored c)

pub returns-in-None-clause-exactly : goal.returns-in-None-clause-exactly
returns-in-None-clause-exactly c =
    let r = leaf_refused (the_view c.self.inside) c.args.self.now c.self.view_is c.self.invariant _ c.args.value (passed c.args.value (search rules)) _ c.in-None.ensures.full in
    (λ h. r, λ h. refl)
