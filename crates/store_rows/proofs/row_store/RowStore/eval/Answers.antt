use Rattle.std.proofs.Common.{◌≡◌, ◌∙◌, rules, subst, SFits, w64}
use Rattle.std.proofs.lemmas.Int.{to_z-of_z}
use Rattle.function_laws.specs.Values.{assignment_of}
use Rattle.node_store.specs.Listed.{number_of}
use Rattle.node_store.specs.Views.{values_at}
use Rattle.store_upkeep.specs.Lasting.{orders_of}
use Rattle.store_rows.specs.RowStores.{RowStoreView, view_of}
use Rattle.store_rows.proofs.Changes.{rule-grown}
use Rattle.store_rows.proofs.Standing.{orders-grown}
use Rattle.store_rows.proofs.Told.{value-told}
use Rattle.store_rows.proofs.row_store.RowStore.eval.Goals as goal

pub invariant_of-self : goal.invariant_of-self
invariant_of-self c = rule-grown (record { store = c.self.inside.store; rows = c.self.inside.rows; made = c.self.inside.made }) c.value_of-value.new.store c.self.invariant c.value_of-value.ensures.kept.grown

pub returns-clause-value : goal.returns-clause-value
returns-clause-value c = λ k f names.
    let fit : SFits w64 c.value_of-value.result = search rules in
    to_z-of_z w64 c.value_of-value.result fit ∙ value-told c.args.self.now c.args.h c.kind-kind.result c.edge-edge.result c.value_of-value.result (assignment_of c.args.bits.now) c.kind-kind.ensures c.edge-edge.ensures.own
    (subst (λ (d : RowStoreView). c.value_of-value.result ≡ number_of c.kind-kind.result (values_at c.kind-kind.result (view_of d) c.edge-edge.result (assignment_of c.args.bits.now))) c.self.view_is c.value_of-value.ensures.value) k f names

pub returns-clause-orders : goal.returns-clause-orders
returns-clause-orders c = subst (λ (d : RowStoreView). orders_of c.value_of-value.new.store ≡ orders_of d.store) c.self.view_is (orders-grown c.self.inside.store c.value_of-value.new.store c.tell_sound.ensures.store c.tell_sound-2.ensures.store c.value_of-value.ensures.kept.grown)
