use Rattle.std.proofs.Common.{◌≡◌, ap, sym, subst}
use Rattle.std.specs.Prelude.{IsErrOf}
use Rattle.node_slots.specs.Stores.{IsStore, plain_view}
use Rattle.node_store.specs.declared.grow.Stop.TheVariants as stops
use Rattle.operator_calls.specs.Making.{RunsMaking, takes}
use Rattle.operator_calls.specs.Taking.{of_lent}
use Rattle.store_upkeep.specs.Lasting.{orders_of}
use Rattle.store_rows.specs.MadeRows.{IsFull}
use Rattle.store_rows.specs.RowStores.{RowStoreView, view_of}
use Rattle.store_rows.proofs.Changes.{rule-grown}
use Rattle.store_rows.proofs.row_store.RowStore.run_edges.Goals as goal

pub run_once-requires : goal.run_once-requires
run_once-requires c = subst (λ (d : RowStoreView). IsStore d.store → takes (of_lent c.args.edges.now) (view_of d)) (sym c.self.view_is) c.requires

pub invariant_of-self : goal.invariant_of-self
invariant_of-self c = rule-grown (record { store = c.self.inside.store; rows = c.self.inside.rows; made = c.self.inside.made }) c.run_once.new.store c.self.invariant c.run_once.ensures.runs.grown

pub returns-clause-runs : goal.returns-clause-runs
returns-clause-runs c = subst (λ (d : RowStoreView). RunsMaking (of_lent c.args.edges.now) (view_of d) (plain_view c.run_once.new.store) c.run_once.result) c.self.view_is c.run_once.ensures.runs

pub returns-clause-full : goal.returns-clause-full
returns-clause-full c = subst (λ (d : RowStoreView). IsErrOf c.run_once.result stops.Full → IsFull (of_lent c.args.edges.now) (view_of d) c.run_once.new.store) c.self.view_is c.run_once.ensures.full

pub returns-clause-rows : goal.returns-clause-rows
returns-clause-rows c = ap (λ (d : RowStoreView). d.rows) c.self.view_is

pub returns-clause-orders : goal.returns-clause-orders
returns-clause-orders c = subst (λ (d : RowStoreView). orders_of c.run_once.new.store ≡ orders_of d.store) c.self.view_is c.run_once.ensures.orders
