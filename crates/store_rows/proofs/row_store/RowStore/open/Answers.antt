use Rattle.std.proofs.Common.{◌≡◌, refl, ap, sym, subst}
use Rattle.edge_bits.specs.declared.edges.Edge.{Edge}
use Rattle.node_store.specs.Views.{Is, Opens, values_at}
use Rattle.store_upkeep.specs.Lasting.{orders_of}
use Rattle.store_rows.specs.RowStores.{RowStoreView, Same, view_of}
use Rattle.store_rows.proofs.Changes.{rule-grown}
use Rattle.store_rows.proofs.Standing.{orders-grown}
use Rattle.store_rows.proofs.Tries.{same-run}
use Rattle.store_rows.proofs.row_store.RowStore.open.Goals as goal

pub open-opened-requires : goal.open-opened-requires
open-opened-requires c = (c.requires.0, subst (λ (d : RowStoreView). Is c.requires.0 (view_of d) c.edge-edge.result) (sym c.self.view_is) (c.edge-edge.ensures.is c.requires.0 c.requires.1))

pub invariant_of-self : goal.invariant_of-self
invariant_of-self c = rule-grown (record { store = c.self.inside.store; rows = c.self.inside.rows; made = c.self.inside.made }) c.open-opened.new.self c.self.invariant c.open-opened.ensures.kept.grown

pub returns-clause-same : goal.returns-clause-same
returns-clause-same c = subst (λ (d : RowStoreView). Same d (record { store = c.open-opened.new.self; rows = c.self.inside.rows; made = c.self.inside.made })) c.self.view_is (same-run (record { store = c.self.inside.store; rows = c.self.inside.rows; made = c.self.inside.made }) (record { store = c.open-opened.new.self; rows = c.self.inside.rows; made = c.self.inside.made }) refl c.open-opened.ensures.kept.grown)

pub returns-clause-rows : goal.returns-clause-rows
returns-clause-rows c = ap (λ (d : RowStoreView). d.rows) c.self.view_is

pub returns-clause-opens : goal.returns-clause-opens
returns-clause-opens c = λ k live.
    let w = view_of (record { store = c.open-opened.new.self; rows = c.self.inside.rows; made = c.self.inside.made }) in
    subst (λ (x : RowStoreView × Edge). Opens k w x.1 (values_at k (view_of x.0) x.1) c.open-opened.result) (λ i. (c.self.view_is i, c.edge-edge.ensures.own i))
    (c.open-opened.ensures.opens k (subst (λ (d : RowStoreView). Is k (view_of d) c.edge-edge.result) (sym c.self.view_is) (c.edge-edge.ensures.is k live)))

pub returns-clause-orders : goal.returns-clause-orders
returns-clause-orders c = subst (λ (d : RowStoreView). orders_of c.open-opened.new.self ≡ orders_of d.store) c.self.view_is (orders-grown c.self.inside.store c.open-opened.new.self c.tell_sound.ensures.store c.tell_sound-2.ensures.store c.open-opened.ensures.kept.grown)
