use Rattle.std.proofs.Common.{◌≡◌, sym, subst}
use Rattle.edge_bits.specs.declared.edges.Edge.{Edge}
use Rattle.node_store.specs.Views.{Is}
use Rattle.store_rows.specs.RowStores.{IsLive, IsLiveAs, RowStoreView, edge_in, view_of}
use Rattle.store_rows.proofs.Rows.{edge-told, live-found, live-is}
use Rattle.store_rows.proofs.row_store.RowStore.edge.Goals as goal

pub edge-requires : goal.edge-requires
edge-requires c = live-found c.self.inside.rows.live c.args.h (subst (λ (d : RowStoreView). IsLive d.rows.live c.args.h) (sym c.self.view_is) c.requires)

pub returns-clause-own : goal.returns-clause-own
returns-clause-own c = subst (λ (d : RowStoreView). c.edge.result ≡ edge_in d.rows.live c.args.h) c.self.view_is
    (edge-told c.self.inside.rows.live c.args.h c.edge.result (subst (λ (d : RowStoreView). IsLive d.rows.live c.args.h) (sym c.self.view_is) c.requires) c.edge.ensures)

pub returns-clause-is : goal.returns-clause-is
returns-clause-is c = λ k named.
    let live = subst (λ (d : RowStoreView). IsLive d.rows.live c.args.h) (sym c.self.view_is) c.requires in
    let own = edge-told c.self.inside.rows.live c.args.h c.edge.result live c.edge.ensures in
    subst (λ (d : RowStoreView). Is k (view_of d) c.edge.result) c.self.view_is
    (subst (λ (e : Edge). Is k (view_of (record { store = c.self.inside.store; rows = c.self.inside.rows; made = c.self.inside.made })) e) (sym own)
    (live-is (view_of (record { store = c.self.inside.store; rows = c.self.inside.rows; made = c.self.inside.made })) c.self.inside.rows.live k c.args.h (subst (λ (d : RowStoreView). IsLiveAs k d.rows.live c.args.h) (sym c.self.view_is) named) c.self.invariant.held))
