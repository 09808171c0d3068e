use Rattle.std.proofs.Common.{◌≡◌, IsTrue, sym, subst, ◌↔◌}
use Rattle.edge_bits.specs.declared.edges.Kind.{Kind}
use Rattle.node_store.specs.Views.{AreTwo, Is, values_at}
use Rattle.store_rows.specs.RowStores.{RowStoreView, view_of}
use Rattle.store_rows.proofs.Told.{same-told}
use Rattle.store_rows.proofs.row_store.RowStore.same.Goals as goal

pub same-requires : goal.same-requires
same-requires c = (
  c.requires.0,
  record {
    first = subst (λ (d : RowStoreView). Is c.requires.0 (view_of d) c.edge-first.result) (sym c.self.view_is) (c.edge-first.ensures.is c.requires.0 c.requires.1);
    second = subst (λ (d : RowStoreView). Is c.requires.0 (view_of d) c.edge-second.result) (sym c.self.view_is) (c.edge-second.ensures.is c.requires.0 c.requires.2);
  },
)

pub returns : goal.returns
returns c = same-told c.args.self.now c.args.f c.args.g c.edge-first.result c.edge-second.result c.same.result c.edge-first.ensures.own c.edge-second.ensures.own
    (subst (λ (d : RowStoreView). (k : Kind) → AreTwo k (view_of d) c.edge-first.result c.edge-second.result → IsTrue c.same.result ↔ (values_at k (view_of d) c.edge-first.result ≡ values_at k (view_of d) c.edge-second.result)) c.self.view_is c.same.ensures)
