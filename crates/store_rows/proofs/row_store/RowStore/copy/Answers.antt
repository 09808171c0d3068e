use Rattle.edge_bits.specs.declared.edges.Edge.{Edge}
use Rattle.edge_bits.specs.declared.edges.Kind.{Kind}
use Rattle.std.proofs.Common.{subst}
use Rattle.store_rows.specs.RowStores.{Gains}
use Rattle.store_rows.proofs.Rows.{one-kind}
use Rattle.store_rows.proofs.Told.{if-ok}
use Rattle.store_rows.proofs.row_store.RowStore.copy.Goals as goal

pub keep-requires : goal.keep-requires
keep-requires c = c.edge-edge.ensures.is c.kind-kind.result c.kind-kind.ensures

pub returns-clause-ok : goal.returns-clause-ok
returns-clause-ok c = if-ok c.keep.result _ _ c.keep.ensures.ok (λ name gains k live.
    let kind = one-kind c.args.self.now.rows.live c.args.h c.kind-kind.result k c.kind-kind.ensures live in
    let own = c.edge-edge.ensures.own in
    subst (λ (y : Kind × Edge). Gains c.args.self.now c.keep.new.self name y.0 y.1) (λ i. (kind i, own i)) gains)
