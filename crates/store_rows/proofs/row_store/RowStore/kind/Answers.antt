use Rattle.std.proofs.Common.{sym, subst}
use Rattle.store_rows.specs.RowStores.{IsLive, IsLiveAs, RowStoreView}
use Rattle.store_rows.proofs.Rows.{kind-told, live-found}
use Rattle.store_rows.proofs.row_store.RowStore.kind.Goals as goal

pub kind-requires : goal.kind-requires
kind-requires c = live-found c.self.inside.rows.live c.args.h (subst (λ (d : RowStoreView). IsLive d.rows.live c.args.h) (sym c.self.view_is) c.requires)

pub returns : goal.returns
returns c = subst (λ (d : RowStoreView). IsLiveAs c.kind.result d.rows.live c.args.h) c.self.view_is
    (kind-told c.self.inside.rows.live c.args.h c.kind.result (subst (λ (d : RowStoreView). IsLive d.rows.live c.args.h) (sym c.self.view_is) c.requires) c.kind.ensures)
