use Rattle.std.proofs.Common.{IsTrue, subst, ◌↔◌}
use Rattle.store_rows.specs.RowStores.{IsLive, RowStoreView}
use Rattle.store_rows.proofs.Rows.{live-either}
use Rattle.store_rows.proofs.row_store.RowStore.is_live.Goals as goal

pub returns : goal.returns
returns c = subst (λ (d : RowStoreView). IsTrue c.is_live.result ↔ IsLive d.rows.live c.args.h) c.self.view_is (live-either c.self.inside.rows.live c.args.h c.is_live.result c.is_live.ensures)
