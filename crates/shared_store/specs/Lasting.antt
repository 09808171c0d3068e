-- What lasts through a change of what all share.
use Rattle.std.specs.Prelude.{◌≡◌, ℕ, ◌<◌}
use Rattle.seat_guard.specs.declared.view.Held.{Held}
use Rattle.shared_store.specs.declared.shared.Shared.{Shared}
use Rattle.shared_store.specs.Sharing.{keeps, counts, count, generation, orders, view_of}

-- Nothing changed but how often slots are counted.
pub record IsRecounted (old new : Shared) : Type 0 where
  pub view : view_of new ≡ record (view_of old) { count = count new }
  pub cells : new.cells.items ≡ old.cells.items
  pub orders_are : orders new ≡ orders old
  pub generations : generation new ≡ generation old

-- Each slot with a count above 0 keeps its function, and each cell its edge. The orders may change.
pub record Lasts (old new : Shared) : Type 0 where
  pub held : (h : Held) → 0 < count old h.edge.index → keeps old h → keeps new h
  pub cells : new.cells.items ≡ old.cells.items
  pub counts_are : counts new ≡ counts old

-- each slot with a count above 0 keeps its generation
abbrev pub KeepsGenerations : Shared → Shared → Type 0
KeepsGenerations old new = (k : ℕ) → 0 < count old k → generation new k ≡ generation old k
