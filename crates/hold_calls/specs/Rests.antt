-- A holder with nothing in hand, and the room beside it.
use Rattle.std.specs.Prelude.{◌≡◌, ℕ, false, length, None}
use Rattle.hold_store.specs.Held.{Knowledge, idle}
use Rattle.hold_store.specs.declared.holding.HolderRoom.{HolderRoom}
use Rattle.node_slots.specs.Stores.{is_set}

-- nothing is in hand, half made or pinned, and the room beside it is that of its table
pub record IsAtRest (k : Knowledge) (room : HolderRoom) : Type 0 where
  pub idle : k.hand ≡ idle
  pub half : k.content.half ≡ None
  pub unpinned : (s : ℕ) → k.content.pinned s ≡ false
  pub words : length room.words ≡ k.content.limit
  pub marks : length room.notes.marks ≡ k.content.limit
  pub pins : length room.notes.pins ≡ k.content.limit
  pub pins_are : is_set room.notes.pins ≡ k.content.pinned
