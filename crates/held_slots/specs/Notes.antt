-- What is noted of a store's slots.
use Rattle.std.specs.Prelude.{◌≡◌, ℕ, ◌/◌, ◌%◌, ◌≤◌, ◌<◌, ◌^◌, Bool, false, IfSome, if◌then◌else◌, List, length, map, None, slice_index}
use Rattle.level_table.specs.Slotted.{padded}
use Rattle.held_slots.specs.SlotSets.{Gathered}
use Rattle.held_slots.specs.declared.notes.Cursor.{Cursor}

-- Of each slot the link to the next one with a node of the same variable, and of each variable that to its first: 0, or one more than the slot. They say something where the slots are linked, and of the variables whose slots are not gathered.
pub record Chain : Type 0 where
  pub links : List ℕ
  pub firsts : List ℕ
  pub linked : Bool
  -- whether links may lead through slots that were freed
  pub stale : Bool
  -- where the last walk along a variable's links stands
  pub cursor : Cursor
  -- the two variables whose nodes were made or changed last
  pub older : Gathered
  pub newer : Gathered

-- what is noted of a store's slots
pub record Notes : Type 0 where
  -- the flag of each slot that is marked, and of each that is pinned: 1, or 0
  pub marks : List ℕ
  pub pins : List ℕ
  pub chain : Chain

abbrev pub flag : Bool → ℕ
flag on = if on then 1 else 0

-- a note has 24 bits of a link, then a bit for the mark and one for the pin
abbrev pub link_in : ℕ → ℕ
link_in note = note % 2 ^ 24

abbrev pub mark_in : ℕ → ℕ
mark_in note = note / 2 ^ 24 % 2

abbrev pub pin_in : ℕ → ℕ
pin_in note = note / 2 ^ 25 % 2

abbrev pub notes_in : List ℕ → ℕ → List ℕ → Bool → Bool → Cursor → Gathered → Gathered → Notes
notes_in notes slots firsts linked stale cursor older newer = record {
  marks = map mark_in (padded slots notes);
  pins = map pin_in (padded slots notes);
  chain = record { links = map link_in (padded slots notes); firsts = firsts; linked = linked; stale = stale; cursor = cursor; older = older; newer = newer };
}

-- the notes that were written are some of the first, and there is room for those of all slots; where it says that none is marked, none is, and where it says that none are gathered, none are
pub record IsNotes (notes firsts : List ℕ) (slots capacity : ℕ) (marked gathers : Bool) (older newer : Gathered) : Type 0 where
  pub within : length notes ≤ slots
  pub few : slots < 2 ^ 23
  pub room : slots ≤ capacity
  pub variables : length firsts ≡ 2 ^ 15
  pub unmarked : marked ≡ false → (s : ℕ) → mark_in (slice_index notes s) ≡ 0
  pub few_older : IfSome older.variable (λ v. v < 2 ^ 15)
  pub few_newer : IfSome newer.variable (λ v. v < 2 ^ 15)
  pub older_fits : older.slots.limit ≡ slots
  pub newer_fits : newer.slots.limit ≡ slots
  pub ungathered : gathers ≡ false → (older.variable ≡ None) × (newer.variable ≡ None)
