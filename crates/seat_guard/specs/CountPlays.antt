-- What each step on a count word asks and tells, and the end of a hold.
use Rattle.std.specs.Prelude.{◌≡◌, ◌≢◌, ◌⊎◌, ℕ, ◌+◌, ◌<◌, List, [], ◌∷◌, slice_get, true, Some}
use mathlib.Core.Option.{some}
use lib.ListN.{get_elem?}
use Rattle.atomic_table.specs.Table.{Me, Step}
use Rattle.handle_count.specs.CountWords.{count_of, generation_of}
use Rattle.seat_guard.specs.declared.layout.TheConstants.{COUNTS}
use Rattle.seat_guard.specs.declared.view.Held.{Held as HeldEdge}
use Rattle.seat_guard.specs.declared.view.Row.{Row}
use Rattle.seat_guard.specs.declared.view.Hold.{Hold}
use Rattle.seat_guard.specs.declared.view.Hold.TheVariants.{Holding}
use Rattle.seat_guard.specs.declared.view.Share.TheVariants.{Held}
use Rattle.seat_guard.specs.declared.view.Counts.{Counts}
use Rattle.seat_guard.specs.declared.view.Draws.{Draws}
use Rattle.seat_guard.specs.declared.view.View.{View}
use Rattle.seat_guard.specs.Known.{known_at}
use Rattle.seat_guard.specs.Tallies.{cells_count, found_at, lowered_by, pinned_by, raised_by, refs, tally_of, times, unpinned_by}
use Rattle.seat_guard.specs.Turn.{Has}

-- a row of the seat's own has this edge with this function
abbrev pub HasRow : List Row → HeldEdge → Type 0
HasRow rows held = (k : ℕ) × (row : Row) × (get_elem? rows k ≡ some row) × (row.held ≡ held)

abbrev pub HasCell : Draws → HeldEdge → Type 0
HasCell d held = (i : ℕ) × (slice_get d.cells i ≡ Some (Some held))

-- The seat may count the slot up: a row of its own has the edge; or it has the turn, and a cell of the board names the slot, or else the
-- seat has an operation share or the full hold.
abbrev pub MayRaise : View → HeldEdge → Type 0
MayRaise v held = HasRow v.draws.rows held ⊎ ((v.draws.holds ≡ true) × ((0 < cells_count held.edge.index v.draws.cells) ⊎ ((v.shares.op ≡ Held) ⊎ (v.shares.full ≡ Holding))))

-- who has the turn knows the edge: it holds it, others hold it, or a cell has it
abbrev pub Knows : View → HeldEdge → Type 0
Knows v held = HasRow v.draws.rows held ⊎ (Has v.counts.raised held ⊎ (Has v.counts.owed held ⊎ (Has v.draws.others held ⊎ HasCell v.draws held)))

-- nothing that the seat knows of names the slot: nothing that it holds itself, and, where it has the turn, no cell
abbrev pub NamesNone : ℕ → View → Type 0
NamesNone k v = (refs k (tally_of v) ≡ 0) × (v.draws.holds ≡ true → cells_count k v.draws.cells ≡ 0)

-- what a load of the count notes: it is 0; or the slot is that of an edge that some seat or cell has
abbrev pub found_zero : ℕ → ℕ → Counts → Counts
found_zero k g c = record (found_at k g c) { zeros = k ∷ c.zeros }

abbrev pub found_above : ℕ → ℕ → Draws → HeldEdge → Counts → Counts
found_above k g d held c = record (found_at k g c) { above = known_at d held.function ∷ c.above }

-- a hold that is given up takes with it what was noted of counts
abbrev pub counts_without : Hold → Counts → Counts
counts_without Holding c = record c { zeros = []; above = [] }
counts_without _ c = c

module _ {S : Type 0} where
  -- only the counts change, and to these
  abbrev pub IsRecounted : Me S View → Counts → Me S View → Type 0
  IsRecounted m c m' = m' ≡ (record m.0 { counts = c }, m.1)

  abbrev pub counted_up : HeldEdge → Step S → Me S View → ℕ → Me S View → Type 0
  counted_up held st m n m' = IsRecounted m (raised_by held (generation_of n) m.0.counts) m'

  -- the other steps tell of the slot k whose word it is

  abbrev pub counted_down : Step S → Me S View → ℕ → Me S View → Type 0
  counted_down st m n m' = (k : ℕ) → st.word ≡ COUNTS + k → IsRecounted m (lowered_by k m.0.counts) m'

  abbrev pub pinned : Step S → Me S View → ℕ → Me S View → Type 0
  pinned st m n m' = (k : ℕ) → st.word ≡ COUNTS + k → IsRecounted m (pinned_by k m.0.counts) m'

  abbrev pub unpinned : Step S → Me S View → ℕ → Me S View → Type 0
  unpinned st m n m' = (k : ℕ) → st.word ≡ COUNTS + k → IsRecounted m (unpinned_by k m.0.counts) m'

  -- the count is 0, and nothing that the seat knows of names the slot; or it is above 0 while the slot is pinned; or the slot is that of an edge, which who has the turn knows
  abbrev pub looked_at : Step S → Me S View → ℕ → Me S View → Type 0
  looked_at st m n m' = (k : ℕ) → st.word ≡ COUNTS + k →
      (count_of n ≡ 0 → NamesNone k m.0 × IsRecounted m (found_zero k (generation_of n) m.0.counts) m')
      × (count_of n ≢ 0 → times k m.0.counts.pins ≢ 0 → IsRecounted m (found_at k (generation_of n) m.0.counts) m')
      × (count_of n ≢ 0 → times k m.0.counts.pins ≡ 0 → (held : HeldEdge) × (held.edge.index ≡ k) × (m.0.draws.holds ≡ true → Knows m.0 held) × IsRecounted m (found_above k (generation_of n) m.0.draws held m.0.counts) m')

  -- each row of the seat that names the slot has the generation that is found
  abbrev pub generation_read : Step S → Me S View → ℕ → Me S View → Type 0
  generation_read st m n m' = (m' ≡ m) × ((i : ℕ) (row : Row) → get_elem? m.0.draws.rows i ≡ some row → st.word ≡ COUNTS + row.held.edge.index → generation_of n ≡ row.generation)

  -- the word that no step stores to
  abbrev pub sessions_read : Step S → Me S View → ℕ → Me S View → Type 0
  sessions_read st m n m' = (m' ≡ m) × (n ≡ m.0.draws.sessions)
