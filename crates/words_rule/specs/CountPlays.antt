-- What steps on count words tell.
use Rattle.std.specs.Prelude.{◌≡◌, ◌⊎◌, ℕ, List, [], ◌∷◌}
use mathlib.Core.Option.{some}
use lib.ListN.{get_elem?}
use Rattle.atomic_table.specs.Table.{Me, Step}
use Rattle.handle_count.specs.CountWords.{generation_of}
use Rattle.words_rule.specs.declared.view.Held.{Held as HeldEdge}
use Rattle.words_rule.specs.declared.view.Row.{Row}
use Rattle.words_rule.specs.declared.view.Share.TheVariants.{Held}
use Rattle.words_rule.specs.declared.view.Counts.{Counts}
use Rattle.words_rule.specs.declared.view.Stored.{Stored}
use Rattle.words_rule.specs.declared.view.View.{View}
use Rattle.words_rule.specs.Shapes.{shape_in}
use Rattle.words_rule.specs.Layout.{count_at}
use Rattle.words_rule.specs.Kept.{IsHeldBy}
use Rattle.words_rule.specs.Known.{noted_content}
use Rattle.words_rule.specs.Tallies.{lifted}
use Rattle.words_rule.specs.OneSession.{counting_down, counting_up}

-- a row of the seat's own has this edge with this function
abbrev pub HasRow : List Row → HeldEdge → Type 0
HasRow rows held = (j : ℕ) × (row : Row) × (get_elem? rows j ≡ some row) × (row.held ≡ held)

-- The seat may count the slot up: a row of its own has the edge; or it knows what the edge denotes, under an operation share.
abbrev pub MayRaise : View → HeldEdge → Type 0
MayRaise v held = HasRow v.draws.rows held ⊎ ((v.shares.op ≡ Held) × IsHeldBy (shape_in v.draws) (noted_content v).function held)

-- all but the first
abbrev pub others_of : {A : Type 0} → List A → List A
others_of [] = []
others_of (x ∷ xs) = xs

module _ {S : Type 0} where
  -- only the counts change, and to these, and a count word is stored
  abbrev pub IsRecounted : Me S View → Counts → Stored → Me S View → Type 0
  IsRecounted m c l m' = m' ≡ (record m.0 { counts = c; stored = l }, m.1)

  -- a slot is counted up, and its generation is told
  abbrev pub counted_up : HeldEdge → Step S → Me S View → ℕ → Me S View → Type 0
  counted_up held st m n m' = IsRecounted m (lifted held (generation_of n) m.0.counts) (counting_up held.edge.index m.0.stored) m'

  -- of the slot k whose word it is: what is owed first is counted down; one pin more; the first pin goes
  abbrev pub counted_down : Step S → Me S View → ℕ → Me S View → Type 0
  counted_down st m n m' = (k : ℕ) → st.word ≡ count_at (shape_in m.0.draws) k → IsRecounted m (record m.0.counts { owed = others_of m.0.counts.owed }) (counting_down k m.0.stored) m'

  abbrev pub pinned : Step S → Me S View → ℕ → Me S View → Type 0
  pinned st m n m' = (k : ℕ) → st.word ≡ count_at (shape_in m.0.draws) k → IsRecounted m (record m.0.counts { pins = k ∷ m.0.counts.pins }) (counting_up k m.0.stored) m'

  abbrev pub unpinned : Step S → Me S View → ℕ → Me S View → Type 0
  unpinned st m n m' = (k : ℕ) → st.word ≡ count_at (shape_in m.0.draws) k → IsRecounted m (record m.0.counts { pins = others_of m.0.counts.pins }) (counting_down k m.0.stored) m'
