-- The words by what they are.
use Rattle.std.specs.Prelude.{ℕ, ◌+◌, nat_lt, if◌then◌else◌, List, slice_index}
use Rattle.seat_guard.specs.declared.layout.TheConstants.{COUNTS, JOURNAL, PHASE, SESSIONS, TURN}

pub record Words : Type 0 where
  pub journal : ℕ
  pub phase : ℕ
  pub turn : ℕ
  pub sessions : ℕ
  -- of a slot
  pub count : ℕ → ℕ

-- how many words a table of so many slots has
abbrev pub word_count : ℕ → ℕ
word_count slots = COUNTS + slots

-- the count word of a slot
abbrev pub count_at : ℕ → ℕ
count_at k = COUNTS + k

-- so many words, the first at this index; behind them 0
abbrev pub area : (ℕ → ℕ) → ℕ → List ℕ → ℕ → ℕ
area at len ws k = if nat_lt k len then slice_index ws (at k) else 0

abbrev pub words_of : ℕ → List ℕ → Words
words_of slots ws = record {
  journal = slice_index ws JOURNAL;
  phase = slice_index ws PHASE;
  turn = slice_index ws TURN;
  sessions = slice_index ws SESSIONS;
  count = area count_at slots ws;
}
