-- Well made dumps, and those that are written.
use Rattle.std.specs.Prelude.{◌≡◌, ◌≢◌, ℕ, ◌+◌, ◌-◌, ◌<◌, ◌≤◌, Bool, not, List, [], ◌∷◌, ℤ, Some, length, slice_get, slice_index, nat_abs, All, Contains, if◌then◌else◌}
use Rattle.std.specs.List.{AllPairs}
use Rattle.std.specs.List.Sorted.{IsStrictlyIncreasing}
use Rattle.edge_bits.specs.declared.edges.Line.{Line}
use Rattle.diagram_dumps.specs.declared.dump.Dump.{Dump}
use Rattle.diagram_dumps.specs.Dumps.{line_value, place_among}

-- the position of a variable in the order
abbrev pub position_of : Dump → ℕ → ℕ
position_of dump var = slice_index dump.permids (place_among dump.ids var)

-- A walk from an index, where all indices from 1 on that are below `next` were numbered: behind it all below the last number
-- are. A line gets its number after those of its then child and its else child.
pub data Numbers (dump : Dump) : ℕ → ℕ → ℕ → Type 0 where
  numbered : {next index : ℕ} → 1 ≤ index → index < next → Numbers dump next index next
  fresh : {next middle : ℕ} (index : ℕ) (line : Line) → slice_get dump.nodes (index - 2) ≡ Some line → 2 ≤ index
      → Numbers dump next line.hi middle → Numbers dump middle (nat_abs line.lo) index → Numbers dump next index (index + 1)

-- a walk from each root in turn
abbrev pub NumbersAll : Dump → ℕ → List ℤ → ℕ → Type 0
NumbersAll dump next [] after = next ≡ after
NumbersAll dump next (root ∷ roots) after = (middle : ℕ) × Numbers dump next (nat_abs root) middle × NumbersAll dump middle roots after

-- the variable stands above that of the line of this index, unless that is the constant
abbrev pub IsAbove : Dump → ℕ → ℕ → Type 0
IsAbove dump var child = (line : Line) → 2 ≤ child → slice_get dump.nodes (child - 2) ≡ Some line → position_of dump var < position_of dump line.var

-- Children come before parents: the lines are numbered from 2 in depth-first post-order, then child before else child, roots in
-- order. Each line's variable stands above its children's, no line is constant, and no two are equal up to complement.
pub record IsWellMade (dump : Dump) : Type 0 where
  pub order : NumbersAll dump 2 dump.roots (2 + length dump.nodes)
  pub above : (i : ℕ) (line : Line) → slice_get dump.nodes i ≡ Some line → IsAbove dump line.var line.hi × IsAbove dump line.var (nat_abs line.lo)
  pub proper : (i : ℕ) (b : Bool) → i < length dump.nodes → ((k : ℕ) → line_value dump (i + 2) k ≡ b) → ⊥
  pub distinct : (i j : ℕ) (b : Bool) → i < j → j < length dump.nodes
      → ((k : ℕ) → line_value dump (i + 2) k ≡ (if b then not (line_value dump (j + 2) k) else line_value dump (j + 2) k)) → ⊥

-- What is written: a well made dump whose ids rise, are below the number of variables and hold each line's variable, and that has
-- as many positions, no two equal.
pub record IsWritable (dump : Dump) : Type 0 where
  pub well_made : IsWellMade dump
  pub rises : IsStrictlyIncreasing dump.ids
  pub below : All (λ id. id < dump.nvars) dump.ids
  pub holds : All (λ line. Contains dump.ids line.var) dump.nodes
  pub as_many : length dump.permids ≡ length dump.ids
  pub apart : AllPairs (λ position other. position ≢ other) dump.permids
