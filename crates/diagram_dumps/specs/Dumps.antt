-- The functions of the lines and roots of a stored diagram.
use Rattle.std.specs.Prelude.{ℕ, zero, suc, ◌+◌, ◌-◌, ◌==◌, nat_le, Bool, true, not, List, ℤ, pos, negsuc, Option, Some, None, length, position, slice_get, if◌then◌else◌}
use Rattle.std.specs.Option.{unwrap_or}
use Rattle.edge_bits.specs.declared.edges.Line.{Line}
use Rattle.edge_bits.specs.Assignments.{bit}
use Rattle.diagram_dumps.specs.declared.dump.Dump.{Dump}

-- the first place of a variable among the ids
abbrev pub place_among : List ℕ → ℕ → ℕ
place_among ids var = unwrap_or (position (λ id. id == var) ids) 0

-- the value of what a positive index is, or of the complement where it is negative
abbrev pub signed : (ℕ → Bool) → ℤ → Bool
signed value (pos index) = value index
signed value (negsuc below) = not (value (below + 1))

-- of a node line at k: its then child where its variable is 1, else its else child
abbrev pub node_value : Option Line → ℕ → (ℕ → Bool) → Bool
node_value None k value = true
node_value (Some line) k value = if bit k line.var then value line.hi else signed value line.lo

-- The value of an index at k, through so many lines at most. Index 1 is the constant one, and the line of index i stands at
-- place i - 2.
unfoldable pub value_within : Dump → ℕ → ℕ → ℕ → Bool
value_within dump zero index k = true
value_within dump (suc limit) index k =
    if nat_le index 1 then true else node_value (slice_get dump.nodes (index - 2)) k (λ child. value_within dump limit child k)

-- the function of a line, by its index
abbrev pub line_value : Dump → ℕ → ℕ → Bool
line_value dump index k = value_within dump (length dump.nodes) index k

-- the function of a root
abbrev pub root_value : Dump → ℤ → ℕ → Bool
root_value dump root k = signed (λ index. line_value dump index k) root
