-- Functions that a seat noted, as they stand in a table.
use Rattle.std.specs.Prelude.{◌≡◌, ℕ, Some}
use Rattle.edge_bits.specs.declared.limits.TheConstants.{CELLS}
use Rattle.function_laws.specs.declared.history.Function.{Function}
use Rattle.function_laws.specs.Tables.{Sizes, Table}
use Rattle.function_laws.specs.Widening.{at_sizes}
use Rattle.seat_guard.specs.declared.view.Draws.{Draws}
use Rattle.seat_guard.specs.declared.view.Row.{Row}

-- n variables and m elements
abbrev pub sizes_for : ℕ → ℕ → Sizes
sizes_for n m = record { variables = n; elements = m; most_variables = n; most_elements = m; cells = CELLS }

-- a noted function, with the variables and elements that the seat knows
abbrev pub known_at : Draws → Function → Function
known_at d f = at_sizes (sizes_for d.vars d.elements) f

-- the row's name stands for the row's function in the table, where the row is the session's
abbrev pub StandsIn : Table → ℕ → Row → Type 0
StandsIn t session row = t.live session row.name ≡ Some (at_sizes t.sizes row.held.function)
