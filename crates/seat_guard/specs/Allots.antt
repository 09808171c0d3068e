-- Of how many sessions a seat may have rows, and its parts of the sessions that there may be.
use Rattle.std.specs.Prelude.{ℕ, ◌+◌, ◌-◌, if◌then◌else◌, length}
use Rattle.edge_bits.specs.declared.limits.TheConstants.{MOST_SESSIONS}
use Rattle.seat_guard.specs.declared.view.Draws.{Draws}

-- of its own one, or of those that came back to it
abbrev pub sessions_of : Draws → ℕ
sessions_of d = if d.live then 1 else if d.closing then length d.gone else 0

-- the closing seat has those of sessions to come too
abbrev pub parts_of : Draws → ℕ
parts_of d = if d.live then 1 else if d.closing then (MOST_SESSIONS - d.given) + length d.gone else 0
