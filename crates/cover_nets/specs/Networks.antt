-- Networks of covers, and the values of their signals.
use Rattle.std.specs.Prelude.{◌≡◌, ℕ, zero, suc, ◌+◌, ◌-◌, nat_lt, Bool, true, false, ◌&&◌, not, List, ◌∷◌, Option, Some, None, length, slice_get, if◌then◌else◌}
use Rattle.std.specs.List.{list_any, list_all}
use Rattle.edge_bits.specs.Assignments.{bit}
use Rattle.cover_nets.specs.declared.net.Net.{Net}
use Rattle.cover_nets.specs.declared.net.Cover.{Cover}
use Rattle.cover_nets.specs.declared.net.Literal.{Literal}
use Rattle.cover_nets.specs.declared.net.Literal.TheVariants.{Zero, One, Any}

-- each gate reads inputs and gates before it
abbrev pub IsOrdered : Net → Type 0
IsOrdered net = (i : ℕ) (gate : Cover) → slice_get net.gates i ≡ Some gate → list_all (λ s. nat_lt s (length net.inputs + i)) gate.ins ≡ true

-- the literal fits the value of its input
abbrev pub fits : Literal → Bool → Bool
fits Zero value = not value
fits One value = value
fits Any value = true

-- the row matches: each literal fits the value of its input
abbrev pub matches : (ℕ → Bool) → List Literal → List ℕ → Bool
matches values (literal ∷ literals) (signal ∷ signals) = fits literal (values signal) && matches values literals signals
matches values _ _ = true

-- what a cover gives from the values of its inputs
abbrev pub cover_value : Cover → (ℕ → Bool) → Bool
cover_value gate values = if list_any (λ cube. matches values cube.literals gate.ins) gate.rows then gate.on else not gate.on

abbrev pub gate_or_none : Option Cover → (ℕ → Bool) → Bool
gate_or_none None values = false
gate_or_none (Some gate) values = cover_value gate values

-- the value of a signal at k: an input's bit, or what its cover gives from the values of its inputs, through at most so many gates
unfoldable pub value_within : Net → ℕ → ℕ → ℕ → Bool
value_within net zero signal k = nat_lt signal (length net.inputs) && bit k signal
value_within net (suc limit) signal k =
    if nat_lt signal (length net.inputs) then bit k signal else
    gate_or_none (slice_get net.gates (signal - length net.inputs)) (λ input. value_within net limit input k)

-- through at most as many gates as there are
abbrev pub signal_value : Net → ℕ → ℕ → Bool
signal_value net signal k = value_within net (length net.gates) signal k
