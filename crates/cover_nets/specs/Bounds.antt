-- The order of a network's gates, the limits of its size, and outputs that are signals of it.
use Rattle.std.specs.Prelude.{ℕ, ◌+◌, ◌≤◌, ◌<◌, length, All}
use Rattle.edge_bits.specs.declared.limits.TheConstants.{MOST_VARIABLES, MOST_OUTPUTS, MOST_SIGNALS}
use Rattle.cover_nets.specs.declared.net.Net.{Net}
use Rattle.cover_nets.specs.Networks.{IsOrdered}

-- the signals of a network: inputs and gates
abbrev pub signal_count : Net → ℕ
signal_count net = length net.inputs + length net.gates

pub record IsBounded (net : Net) : Type 0 where
  pub ordered : IsOrdered net
  -- inputs and signals are at most as many as a text may have; so are outputs, and behind them what latches read; and there is an output
  pub inputs : length net.inputs ≤ MOST_VARIABLES
  pub signals : signal_count net ≤ MOST_SIGNALS
  pub outputs : length net.outputs ≤ MOST_OUTPUTS + MOST_VARIABLES
  pub some : 1 ≤ length net.outputs
  -- each output is a signal of the network
  pub named : All (λ output. output.signal < signal_count net) net.outputs
