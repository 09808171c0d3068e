-- Outcomes that may be out of range.
use Rattle.std.specs.Prelude.{Result, Ok, Err}
use Rattle.edge_bits.specs.declared.edges.Edge.{Edge}
use Rattle.node_store.specs.Halt.{halt_of}
use Rattle.node_store.specs.declared.grow.Stop.{Stop}
use Rattle.node_store.specs.declared.operator.Halt.{Halt}
use Rattle.node_store.specs.declared.operator.Halt.TheVariants as halt
use Rattle.add_ops.specs.declared.arithmetic.Overflow.{Overflow}

-- as one of an operator
abbrev pub exact_halts : Result (Result Edge Overflow) Stop → Result Edge Halt
exact_halts (Ok (Ok e)) = Ok e
exact_halts (Ok (Err _)) = Err halt.Overflow
exact_halts (Err stop) = Err (halt_of stop)
