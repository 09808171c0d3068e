-- What an outcome says that may be out of range.
use Rattle.std.proofs.Common.{Result, Ok, Err, IfOk, refl}
use Rattle.std.specs.Prelude.{IfErr, IsErrOf}
use Rattle.edge_bits.specs.declared.edges.Edge.{Edge}
use Rattle.node_store.specs.declared.grow.Stop.{Stop}
use Rattle.node_store.specs.declared.grow.Stop.TheVariants as stop
use Rattle.node_store.specs.declared.operator.Halt.TheVariants as halt
use Rattle.add_ops.specs.declared.arithmetic.Overflow.{Overflow}
use Rattle.add_ops.specs.Exact.{exact_halts}

pub exactly_told : (P : Edge → Type 0) (r : Result (Result Edge Overflow) Stop) → IfOk (exact_halts r) P → IfOk r (λ sum. IfOk sum P)
exactly_told P (Ok (Ok e)) ok = ok
exactly_told P (Ok (Err over)) ok = tt
exactly_told P (Err s) ok = tt

pub told_overflow : (P : Type 0) (r : Result (Result Edge Overflow) Stop) → (IsErrOf (exact_halts r) halt.Overflow → P) → IfOk r (λ sum. IfErr sum (λ _. P))
told_overflow P (Ok (Ok e)) over = tt
told_overflow P (Ok (Err _)) over = over refl
told_overflow P (Err s) over = tt

pub exactly_full : (r : Result (Result Edge Overflow) Stop) → IsErrOf r stop.Full → IsErrOf (exact_halts r) halt.Full
exactly_full (Ok sum) is = cc
exactly_full (Err stop.Memory) is = cc
exactly_full (Err stop.Full) is = refl
