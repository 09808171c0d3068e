-- An answer that a store's stop gave.
use Rattle.std.proofs.Common.{◌≡◌, refl, Err}
use Rattle.std.specs.Prelude.{IsErrOf}
use Rattle.node_store.specs.declared.grow.Stop.{Stop}
use Rattle.node_store.specs.declared.grow.Stop.TheVariants as stop
use Rattle.node_store.specs.declared.operator.Halt.{Halt}
use Rattle.node_store.specs.declared.operator.Halt.TheVariants as halt
use Rattle.node_store.specs.Halt.{halt_of}

pub full_stop : {A B : Type 0} (s : Stop) → IsErrOf {T = A} {E = Halt} (Err (halt_of s)) halt.Full → IsErrOf {T = B} {E = Stop} (Err s) stop.Full
full_stop stop.Memory is = let no : halt.Memory ≡ halt.Full = cc in cc
full_stop stop.Full is = refl
