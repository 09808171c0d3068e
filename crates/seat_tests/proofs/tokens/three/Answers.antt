use Rattle.seat_tests.proofs.Sessions.{none_in}
use Rattle.seat_tests.proofs.tokens.three.Goals as goal

pub open-requires-clause-empty : goal.open-requires-clause-empty
open-requires-clause-empty c = λ k i. none_in 256 i k
