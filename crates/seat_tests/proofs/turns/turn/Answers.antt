use Rattle.std.proofs.Common.{ap, ◌∙◌}
use Rattle.seat_guard.specs.declared.view.Counts.{Counts}
use Rattle.seat_guard.specs.Passes.{counts_of, known}
use Rattle.seat_tests.proofs.Sweeping.{may_move, may_sweep}
use Rattle.seat_tests.proofs.turns.turn.Goals as goal

pub place-place-requires-clause-step : goal.place-place-requires-clause-step
place-place-requires-clause-step g c = may_sweep (known c.take-tally.new.pass)

pub place-place-requires-clause-moves : goal.place-place-requires-clause-moves
place-place-requires-clause-moves g c =
    let same = c.take-tally.ensures.stands.1 in
    may_move (known c.take-tally.new.pass) (counts_of c.take-tally.new.pass) (ap (λ (z : Counts). z.raised) same ∙ c.requires.settled.0) (ap (λ (z : Counts). z.owed) same ∙ c.requires.settled.1)
