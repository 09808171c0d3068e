use Rattle.std.proofs.Common.{ap, ◌∙◌}
use Rattle.words_rule.specs.declared.view.Counts.{Counts}
use Rattle.words_rule.specs.Passes.{view}
use Rattle.word_tests.proofs.Sweeping.{may_move, may_sweep}
use Rattle.word_tests.proofs.rounds.call.Goals as goal

pub place-place-requires-clause-step : goal.place-place-requires-clause-step
place-place-requires-clause-step g c = may_sweep (view c.op_wait-share.result.pass).draws

pub place-place-requires-clause-moves : goal.place-place-requires-clause-moves
place-place-requires-clause-moves g c = let same = c.op_wait-share.ensures.1.0.0.counts in may_move (view c.op_wait-share.result.pass).draws (view c.op_wait-share.result.pass).counts (ap (λ (z : Counts). z.raised) same ∙ c.requires.tidy.settled.raised) (ap (λ (z : Counts). z.owed) same ∙ c.requires.tidy.settled.owed)
