use Rattle.std.proofs.Common.{◌≡◌}
use Rattle.words_rule.specs.Passes.{in_hand, view, IsPassOf}
use Rattle.word_tests.proofs.Counting.{HasNoted}
use Rattle.word_tests.proofs.rounds.count_all.Given as goal

abbrev pub invariant-loop-slot : goal.invariant-loop-slot
invariant-loop-slot l = record { own : IsPassOf l.guard l.pass; out : in_hand l.pass ≡ in_hand l.initial.pass; noted : HasNoted (view l.initial.pass) (view l.pass) }
