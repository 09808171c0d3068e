use Rattle.std.proofs.Common.{sym, ap, subst, ◌∙◌}
use Rattle.seat_guard.specs.declared.view.Draws.{Draws}
use Rattle.seat_guard.specs.Passes.{known}
use Rattle.seat_guard.specs.Rule.{AllBack}
use Rattle.seat_guard.specs.Views.{one_more, with_gone}
use Rattle.seat_tests.proofs.Sessions.{both_back, none_in}
use Rattle.seat_tests.proofs.turns.two.Goals as goal

pub open-requires-clause-empty : goal.open-requires-clause-empty
open-requires-clause-empty g c = λ k i. none_in 256 i k

pub take_last-tally-requires-clause-back : goal.take_last-tally-requires-clause-back
take_last-tally-requires-clause-back g c =
    let first : Draws = known c.join-first.result.0.0 in
    let second : Draws = known c.join-first.result.1.0 in
    let opened = c.split-second.ensures.closing.1 ∙ ap one_more c.split-first.ensures.closing.1 ∙ ap (λ (d : Draws). one_more (one_more d)) c.in_ok-guard.ensures.1 in
    subst AllBack (sym (c.calls-calls.ensures.own.1 ∙ c.join-2.ensures.1 ∙ ap (λ (d : Draws). with_gone d second) c.join.ensures.1))
    (both_back (known c.split-second.new.pass) first second (ap (λ (d : Draws). d.given) opened) (ap (λ (d : Draws). d.gone) opened) c.join-first.ensures.first.3 c.join-first.ensures.second.3)
