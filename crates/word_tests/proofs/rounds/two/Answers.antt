use Rattle.std.proofs.Common.{sym, ap, ◌∙◌}
use Rattle.words_rule.specs.declared.view.Draws.{Draws}
use Rattle.words_rule.specs.Closings.{known}
use Rattle.words_rule.specs.Passes.{view}
use Rattle.words_rule.specs.Views.{one_more, with_gone}
use Rattle.word_tests.proofs.Lists.{both_back}
use Rattle.word_tests.proofs.rounds.two.Goals as goal

pub finish-phase-requires-clause-back : goal.finish-phase-requires-clause-back
finish-phase-requires-clause-back g c =
    let first : Draws = (view c.join-first.result.0.0).draws in
    let second : Draws = (view c.join-first.result.1.0).draws in
    let opened = c.split-second.ensures.closing.1 ∙ ap one_more c.split-first.ensures.closing.1 ∙ ap (λ (d : Draws). one_more (one_more d)) c.in_ok-guard.ensures.1 in
    both_back (known c.split-second.new.closing) first second (ap (λ (d : Draws). d.given) opened) (ap (λ (d : Draws). d.gone) opened) c.join-first.ensures.first.1 c.join-first.ensures.second.1 (known c.calls-calls.new.closing)
    (sym (c.calls-calls.ensures.own.1 ∙ c.join-2.ensures.1 ∙ ap (λ (d : Draws). with_gone d second) c.join.ensures.1))
