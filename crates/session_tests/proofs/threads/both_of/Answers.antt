use Rattle.std.proofs.Common.{List, [], ◌∷◌, ◌++◌, ap, sym, subst, ◌∙◌}
use Rattle.dd_session.specs.Managing.{AreAll, Seen}
use Rattle.session_tests.proofs.Opened.{two_are_all}
use Rattle.session_tests.proofs.threads.both_of.Goals as goal

pub returns : goal.returns
returns c = subst (λ (l : List Seen). AreAll c.args.manager.now l) (sym (c.in_ok-push-2.ensures.items ∙ ap (λ (l : List Seen). l ++ c.args.second ∷ []) c.in_ok-push.ensures.items ∙ ap (λ (l : List Seen). (l ++ c.args.first ∷ []) ++ c.args.second ∷ []) c.new-all.ensures.items))
    (two_are_all c.args.manager.now c.args.first c.args.second c.requires.first.0 c.requires.second.0 c.requires.first.1 c.requires.second.1 c.requires.two)
