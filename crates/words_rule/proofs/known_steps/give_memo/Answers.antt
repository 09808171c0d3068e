use Rattle.std.proofs.Common.{sym, subst}
use Rattle.words_rule.specs.Known.{Own, known_of}
use Rattle.words_rule.specs.Passes.{view}
use Rattle.words_rule.specs.Remembered.{AreAnswers}
use Rattle.words_rule.proofs.known_steps.give_memo.Goals as goal

pub give_memo-requires-clause-holds : goal.give_memo-requires-clause-holds
give_memo-requires-clause-holds g c = subst (λ (o : Own). AreAnswers (known_of (view c.args.pass.now) o).view (g.S.Content.memo c.args.content)) (sym c.requires.same) c.requires.holds
