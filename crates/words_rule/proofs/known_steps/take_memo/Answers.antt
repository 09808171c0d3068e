use Rattle.std.proofs.Common.{◌≡◌, ◌<◌, ◌∷◌, None, sym, subst}
use Rattle.std.specs.Prelude.{IfSome}
use Rattle.words_rule.specs.Known.{Own}
use Rattle.words_rule.specs.Loads.{LearntMemo}
use Rattle.words_rule.specs.Passes.{view, in_hand}
use Rattle.words_rule.proofs.known_steps.take_memo.Goals as goal

pub take_memo-requires-clause-few : goal.take_memo-requires-clause-few
take_memo-requires-clause-few g c = subst (λ (o : Own). o.fulls < 18446744073709551616) (sym c.requires.same) c.requires.few

pub returns-clause-taken : goal.returns-clause-taken
returns-clause-taken g c = subst (λ (o : Own). IfSome c.take_memo.result (λ x. LearntMemo o (g.S.Content.memo x) (view c.args.pass.now) (view c.take_memo.new.pass) × (in_hand c.take_memo.new.pass ≡ (2, None) ∷ in_hand c.args.pass.now))) c.requires.same c.take_memo.ensures.taken
