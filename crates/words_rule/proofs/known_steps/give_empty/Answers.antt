use Rattle.std.proofs.Common.{◌≡◌, None, subst}
use Rattle.step_store.specs.Knowing.{risen}
use Rattle.words_rule.specs.Passes.{view}
use Rattle.words_rule.proofs.known_steps.give_empty.Goals as goal

pub returns-clause-given : goal.returns-clause-given
returns-clause-given g c = let v = view c.args.pass.now in subst (λ d. view c.give_empty.new.pass ≡ record v { hand = record v.hand { free = None }; work = record v.work { fulls = risen v.work.fulls; due = d } }) c.requires.same c.give_empty.ensures.given
