use Rattle.std.proofs.Common.{◌∙◌, None, ap, inl, refl, subst, sym}
use Rattle.hold_store.specs.Held.{handed}
use Rattle.step_store.specs.Chains.{Lists}
use Rattle.words_holder.specs.Holders.{knows}
use Rattle.words_holder.proofs.Holding.{turn_given_on}
use Rattle.words_rule.specs.Passes.{view}
use Rattle.words_rule.proofs.HandClauses.{stands_at, without_same}
use Rattle.words_holder.proofs.holder.HolderHolds.give_turn.Goals as goal

pub give_turn-requires-clause-within : goal.give_turn-requires-clause-within
give_turn-requires-clause-within g c = c.requires.own.has.turn c.args.level (subst (λ l. Lists l c.args.level) (sym c.requires.last.1) (inl refl))

pub give_turn-requires-clause-has : goal.give_turn-requires-clause-has
give_turn-requires-clause-has g c = stands_at (view c.args.self.now.pass).hand.levels c.args.level (subst (λ l. Lists l c.args.level) (sym c.requires.last.1) (inl refl))

pub give_turn-requires-clause-calm : goal.give_turn-requires-clause-calm
give_turn-requires-clause-calm g c = (c.requires.own.has.taken, c.requires.calm)

pub returns-clause-own : goal.returns-clause-own
returns-clause-own g c = let s = c.args.self.now in let e = c.give_turn.ensures in turn_given_on s.guard.now s.pass c.give_turn.new.pass s.list s.memo s.due c.requires.own e.own.0 e.own.1 c.args.level e.given

pub returns-clause-given : goal.returns-clause-given
returns-clause-given g c = let s = c.args.self.now in let k = knows (view s.pass) s.renewed s.due s.lent in ap (λ v. knows v s.renewed s.due s.lent) c.give_turn.ensures.given ∙ ap (λ l. handed k (record k.hand { levels = l; walk = None })) (without_same c.args.level (view s.pass).hand.levels)
