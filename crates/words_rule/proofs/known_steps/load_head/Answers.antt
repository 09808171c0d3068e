use Rattle.std.proofs.Common.{sym, subst}
use Rattle.words_rule.specs.Hands.{HasLevel}
use Rattle.words_rule.specs.Passes.{me, view}
use Rattle.words_rule.specs.Plays.{HasLoaded}
use Rattle.words_rule.proofs.known_steps.load_head.Goals as goal

pub load_head-requires-clause-has : goal.load_head-requires-clause-has
load_head-requires-clause-has g c = subst (HasLevel (view c.args.pass.now).hand) (sym c.requires.same) c.requires.has

pub returns-clause-loaded : goal.returns-clause-loaded
returns-clause-loaded g c = subst (λ l. HasLoaded c.args.head l (me c.args.pass.now) c.load_head.result (me c.load_head.new.pass)) c.requires.same c.load_head.ensures.loaded
