use Rattle.std.proofs.Common.{sym, subst}
use Rattle.words_rule.specs.Hands.{HasLevel}
use Rattle.words_rule.specs.HolderPlays.{HasLoadedWhole}
use Rattle.words_rule.specs.Passes.{me, view}
use Rattle.words_holder.proofs.told_steps.load_whole.Goals as goal

pub load_whole-requires-clause-has : goal.load_whole-requires-clause-has
load_whole-requires-clause-has g c = subst (HasLevel (view c.args.pass.now).hand) (sym c.requires.same) c.requires.has

pub returns-clause-loaded : goal.returns-clause-loaded
returns-clause-loaded g c = subst (λ l. HasLoadedWhole c.args.head l (me c.args.pass.now) c.load_whole.result (me c.load_whole.new.pass)) c.requires.same c.load_whole.ensures.loaded
