use Rattle.std.proofs.Common.{◌<◌, subst}
use Rattle.words_holder.proofs.Holding.{turns_same}
use Rattle.words_rule.specs.Passes.{view}
use Rattle.words_holder.proofs.holder.HolderHolds.peek_turn.Goals as goal

pub peek_turn-requires-clause-within : goal.peek_turn-requires-clause-within
peek_turn-requires-clause-within g c = subst (λ n. c.args.level < n) (turns_same (view c.args.self.now.pass) c.requires.own.has.knows_all) c.requires.within
