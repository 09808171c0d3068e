use Rattle.std.proofs.Common.{ap}
use Rattle.hold_store.specs.Held.{handed}
use Rattle.words_holder.specs.Holders.{knows}
use Rattle.words_rule.specs.Passes.{view}
use Rattle.words_holder.proofs.holder.HolderHolds.take_free.Goals as goal

pub returns-clause-taken : goal.returns-clause-taken
returns-clause-taken g c = λ is. let s = c.args.self.now in let k = knows (view s.pass) s.renewed s.due s.lent in (s.list.slots, ap (λ f. handed k (record k.hand { free = f })) c.requires.own.has.list_is)
