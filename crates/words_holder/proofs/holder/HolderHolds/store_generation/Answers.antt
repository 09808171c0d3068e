use Rattle.words_holder.proofs.Holding.{renewed_on}
use Rattle.words_holder.proofs.Telling.{renewed_told}
use Rattle.words_rule.specs.Passes.{view}
use Rattle.words_holder.proofs.holder.HolderHolds.store_generation.Goals as goal

pub renew-requires-clause-within : goal.renew-requires-clause-within
renew-requires-clause-within g c = c.requires.own.has.loose c.args.slot c.requires.loose

pub returns-clause-own : goal.returns-clause-own
returns-clause-own g c = let s = c.args.self.now in let e = c.renew.ensures in renewed_on s.guard.now s.pass c.renew.new.pass s.list s.memo s.due c.requires.own e.own.0 e.own.1 c.args.slot c.args.word e.renewed

pub returns-clause-renewed : goal.returns-clause-renewed
returns-clause-renewed g c = let s = c.args.self.now in renewed_told (view s.pass) (view c.renew.new.pass) s.renewed s.due s.lent c.args.slot c.args.word c.renew.ensures.renewed
