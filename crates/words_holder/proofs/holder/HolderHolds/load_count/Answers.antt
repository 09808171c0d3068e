use Rattle.words_holder.proofs.Holding.{found_on}
use Rattle.words_holder.proofs.Telling.{found_told, zero_stays}
use Rattle.words_rule.specs.Passes.{view}
use Rattle.words_holder.proofs.holder.HolderHolds.load_count.Goals as goal

pub returns-clause-own : goal.returns-clause-own
returns-clause-own g c = let s = c.args.self.now in let e = c.find_count.ensures in found_on s.guard.now s.pass c.find_count.new.pass s.list s.memo s.due c.requires.own e.own.0 e.own.1 c.args.slot c.find_count.result e.found

pub returns-clause-counted : goal.returns-clause-counted
returns-clause-counted g c = let s = c.args.self.now in found_told (view s.pass) (view c.find_count.new.pass) s.renewed s.due s.lent c.args.slot c.find_count.result c.find_count.ensures.found

pub returns-clause-stays : goal.returns-clause-stays
returns-clause-stays g c = let s = c.args.self.now in zero_stays (view s.pass) (view c.find_count.new.pass) s.renewed s.due s.lent c.args.slot c.find_count.result c.find_count.ensures.found

pub returns-clause-generation : goal.returns-clause-generation
returns-clause-generation g c = c.find_count.ensures.found.generation
