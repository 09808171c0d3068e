use Rattle.std.proofs.Common.{subst, sym}
use Rattle.step_store.specs.Chains.{Lists}
use Rattle.words_holder.proofs.Holding.{level_same, rewritten_on}
use Rattle.words_holder.proofs.Telling.{rewritten_told}
use Rattle.edge_bits.specs.declared.words.Word.TheVariants.{Inner}
use Rattle.words_rule.specs.Passes.{view}
use Rattle.words_rule.proofs.HandClauses.{stands_at}
use Rattle.words_holder.proofs.holder.HolderHolds.rewrite_node.Goals as goal

pub rewrite_node-requires-clause-within : goal.rewrite_node-requires-clause-within
rewrite_node-requires-clause-within g c = c.requires.own.has.loose c.args.slot c.requires.loose

pub rewrite_node-requires-clause-loose : goal.rewrite_node-requires-clause-loose
rewrite_node-requires-clause-loose g c = (c.requires.own.has.taken, c.requires.loose)

pub rewrite_node-requires-clause-can : goal.rewrite_node-requires-clause-can
rewrite_node-requires-clause-can g c = let v = view c.args.self.now.pass in let r = c.requires.can in (r.0, r.1, r.2, r.3, stands_at v.hand.levels _ (subst (Lists v.hand.levels) (sym (level_same v c.requires.own.has.knows_all (Inner r.1))) r.4))

pub returns-clause-own : goal.returns-clause-own
returns-clause-own g c = let s = c.args.self.now in let e = c.rewrite_node.ensures in let r = c.requires.can in rewritten_on s.guard.now s.pass c.rewrite_node.new.pass s.list s.memo s.due c.requires.own e.own.0 e.own.1 r.1 c.args.slot c.args.bits (Inner r.3.node) r.3.was (e.rewritten r.1 r.2)

pub returns-clause-rewritten : goal.returns-clause-rewritten
returns-clause-rewritten g c = λ node reads. let s = c.args.self.now in rewritten_told (view s.pass) (view c.rewrite_node.new.pass) s.renewed s.due s.lent node c.args.slot c.args.bits (c.rewrite_node.ensures.rewritten node reads)
