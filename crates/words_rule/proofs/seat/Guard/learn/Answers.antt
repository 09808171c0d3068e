use Rattle.std.proofs.Common.{rules, ap, ◌∙◌, arith}
use Rattle.words_rule.proofs.LearnsAll.{learns_all}
use Rattle.words_rule.proofs.Keeps.{keeps_number, keeps_sizes, keeps_words}
use Rattle.words_rule.proofs.seat.Guard.learn.Goals as goal

pub load-requires : goal.load-requires
load-requires g c = (search rules, (let w = c.args.pass.now.words_are in let s = ap (λ i. i.words) c.requires.own.0 in omega (arith, w, s)), learns_all g.S.Content.board g.S.Content.free_slots g.S.Content.memo _ _ _ c.requires.own.1 c.requires.hold c.requires.fresh.0 c.requires.fresh.1 c.requires.settled)

pub invariant_of-pass : goal.invariant_of-pass
invariant_of-pass g c = let p = c.args.pass.now in let d = c.load.ensures.2.1.draws in record {
  number_is = keeps_number p.number p.seat.me.0.draws _ d p.number_is;
  sizes_are = keeps_sizes p.sizes p.seat.me.0.draws _ d p.sizes_are;
  heads_are = p.heads_are;
  words_are = keeps_words p.seat.table_id _ p.seat.me.0.draws _ c.load.ensures.0 d p.words_are;
}

pub returns-clause-own : goal.returns-clause-own
returns-clause-own g c = (c.load.ensures.0 ∙ c.requires.own.0, c.load.ensures.2.0)

pub returns-clause-learnt : goal.returns-clause-learnt
returns-clause-learnt g c = c.load.ensures.2.1
