use Rattle.std.proofs.Common.{rules, ap, ◌∙◌, arith}
use Rattle.words_rule.proofs.FullSteps.{full_leaves}
use Rattle.words_rule.proofs.Keeps.{keeps_number, keeps_sizes, keeps_words}
use Rattle.words_rule.proofs.seat.Guard.leave_full.Goals as goal

pub fetch_xor-requires : goal.fetch_xor-requires
fetch_xor-requires g c = (search rules, (let w = c.args.pass.now.words_are in let s = ap (λ i. i.words) c.requires.own.0 in omega (arith, w, s)), full_leaves g.S.Content.board g.S.Content.free_slots g.S.Content.memo _ _ _ c.requires.own.1 c.requires.hold c.requires.done.0 c.requires.done.1)

pub invariant_of-pass : goal.invariant_of-pass
invariant_of-pass g c = let p = c.args.pass.now in let d = ap (λ m. m.0.draws) c.fetch_xor.ensures.2 in record {
  number_is = keeps_number p.number p.seat.me.0.draws _ d p.number_is;
  sizes_are = keeps_sizes p.sizes p.seat.me.0.draws _ d p.sizes_are;
  heads_are = p.heads_are;
  words_are = keeps_words p.seat.table_id _ p.seat.me.0.draws _ c.fetch_xor.ensures.0 d p.words_are;
}

pub returns-clause-own : goal.returns-clause-own
returns-clause-own g c = (c.fetch_xor.ensures.0 ∙ c.requires.own.0, ap (λ m. m.1) c.fetch_xor.ensures.2)

pub returns-clause-left : goal.returns-clause-left
returns-clause-left g c = ap (λ m. m.0) c.fetch_xor.ensures.2
