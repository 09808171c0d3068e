use Rattle.std.proofs.Common.{rules, ap, ◌∙◌, arith}
use Rattle.words_rule.specs.Layout.{count_at}
use Rattle.words_rule.proofs.HolderCounts.{finds_count}
use Rattle.words_rule.proofs.Keeps.{keeps_number, keeps_sizes, keeps_words}
use Rattle.words_rule.proofs.seat.Guard.find_count.Goals as goal

pub load-requires : goal.load-requires
load-requires g c = let is = (c.count-word.ensures ∙ ap (λ z. count_at z c.args.slot) c.args.pass.now.sizes_are) in (search rules, (let w = c.args.pass.now.words_are in let s = ap (λ i. i.words) c.requires.own.0 in let l = c.requires.within in let a = is in omega (arith, w, s, l, a)), finds_count g.S.Content.board g.S.Content.free_slots g.S.Content.memo _ _ _ _ c.args.slot is c.requires.own.1 c.requires.hold c.requires.knows c.requires.within)

pub invariant_of-pass : goal.invariant_of-pass
invariant_of-pass g c = let p = c.args.pass.now in let d = c.load.ensures.2.0 in record {
  number_is = keeps_number p.number p.seat.me.0.draws _ d p.number_is;
  sizes_are = keeps_sizes p.sizes p.seat.me.0.draws _ d p.sizes_are;
  heads_are = p.heads_are;
  words_are = keeps_words p.seat.table_id _ p.seat.me.0.draws _ c.load.ensures.0 d p.words_are;
}

pub returns-clause-own : goal.returns-clause-own
returns-clause-own g c = (c.load.ensures.0 ∙ c.requires.own.0, c.load.ensures.2.1)

pub returns-clause-found : goal.returns-clause-found
returns-clause-found g c = c.load.ensures.2.2 c.args.slot (c.count-word.ensures ∙ ap (λ z. count_at z c.args.slot) c.args.pass.now.sizes_are)

pub returns-clause-one : goal.returns-clause-one
returns-clause-one g c = λ single. (c.load.ensures.2.3 single).count c.args.slot c.requires.within (c.count-word.ensures ∙ ap (λ z. count_at z c.args.slot) c.args.pass.now.sizes_are)
