use Rattle.std.proofs.Common.{rules, ap, ◌∙◌, arith}
use Rattle.words_rule.specs.Layout.{count_at}
use Rattle.words_rule.proofs.CountLoads.{loads_count}
use Rattle.handle_count.specs.CountWords.{count_of}
use Rattle.words_rule.proofs.Keeps.{keeps_number, keeps_sizes, keeps_words}
use Rattle.words_rule.proofs.seat.Guard.load_count.Goals as goal

pub load-found-requires : goal.load-found-requires
load-found-requires g c = let is = (c.count-word.ensures ∙ ap (λ z. count_at z c.args.slot) c.args.pass.now.sizes_are) in (search rules, (let w = c.args.pass.now.words_are in let s = ap (λ i. i.words) c.requires.own.0 in let l = c.requires.within in omega (arith, w, s, l, is)), loads_count g.S.Content.board g.S.Content.free_slots g.S.Content.memo _ _ c.args.pass.now.seat.me _ c.args.slot is c.requires.within c.requires.own.1 c.requires.hold)

pub invariant_of-pass : goal.invariant_of-pass
invariant_of-pass g c = let p = c.args.pass.now in let d = c.load-found.ensures.2.0 in record {
  number_is = keeps_number p.number p.seat.me.0.draws c.load-found.new.seat.me.0.draws d p.number_is;
  sizes_are = keeps_sizes p.sizes p.seat.me.0.draws c.load-found.new.seat.me.0.draws d p.sizes_are;
  heads_are = p.heads_are;
  words_are = keeps_words p.seat.table_id c.load-found.new.seat.table_id p.seat.me.0.draws c.load-found.new.seat.me.0.draws c.load-found.ensures.0 d p.words_are;
}

pub returns-clause-own : goal.returns-clause-own
returns-clause-own g c = (c.load-found.ensures.0 ∙ c.requires.own.0, c.load-found.ensures.2.1)

pub returns-clause-counted : goal.returns-clause-counted
returns-clause-counted g c = c.load-found.ensures.2.2 c.args.slot (c.count-word.ensures ∙ ap (λ z. count_at z c.args.slot) c.args.pass.now.sizes_are)

pub returns-clause-one : goal.returns-clause-one
returns-clause-one g c = λ single. ap count_of ((c.load-found.ensures.2.3 single).count c.args.slot c.requires.within (c.count-word.ensures ∙ ap (λ z. count_at z c.args.slot) c.args.pass.now.sizes_are))
