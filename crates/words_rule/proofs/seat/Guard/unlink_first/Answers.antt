use Rattle.std.proofs.Common.{rules, ap, ◌∙◌, arith}
use Rattle.words_rule.specs.Layout.{head_at}
use Rattle.words_rule.proofs.Unlinks.{unlinks_first}
use Rattle.words_rule.proofs.Keeps.{keeps_number, keeps_sizes, keeps_words}
use Rattle.words_rule.proofs.seat.Guard.unlink_first.Goals as goal

pub store-requires : goal.store-requires
store-requires g c = let is = (c.head-word.ensures ∙ ap (λ z. head_at z c.args.head) c.args.pass.now.sizes_are) in (search rules, (let w = c.args.pass.now.words_are in let s = ap (λ i. i.words) c.requires.own.0 in let l = c.requires.within.0 in let a = is in omega (arith, w, s, l, a)), unlinks_first g.S.Content.board g.S.Content.free_slots g.S.Content.memo _ _ _ _ c.args.head c.args.slot c.args.link is c.requires.own.1 c.requires.hold c.requires.knows c.requires.can c.requires.front)

pub invariant_of-pass : goal.invariant_of-pass
invariant_of-pass g c = let p = c.args.pass.now in let d = c.store.ensures.2.0 in record {
  number_is = keeps_number p.number p.seat.me.0.draws _ d p.number_is;
  sizes_are = keeps_sizes p.sizes p.seat.me.0.draws _ d p.sizes_are;
  heads_are = p.heads_are;
  words_are = keeps_words p.seat.table_id _ p.seat.me.0.draws _ c.store.ensures.0 d p.words_are;
}

pub returns-clause-own : goal.returns-clause-own
returns-clause-own g c = (c.store.ensures.0 ∙ c.requires.own.0, c.store.ensures.2.1)

pub returns-clause-off : goal.returns-clause-off
returns-clause-off g c = let f = c.requires.front in ap (λ m. m.0) (c.store.ensures.2.2 f.0 c.args.slot f.1 f.2 f.5)
