use Rattle.std.proofs.Common.{rules, ap, ◌∙◌, arith}
use Rattle.words_rule.specs.Layout.{count_at}
use Rattle.words_rule.proofs.HolderCounts.{renews}
use Rattle.words_rule.proofs.Keeps.{keeps_number, keeps_sizes, keeps_words}
use Rattle.words_rule.proofs.seat.Guard.renew.Goals as goal

pub store-requires : goal.store-requires
store-requires g c = let is = (c.count-place.ensures ∙ ap (λ z. count_at z c.args.slot) c.args.pass.now.sizes_are) in (search rules, (let w = c.args.pass.now.words_are in let s = ap (λ i. i.words) c.requires.own.0 in let l = c.requires.within in let a = is in omega (arith, w, s, l, a)), renews g.S.Content.board g.S.Content.free_slots g.S.Content.memo _ _ _ _ c.args.slot c.args.word is c.ranges.word.fits c.requires.own.1 c.requires.hold c.requires.knows c.requires.within c.requires.uncounted.0 c.requires.uncounted.1 c.requires.none)

pub invariant_of-pass : goal.invariant_of-pass
invariant_of-pass g c = let p = c.args.pass.now in let d = c.store.ensures.2.0 in record {
  number_is = keeps_number p.number p.seat.me.0.draws _ d p.number_is;
  sizes_are = keeps_sizes p.sizes p.seat.me.0.draws _ d p.sizes_are;
  heads_are = p.heads_are;
  words_are = keeps_words p.seat.table_id _ p.seat.me.0.draws _ c.store.ensures.0 d p.words_are;
}

pub returns-clause-own : goal.returns-clause-own
returns-clause-own g c = (c.store.ensures.0 ∙ c.requires.own.0, c.store.ensures.2.1)

pub returns-clause-renewed : goal.returns-clause-renewed
returns-clause-renewed g c = c.store.ensures.2.2 c.args.slot (c.count-place.ensures ∙ ap (λ z. count_at z c.args.slot) c.args.pass.now.sizes_are)
