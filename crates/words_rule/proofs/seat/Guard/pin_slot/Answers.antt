use Rattle.std.proofs.Common.{rules, ap, ◌∙◌, arith}
use Rattle.words_rule.specs.Layout.{count_at}
use Rattle.words_rule.proofs.HolderCounts.{pins_held}
use Rattle.words_rule.proofs.Keeps.{keeps_number, keeps_sizes, keeps_words}
use Rattle.words_rule.proofs.seat.Guard.pin_slot.Goals as goal

pub fetch_add-requires : goal.fetch_add-requires
fetch_add-requires g c = let is = (c.count-word.ensures ∙ ap (λ z. count_at z c.args.slot) c.args.pass.now.sizes_are) in (search rules, (let w = c.args.pass.now.words_are in let s = ap (λ i. i.words) c.requires.own.0 in let l = c.requires.knows.sound.within c.args.slot c.requires.used in let a = is in omega (arith, w, s, l, a)), pins_held g.S.Content.board g.S.Content.free_slots g.S.Content.memo _ _ _ _ c.args.slot is c.requires.own.1 c.requires.hold c.requires.knows c.requires.used c.requires.unpinned (c.requires.knows.sound.within c.args.slot c.requires.used))

pub invariant_of-pass : goal.invariant_of-pass
invariant_of-pass g c = let p = c.args.pass.now in let d = c.fetch_add.ensures.2.0 in record {
  number_is = keeps_number p.number p.seat.me.0.draws _ d p.number_is;
  sizes_are = keeps_sizes p.sizes p.seat.me.0.draws _ d p.sizes_are;
  heads_are = p.heads_are;
  words_are = keeps_words p.seat.table_id _ p.seat.me.0.draws _ c.fetch_add.ensures.0 d p.words_are;
}

pub returns-clause-own : goal.returns-clause-own
returns-clause-own g c = (c.fetch_add.ensures.0 ∙ c.requires.own.0, c.fetch_add.ensures.2.1)

pub returns-clause-pinned : goal.returns-clause-pinned
returns-clause-pinned g c = c.fetch_add.ensures.2.2 c.args.slot (c.count-word.ensures ∙ ap (λ z. count_at z c.args.slot) c.args.pass.now.sizes_are)
