use Rattle.std.proofs.Common.{rules, ◌≡◌, ◌<◌, ap, sym, ◌∙◌, arith, subst}
use Rattle.words_rule.specs.Layout.{count_at}
use Rattle.words_rule.specs.Shapes.{shape_in}
use Rattle.words_rule.proofs.CountSteps.{lowers_slot}
use Rattle.words_rule.proofs.Keeps.{keeps_number, keeps_sizes, keeps_words}
use Rattle.words_rule.proofs.seat.Guard.count_down.Goals as goal

pub fetch_sub-requires : goal.fetch_sub-requires
fetch_sub-requires g c = let is = (c.count-word.ensures ∙ ap (λ z. count_at z c.args.slot) c.args.pass.now.sizes_are) in (search rules, (let w = c.args.pass.now.words_are in let s = ap (λ i. i.words) c.requires.own.0 in let l = c.requires.within in omega (arith, w, s, l, is)), lowers_slot g.S.Content.board g.S.Content.free_slots g.S.Content.memo _ _ c.args.pass.now.seat.me c.requires.own.1 _ c.requires.owed.0 c.requires.owed.1 (is ∙ ap (count_at (shape_in c.args.pass.now.seat.me.0.draws)) (sym c.requires.owed.3)) (subst (λ k. k < c.args.pass.now.seat.me.0.draws.slots) (sym c.requires.owed.3) c.requires.within) c.requires.owed.2)

pub invariant_of-pass : goal.invariant_of-pass
invariant_of-pass g c = let p = c.args.pass.now in let d : c.fetch_sub.new.seat.me.0.draws ≡ p.seat.me.0.draws = ap (λ m. m.0.draws) (c.fetch_sub.ensures.2 c.args.slot (c.count-word.ensures ∙ ap (λ z. count_at z c.args.slot) c.args.pass.now.sizes_are)) in record {
  number_is = keeps_number p.number p.seat.me.0.draws c.fetch_sub.new.seat.me.0.draws d p.number_is;
  sizes_are = keeps_sizes p.sizes p.seat.me.0.draws c.fetch_sub.new.seat.me.0.draws d p.sizes_are;
  heads_are = p.heads_are;
  words_are = keeps_words p.seat.table_id c.fetch_sub.new.seat.table_id p.seat.me.0.draws c.fetch_sub.new.seat.me.0.draws (c.fetch_sub.ensures.0) d p.words_are;
}

pub returns-clause-own : goal.returns-clause-own
returns-clause-own g c = (c.fetch_sub.ensures.0 ∙ c.requires.own.0, ap (λ m. m.1) (c.fetch_sub.ensures.2 c.args.slot (c.count-word.ensures ∙ ap (λ z. count_at z c.args.slot) c.args.pass.now.sizes_are)))

pub returns-clause-lowered : goal.returns-clause-lowered
returns-clause-lowered g c = ap (λ m. m.0) (c.fetch_sub.ensures.2 c.args.slot (c.count-word.ensures ∙ ap (λ z. count_at z c.args.slot) c.args.pass.now.sizes_are))
