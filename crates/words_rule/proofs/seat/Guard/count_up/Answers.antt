use Rattle.std.proofs.Common.{rules, ◌≡◌, ◌<◌, ap, sym, ◌∙◌, arith, subst}
use Rattle.handle_count.specs.CountWords.{generation_of}
use Rattle.words_rule.specs.Layout.{count_at}
use Rattle.words_rule.specs.OneSession.{counting_up}
use Rattle.words_rule.specs.Tallies.{lifted}
use Rattle.words_rule.specs.Shapes.{shape_in}
use Rattle.words_rule.proofs.CountSteps.{raises_slot}
use Rattle.words_rule.proofs.Keeps.{keeps_number, keeps_sizes, keeps_words}
use Rattle.words_rule.proofs.seat.Guard.count_up.Goals as goal

pub fetch_add-found-requires : goal.fetch_add-found-requires
fetch_add-found-requires g c = let is = (c.count-word.ensures ∙ ap (λ z. count_at z c.args.slot) c.args.pass.now.sizes_are) in (search rules, (let w = c.args.pass.now.words_are in let s = ap (λ i. i.words) c.requires.own.0 in let l = c.requires.within in omega (arith, w, s, l, is)), raises_slot g.S.Content.board g.S.Content.free_slots g.S.Content.memo _ _ c.args.pass.now.seat.me c.requires.own.1 _ g.E.Raises.held (is ∙ ap (count_at (shape_in c.args.pass.now.seat.me.0.draws)) (sym c.requires.edge)) (subst (λ k. k < c.args.pass.now.seat.me.0.draws.slots) (sym c.requires.edge) c.requires.within) c.requires.room c.requires.may)

pub invariant_of-pass : goal.invariant_of-pass
invariant_of-pass g c = let p = c.args.pass.now in let d : c.fetch_add-found.new.seat.me.0.draws ≡ p.seat.me.0.draws = ap (λ m. m.0.draws) c.fetch_add-found.ensures.2 in record {
  number_is = keeps_number p.number p.seat.me.0.draws c.fetch_add-found.new.seat.me.0.draws d p.number_is;
  sizes_are = keeps_sizes p.sizes p.seat.me.0.draws c.fetch_add-found.new.seat.me.0.draws d p.sizes_are;
  heads_are = p.heads_are;
  words_are = keeps_words p.seat.table_id c.fetch_add-found.new.seat.table_id p.seat.me.0.draws c.fetch_add-found.new.seat.me.0.draws (c.fetch_add-found.ensures.0) d p.words_are;
}

pub returns-clause-own : goal.returns-clause-own
returns-clause-own g c = (c.fetch_add-found.ensures.0 ∙ c.requires.own.0, ap (λ m. m.1) c.fetch_add-found.ensures.2)

pub returns-clause-raised : goal.returns-clause-raised
returns-clause-raised g c = ap (λ m. m.0) c.fetch_add-found.ensures.2 ∙ ap (λ k. record c.args.pass.now.seat.me.0 { counts = lifted g.E.Raises.held (generation_of c.fetch_add-found.result) c.args.pass.now.seat.me.0.counts; stored = counting_up k c.args.pass.now.seat.me.0.stored }) c.requires.edge
