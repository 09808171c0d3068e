use Rattle.std.proofs.Common.{rules, ap, ◌∙◌, arith}
use Rattle.words_rule.specs.Exchanges.{position}
use Rattle.words_rule.specs.Layout.{order_at}
use Rattle.words_rule.specs.Shapes.{shape_in}
use Rattle.words_rule.specs.Views.{orders_of}
use Rattle.words_rule.proofs.OrderWords.{loads_position, position_below}
use Rattle.words_rule.proofs.Keeps.{keeps_number, keeps_sizes, keeps_words}
use Rattle.words_rule.proofs.seat.Guard.load_position.Goals as goal

pub load-requires : goal.load-requires
load-requires g c = let v = c.args.pass.now.seat.me.0 in let is = (c.position-word.ensures ∙ ap (λ z. order_at z (position z c.args.order c.args.level)) c.args.pass.now.sizes_are) in (search rules, (let w = c.args.pass.now.words_are in let s = ap (λ i. i.words) c.requires.own.0 in let l = position_below (shape_in v.draws) (orders_of v.known) c.requires.knows.long.0 c.requires.knows.long.1 c.args.order c.args.level c.requires.within in let a = is in omega (arith, w, s, l, a)), loads_position g.S.Content.board g.S.Content.free_slots g.S.Content.memo _ _ _ _ c.requires.own.1 c.requires.hold c.requires.settled)

pub invariant_of-pass : goal.invariant_of-pass
invariant_of-pass g c = let p = c.args.pass.now in let d = ap (λ m. m.0.draws) c.load.ensures.2.0 in record {
  number_is = keeps_number p.number p.seat.me.0.draws _ d p.number_is;
  sizes_are = keeps_sizes p.sizes p.seat.me.0.draws _ d p.sizes_are;
  heads_are = p.heads_are;
  words_are = keeps_words p.seat.table_id _ p.seat.me.0.draws _ c.load.ensures.0 d p.words_are;
}

pub returns-clause-there : goal.returns-clause-there
returns-clause-there g c = c.load.ensures.2.1 c.args.order c.args.level (c.position-word.ensures ∙ ap (λ z. order_at z (position z c.args.order c.args.level)) c.args.pass.now.sizes_are) c.requires.within

pub returns-clause-one : goal.returns-clause-one
returns-clause-one g c =
    let v = c.args.pass.now.seat.me.0 in
    let l = position_below (shape_in v.draws) (orders_of v.known) c.requires.knows.long.0 c.requires.knows.long.1 c.args.order c.args.level c.requires.within in
    λ single. (c.load.ensures.2.2 single).order (position (shape_in v.draws) c.args.order c.args.level) (omega (arith, l)) (c.position-word.ensures ∙ ap (λ z. order_at z (position z c.args.order c.args.level)) c.args.pass.now.sizes_are)
