use Rattle.std.proofs.Common.{rules, ap, ◌∙◌, arith}
use Rattle.words_rule.specs.Exchanges.{position}
use Rattle.words_rule.specs.Layout.{order_at}
use Rattle.words_rule.specs.Shapes.{shape_in}
use Rattle.words_rule.specs.Views.{orders_of}
use Rattle.words_rule.proofs.OrderStores.{stores_exchange}
use Rattle.words_rule.proofs.OrderWords.{position_below}
use Rattle.words_rule.proofs.Keeps.{keeps_number, keeps_sizes, keeps_words}
use Rattle.words_rule.proofs.seat.Guard.exchange.Goals as goal

pub store-requires : goal.store-requires
store-requires g c =
    let v = c.args.pass.now.seat.me.0 in
    let k = c.requires.knows.long in
    let within = c.requires.can.within in
    let is = (c.position-word.ensures ∙ ap (λ z. order_at z (position z c.args.order c.args.level)) c.args.pass.now.sizes_are) in
    let l = position_below (shape_in v.draws) (orders_of v.known) k.0 k.1 c.args.order c.args.level (omega (arith, within)) in (
      search rules,
      (let w = c.args.pass.now.words_are in let s = ap (λ i. i.words) c.requires.own.0 in let a = is in omega (arith, w, s, l, a)),
      stores_exchange g.S.Content.board g.S.Content.free_slots g.S.Content.memo _ _ _ _ c.args.order c.args.level c.args.lower is c.requires.own.1 c.requires.hold c.requires.knows c.requires.settled c.requires.hand.0 c.requires.hand.1 c.requires.can c.requires.lower,
    )

pub invariant_of-pass : goal.invariant_of-pass
invariant_of-pass g c = let p = c.args.pass.now in let d = c.store.ensures.2.0 in record {
  number_is = keeps_number p.number p.seat.me.0.draws _ d p.number_is;
  sizes_are = keeps_sizes p.sizes p.seat.me.0.draws _ d p.sizes_are;
  heads_are = p.heads_are;
  words_are = keeps_words p.seat.table_id _ p.seat.me.0.draws _ c.store.ensures.0 d p.words_are;
}

pub returns-clause-own : goal.returns-clause-own
returns-clause-own g c = (c.store.ensures.0 ∙ c.requires.own.0, c.store.ensures.2.1)

pub returns-clause-exchanged : goal.returns-clause-exchanged
returns-clause-exchanged g c = let within = c.requires.can.within in c.store.ensures.2.2 c.args.order c.args.level (c.position-word.ensures ∙ ap (λ z. order_at z (position z c.args.order c.args.level)) c.args.pass.now.sizes_are) (omega (arith, within))
