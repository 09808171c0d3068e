use Rattle.std.proofs.Common.{rules, ap, sym, ◌+◌, ◌∙◌, arith}
use Rattle.words_rule.specs.Exchanges.{item}
use Rattle.words_rule.specs.Layout.{order_at, places}
use Rattle.words_rule.specs.Shapes.{shape_in}
use Rattle.words_rule.specs.Views.{orders_of}
use Rattle.words_rule.proofs.OrderStores.{stores_due}
use Rattle.words_rule.proofs.OrderWords.{item_below, item_entry}
use Rattle.words_rule.proofs.Keeps.{keeps_number, keeps_sizes, keeps_words}
use Rattle.words_rule.proofs.seat.Guard.store_level.Goals as goal

pub store-requires : goal.store-requires
store-requires g c =
    let v = c.args.pass.now.seat.me.0 in
    let k = c.requires.knows.long in
    let is = (c.level_of-word.ensures ∙ ap (λ z. order_at z (places z + item z c.args.order c.args.number)) c.args.pass.now.sizes_are) in
    let l = item_below (shape_in v.draws) (orders_of v.known) k.0 k.1 c.args.order c.args.number c.requires.within in (
      search rules,
      (let w = c.args.pass.now.words_are in let s = ap (λ i. i.words) c.requires.own.0 in let a = is in omega (arith, w, s, l, a)),
      stores_due g.S.Content.board g.S.Content.free_slots g.S.Content.memo _ _ _ _ (places (shape_in v.draws) + item (shape_in v.draws) c.args.order c.args.number) c.args.level is c.requires.own.1 c.requires.hold.0 c.requires.hold.1 (omega (arith, l))
          (c.requires.level ∙ sym (item_entry (shape_in v.draws) (orders_of v.known) k.0 k.1 c.args.order c.args.number c.requires.within)),
    )

pub invariant_of-pass : goal.invariant_of-pass
invariant_of-pass g c = let p = c.args.pass.now in let d = c.store.ensures.2.0 in record {
  number_is = keeps_number p.number p.seat.me.0.draws _ d p.number_is;
  sizes_are = keeps_sizes p.sizes p.seat.me.0.draws _ d p.sizes_are;
  heads_are = p.heads_are;
  words_are = keeps_words p.seat.table_id _ p.seat.me.0.draws _ c.store.ensures.0 d p.words_are;
}

pub returns-clause-own : goal.returns-clause-own
returns-clause-own g c = (c.store.ensures.0 ∙ c.requires.own.0, c.store.ensures.2.1)

pub returns-clause-stored : goal.returns-clause-stored
returns-clause-stored g c = ap (λ m. m.0) (c.store.ensures.2.2 (places (shape_in c.args.pass.now.seat.me.0.draws) + item (shape_in c.args.pass.now.seat.me.0.draws) c.args.order c.args.number) (c.level_of-word.ensures ∙ ap (λ z. order_at z (places z + item z c.args.order c.args.number)) c.args.pass.now.sizes_are))
