use Rattle.std.proofs.Common.{◌≡◌, ◌+◌, sym, ap, ◌∙◌, subst}
use Rattle.std.specs.Prelude.{slice_index}
use Rattle.function_laws.specs.Sizes.{Orders, in_order}
use Rattle.node_store.specs.Changes.{CanExchange, exchanged}
use Rattle.hold_store.specs.Held.{Knowledge}
use Rattle.hold_store.proofs.Orders.{exchanged_all, exchanged_ready, lower_now}
use Rattle.hold_store.proofs.nodes.exchange_levels.Goals as goal

pub store_upper-requires-clause-settled : goal.store_upper-requires-clause-settled
store_upper-requires-clause-settled g c = ap (λ (k : Knowledge). k.hand.pending) (c.load_order-lower.ensures.same ∙ c.load_order-upper.ensures.same) ∙ c.requires.ready.pending

pub store_upper-requires-clause-can : goal.store_upper-requires-clause-can
store_upper-requires-clause-can g c = subst (λ (k : Knowledge). CanExchange k.content c.args.order c.args.level) (sym (c.load_order-lower.ensures.same ∙ c.load_order-upper.ensures.same)) c.requires.can

pub store_upper-requires-clause-lower : goal.store_upper-requires-clause-lower
store_upper-requires-clause-lower g c = c.load_order-lower.ensures.there ∙ ap (λ (k : Knowledge). slice_index (in_order k.content.orders c.args.order) (c.args.level + 1)) (sym c.load_order-lower.ensures.same)

pub store_lower-requires-clause-due : goal.store_lower-requires-clause-due
store_lower-requires-clause-due g c = ap (λ (k : Knowledge). k.hand.pending) c.store_upper.ensures.exchanged

pub store_lower-requires-clause-upper : goal.store_lower-requires-clause-upper
store_lower-requires-clause-upper g c =
    let k = g.S.Holds.known c.args.seat.now in
    let back = c.load_order-lower.ensures.same ∙ c.load_order-upper.ensures.same in
    let now : (g.S.Holds.known c.store_upper.new.self).content.orders ≡ exchanged k.content.orders c.args.order c.args.level =
    ap (λ (x : Knowledge). x.content.orders) c.store_upper.ensures.exchanged ∙ ap (λ (x : Knowledge). exchanged x.content.orders c.args.order c.args.level) back in
    c.load_order-upper.ensures.there ∙ sym (lower_now k.content.orders c.args.order c.args.level c.requires.can.within)
    ∙ ap (λ (o : Orders). slice_index (in_order o c.args.order) (c.args.level + 1)) (sym now)

pub returns-clause-exchanged : goal.returns-clause-exchanged
returns-clause-exchanged g c = exchanged_all (g.S.Holds.known c.args.seat.now) (g.S.Holds.known c.load_order-lower.new.self) (g.S.Holds.known c.store_upper.new.self) (g.S.Holds.known c.store_lower.new.self) c.args.order c.args.level
    (c.load_order-lower.ensures.same ∙ c.load_order-upper.ensures.same) c.store_upper.ensures.exchanged c.store_lower.ensures.stored c.requires.ready.pending

pub returns-clause-ready : goal.returns-clause-ready
returns-clause-ready g c = exchanged_ready (g.S.Holds.known c.args.seat.now) (g.S.Holds.known c.load_order-lower.new.self) (g.S.Holds.known c.store_upper.new.self) (g.S.Holds.known c.store_lower.new.self) c.args.order c.args.level
    (c.load_order-lower.ensures.same ∙ c.load_order-upper.ensures.same) c.store_upper.ensures.exchanged c.store_lower.ensures.stored c.requires.ready
