use Rattle.std.proofs.Common.{◌≡◌, ◌∙◌, ◌+◌, Some, ap, subst, sym}
use Rattle.function_laws.specs.Sizes.{in_order}
use Rattle.function_laws.specs.SiftedOrders.{place_of}
use Rattle.words_holder.specs.Holders.{knows}
use Rattle.words_holder.proofs.Holding.{exchanged_on, knows_pending, with_pending}
use Rattle.words_holder.proofs.Telling.{due_left, exchanged_told, lower_place, upper_place}
use Rattle.words_rule.specs.declared.view.View.{View}
use Rattle.words_rule.specs.Exchanges.{item}
use Rattle.words_rule.specs.Hands.{without_level}
use Rattle.words_rule.specs.HeldContents.{KnowsAll}
use Rattle.words_rule.specs.HolderPlays.{HasExchanged}
use Rattle.words_rule.specs.Layout.{places}
use Rattle.words_rule.specs.OneSession.{storing_order}
use Rattle.words_rule.specs.Passes.{view}
use Rattle.words_rule.specs.Shapes.{shape_in}
use Rattle.words_rule.specs.Views.{orders_of}
use Rattle.words_holder.proofs.holder.HolderHolds.store_upper.Goals as goal

pub store_level-requires-clause-level : goal.store_level-requires-clause-level
store_level-requires-clause-level g c =
    let v = view c.args.self.now.pass in
    let l = c.load_position-upper.ensures in
    let u = view c.exchange.new.pass in
    let r : HasExchanged c.args.order c.args.level v u = subst (λ m. HasExchanged c.args.order c.args.level m.0 u) l.same c.exchange.ensures.exchanged in
    upper_place v u c.args.order c.args.level c.requires.own.has.knows_all r c.requires.can.within ∙ ap (λ n. place_of n (in_order (orders_of u.known) c.args.order)) (sym l.there)

pub store_level-requires-2-clause-knows : goal.store_level-requires-2-clause-knows
store_level-requires-2-clause-knows g c = subst KnowsAll (sym c.store_level.ensures.stored) (knows_pending (view c.exchange.new.pass) _ _ c.exchange.ensures.exchanged.knows)

pub store_level-requires-2-clause-level : goal.store_level-requires-2-clause-level
store_level-requires-2-clause-level g c =
    let v = view c.args.self.now.pass in
    let u = view c.exchange.new.pass in
    let r : HasExchanged c.args.order c.args.level v u = subst (λ m. HasExchanged c.args.order c.args.level m.0 u) c.load_position-upper.ensures.same c.exchange.ensures.exchanged in
    subst (λ (w : View). c.args.level ≡ place_of c.args.lower (in_order (orders_of w.known) c.args.order)) (sym c.store_level.ensures.stored)
    (lower_place v u c.args.order c.args.level c.requires.own.has.knows_all r c.requires.can.within ∙ ap (λ n. place_of n (in_order (orders_of u.known) c.args.order)) (sym c.requires.lower))

pub returns-clause-own : goal.returns-clause-own
returns-clause-own g c =
    let s = c.args.self.now in
    let v = view s.pass in
    let l = c.load_position-upper.ensures in
    let u = view c.exchange.new.pass in
    let k = c.requires.own.has.knows_all in
    let order = c.args.order in
    let level = c.args.level in
    let r : HasExchanged order level v u = subst (λ m. HasExchanged order level m.0 u) l.same c.exchange.ensures.exchanged in
    let z = shape_in u.draws in
    let pending = without_level (places z + item z order c.args.lower) (without_level (places z + item z order c.load_position-upper.result) u.known.pending) in
    let left = ap (λ d. without_level (places (shape_in d) + item (shape_in d) order c.args.lower) (without_level (places (shape_in d) + item (shape_in d) order c.load_position-upper.result) u.known.pending)) r.draws
    ∙ due_left v k order level c.requires.can.within c.load_position-upper.result c.args.lower l.there c.requires.lower u.known.pending r.pending in
    exchanged_on s.guard.now s.pass c.store_level-2.new.pass s.list s.memo s.due c.requires.own c.store_level-2.ensures.own.0
    (c.store_level-2.ensures.own.1 ∙ c.store_level.ensures.own.1 ∙ c.exchange.ensures.own.1 ∙ ap (λ m. m.1) l.same)
    order level u r c.requires.can.within pending _ left
    (c.store_level-2.ensures.stored ∙ ap (λ (w : View). with_pending w (without_level (places (shape_in w.draws) + item (shape_in w.draws) order c.args.lower) w.known.pending) (storing_order (places (shape_in w.draws) + item (shape_in w.draws) order c.args.lower) level w.stored)) c.store_level.ensures.stored)

pub returns-clause-exchanged : goal.returns-clause-exchanged
returns-clause-exchanged g c =
    let s = c.args.self.now in
    let v = view s.pass in
    let u = view c.exchange.new.pass in
    let r : HasExchanged c.args.order c.args.level v u = subst (λ m. HasExchanged c.args.order c.args.level m.0 u) c.load_position-upper.ensures.same c.exchange.ensures.exchanged in
    let told = c.store_level-2.ensures.stored ∙ ap (λ (w : View). with_pending w (without_level (places (shape_in w.draws) + item (shape_in w.draws) c.args.order c.args.lower) w.known.pending) (storing_order (places (shape_in w.draws) + item (shape_in w.draws) c.args.order c.args.lower) c.args.level w.stored)) c.store_level.ensures.stored in
    ap (λ w. knows w s.renewed (Some (record { order = c.args.order; level = c.args.level + 1 })) s.lent) told ∙ exchanged_told v u s.renewed s.due s.lent c.args.order c.args.level (without_level (places (shape_in u.draws) + item (shape_in u.draws) c.args.order c.args.lower) (without_level (places (shape_in u.draws) + item (shape_in u.draws) c.args.order c.load_position-upper.result) u.known.pending))
    (storing_order (places (shape_in u.draws) + item (shape_in u.draws) c.args.order c.args.lower) c.args.level (storing_order (places (shape_in u.draws) + item (shape_in u.draws) c.args.order c.load_position-upper.result) (c.args.level + 1) u.stored)) r
