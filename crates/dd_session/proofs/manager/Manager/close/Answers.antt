use Rattle.std.proofs.Common.{◌≡◌, ℕ, ap, sym, subst, ◌∙◌, arith}
use Rattle.function_laws.specs.EntryOrders.{opening_orders, orders_from}
use Rattle.node_slots.specs.Wholes.{content_view}
use Rattle.seat_guard.specs.declared.view.Draws.{Draws}
use Rattle.seat_guard.specs.Passes.{known}
use Rattle.seat_guard.specs.Rule.{Whole}
use Rattle.node_store.specs.Views.{View}
use Rattle.seat_guard.specs.Views.{sizes_for}
use Rattle.shared_store.proofs.Handed.{unpinned}
use Rattle.dd_session.specs.Managing.{Managed}
use Rattle.dd_session.proofs.Sweepings.{swept_beside}
use Rattle.dd_session.proofs.Ending.{all_back, history_of}
use Rattle.dd_session.proofs.manager.Manager.close.Goals as goal

pub take_last-shared-requires-clause-back : goal.take_last-shared-requires-clause-back
take_last-shared-requires-clause-back g c =
    let given = ap (λ (d : Draws). d.given) c.calls-calls.ensures.own.1 ∙ c.join_all.ensures.kept.0 ∙ ap (λ (d : Draws). d.given) c.wake-closing.ensures.1 ∙ c.self.invariant.1.2 ∙ ap (λ (m : Managed). m.sessions) c.self.view_is in
    all_back c.args.self (known c.calls-calls.new.pass) c.args.sessions.items given (ap (λ (d : Draws). d.gone) c.calls-calls.ensures.own.1 ∙ c.join_all.ensures.gone) c.requires

pub returns-clause-history : goal.returns-clause-history
returns-clause-history g c =
    let d : Draws = known c.calls-calls.new.pass in
    let joined : Draws = known c.join_all.new.closing in
    let same : d ≡ joined = c.calls-calls.ensures.own.1 in
    let k = c.join_all.ensures.kept in
    let view = c.self.view_is in
    let woke = c.wake-closing.ensures.1 in
    let vars = ap (λ (d : Draws). d.vars) same ∙ k.1 ∙ ap (λ (d : Draws). d.vars) woke ∙ ap (λ (m : Managed). m.vars) view in
    let elements = ap (λ (d : Draws). d.elements) same ∙ k.2 ∙ ap (λ (d : Draws). d.elements) woke ∙ ap (λ (m : Managed). m.elements) view in
    let given = ap (λ (d : Draws). d.given) same ∙ k.0 ∙ ap (λ (d : Draws). d.given) woke ∙ c.self.invariant.1.2 ∙ ap (λ (m : Managed). m.sessions) view in
    let gone = ap (λ (d : Draws). d.gone) same ∙ c.join_all.ensures.gone in
    let first = subst (λ (z : Draws). Whole c.calls-calls.result (sizes_for z.vars z.elements) z.given z.gone) (sym same) c.calls-calls.ensures.whole in
    let ends = c.take_last-shared.ensures.ends in
    let h = history_of c.args.self d c.calls-calls.result ends.calls c.args.sessions.items vars elements given gone c.requires first ends.whole in record {
      history = h.0;
      swept = record {
        before = content_view c.let_all_go.new.self.store;
        after = content_view c.sweep-shared.result.0.store;
        swept = c.sweep-shared.result.1;
        unheld = c.let_all_go.ensures.none;
        unpinned = unpinned c.let_all_go.new.self.store c.let_all_go.new.self.idle;
        orders_are = c.let_all_go.ensures.rest.orders_are ∙ ends.orders_are ∙ (λ i. orders_from (opening_orders (sizes_for (vars i) (elements i))) (sym h.1 i));
        is_swept = swept_beside _ _ _ c.sweep-shared.ensures.swept;
        left_is = Rattle.std.proofs.Common.refl;
      };
    }

pub returns-clause-left : goal.returns-clause-left
returns-clause-left g c =
    let same = c.calls-calls.ensures.own.1 in
    let ends = c.take_last-shared.ensures.ends in
    let vars = ap (λ (d : Draws). d.vars) same ∙ c.join_all.ensures.kept.1 ∙ ap (λ (d : Draws). d.vars) c.wake-closing.ensures.1 ∙ ap (λ (m : Managed). m.vars) c.self.view_is in
    let emptied = c.sweep-shared.ensures.emptied c.let_all_go.ensures.none in
    let v = ap (λ (w : View). w.vars) c.let_all_go.ensures.rest.view ∙ ap (λ (p : ℕ × ℕ × ℕ). p.0) ends.counts_are ∙ vars in
    omega (arith, emptied, v)
