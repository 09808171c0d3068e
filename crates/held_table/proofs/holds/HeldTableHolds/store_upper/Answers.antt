use Rattle.std.proofs.Common.{◌+◌, None, Some, refl, ap, sym, ◌∙◌, subst}
use Rattle.function_laws.specs.declared.orders.Order.{Order}
use Rattle.node_store.specs.Changes.{CanExchange, exchanged}
use Rattle.node_store.specs.Contents.{Content}
use Rattle.held_table.specs.declared.table.HeldTable.{HeldTable}
use Rattle.held_table.specs.Tables.{hand_of, known_of, view_of}
use Rattle.held_table.proofs.Counts.{exchanges_elements, exchanges_variables}
use Rattle.held_table.proofs.holds.HeldTableHolds.store_upper.Goals as goal

pub returns-in-Variables-clause-own : goal.returns-in-Variables-clause-own
returns-in-Variables-clause-own c =
    let t = c.args.self.now in
    (exchanges_variables t _ c.requires.own c.args.level (Some (record { order = c.args.order; level = c.args.level + 1 })) (subst (λ (o : Order). CanExchange (view_of t) o c.args.level) c.in-Variables.is c.requires.can) refl c.swap.ensures.items).0

pub returns-in-Variables-clause-exchanged : goal.returns-in-Variables-clause-exchanged
returns-in-Variables-clause-exchanged c =
    let t = c.args.self.now in
    let u : HeldTable = record t { variables_at = c.swap.new.self; half = None; due = Some (record { order = c.args.order; level = c.args.level + 1 }) } in
    let seen = (exchanges_variables t u c.requires.own c.args.level (Some (record { order = c.args.order; level = c.args.level + 1 })) (subst (λ (o : Order). CanExchange (view_of t) o c.args.level) c.in-Variables.is c.requires.can) refl c.swap.ensures.items).1 in
    ap (λ (w : Content). record (known_of t) { content = w; hand = record (hand_of t) { pending = Some (record { order = c.args.order; level = c.args.level + 1 }) } }) seen
    ∙ ap (λ (o : Order). record (known_of t) { content = record (view_of t) { orders = exchanged (view_of t).orders o c.args.level; half = None }; hand = record (hand_of t) { pending = Some (record { order = c.args.order; level = c.args.level + 1 }) } }) (sym c.in-Variables.is)

pub returns-in-Elements-clause-own : goal.returns-in-Elements-clause-own
returns-in-Elements-clause-own c =
    let t = c.args.self.now in
    (exchanges_elements t _ c.requires.own c.args.level (Some (record { order = c.args.order; level = c.args.level + 1 })) (subst (λ (o : Order). CanExchange (view_of t) o c.args.level) c.in-Elements.is c.requires.can) refl c.swap-in-Elements.ensures.items).0

pub returns-in-Elements-clause-exchanged : goal.returns-in-Elements-clause-exchanged
returns-in-Elements-clause-exchanged c =
    let t = c.args.self.now in
    let u : HeldTable = record t { elements_at = c.swap-in-Elements.new.self; half = None; due = Some (record { order = c.args.order; level = c.args.level + 1 }) } in
    let seen = (exchanges_elements t u c.requires.own c.args.level (Some (record { order = c.args.order; level = c.args.level + 1 })) (subst (λ (o : Order). CanExchange (view_of t) o c.args.level) c.in-Elements.is c.requires.can) refl c.swap-in-Elements.ensures.items).1 in
    ap (λ (w : Content). record (known_of t) { content = w; hand = record (hand_of t) { pending = Some (record { order = c.args.order; level = c.args.level + 1 }) } }) seen
    ∙ ap (λ (o : Order). record (known_of t) { content = record (view_of t) { orders = exchanged (view_of t).orders o c.args.level; half = None }; hand = record (hand_of t) { pending = Some (record { order = c.args.order; level = c.args.level + 1 }) } }) (sym c.in-Elements.is)
