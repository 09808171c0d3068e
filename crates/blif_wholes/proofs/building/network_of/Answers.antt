use Rattle.std.proofs.Common.{◌<◌, ℕ, List, arith, length, subst, sym}
use Rattle.std.specs.List.{All}
use Rattle.blif_order.specs.Orders.{Once}
use Rattle.blif_wholes.specs.Arranged.{IsArranged}
use Rattle.blif_wholes.specs.Placing.{IsBuilt}
use Rattle.blif_wholes.proofs.WholeNets.{all_in, cycle_told, net_told, order_once, order_within, root_within}
use Rattle.blif_wholes.proofs.building.network_of.Goals as goal

pub index-one-requires : goal.index-one-requires
index-one-requires c =
    let draft = c.args.draft.now in
    let h = c.requires in
    let are = subst (IsArranged h.1) c.in-Cyclic.is (c.in_ok-root.ensures h.0 h.1 h.2 h.3) in
    omega (arith, root_within h.0 h.1 draft c.in-Cyclic.root h.2 are, (draft.covers.ok).0)

pub net_of-requires-clause-within : goal.net_of-requires-clause-within
net_of-requires-clause-within c =
    let draft = c.args.draft.now in
    let h = c.requires in
    let are = subst (IsArranged h.1) c.in-Ordering.is (c.in_ok-root.ensures h.0 h.1 h.2 h.3) in
    subst (All (λ k. k < length draft.covers.items)) (sym c.deref.ensures.value) (all_in c.in-Ordering.order.items (length draft.covers.items) (order_within h.0 h.1 draft c.in-Ordering.order h.2 are))

pub net_of-requires-clause-once : goal.net_of-requires-clause-once
net_of-requires-clause-once c =
    let h = c.requires in
    let are = subst (IsArranged h.1) c.in-Ordering.is (c.in_ok-root.ensures h.0 h.1 h.2 h.3) in
    subst Once (sym c.deref.ensures.value) (order_once h.1 c.in-Ordering.order are)

pub returns-in-Cyclic : goal.returns-in-Cyclic
returns-in-Cyclic c = λ models circuit h sound rows.
    let are = subst (IsArranged circuit) c.in-Cyclic.is (c.in_ok-root.ensures models circuit h sound) in
    cycle_told models circuit c.args.draft.now c.in-Cyclic.root c.index-one.result.now h sound are c.index-one.ensures

pub returns-in_ok-net-in-Ordering : goal.returns-in_ok-net-in-Ordering
returns-in_ok-net-in-Ordering c = λ models circuit h sound rows.
    let are = subst (IsArranged circuit) c.in-Ordering.is (c.in_ok-root.ensures models circuit h sound) in
    let net = c.in_ok-net-in-Ordering.net in
    let is_built = subst (λ (t : List ℕ). IsBuilt c.args.kept.now c.args.draft.now t net) c.deref.ensures.value c.in_ok-net-in-Ordering.ensures in
    net_told models c.args.kept.now circuit c.args.draft.now c.in-Ordering.order net h sound rows are is_built
