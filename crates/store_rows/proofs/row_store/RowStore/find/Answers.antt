use Rattle.std.proofs.Common.{◌≡◌, ◌+◌, ◌<◌, ◌∙◌, length, refl, ap, sym, subst, arith}
use Rattle.std.specs.Prelude.{slice_index}
use Rattle.function_laws.specs.Sizes.{in_order}
use Rattle.node_slots.specs.Stores.{level_in}
use Rattle.store_upkeep.specs.Lasting.{orders_of}
use Rattle.store_rows.specs.Levels.{StandsAt}
use Rattle.store_rows.specs.RowStores.{RowStoreView, Same}
use Rattle.store_rows.proofs.Changes.{rule-grown}
use Rattle.store_rows.proofs.Standing.{here-below, here-level, orders-grown, stands}
use Rattle.store_rows.proofs.Tries.{same-run}
use Rattle.store_rows.proofs.row_store.RowStore.find.Goals as goal

pub with_level-number-requires-clause-there : goal.with_level-number-requires-clause-there
with_level-number-requires-clause-there c =
    let p = c.self.inside.store in
    let st = c.tell_sound.ensures.store in
    let below = subst (λ (d : RowStoreView). c.args.level < length (in_order (orders_of d.store) c.args.order)) (sym c.self.view_is) c.requires.level in
    let count = subst (λ (d : RowStoreView). c.args.count ≡ length (in_order (orders_of d.store) c.args.order)) (sym c.self.view_is) c.requires.count in
    let n = slice_index (in_order (orders_of p) c.args.order) c.args.level in
    let within = here-below p st c.args.order c.args.level below in
    (n, omega (arith, within, count), ap (λ m. level_in p (m + n)) c.first_of.ensures ∙ here-level p st c.args.order c.args.level below)

pub invariant_of-self : goal.invariant_of-self
invariant_of-self c = rule-grown (record { store = c.self.inside.store; rows = c.self.inside.rows; made = c.self.inside.made }) c.with_level-number.new.store c.self.invariant c.with_level-number.ensures.kept.grown

pub returns-clause-same : goal.returns-clause-same
returns-clause-same c = subst (λ (d : RowStoreView). Same d (record { store = c.with_level-number.new.store; rows = c.self.inside.rows; made = c.self.inside.made })) c.self.view_is (same-run (record { store = c.self.inside.store; rows = c.self.inside.rows; made = c.self.inside.made }) (record { store = c.with_level-number.new.store; rows = c.self.inside.rows; made = c.self.inside.made }) refl c.with_level-number.ensures.kept.grown)

pub returns-clause-orders : goal.returns-clause-orders
returns-clause-orders c = subst (λ (d : RowStoreView). orders_of c.with_level-number.new.store ≡ orders_of d.store) c.self.view_is (orders-grown c.self.inside.store c.with_level-number.new.store c.tell_sound.ensures.store c.tell_sound-2.ensures.store c.with_level-number.ensures.kept.grown)

pub returns-clause-number : goal.returns-clause-number
returns-clause-number c =
    let p = c.self.inside.store in
    let count = subst (λ (d : RowStoreView). c.args.count ≡ length (in_order (orders_of d.store) c.args.order)) (sym c.self.view_is) c.requires.count in
    let within = c.with_level-number.ensures.within in
    subst (λ (d : RowStoreView). StandsAt (orders_of d.store) c.args.order c.with_level-number.result c.args.level) c.self.view_is
    (stands p c.tell_sound.ensures.store c.args.order c.with_level-number.result c.args.level (omega (arith, within, count))
    (sym (ap (λ m. level_in p (m + c.with_level-number.result)) c.first_of.ensures) ∙ c.with_level-number.ensures.level))
