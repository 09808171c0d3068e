use Rattle.std.proofs.Common.{◌≡◌, ◌+◌, ◌<◌, ap, sym, subst, ◌∙◌, arith}
use Rattle.std.specs.List.{All}
use Rattle.handle_count.specs.declared.rows.Held.{Held}
use Rattle.handle_count.specs.RowMaps.{IsWithOne, RowMap}
use Rattle.node_store.specs.Views.{Is}
use Rattle.store_upkeep.specs.Lasting.{orders_of}
use Rattle.store_rows.specs.RowStores.{Gains, RowStoreView, differs_in_counts, view_of}
use Rattle.store_rows.proofs.Changes.{gained, rule-added}
use Rattle.store_rows.proofs.Rows.{rows-few}
use Rattle.store_rows.proofs.row_store.RowStore.keep.Goals as goal

pub raise-requires-clause-few : goal.raise-requires-clause-few
raise-requires-clause-few c = let a = c.self.invariant.counted c.args.edge.index in let b = rows-few c.args.edge.index c.self.inside.rows.live in omega (arith, a, b, c.live.ensures, c.if-live-ge-MOST_ROWS.false)

pub raise-requires-clause-function : goal.raise-requires-clause-function
raise-requires-clause-function c = (c.args.kind, subst (λ (d : RowStoreView). Is c.args.kind (view_of d) c.args.edge) (sym c.self.view_is) c.requires)

pub invariant_of-self-2 : goal.invariant_of-self-2
invariant_of-self-2 c =
    let h : Held = record { name = c.add.result; kind = c.args.kind; edge = c.args.edge } in
    let ok = c.in_ok-reserve.ensures.ok in
    rule-added (record { store = c.self.inside.store; rows = c.self.inside.rows; made = c.self.inside.made }) c.raise.new.store c.add.new.self h c.self.invariant c.raise.ensures.rest c.raise.ensures.count
    (subst (λ (r : RowMap). IsWithOne r.live h c.add.new.self.live) ok c.add.ensures.added) (c.add.ensures.adds ∙ ap (λ (r : RowMap). r.adds + 1) ok)
    (subst (λ (d : RowStoreView). Is c.args.kind (view_of d) c.args.edge) (sym c.self.view_is) c.requires)

pub returns-clause-ok : goal.returns-clause-ok
returns-clause-ok c =
    let h : Held = record { name = c.add.result; kind = c.args.kind; edge = c.args.edge } in
    let ok = c.in_ok-reserve.ensures.ok in
    subst (λ (d : RowStoreView). Gains d (record { store = c.raise.new.store; rows = c.add.new.self; made = c.self.inside.made + 1 }) c.add.result c.args.kind c.args.edge) c.self.view_is
    (gained (record { store = c.self.inside.store; rows = c.self.inside.rows; made = c.self.inside.made }) c.raise.new.store c.add.new.self (c.self.inside.made + 1) c.add.result c.args.kind c.args.edge c.raise.ensures.rest (subst (λ (r : RowMap). IsWithOne r.live h c.add.new.self.live) ok c.add.ensures.added)
    (subst (λ (r : RowMap). All (λ (held : Held). held.name.generation < c.add.result.generation) r.live) ok c.add.ensures.never)
    (subst (λ (d : RowStoreView). Is c.args.kind (view_of d) c.args.edge) (sym c.self.view_is) c.requires))

pub returns-clause-counts : goal.returns-clause-counts
returns-clause-counts c = subst (λ (d : RowStoreView). differs_in_counts (view_of d) (view_of (record { store = c.raise.new.store; rows = c.add.new.self; made = c.self.inside.made + 1 }))) c.self.view_is c.raise.ensures.rest.view

pub returns-clause-orders : goal.returns-clause-orders
returns-clause-orders c = subst (λ (d : RowStoreView). orders_of c.raise.new.store ≡ orders_of d.store) c.self.view_is c.raise.ensures.rest.orders
