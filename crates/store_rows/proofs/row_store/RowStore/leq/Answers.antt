use Rattle.std.proofs.Common.{◌≡◌, true, IfOk, refl, sym, subst, ◌↔◌}
use Rattle.edge_bits.specs.declared.edges.Kind.TheVariants as kinds
use Rattle.node_store.specs.Memo.{Implies}
use Rattle.node_store.specs.Views.{Is, bdd_at}
use Rattle.store_upkeep.specs.Lasting.{orders_of}
use Rattle.store_rows.specs.RowStores.{RowStoreView, Same, view_of}
use Rattle.store_rows.proofs.Changes.{rule-grown}
use Rattle.store_rows.proofs.Standing.{orders-grown}
use Rattle.store_rows.proofs.Told.{if-ok, implies-told}
use Rattle.store_rows.proofs.Tries.{same-run}
use Rattle.store_rows.proofs.row_store.RowStore.leq.Goals as goal

pub leq-told-requires : goal.leq-told-requires
leq-told-requires c = record {
  first = subst (λ (d : RowStoreView). Is kinds.Bdd (view_of d) c.edge-first.result) (sym c.self.view_is) (c.edge-first.ensures.is kinds.Bdd c.requires.0);
  second = subst (λ (d : RowStoreView). Is kinds.Bdd (view_of d) c.edge-second.result) (sym c.self.view_is) (c.edge-second.ensures.is kinds.Bdd c.requires.1);
}

pub invariant_of-self : goal.invariant_of-self
invariant_of-self c = rule-grown (record { store = c.self.inside.store; rows = c.self.inside.rows; made = c.self.inside.made }) c.leq-told.new.store c.self.invariant c.leq-told.ensures.kept.grown

pub returns-clause-same : goal.returns-clause-same
returns-clause-same c = subst (λ (d : RowStoreView). Same d (record { store = c.leq-told.new.store; rows = c.self.inside.rows; made = c.self.inside.made })) c.self.view_is (same-run (record { store = c.self.inside.store; rows = c.self.inside.rows; made = c.self.inside.made }) (record { store = c.leq-told.new.store; rows = c.self.inside.rows; made = c.self.inside.made }) refl c.leq-told.ensures.kept.grown)

pub returns-clause-leq : goal.returns-clause-leq
returns-clause-leq c = if-ok c.leq-told.result _ _ (subst (λ (d : RowStoreView). IfOk c.leq-told.result (λ told. (told ≡ true) ↔ Implies (bdd_at (view_of d) c.edge-first.result) (bdd_at (view_of d) c.edge-second.result))) c.self.view_is c.leq-told.ensures.leq)
    (λ told is. implies-told c.args.self.now c.args.f c.args.g c.edge-first.result c.edge-second.result told c.edge-first.ensures.own c.edge-second.ensures.own is)

pub returns-clause-orders : goal.returns-clause-orders
returns-clause-orders c = subst (λ (d : RowStoreView). orders_of c.leq-told.new.store ≡ orders_of d.store) c.self.view_is (orders-grown c.self.inside.store c.leq-told.new.store c.tell_sound.ensures.store c.tell_sound-2.ensures.store c.leq-told.ensures.kept.grown)
