use Rattle.std.proofs.Common.{ℤ, rules, subst, sym, SFits, w64}
use Rattle.std.proofs.lemmas.Int.{to_z-of_z}
use Rattle.node_store.specs.Views.{IsLeaf}
use Rattle.store_rows.specs.RowStores.{edge_in, view_of}
use Rattle.store_rows.proofs.Opened.{leaf-of, top-node}
use Rattle.store_rows.proofs.row_store.RowStore.top.Goals as goal

pub own_number-requires : goal.own_number-requires
own_number-requires c = (view_of c.open.new.self, (c.in-Inner.ensures.opens c.kind-kind.result c.kind-kind.ensures).in_range)

pub returns-in-Inner-clause-top : goal.returns-in-Inner-clause-top
returns-in-Inner-clause-top c = top-node c.args.self.now (view_of c.open.new.self) c.args.h c.in-Inner.var _ _ c.in-Inner.ensures.opens c.kind-kind.result c.kind-kind.ensures c.own_number.result c.own_number.ensures

pub returns-in-Leaf-clause-top : goal.returns-in-Leaf-clause-top
returns-in-Leaf-clause-top c = λ k f names.
    let fit : SFits w64 c.in-Leaf.value = search rules in
    subst (λ (x : ℤ). IsLeaf k (view_of c.open.new.self) (edge_in c.args.self.now.rows.live c.args.h) f x) (sym (to_z-of_z w64 c.in-Leaf.value fit))
    (leaf-of c.args.self.now (view_of c.open.new.self) c.args.h c.in-Leaf.value c.in-Leaf.ensures.opens k f names)
