use Rattle.std.proofs.Common.{refl}
use Rattle.store_rows.specs.RowStores.{view_of}
use Rattle.store_rows.proofs.Opened.{child-is, child-row, no-child}
use Rattle.store_rows.proofs.row_store.RowStore.child.Goals as goal

pub keep-requires : goal.keep-requires
keep-requires c = child-is c.kind-kind.result (view_of c.open.new.self) _ _ _ c.in-Inner.hi c.in-Inner.lo c.arc.result c.args.taken c.arc.ensures (c.in-Inner.ensures.opens c.kind-kind.result c.kind-kind.ensures)

pub returns-in-Leaf-clause-ok : goal.returns-in-Leaf-clause-ok
returns-in-Leaf-clause-ok c = no-child c.args.self.now (view_of c.open.new.self) c.args.h c.in-Leaf.field-0 c.in-Leaf.ensures.opens c.open.new.self c.args.taken refl c.in-Leaf.ensures.same

pub returns-in_ok-keep-in-Inner-clause-ok : goal.returns-in_ok-keep-in-Inner-clause-ok
returns-in_ok-keep-in-Inner-clause-ok c = child-row c.args.self.now (view_of c.open.new.self) c.args.h _ c.in-Inner.hi c.in-Inner.lo c.in-Inner.ensures.opens c.kind-kind.result c.kind-kind.ensures c.open.new.self c.keep.new.self c.arc.result c.in_ok-keep-in-Inner.field-0 c.args.taken refl
    c.arc.ensures c.in-Inner.ensures.same c.in_ok-keep-in-Inner.ensures.ok c.in_ok-keep-in-Inner.ensures.counts
