use Rattle.std.proofs.Common.{Ok, Err, ap, sym, subst, ◌∙◌}
use Rattle.edge_bits.specs.declared.edges.Kind.{Kind}
use Rattle.node_store.specs.Views.{Grown, Is}
use Rattle.operator_calls.specs.Making.{takes}
use Rattle.operator_calls.specs.Taking.{of_lent}
use Rattle.store_rows.specs.RowStores.{Gains, HoldsAll, RowStoreView, view_of}
use Rattle.store_rows.proofs.Taking.{takes_edges}
use Rattle.store_rows.proofs.Tries.{edge-is, nested, told-before, told-made, told-rowless, told-stopped, told-unmade}
use Rattle.store_rows.proofs.row_store.RowStore.try_once.Goals as goal

pub returns-in_default-clause-tells : goal.returns-in_default-clause-tells
returns-in_default-clause-tells c = told-before c.args.self.now (of_lent c.args.making.now)

pub run_edges-made-requires : goal.run_edges-made-requires
run_edges-made-requires c = λ st. subst (λ m. takes m (view_of c.args.self.now)) (sym c.renamed-edges.ensures.same)
    (takes_edges c.args.self.now st (subst (λ (d : RowStoreView). HoldsAll (view_of d) d.rows.live) c.self.view_is c.self.invariant.held) (of_lent c.args.making.now) c.requires)

pub returns-in-Err-told-clause-tells : goal.returns-in-Err-told-clause-tells
returns-in-Err-told-clause-tells c = told-unmade c.args.self.now c.run_edges-made.new.self (of_lent c.args.making.now) (of_lent c.renamed-edges.result) c.renamed-edges.ensures.same c.run_edges-made.result c.run_edges-made.ensures.runs c.run_edges-made.ensures.rows c.in-Err-told.why (nested c.run_edges-made.result c.in-Ok-made.told (Err c.in-Err-told.why) c.in-Ok-made.is c.in-Err-told.is)

pub returns-in-Err-clause-tells : goal.returns-in-Err-clause-tells
returns-in-Err-clause-tells c = told-stopped c.args.self.now c.run_edges-made.new.self (of_lent c.args.making.now) (of_lent c.renamed-edges.result) c.renamed-edges.ensures.same c.run_edges-made.result c.run_edges-made.ensures.runs c.run_edges-made.ensures.rows c.in-Err.stop (λ full. c.run_edges-made.ensures.full (c.in-Err.is ∙ ap Err full))

pub keep-requires : goal.keep-requires
keep-requires c = subst (λ (k : Kind). Is k (view_of c.run_edges-made.new.self) c.in-Ok-told.edge) (sym c.kind_made-kind.ensures) (edge-is c.args.self.now c.run_edges-made.new.self (of_lent c.args.making.now) (of_lent c.renamed-edges.result) c.renamed-edges.ensures.same c.run_edges-made.result c.run_edges-made.ensures.runs c.run_edges-made.ensures.rows c.in-Ok-told.edge (nested c.run_edges-made.result c.in-Ok-made.told (Ok c.in-Ok-told.edge) c.in-Ok-made.is c.in-Ok-told.is))

pub returns-in-Ok-keep-clause-tells : goal.returns-in-Ok-keep-clause-tells
returns-in-Ok-keep-clause-tells c = told-made c.args.self.now c.run_edges-made.new.self (of_lent c.args.making.now) (of_lent c.renamed-edges.result) c.renamed-edges.ensures.same c.run_edges-made.result c.run_edges-made.ensures.runs c.run_edges-made.ensures.rows c.keep.new.self c.in-Ok-told.edge c.in-Ok-keep.h (nested c.run_edges-made.result c.in-Ok-made.told (Ok c.in-Ok-told.edge) c.in-Ok-made.is c.in-Ok-told.is)
    (subst (λ (k : Kind). Gains c.run_edges-made.new.self c.keep.new.self c.in-Ok-keep.h k c.in-Ok-told.edge) c.kind_made-kind.ensures c.in-Ok-keep.ensures.ok) c.in-Ok-keep.ensures.counts

pub returns-clause-tells : goal.returns-clause-tells
returns-clause-tells c = told-rowless c.args.self.now c.run_edges-made.new.self (of_lent c.args.making.now) (of_lent c.renamed-edges.result) c.renamed-edges.ensures.same c.run_edges-made.result c.run_edges-made.ensures.runs c.run_edges-made.ensures.rows c.keep.new.self c.in-Err-keep.ensures.err

pub returns-clause-grown : goal.returns-clause-grown
returns-clause-grown c = subst (λ (d : RowStoreView). Grown (view_of c.args.self.now) (view_of d)) (sym c.in-Err-keep.ensures.err) c.run_edges-made.ensures.runs.grown
