use Rattle.std.proofs.Common.{◌≡◌, ◌≤◌, drop}
use Rattle.edge_bits.specs.declared.edges.Kind.TheVariants.{Bdd}
use Rattle.function_laws.specs.Kinds.{BddFunction}
use Rattle.node_store.specs.Views.{Denotes, Grown}
use Rattle.node_store.specs.Work.{Adds}
use Rattle.quantify_ops.specs.Products.{marked_product}
use Rattle.quantify_ops.proofs.products.product_of_marks.Given as goal

abbrev pub invariant-levels : goal.invariant-levels
invariant-levels g l =
    let old = g.G.Grow.view l.fn.store in let now = g.G.Grow.view l.store in
    record {
      grown : Grown old now;
      adds : Adds (λ F. F ≡ BddFunction (marked_product l.stack.marks)) old now;
      cube : Denotes Bdd now l.cube (marked_product (drop l.level l.stack.marks));
      least : l.level ≤ l.levels;
    }

abbrev pub decreases-levels : goal.decreases-levels
decreases-levels g l = l.level
