use Rattle.std.proofs.Common.{◌≡◌, drop, length}
use Rattle.function_laws.specs.Cubes.{cube_of}
use Rattle.function_laws.specs.Values.{conjunction}
use Rattle.node_store.specs.Views.{Kept}
use Rattle.quantify_ops.specs.Products.{AreMarks, marked_product}
use Rattle.quantify_ops.proofs.products.mark_all.Given as goal

abbrev pub invariant-loop-var : goal.invariant-loop-var
invariant-loop-var g l =
    let now = g.G.Grow.view l.store in
    record {
      kept : Kept (g.G.Grow.view l.fn.store) now;
      marks : AreMarks now l.stack.marks;
      product : conjunction (marked_product l.stack.marks) (cube_of (drop l.var-index l.vars)) ≡ cube_of l.vars;
      frames : l.stack.frames ≡ l.fn.stack.frames;
      free : l.stack.free ≡ l.fn.stack.free;
      size : length l.stack.marks ≡ length l.fn.stack.marks;
    }
