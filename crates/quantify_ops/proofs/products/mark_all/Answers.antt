use Rattle.std.proofs.Common.{◌+◌, drop, length, refl, sym, ap, ◌∙◌, arith}
use Rattle.std.proofs.lemmas.List.{length-set}
use Rattle.std.proofs.Math.ListN.{drop_of_length-le}
use Rattle.function_laws.specs.Cubes.{cube_of}
use Rattle.function_laws.specs.Values.{conjunction}
use Rattle.node_store.specs.ViewLaws.{Kept-refl, Kept-trans}
use Rattle.quantify_ops.specs.Products.{marked_product}
use Rattle.quantify_ops.proofs.ProductLaws.{AreMarks-grown, AreMarks-nothing, marked-marks, marked-product, next_variable, product-nothing, with_nothing}
use Rattle.quantify_ops.proofs.products.mark_all.Goals as goal

pub loop-var-init : goal.loop-var-init
loop-var-init g c = record {
  kept = Kept-refl _;
  marks = AreMarks-nothing _ c.args.stack.now.marks c.requires.none;
  product = ap (λ h. conjunction h (cube_of c.args.vars.now)) (product-nothing c.args.stack.now.marks c.requires.none);
  frames = refl;
  free = refl;
  size = refl;
}

pub loop-var-preserved : goal.loop-var-preserved
loop-var-preserved g c =
    let i = c.loop-var.invariant in let e = c.mark.ensures in let vars = c.args.vars.now in
    let marks = AreMarks-grown _ _ c.loop-var.stack.marks e.kept.grown i.marks in
    let below = c.loop-var-test.true in
    record {
      kept = Kept-trans i.kept e.kept;
      marks = rw e.marks (marked-marks _ _ _ c.loop-var.stack.marks marks e.is_mark);
      product = rw e.marks (ap (λ h. conjunction h (cube_of (drop (c.loop-var.var-index + 1) vars)))
          (marked-product _ _ _ c.loop-var.stack.marks marks
          (let within = e.is_mark.within in let room = c.requires.room in let size = i.size in let m = i.kept.grown.vars in let n = e.kept.grown.vars in omega arith) e.is_mark)
          ∙ sym (next_variable (marked_product c.loop-var.stack.marks) vars c.loop-var.var-index (c.loop-var.var-index + 1) _ (omega arith) (omega arith)) ∙ i.product);
      frames = e.frames ∙ i.frames;
      free = e.free ∙ i.free;
      size = ap length e.marks ∙ length-set c.loop-var.stack.marks _ _ ∙ i.size;
    }

pub returns-clause-product : goal.returns-clause-product
returns-clause-product g c =
    let i = c.loop-var.invariant in let vars = c.args.vars.now in let past = c.loop-var-test.false in
    sym (with_nothing (marked_product c.loop-var.stack.marks) (drop c.loop-var.var-index vars) (drop_of_length-le vars (omega arith))) ∙ i.product
