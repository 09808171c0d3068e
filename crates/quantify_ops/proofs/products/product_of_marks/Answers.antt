use Rattle.std.proofs.Common.{◌≡◌, ◌-◌, true, false, inl, sym, ap, arith, subst, Err}
use Rattle.std.proofs.lemmas.Result.{err_from_is_err_and}
use Rattle.edge_bits.specs.declared.edges.Kind.TheVariants.{Bdd}
use Rattle.node_store.specs.Views.{Denotes}
use Rattle.node_store.specs.ViewLaws.{Denotes-truth, Grown-refl, Grown-trans, Permanent-grown}
use Rattle.function_laws.specs.Kinds.{BddFunction}
use Rattle.quantify_ops.specs.Products.{marked_product}
use Rattle.quantify_ops.proofs.ProductLaws.{Adds-both, product-rest, product_done, product_failed, turn_adds, turn_cube, turn_due, turn_node, turn_none}
use Rattle.quantify_ops.proofs.products.product_of_marks.Goals as goal

pub levels-init : goal.levels-init
levels-init g c = record {
  grown = Grown-refl _;
  adds = λ s old. inl old;
  cube = subst (λ h. Denotes Bdd (g.G.Grow.view c.args.store.now) c.truth-cube.result h) (sym (product-rest _ c.args.levels c.args.stack.now.marks c.requires.marks c.requires.levels))
      (rw c.truth-cube.ensures (Denotes-truth _ c.requires.permanent true));
  least = omega arith;
}

pub marked-requires : goal.marked-requires
marked-requires g c = let i = c.levels.invariant.least in let room = c.requires.room in let test = c.levels-test.true in omega (arith, test)

pub make-requires : goal.make-requires
make-requires g c = let i = c.levels.invariant in (
  Bdd,
  turn_node _ _ c.args.stack.now.marks c.levels.level (c.levels.level - 1) c.in-Some.var c.levels.cube c.truth-zero.result (let test = c.levels-test.true in omega (arith, test)) i.grown c.requires.marks (sym c.in-Some.ensures) i.cube
      (rw c.truth-zero.ensures (Denotes-truth _ (Permanent-grown i.grown c.requires.permanent) false)),
)

pub returns : goal.returns
returns g c = let i = c.levels.invariant in let last = c.levels-test.false in
    record { runs = product_done _ _ c.args.stack.now.marks c.levels.level c.levels.cube i.grown i.adds (omega (arith, last)) i.cube }

pub returns-in_err-cube : goal.returns-in_err-cube
returns-in_err-cube g c =
    let i = c.levels.invariant in let e = c.in_err-cube.ensures in
    let node = turn_node _ _ c.args.stack.now.marks c.levels.level (c.levels.level - 1) c.in-Some.var c.levels.cube c.truth-zero.result (let test = c.levels-test.true in omega (arith, test)) i.grown c.requires.marks
    (sym c.in-Some.ensures) i.cube (rw c.truth-zero.ensures (Denotes-truth _ (Permanent-grown i.grown c.requires.permanent) false)) in
    let q = err_from_is_err_and c.from_residual.result c.from_residual.ensures.1 in rw (q.1, q.2)
    (record {
      runs = product_failed _ _ _ _ _ i.grown e.grown i.adds e.made (λ same. e.memory (ap Err same)) (λ same. e.full (ap Err same))
          (λ same. turn_due _ _ c.args.stack.now.marks c.levels.level (c.levels.level - 1) c.in-Some.var c.levels.cube c.truth-zero.result (let test = c.levels-test.true in omega (arith, test)) i.grown c.requires.marks
          (sym c.in-Some.ensures) i.cube (rw c.truth-zero.ensures (Denotes-truth _ (Permanent-grown i.grown c.requires.permanent) false)) _ e.grown (e.due (ap Err same) Bdd node));
    })

pub levels-preserved-in-Some : goal.levels-preserved-in-Some
levels-preserved-in-Some g c =
    let i = c.levels.invariant in let e = c.in_ok-cube.ensures in
    let node = e.ok Bdd (turn_node _ _ c.args.stack.now.marks c.levels.level (c.levels.level - 1) c.in-Some.var c.levels.cube c.truth-zero.result (let test = c.levels-test.true in omega (arith, test)) i.grown c.requires.marks
    (sym c.in-Some.ensures) i.cube (rw c.truth-zero.ensures (Denotes-truth _ (Permanent-grown i.grown c.requires.permanent) false))) in
    record {
      grown = Grown-trans i.grown e.grown;
      adds = Adds-both (λ F. F ≡ BddFunction (marked_product c.args.stack.now.marks)) _ _ _ i.grown e.grown i.adds
          (turn_adds _ _ c.args.stack.now.marks c.levels.level (c.levels.level - 1) c.in-Some.var c.levels.cube c.truth-zero.result (let test = c.levels-test.true in omega (arith, test)) i.grown c.requires.marks
          (sym c.in-Some.ensures) i.cube (rw c.truth-zero.ensures (Denotes-truth _ (Permanent-grown i.grown c.requires.permanent) false)) _ e.grown c.in_ok-cube.cube e.made node);
      cube = turn_cube _ _ c.args.stack.now.marks c.levels.level (c.levels.level - 1) c.in-Some.var c.levels.cube c.truth-zero.result (let test = c.levels-test.true in omega (arith, test)) i.grown c.requires.marks
          (sym c.in-Some.ensures) i.cube (rw c.truth-zero.ensures (Denotes-truth _ (Permanent-grown i.grown c.requires.permanent) false)) _ e.grown c.in_ok-cube.cube e.made node;
      least = let least = i.least in omega arith;
    }

pub levels-preserved : goal.levels-preserved
levels-preserved g c =
    let i = c.levels.invariant in
    record {
      grown = i.grown;
      adds = i.adds;
      cube = subst (λ f. Denotes Bdd (g.G.Grow.view c.levels.store) c.levels.cube f)
          (turn_none c.args.stack.now.marks c.levels.level (c.levels.level - 1) (let test = c.levels-test.true in omega (arith, test)) (sym c.in_default.ensures)) i.cube;
      least = let least = i.least in omega arith;
    }
