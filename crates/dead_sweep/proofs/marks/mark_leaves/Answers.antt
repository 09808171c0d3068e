use Rattle.std.proofs.Common.{arith, ◌≡◌, ◌+◌, ℕ, true, sym, ◌∙◌, ap, refl, length, Option}
use Rattle.edge_bits.specs.declared.words.Word.{Word}
use Rattle.edge_bits.specs.declared.words.Word.TheVariants.{Leaf}
use Rattle.node_store.specs.Contents.{is_leaf}
use Rattle.dead_sweep.proofs.Advancing.{after_none, found, not_found, marks_both, marks_then}
use Rattle.dead_sweep.proofs.LeafSteps.{leaf_test, leaf_next, leaf_end}
use Rattle.dead_sweep.proofs.marks.mark_leaves.Goals as goal

pub leaves-init : goal.leaves-init
leaves-init g c =
    (after_none g.W.Whole.others g.met.W.Whole.others_none (g.W.Whole.view c.args.w.now) c.requires.sound, λ start is_root sound settled m. (is_root, m))

pub mark_leaf-requires-clause-used : goal.mark_leaf-requires-clause-used
mark_leaf-requires-clause-used g c =
    let v = g.W.Whole.view c.leaves.w in
    let f = found (λ s. is_leaf (v.word s) ≡ true) v c.leaves.from c.next_leaf.result c.in-Some.slot c.next_leaf.ensures.next c.in-Some.is in
    let n = leaf_test (v.word c.in-Some.slot) f.1 in
    (Leaf n.0, ap (λ (h : ℕ → Option Word). h c.in-Some.slot) c.next_leaf.ensures.after.word ∙ n.1)

pub overflow_add-from : goal.overflow_add-from
overflow_add-from g c =
    let v = g.W.Whole.view c.leaves.w in
    let f = found (λ s. is_leaf (v.word s) ≡ true) v c.leaves.from c.next_leaf.result c.in-Some.slot c.next_leaf.ensures.next c.in-Some.is in
    let n = leaf_test (v.word c.in-Some.slot) f.1 in
    let lt = c.leaves.invariant.0.sound.within c.in-Some.slot (_, n.1) in
    let few = c.leaves.invariant.0.sound.few_slots in
    omega (arith, lt, few)

pub leaves-smaller : goal.leaves-smaller
leaves-smaller g c =
    let v = g.W.Whole.view c.leaves.w in
    let f = found (λ s. is_leaf (v.word s) ≡ true) v c.leaves.from c.next_leaf.result c.in-Some.slot c.next_leaf.ensures.next c.in-Some.is in
    let n = leaf_test (v.word c.in-Some.slot) f.1 in
    let lt = c.leaves.invariant.0.sound.within c.in-Some.slot (_, n.1) in
    let same = c.leaves.invariant.0.limit in
    let le = f.0 in
    omega (arith, lt, same, le)

pub leaves-preserved : goal.leaves-preserved
leaves-preserved g c =
    let o = g.W.Whole.others in
    let both = g.met.W.Whole.others_both in
    let zero = g.met.W.Whole.others_zero in
    let v = g.W.Whole.view c.leaves.w in
    let x = g.W.Whole.view c.next_leaf.new.self in
    let f = found (λ s. is_leaf (v.word s) ≡ true) v c.leaves.from c.next_leaf.result c.in-Some.slot c.next_leaf.ensures.next c.in-Some.is in (
      marks_both o both (g.W.Whole.view c.args.w.now) v x (g.W.Whole.view c.mark_leaf.new.w) c.leaves.invariant.0 c.next_leaf.ensures.after c.mark_leaf.ensures.same,
      λ start is_root sound settled m.
          let r = c.leaves.invariant.1 start is_root sound settled m in
          let n = leaf_test (v.word c.in-Some.slot) f.1 in
          let next = leaf_next o both zero start v x r.0 c.leaves.from sound settled c.next_leaf.ensures.after r.1 c.in-Some.slot f.0 f.2 in
          c.mark_leaf.ensures.step start r.0 (length start.orders.variables + length start.orders.elements) n.0 sound
          (ap (λ (h : ℕ → Option Word). h c.in-Some.slot) (sym r.1.same.word) ∙ n.1) refl next,
    )

pub returns-clause-same : goal.returns-clause-same
returns-clause-same g c =
    marks_then g.W.Whole.others g.met.W.Whole.others_both (g.W.Whole.view c.args.w.now) (g.W.Whole.view c.leaves.w) (g.W.Whole.view c.next_leaf.new.self) c.leaves.invariant.0 c.next_leaf.ensures.after

pub returns-clause-step : goal.returns-clause-step
returns-clause-step g c start is_root sound settled m =
    let v = g.W.Whole.view c.leaves.w in
    let n = not_found (λ s. is_leaf (v.word s) ≡ true) v c.leaves.from c.next_leaf.result c.next_leaf.ensures.next c.in_default.not-Some in
    let r = c.leaves.invariant.1 start is_root sound settled m in
    (r.0, leaf_end g.W.Whole.others g.met.W.Whole.others_both g.met.W.Whole.others_zero start v (g.W.Whole.view c.next_leaf.new.self) r.0 c.leaves.from sound settled c.next_leaf.ensures.after r.1 n)
