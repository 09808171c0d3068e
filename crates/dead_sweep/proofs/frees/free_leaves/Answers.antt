use Rattle.std.proofs.Common.{arith, ◌≡◌, ◌+◌, ℕ, true, Some, sym, subst, ap, length}
use Rattle.edge_bits.specs.declared.words.Word.{Word}
use Rattle.edge_bits.specs.declared.words.Word.TheVariants.{Leaf}
use Rattle.node_store.specs.Contents.{is_leaf}
use Rattle.dead_sweep.specs.Marks.{rank_of}
use Rattle.dead_sweep.specs.Frees.{rank_or, slot_rank, Freed}
use Rattle.dead_sweep.proofs.Advancing.{found, not_found}
use Rattle.dead_sweep.proofs.LeafSteps.{leaf_test, rank_leaf}
use Rattle.dead_sweep.proofs.FreedSteps.{free_next, free_end, was_used}
use Rattle.dead_sweep.proofs.frees.free_leaves.Goals as goal

pub free_slot-requires : goal.free_slot-requires
free_slot-requires g c = λ κ sub.
    let o = g.W.Whole.others in
    let both = g.met.W.Whole.others_both in
    let zero = g.met.W.Whole.others_zero in
    let v = g.W.Whole.view c.leaves.w in
    let x = g.W.Whole.view c.next_leaf.new.self in
    let ready = c.requires.1.0 in
    let rank = length g.start.orders.variables + length g.start.orders.elements in
    let covers : (s : ℕ) (word : Word) → g.start.word s ≡ Some word → rank_of g.start.orders word ≡ rank → is_leaf (Some word) ≡ true =
    λ s word h e. rank_leaf g.start ready.sound ready.settled s word h (omega (arith, e)) in
    let f = found (λ s. is_leaf (v.word s) ≡ true) v c.leaves.from c.next_leaf.result c.in-Some.slot c.next_leaf.ensures.next c.in-Some.is in
    let n = leaf_test (v.word c.in-Some.slot) f.1 in
    let was = was_used o both zero g.start v x ready rank c.leaves.from c.next_leaf.ensures.after c.leaves.invariant is_leaf covers c.in-Some.slot (Leaf n.0) n.1 in
    let same : slot_rank g.start c.in-Some.slot ≡ rank = ap (rank_or g.start.orders) was in
    let next = free_next o both zero g.start v x ready rank c.leaves.from c.next_leaf.ensures.after c.leaves.invariant is_leaf covers c.in-Some.slot f.0 f.2 in
    (sub, (ready, ((Leaf n.0, was), subst (λ k. Freed o g.start x k c.in-Some.slot) (sym same) next)))

pub overflow_add-from : goal.overflow_add-from
overflow_add-from g c =
    let v = g.W.Whole.view c.leaves.w in
    let f = found (λ s. is_leaf (v.word s) ≡ true) v c.leaves.from c.next_leaf.result c.in-Some.slot c.next_leaf.ensures.next c.in-Some.is in
    let n = leaf_test (v.word c.in-Some.slot) f.1 in
    let lt = c.leaves.invariant.sound.within c.in-Some.slot (_, n.1) in
    let few = c.leaves.invariant.sound.few_slots in
    omega (arith, lt, few)

pub leaves-smaller : goal.leaves-smaller
leaves-smaller g c =
    let v = g.W.Whole.view c.leaves.w in
    let f = found (λ s. is_leaf (v.word s) ≡ true) v c.leaves.from c.next_leaf.result c.in-Some.slot c.next_leaf.ensures.next c.in-Some.is in
    let n = leaf_test (v.word c.in-Some.slot) f.1 in
    let lt = c.leaves.invariant.sound.within c.in-Some.slot (_, n.1) in
    let same = c.leaves.invariant.limit in
    let le = f.0 in
    omega (arith, lt, same, le)

pub leaves-preserved : goal.leaves-preserved
leaves-preserved g c =
    let o = g.W.Whole.others in
    let v = g.W.Whole.view c.leaves.w in
    let ready = c.requires.1.0 in
    let rank = length g.start.orders.variables + length g.start.orders.elements in
    let f = found (λ s. is_leaf (v.word s) ≡ true) v c.leaves.from c.next_leaf.result c.in-Some.slot c.next_leaf.ensures.next c.in-Some.is in
    let n = leaf_test (v.word c.in-Some.slot) f.1 in
    let was = was_used o g.met.W.Whole.others_both g.met.W.Whole.others_zero g.start v (g.W.Whole.view c.next_leaf.new.self) ready rank c.leaves.from c.next_leaf.ensures.after c.leaves.invariant is_leaf
    (λ s word h e. rank_leaf g.start ready.sound ready.settled s word h (omega (arith, e))) c.in-Some.slot (Leaf n.0) n.1 in
    subst (λ k. Freed o g.start (g.W.Whole.view c.free_slot.new.w) k (c.in-Some.slot + 1)) (ap (rank_or g.start.orders) was) c.free_slot.ensures

pub returns : goal.returns
returns g c =
    let v = g.W.Whole.view c.leaves.w in
    let ready = c.requires.1.0 in
    let rank = length g.start.orders.variables + length g.start.orders.elements in
    let n = not_found (λ s. is_leaf (v.word s) ≡ true) v c.leaves.from c.next_leaf.result c.next_leaf.ensures.next c.in_default.not-Some in
    free_end g.W.Whole.others g.met.W.Whole.others_both g.met.W.Whole.others_zero g.start v (g.W.Whole.view c.next_leaf.new.self) ready rank c.leaves.from
    c.next_leaf.ensures.after c.leaves.invariant is_leaf (λ s word h e. rank_leaf g.start ready.sound ready.settled s word h (omega (arith, e))) n
