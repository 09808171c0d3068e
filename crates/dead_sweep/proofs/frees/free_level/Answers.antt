use Rattle.std.proofs.Common.{arith, ◌≡◌, ◌+◌, ◌<◌, ℕ, Bool, true, Option, Some, sym, ◌∙◌, subst, ap, length}
use Rattle.std.specs.Prelude.{slice_index}
use Rattle.edge_bits.specs.declared.words.Word.{Word}
use Rattle.edge_bits.specs.declared.words.Word.TheVariants.{Inner}
use Rattle.function_laws.specs.Sizes.{in_order}
use Rattle.node_store.specs.Contents.{is_node_of, number_of, var_at}
use Rattle.dead_sweep.specs.Marks.{rank_at, rank_of}
use Rattle.dead_sweep.specs.Frees.{rank_or, slot_rank, Freed}
use Rattle.dead_sweep.proofs.Ranks.{node_rank}
use Rattle.dead_sweep.proofs.Advancing.{found, not_found, node_test, node_number, rank_node}
use Rattle.dead_sweep.proofs.FreedSteps.{free_next, free_end, was_used}
use Rattle.dead_sweep.proofs.frees.free_level.Goals as goal

pub next_of-requires : goal.next_of-requires
next_of-requires g c = subst (λ o. c.args.level < length (in_order o c.args.order)) (sym c.slots.invariant.orders) c.requires.1.1.0

pub free_slot-requires : goal.free_slot-requires
free_slot-requires g c = λ κ sub.
    let o = g.W.Whole.others in
    let both = g.met.W.Whole.others_both in
    let zero = g.met.W.Whole.others_zero in
    let v = g.W.Whole.view c.slots.w in
    let x = g.W.Whole.view c.next_of.new.self in
    let ready = c.requires.1.0 in
    let rank = rank_at g.start.orders c.args.order c.args.level in
    let here : Option Word → Bool = is_node_of (var_at g.start c.args.order c.args.level) in
    let covers : (s : ℕ) (word : Word) → g.start.word s ≡ Some word → rank_of g.start.orders word ≡ rank → here (Some word) ≡ true =
    λ s word h e. rank_node g.start ready.sound ready.settled s word h c.args.order c.args.level c.requires.1.1.0 e in
    let var : var_at v c.args.order c.args.level ≡ var_at g.start c.args.order c.args.level = ap (λ q. number_of c.args.order (slice_index (in_order q c.args.order) c.args.level)) c.slots.invariant.orders in
    let f = found (λ s. is_node_of (var_at v c.args.order c.args.level) (v.word s) ≡ true) v c.slots.from c.next_of.result c.in-Some.slot c.next_of.ensures.next c.in-Some.is in
    let n = node_test (var_at v c.args.order c.args.level) (v.word c.in-Some.slot) f.1 in
    let number = node_number (var_at v c.args.order c.args.level) (v.word c.in-Some.slot) n.0 f.1 n.1 in
    let was = was_used o both zero g.start v x ready rank c.slots.from c.next_of.ensures.after c.slots.invariant here covers c.in-Some.slot (Inner n.0) n.1 in
    let rank_is : rank_of g.start.orders (Inner n.0) ≡ rank = node_rank g.start ready.sound ready.settled c.args.order c.args.level n.0 c.requires.1.1.0 (number ∙ var) in
    let same : slot_rank g.start c.in-Some.slot ≡ rank = ap (rank_or g.start.orders) was ∙ rank_is in
    let next = free_next o both zero g.start v x ready rank c.slots.from c.next_of.ensures.after c.slots.invariant here covers c.in-Some.slot f.0
    (λ t le lt h. f.2 t le lt (subst (λ q. is_node_of q (v.word t) ≡ true) (sym var) h)) in
    (sub, (ready, ((Inner n.0, was), subst (λ k. Freed o g.start x k c.in-Some.slot) (sym same) next)))

pub overflow_add-from : goal.overflow_add-from
overflow_add-from g c =
    let v = g.W.Whole.view c.slots.w in
    let f = found (λ s. is_node_of (var_at v c.args.order c.args.level) (v.word s) ≡ true) v c.slots.from c.next_of.result c.in-Some.slot c.next_of.ensures.next c.in-Some.is in
    let n = node_test (var_at v c.args.order c.args.level) (v.word c.in-Some.slot) f.1 in
    let lt = c.slots.invariant.sound.within c.in-Some.slot (_, n.1) in
    let few = c.slots.invariant.sound.few_slots in
    omega (arith, lt, few)

pub slots-smaller : goal.slots-smaller
slots-smaller g c =
    let v = g.W.Whole.view c.slots.w in
    let f = found (λ s. is_node_of (var_at v c.args.order c.args.level) (v.word s) ≡ true) v c.slots.from c.next_of.result c.in-Some.slot c.next_of.ensures.next c.in-Some.is in
    let n = node_test (var_at v c.args.order c.args.level) (v.word c.in-Some.slot) f.1 in
    let lt = c.slots.invariant.sound.within c.in-Some.slot (_, n.1) in
    let same = c.slots.invariant.limit in
    let le = f.0 in
    omega (arith, lt, same, le)

pub slots-preserved : goal.slots-preserved
slots-preserved g c =
    let o = g.W.Whole.others in
    let both = g.met.W.Whole.others_both in
    let zero = g.met.W.Whole.others_zero in
    let v = g.W.Whole.view c.slots.w in
    let x = g.W.Whole.view c.next_of.new.self in
    let ready = c.requires.1.0 in
    let rank = rank_at g.start.orders c.args.order c.args.level in
    let here : Option Word → Bool = is_node_of (var_at g.start c.args.order c.args.level) in
    let covers : (s : ℕ) (word : Word) → g.start.word s ≡ Some word → rank_of g.start.orders word ≡ rank → here (Some word) ≡ true =
    λ s word h e. rank_node g.start ready.sound ready.settled s word h c.args.order c.args.level c.requires.1.1.0 e in
    let var : var_at v c.args.order c.args.level ≡ var_at g.start c.args.order c.args.level = ap (λ q. number_of c.args.order (slice_index (in_order q c.args.order) c.args.level)) c.slots.invariant.orders in
    let f = found (λ s. is_node_of (var_at v c.args.order c.args.level) (v.word s) ≡ true) v c.slots.from c.next_of.result c.in-Some.slot c.next_of.ensures.next c.in-Some.is in
    let n = node_test (var_at v c.args.order c.args.level) (v.word c.in-Some.slot) f.1 in
    let number = node_number (var_at v c.args.order c.args.level) (v.word c.in-Some.slot) n.0 f.1 n.1 in
    let was = was_used o both zero g.start v x ready rank c.slots.from c.next_of.ensures.after c.slots.invariant here covers c.in-Some.slot (Inner n.0) n.1 in
    let rank_is : rank_of g.start.orders (Inner n.0) ≡ rank = node_rank g.start ready.sound ready.settled c.args.order c.args.level n.0 c.requires.1.1.0 (number ∙ var) in
    let same : slot_rank g.start c.in-Some.slot ≡ rank = ap (rank_or g.start.orders) was ∙ rank_is in
    subst (λ k. Freed o g.start (g.W.Whole.view c.free_slot.new.w) k (c.in-Some.slot + 1)) same c.free_slot.ensures

pub returns : goal.returns
returns g c =
    let v = g.W.Whole.view c.slots.w in
    let ready = c.requires.1.0 in
    let var : var_at v c.args.order c.args.level ≡ var_at g.start c.args.order c.args.level = ap (λ q. number_of c.args.order (slice_index (in_order q c.args.order) c.args.level)) c.slots.invariant.orders in
    let n = not_found (λ s. is_node_of (var_at v c.args.order c.args.level) (v.word s) ≡ true) v c.slots.from c.next_of.result c.next_of.ensures.next c.in_default.not-Some in
    free_end g.W.Whole.others g.met.W.Whole.others_both g.met.W.Whole.others_zero g.start v (g.W.Whole.view c.next_of.new.self) ready (rank_at g.start.orders c.args.order c.args.level) c.slots.from
    c.next_of.ensures.after c.slots.invariant (is_node_of (var_at g.start c.args.order c.args.level))
    (λ s word h e. rank_node g.start ready.sound ready.settled s word h c.args.order c.args.level c.requires.1.1.0 e)
    (λ t le h. n t le (subst (λ q. is_node_of q (v.word t) ≡ true) (sym var) h))
