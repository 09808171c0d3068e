use Rattle.std.proofs.Common.{arith, ◌≡◌, ◌<◌, ℕ, true, sym, ◌∙◌, subst, ap, length, Option}
use Rattle.std.specs.Prelude.{slice_index}
use Rattle.edge_bits.specs.declared.words.Word.{Word}
use Rattle.function_laws.specs.Sizes.{in_order}
use Rattle.node_store.specs.Contents.{is_node_of, number_of, var_at}
use Rattle.dead_sweep.specs.Marks.{rank_at}
use Rattle.dead_sweep.proofs.Advancing.{after_none, node_test, node_number, found, not_found, level_next, level_end, marks_both, marks_then}
use Rattle.dead_sweep.proofs.Ranks.{node_rank}
use Rattle.dead_sweep.proofs.marks.mark_level.Goals as goal

pub slots-init : goal.slots-init
slots-init g c =
    (after_none g.W.Whole.others g.met.W.Whole.others_none (g.W.Whole.view c.args.w.now) c.requires.sound, λ start is_root sound settled within m. (is_root, m))

pub next_of-requires : goal.next_of-requires
next_of-requires g c =
    subst (λ o. c.args.level < length (in_order o c.args.order)) (sym c.slots.invariant.0.orders) c.requires.level

pub mark_slot-requires-clause-whole : goal.mark_slot-requires-clause-whole
mark_slot-requires-clause-whole g c = c.next_of.ensures.after.half ∙ c.slots.invariant.0.half ∙ c.requires.whole

pub mark_slot-requires-clause-node : goal.mark_slot-requires-clause-node
mark_slot-requires-clause-node g c =
    let v = g.W.Whole.view c.slots.w in
    let f = found (λ s. is_node_of (var_at v c.args.order c.args.level) (v.word s) ≡ true) v c.slots.from c.next_of.result c.in-Some.slot c.next_of.ensures.next c.in-Some.is in
    let n = node_test (var_at v c.args.order c.args.level) (v.word c.in-Some.slot) f.1 in
    (n.0, ap (λ (h : ℕ → Option Word). h c.in-Some.slot) c.next_of.ensures.after.word ∙ n.1)

pub overflow_add-from : goal.overflow_add-from
overflow_add-from g c =
    let v = g.W.Whole.view c.slots.w in
    let f = found (λ s. is_node_of (var_at v c.args.order c.args.level) (v.word s) ≡ true) v c.slots.from c.next_of.result c.in-Some.slot c.next_of.ensures.next c.in-Some.is in
    let n = node_test (var_at v c.args.order c.args.level) (v.word c.in-Some.slot) f.1 in
    let lt = c.slots.invariant.0.sound.within c.in-Some.slot (_, n.1) in
    let few = c.slots.invariant.0.sound.few_slots in
    omega (arith, lt, few)

pub slots-smaller : goal.slots-smaller
slots-smaller g c =
    let v = g.W.Whole.view c.slots.w in
    let f = found (λ s. is_node_of (var_at v c.args.order c.args.level) (v.word s) ≡ true) v c.slots.from c.next_of.result c.in-Some.slot c.next_of.ensures.next c.in-Some.is in
    let n = node_test (var_at v c.args.order c.args.level) (v.word c.in-Some.slot) f.1 in
    let lt = c.slots.invariant.0.sound.within c.in-Some.slot (_, n.1) in
    let same = c.slots.invariant.0.limit in
    let le = f.0 in
    omega (arith, lt, same, le)

pub slots-preserved : goal.slots-preserved
slots-preserved g c =
    let o = g.W.Whole.others in
    let both = g.met.W.Whole.others_both in
    let zero = g.met.W.Whole.others_zero in
    let v = g.W.Whole.view c.slots.w in
    let x = g.W.Whole.view c.next_of.new.self in
    let f = found (λ s. is_node_of (var_at v c.args.order c.args.level) (v.word s) ≡ true) v c.slots.from c.next_of.result c.in-Some.slot c.next_of.ensures.next c.in-Some.is in (
      marks_both o both (g.W.Whole.view c.args.w.now) v x (g.W.Whole.view c.mark_slot.new.w) c.slots.invariant.0 c.next_of.ensures.after c.mark_slot.ensures.same,
      λ start is_root sound settled within m.
          let r = c.slots.invariant.1 start is_root sound settled within m in
          let n = node_test (var_at v c.args.order c.args.level) (v.word c.in-Some.slot) f.1 in
          let number = node_number (var_at v c.args.order c.args.level) (v.word c.in-Some.slot) n.0 f.1 n.1 in
          let here = node_rank start sound settled c.args.order c.args.level n.0 within
          (number ∙ ap (λ q. number_of c.args.order (slice_index (in_order q c.args.order) c.args.level)) r.1.same.orders) in
          let next = level_next o both zero start v x r.0 c.args.order c.args.level c.slots.from sound settled within c.next_of.ensures.after r.1 c.in-Some.slot f.0 f.2 in
          c.mark_slot.ensures.step start r.0 (rank_at start.orders c.args.order c.args.level) n.0 sound settled
          (ap (λ (h : ℕ → Option Word). h c.in-Some.slot) (sym r.1.same.word) ∙ n.1) here next,
    )

pub returns-clause-same : goal.returns-clause-same
returns-clause-same g c =
    marks_then g.W.Whole.others g.met.W.Whole.others_both (g.W.Whole.view c.args.w.now) (g.W.Whole.view c.slots.w) (g.W.Whole.view c.next_of.new.self) c.slots.invariant.0 c.next_of.ensures.after

pub returns-clause-step : goal.returns-clause-step
returns-clause-step g c start is_root sound settled within m =
    let v = g.W.Whole.view c.slots.w in
    let n = not_found (λ s. is_node_of (var_at v c.args.order c.args.level) (v.word s) ≡ true) v c.slots.from c.next_of.result c.next_of.ensures.next c.in_default.not-Some in
    let r = c.slots.invariant.1 start is_root sound settled within m in
    (r.0, level_end g.W.Whole.others g.met.W.Whole.others_both g.met.W.Whole.others_zero start v (g.W.Whole.view c.next_of.new.self) r.0 c.args.order c.args.level c.slots.from sound settled within c.next_of.ensures.after r.1 n)
