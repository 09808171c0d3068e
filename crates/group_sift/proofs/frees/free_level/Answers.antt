use Rattle.std.proofs.Common.{arith, ◌≡◌, ◌<◌, ℕ, true, Option, refl, sym, ◌∙◌, subst, ap, length}
use Rattle.std.specs.Prelude.{slice_index}
use Rattle.edge_bits.specs.declared.words.Word.{Word}
use Rattle.edge_bits.specs.declared.words.Word.TheVariants.{Inner}
use Rattle.function_laws.specs.Sizes.{in_order}
use Rattle.node_store.specs.Contents.{is_node_of, number_of, var_at}
use Rattle.dead_sweep.proofs.Advancing.{found, not_found, node_test}
use Rattle.group_sift.specs.Passes.{PassesSlot}
use Rattle.group_sift.proofs.Passing.{pass_begins, pass_skips}
use Rattle.group_sift.proofs.frees.free_level.Goals as goal

pub slots-init : goal.slots-init
slots-init g c =
    let w0 = g.W.Whole.view c.args.w.now in
    pass_begins g.W.Whole.others g.met.W.Whole.others_both g.met.W.Whole.others_zero w0 (var_at w0 c.args.order c.args.level) w0
    (record { sound = c.requires.loose.sound; counts = g.met.W.Whole.others_none w0.count; orders = refl; limit = refl; word = refl; function = refl; generation = refl; marked = refl; pinned = refl; sweeping = refl; half = refl })

pub next_of-requires : goal.next_of-requires
next_of-requires g c = subst (λ o. c.args.level < length (in_order o c.args.order)) (sym c.slots.invariant.orders) c.requires.level

pub free_unnamed-requires : goal.free_unnamed-requires
free_unnamed-requires g c =
    let o = g.W.Whole.others in
    let both = g.met.W.Whole.others_both in
    let zero = g.met.W.Whole.others_zero in
    let w0 = g.W.Whole.view c.args.w.now in
    let v = g.W.Whole.view c.slots.w in
    let x = g.W.Whole.view c.next_of.new.self in
    let var : var_at v c.args.order c.args.level ≡ var_at w0 c.args.order c.args.level = ap (λ q. number_of c.args.order (slice_index (in_order q c.args.order) c.args.level)) c.slots.invariant.orders in
    let f = found (λ s. is_node_of (var_at v c.args.order c.args.level) (v.word s) ≡ true) v c.slots.from c.next_of.result c.in-Some.slot c.next_of.ensures.next c.in-Some.is in
    let ready : PassesSlot o w0 (var_at w0 c.args.order c.args.level) x c.in-Some.slot = record {
      loose = c.requires.loose;
      node = subst (λ q. is_node_of q (x.word c.in-Some.slot) ≡ true) var (ap (λ (h : ℕ → Option Word). is_node_of (var_at v c.args.order c.args.level) (h c.in-Some.slot)) c.next_of.ensures.after.word ∙ f.1);
      so_far = pass_skips o both zero w0 (var_at w0 c.args.order c.args.level) v x c.slots.from c.in-Some.slot c.slots.invariant c.next_of.ensures.after
          (λ t le lt h. f.2 t le lt (subst (λ q. is_node_of q (v.word t) ≡ true) (sym var) h));
    } in
    (w0, var_at w0 c.args.order c.args.level, ready)

pub overflow_add-from : goal.overflow_add-from
overflow_add-from g c =
    let v = g.W.Whole.view c.slots.w in
    let f = found (λ s. is_node_of (var_at v c.args.order c.args.level) (v.word s) ≡ true) v c.slots.from c.next_of.result c.in-Some.slot c.next_of.ensures.next c.in-Some.is in
    let n = node_test (var_at v c.args.order c.args.level) (v.word c.in-Some.slot) f.1 in
    let lt = c.slots.invariant.sound.within c.in-Some.slot (Inner n.0, n.1) in
    let few = c.slots.invariant.sound.few_slots in
    omega (arith, lt, few)

pub slots-smaller : goal.slots-smaller
slots-smaller g c =
    let v = g.W.Whole.view c.slots.w in
    let f = found (λ s. is_node_of (var_at v c.args.order c.args.level) (v.word s) ≡ true) v c.slots.from c.next_of.result c.in-Some.slot c.next_of.ensures.next c.in-Some.is in
    let n = node_test (var_at v c.args.order c.args.level) (v.word c.in-Some.slot) f.1 in
    let lt = c.slots.invariant.sound.within c.in-Some.slot (Inner n.0, n.1) in
    let same = c.slots.invariant.limit in
    let le = f.0 in
    omega (arith, lt, same, le)

pub slots-preserved : goal.slots-preserved
slots-preserved g c =
    let o = g.W.Whole.others in
    let both = g.met.W.Whole.others_both in
    let zero = g.met.W.Whole.others_zero in
    let w0 = g.W.Whole.view c.args.w.now in
    let v = g.W.Whole.view c.slots.w in
    let x = g.W.Whole.view c.next_of.new.self in
    let var : var_at v c.args.order c.args.level ≡ var_at w0 c.args.order c.args.level = ap (λ q. number_of c.args.order (slice_index (in_order q c.args.order) c.args.level)) c.slots.invariant.orders in
    let f = found (λ s. is_node_of (var_at v c.args.order c.args.level) (v.word s) ≡ true) v c.slots.from c.next_of.result c.in-Some.slot c.next_of.ensures.next c.in-Some.is in
    let ready : PassesSlot o w0 (var_at w0 c.args.order c.args.level) x c.in-Some.slot = record {
      loose = c.requires.loose;
      node = subst (λ q. is_node_of q (x.word c.in-Some.slot) ≡ true) var (ap (λ (h : ℕ → Option Word). is_node_of (var_at v c.args.order c.args.level) (h c.in-Some.slot)) c.next_of.ensures.after.word ∙ f.1);
      so_far = pass_skips o both zero w0 (var_at w0 c.args.order c.args.level) v x c.slots.from c.in-Some.slot c.slots.invariant c.next_of.ensures.after
          (λ t le lt h. f.2 t le lt (subst (λ q. is_node_of q (v.word t) ≡ true) (sym var) h));
    } in
    c.free_unnamed.ensures w0 (var_at w0 c.args.order c.args.level) ready

pub returns : goal.returns
returns g c =
    let o = g.W.Whole.others in
    let both = g.met.W.Whole.others_both in
    let zero = g.met.W.Whole.others_zero in
    let w0 = g.W.Whole.view c.args.w.now in
    let v = g.W.Whole.view c.slots.w in
    let x = g.W.Whole.view c.next_of.new.self in
    let var : var_at v c.args.order c.args.level ≡ var_at w0 c.args.order c.args.level = ap (λ q. number_of c.args.order (slice_index (in_order q c.args.order) c.args.level)) c.slots.invariant.orders in
    let n = not_found (λ s. is_node_of (var_at v c.args.order c.args.level) (v.word s) ≡ true) v c.slots.from c.next_of.result c.next_of.ensures.next c.in_default.not-Some in
    pass_skips o both zero w0 (var_at w0 c.args.order c.args.level) v x c.slots.from w0.limit c.slots.invariant c.next_of.ensures.after
    (λ t le lt h. n t le (subst (λ q. is_node_of q (v.word t) ≡ true) (sym var) h))
