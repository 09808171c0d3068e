use Rattle.std.proofs.Common.{◌≡◌, ◌-◌, ◌<◌, ℕ, List, ◌++◌, ◌∷◌, [], ◌∙◌, ap, refl, sym, subst, length, drop, arith}
use Rattle.std.specs.Prelude.{slice_index, vec_len}
use Rattle.function_laws.specs.Sizes.{in_order}
use Rattle.group_sift.specs.Settled.{measure_at}
use Rattle.group_sift.specs.Turns.{width_entry}
use Rattle.group_sift.proofs.Listing.{block_none, block_more_none, block_more, block_end, pushed_long}
use Rattle.group_sift.proofs.lists.list_block.Goals as goal

pub returns-then-not-sifted : goal.returns-then-not-sifted
returns-then-not-sifted g c = record {
  settled = c.requires.1.0;
  same = refl;
  listed = block_none c.args.sifted c.if-not-sifted.true (width_entry ((measure_at c.args.order g.start).width_of (in_order (g.W.Whole.view c.args.w.now).orders c.args.order))) (c.args.to - c.args.from) (drop c.args.from (in_order (g.W.Whole.view c.args.w.now).orders c.args.order)) c.args.list.now.items;
  capacity = omega arith;
}

pub loop-level-init : goal.loop-level-init
loop-level-init g c =
    (c.requires.1.0, refl, block_more_none (width_entry ((measure_at c.args.order g.start).width_of (in_order (g.W.Whole.view c.args.w.now).orders c.args.order))) c.args.from (drop c.args.from (in_order (g.W.Whole.view c.args.w.now).orders c.args.order)) c.args.list.now.items, omega arith, omega arith)

pub list_level-requires : goal.list_level-requires
list_level-requires g c = λ κ sub.
    let inv = c.loop-level.invariant in
    let h = c.requires.1 in
    let lt = c.loop-level-test.true in
    let within = h.1.1.0 in
    let room = h.1.1.1 in
    let cap = inv.3 in
    let len = inv.4 in
    let from = c.loop-level.auto.level in
    (sub, (inv.0, (subst (λ (l : List ℕ). c.loop-level.level < length l) (sym inv.1) (omega (arith, lt, within)), omega (arith, lt, room, cap, len, from))))

pub loop-level-preserved : goal.loop-level-preserved
loop-level-preserved g c =
    let inv = c.loop-level.invariant in
    let h = c.requires.1 in
    let lt = c.loop-level-test.true in
    let within = h.1.1.0 in
    let from = c.loop-level.auto.level in
    let cap = inv.3 in
    let len = inv.4 in
    let m = measure_at c.args.order g.start in
    let list0 = in_order (g.W.Whole.view c.args.w.now).orders c.args.order in
    let listed = c.list_level.ensures.listed ∙ ap (λ (l : List ℕ). c.loop-level.list.items ++ width_entry (m.width_of l) (slice_index l c.loop-level.level) ∷ []) inv.1 in
    let more = c.list_level.ensures.capacity in (
      c.list_level.ensures.settled,
      c.list_level.ensures.same ∙ inv.1,
      block_more (width_entry (m.width_of list0)) list0 c.args.from c.loop-level.level c.args.list.now.items c.loop-level.list.items c.list_level.new.list.items from (omega (arith, lt, within)) inv.2 listed,
      omega (arith, cap, more),
      pushed_long c.args.from c.loop-level.level (vec_len c.args.list.now) (vec_len c.loop-level.list) (vec_len c.list_level.new.list) from len c.loop-level.list.items c.list_level.new.list.items _ listed (c.loop-level.list.ok.0) c.list_level.new.list.ok.0,
    )

pub returns : goal.returns
returns g c =
    let inv = c.loop-level.invariant in
    let end = c.loop-level.auto.level-end in
    let le = c.requires.1.1.0 in
    let last : c.loop-level.level ≡ c.args.to = omega (arith, end, le, c.loop-level-test.false) in
    record {
      settled = inv.0;
      same = inv.1;
      listed = block_end c.args.sifted c.if-not-sifted.false (width_entry ((measure_at c.args.order g.start).width_of (in_order (g.W.Whole.view c.args.w.now).orders c.args.order))) (drop c.args.from (in_order (g.W.Whole.view c.args.w.now).orders c.args.order)) c.args.from c.loop-level.level c.args.to c.args.list.now.items c.loop-level.list.items last inv.2;
      capacity = inv.3;
    }
