use Rattle.std.proofs.Common.{◌≡◌, ◌+◌, ◌-◌, ◌<◌, ◌≤◌, ℕ, Bool, List, ◌++◌, ◌∷◌, [], ◌∙◌, ap, refl, sym, subst, length, drop, get_or, arith}
use Rattle.std.specs.Prelude.{map}
use Rattle.std.proofs.lemmas.List.{at_drop_more, at_drop_all}
use Rattle.function_laws.specs.Sizes.{in_order}
use Rattle.function_laws.specs.SiftedOrders.{Block, is_default, default_ones}
use Rattle.function_laws.specs.declared.orders.Mode.TheVariants.{Default}
use Rattle.group_sift.specs.declared.turns.BlockEnd.{BlockEnd}
use Rattle.group_sift.specs.Settled.{measure_at}
use Rattle.group_sift.specs.Turns.{width_entry, block_of, blocks_of, some_ones, Rise, last_end}
use Rattle.group_sift.proofs.Places.{at_least}
use Rattle.group_sift.proofs.Listing.{blocks_more, some_few}
use Rattle.group_sift.proofs.lists.list_blocks.Goals as goal

first_block : BlockEnd
first_block = record { end = 0; mode = Default }

more_blocks : (blocks : List BlockEnd) (i : ℕ) → i < length blocks → blocks_of (drop i blocks) ≡ block_of (get_or blocks i (record { end = 0; mode = Default })) ∷ blocks_of (drop (i + 1) blocks)
more_blocks blocks i lt = at_drop_more blocks_of blocks i (record { end = 0; mode = Default }) lt

pub list_block-requires : goal.list_block-requires
list_block-requires g c = λ κ sub.
    let inv = c.loop-block.invariant in
    let h = c.requires.1 in
    let e = more_blocks c.args.blocks.now c.loop-block.block-index c.loop-block-test.true in
    let rise = subst (Rise c.loop-block.from) e inv.3 in
    let end = ap (last_end c.loop-block.from) (sym e) ∙ inv.4 in
    let up = rise.0 in
    let more = at_least (get_or c.args.blocks.now c.loop-block.block-index (record { end = 0; mode = Default })).end (blocks_of (drop (c.loop-block.block-index + 1) c.args.blocks.now)) rise.1 in
    let len = inv.5 in
    let cap = inv.6 in
    let all = h.1.1.0 in
    let room = h.1.1.1.0 in
    let items = c.loop-block.list.ok.0 in (
      sub,
      (
        inv.0,
        (
          omega (arith, up),
          (
            subst (λ (l : List ℕ). (get_or c.args.blocks.now c.loop-block.block-index (record { end = 0; mode = Default })).end ≤ length l) (sym inv.1) (omega (arith, more, end)),
            omega (arith, up, more, end, len, cap, all, room, items),
          ),
        ),
      ),
    )

pub loop-block-preserved : goal.loop-block-preserved
loop-block-preserved g c =
    let inv = c.loop-block.invariant in
    let list0 = in_order (g.W.Whole.view c.args.w.now).orders c.args.order in
    let m = measure_at c.args.order g.start in
    let e = more_blocks c.args.blocks.now c.loop-block.block-index c.loop-block-test.true in
    let rest = blocks_of (drop (c.loop-block.block-index + 1) c.args.blocks.now) in
    let b = block_of (get_or c.args.blocks.now c.loop-block.block-index (record { end = 0; mode = Default })) in
    let rise = subst (Rise c.loop-block.from) e inv.3 in
    let up = rise.0 in
    let end = ap (last_end c.loop-block.from) (sym e) ∙ inv.4 in
    let listed = c.list_block.ensures.listed ∙ ap (λ (l : List ℕ). c.loop-block.list.items ++ map (width_entry (m.width_of l)) (some_ones c.is_default.result (b.end - c.loop-block.from) (drop c.loop-block.from l))) inv.1
    ∙ ap (λ (t : Bool). c.loop-block.list.items ++ map (width_entry (m.width_of list0)) (some_ones t (b.end - c.loop-block.from) (drop c.loop-block.from list0))) c.is_default.ensures in
    let total = subst (λ (x : List Block). c.loop-block.list.items ++ map (width_entry (m.width_of list0)) (default_ones c.loop-block.from x (drop c.loop-block.from list0)) ≡ map (width_entry (m.width_of list0)) (default_ones 0 (blocks_of c.args.blocks.now) list0)) e inv.2 in
    let len = inv.5 in
    let cap = inv.6 in
    let few = some_few (width_entry (m.width_of list0)) (is_default b.mode) (b.end - c.loop-block.from) (drop c.loop-block.from list0) c.loop-block.list.items c.list_block.new.list.items listed in (
      c.list_block.ensures.settled,
      c.list_block.ensures.same ∙ inv.1,
      blocks_more (width_entry (m.width_of list0)) list0 c.loop-block.from b rest c.loop-block.list.items c.list_block.new.list.items (map (width_entry (m.width_of list0)) (default_ones 0 (blocks_of c.args.blocks.now) list0)) (omega (arith, up)) listed total,
      rise.1,
      end,
      omega (arith, few, len, up),
      (let k = c.list_block.ensures.capacity in omega (arith, cap, k)),
    )

append_nil : {X : Type 0} (xs : List X) → xs ++ [] ≡ xs
append_nil [] = refl
append_nil (x ∷ xs) = ap (λ t. x ∷ t) (append_nil xs)

pub returns : goal.returns
returns g c =
    let inv = c.loop-block.invariant in
    let list0 = in_order (g.W.Whole.view c.args.w.now).orders c.args.order in
    let m = measure_at c.args.order g.start in
    let e : blocks_of (drop c.loop-block.block-index c.args.blocks.now) ≡ [] = at_drop_all blocks_of c.args.blocks.now c.loop-block.block-index c.loop-block-test.false in
    let end = ap (last_end c.loop-block.from) (sym e) ∙ inv.4 in
    let len = inv.5 in
    record {
      settled = inv.0;
      same = inv.1;
      listed = sym (append_nil c.loop-block.list.items) ∙ subst (λ (x : List Block). c.loop-block.list.items ++ map (width_entry (m.width_of list0)) (default_ones c.loop-block.from x (drop c.loop-block.from list0)) ≡ map (width_entry (m.width_of list0)) (default_ones 0 (blocks_of c.args.blocks.now) list0)) e inv.2;
      few = omega (arith, len, end);
      capacity = inv.6;
    }
