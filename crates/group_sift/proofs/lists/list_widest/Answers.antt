use Rattle.std.proofs.Common.{◌≡◌, ◌<◌, List, subst, length, arith}
use Rattle.std.specs.Prelude.{map}
use Rattle.std.specs.List.Sorted.{IsPermutation}
use Rattle.std.proofs.lemmas.List.Sorted.{All-permutation, length_permutation}
use Rattle.function_laws.specs.Sizes.{in_order}
use Rattle.function_laws.specs.SiftedOrders.{default_ones}
use Rattle.group_sift.specs.Settled.{measure_at}
use Rattle.group_sift.specs.Turns.{width_entry, blocks_of}
use Rattle.group_sift.proofs.Settling.{order_is}
use Rattle.group_sift.proofs.Places.{few_levels}
use Rattle.group_sift.proofs.Listing.{Entry}
use Rattle.group_sift.proofs.Sorting.{sorted_is, default_below, all_entries}
use Rattle.group_sift.proofs.lists.list_widest.Goals as goal

pub list_blocks-requires : goal.list_blocks-requires
list_blocks-requires g c = λ κ sub.
    let h = c.requires.1 in
    let cap = c.clear.ensures.capacity in
    let room = h.1.1.1 in
    (sub, (h.0, (h.1.0, (h.1.1.0, (omega (arith, room, cap), c.clear.ensures.items)))))

pub returns : goal.returns
returns g c =
    let h = c.requires.1 in
    let list0 = in_order (g.W.Whole.view c.args.w.now).orders c.args.order in
    let bs = blocks_of c.args.blocks.now in
    let w = (measure_at c.args.order g.start).width_of list0 in
    let vs = default_ones 0 bs list0 in
    let xs = c.sort_unstable.new.self.items in
    let perm = subst (λ (ys : List Entry). IsPermutation ys xs) c.list_blocks.ensures.listed c.sort_unstable.ensures.permutation in
    let all = All-permutation (λ (e : Entry). e.0.0 ≡ w e.1) (map (width_entry w) vs) xs perm (all_entries w vs) in
    let below = All-permutation (λ (e : Entry). e.1 < length list0) (map (width_entry w) vs) xs perm (default_below w bs list0 (order_is (g.W.Whole.view c.args.w.now) h.0.held.sound c.args.order).below) in
    let long = length_permutation c.list_blocks.new.list.items xs c.sort_unstable.ensures.permutation in
    let few = few_levels (g.W.Whole.view c.args.w.now) h.0.held.sound c.args.order in
    record {
      settled = c.list_blocks.ensures.settled;
      same = c.list_blocks.ensures.same;
      listed = sorted_is w vs xs perm all (λ k d z lt. c.sort_unstable.ensures.sorted k d z lt);
      numbers = below;
      few = omega (arith, long, few, c.list_blocks.ensures.few);
      capacity = (let a = c.clear.ensures.capacity in let b = c.list_blocks.ensures.capacity in let d = c.sort_unstable.ensures.capacity in omega (arith, a, b, d));
    }
