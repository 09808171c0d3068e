-- The room for a swap, by what was told of the store that a sweep left.
use Rattle.std.proofs.Common.{◌≡◌, ℕ, ◌+◌, ◌<◌, ◌≤◌, arith}
use Rattle.function_laws.specs.declared.orders.Order.{Order}
use Rattle.node_store.specs.Contents.{Content, used_slots}
use Rattle.node_store.specs.Changes.{After}
use Rattle.level_swap.specs.Swaps.{IsSwapped, needed}
use Rattle.level_swap.proofs.Steps.{nodes_same, swapped_then, used_same}
use Rattle.level_swap.proofs.SwapLoop.{after_both}

-- a store, and the same after its need and its room were told
module _ (others : (ℕ → ℕ) → (ℕ → ℕ) → Type 0) (both : (x y z : ℕ → ℕ) → others x y → others y z → others x z) (v0 v1 v2 : Content) (a : After others v0 v1) (b : After others v1 v2)
    (order : Order) (level need room : ℕ) (n : need ≡ needed v0 order level) (r : room + used_slots v1 ≡ v1.limit) where
  pub unchanged : After others v0 v2
  unchanged = after_both others both v0 v1 v2 a b

  pub is_room : need ≤ room → (used_slots v0 + needed v0 order level ≤ v0.limit) × (used_slots v2 + needed v2 order level ≤ v2.limit)
  is_room le =
      let u = used_same others v0 v1 a order in
      let l = a.limit in
      let s = used_same others v0 v2 unchanged order in
      let x = nodes_same others v0 v2 unchanged order level in
      let y = nodes_same others v0 v2 unchanged order (level + 1) in
      let m = unchanged.limit in
      (omega (arith, u, l, n, r, le), omega (arith, u, l, n, r, le, s, x, y, m))

  pub is_none : room < need → (in_use : ℕ) → in_use ≡ used_slots v0 → v0.limit < in_use + need
  is_none lt in_use is = let u = used_same others v0 v1 a order in let l = a.limit in omega (arith, u, l, r, lt, is)

  pub is_swapped : (v3 : Content) → IsSwapped others order level v2 v3 → IsSwapped others order level v0 v3
  is_swapped v3 s = swapped_then others v0 v2 unchanged order both level v3 s
