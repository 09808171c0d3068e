-- The room for a swap, from what was told of it.
use Rattle.std.proofs.Common.{◌≡◌, ℕ, ◌+◌, ◌≤◌, arith}
use Rattle.function_laws.specs.declared.orders.Order.{Order}
use Rattle.node_store.specs.Contents.{Content, used_slots}
use Rattle.node_store.specs.Changes.{After}
use Rattle.level_swap.specs.Swaps.{needed}
use Rattle.level_swap.proofs.Steps.{nodes_same, used_same}

-- the need that was told fits into the room that was told
pub still_room : (others : (ℕ → ℕ) → (ℕ → ℕ) → Type 0) (u v w : Content) (order : Order) (level need room : ℕ) → After others u v → After others v w
    → need ≡ needed u order level → room + used_slots v ≡ v.limit → need ≤ room → used_slots w + needed w order level ≤ w.limit
still_room others u v w order level need room a b n r le =
    let x = nodes_same others u v a order level in let y = nodes_same others u v a order (level + 1) in
    let x2 = nodes_same others v w b order level in let y2 = nodes_same others v w b order (level + 1) in
    let s = used_same others v w b order in let l = b.limit in omega (arith, n, r, le, x, y, x2, y2, s, l)
