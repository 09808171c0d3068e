-- A store that a test hands over for a swap or a sift.
use Rattle.std.proofs.Common.{◌≡◌, ℕ, zero, suc, ◌+◌, ◌≤◌, ◌==◌, false, List, [], ◌∷◌, get_or, refl, ap, ◌∙◌, arith}
use Rattle.std.specs.List.{list_any}
use Rattle.function_laws.specs.declared.orders.Order.{Order}
use Rattle.function_laws.proofs.CoverLaws.{neither}
use Rattle.node_store.specs.Contents.{Content, used_slots}
use Rattle.node_store.specs.Changes.{After}
use Rattle.node_slots.specs.Stores.{Plain, is_held}
use Rattle.node_slots.specs.Wholes.{content_view}
use Rattle.level_swap.specs.Swaps.{needed}
use Rattle.level_swap.proofs.Steps.{nodes_same, used_same}
use Rattle.group_sift.specs.Sifts.{IsIdle}

none_set : (pins : List ℕ) → list_any (λ bits. bits == 1) pins ≡ false → (s : ℕ) → (get_or pins s 0 == 1) ≡ false
none_set [] none s = refl
none_set (x ∷ pins) none zero = (neither (x == 1) (list_any (λ bits. bits == 1) pins) none).0
none_set (x ∷ pins) none (suc s) = none_set pins (neither (x == 1) (list_any (λ bits. bits == 1) pins) none).1 s

-- what its holder finds
pub handed_idle : (p : Plain) (w : Content) → w ≡ content_view p → is_held p ≡ false → IsIdle w
handed_idle p w same idle = record {
  sweeping = ap (λ (c : Content). c.sweeping) same ∙ (neither p.sweeping (list_any (λ bits. bits == 1) p.pins) idle).0;
  half = ap (λ (c : Content). c.half) same;
  unpinned = λ s. ap (λ (c : Content). c.pinned s) same ∙ none_set p.pins (neither p.sweeping (list_any (λ bits. bits == 1) p.pins) idle).1 s;
}

-- the need that was told fits into the room that was told
pub still_room : (others : (ℕ → ℕ) → (ℕ → ℕ) → Type 0) (u v w : Content) (order : Order) (level need room : ℕ) → After others u v → After others v w
    → need ≡ needed u order level → room + used_slots v ≡ v.limit → need ≤ room → used_slots w + needed w order level ≤ w.limit
still_room others u v w order level need room a b n r le =
    let x = nodes_same others u v a order level in let y = nodes_same others u v a order (level + 1) in
    let x2 = nodes_same others v w b order level in let y2 = nodes_same others v w b order (level + 1) in
    let s = used_same others v w b order in let l = b.limit in omega (arith, n, r, le, x, y, x2, y2, s, l)
