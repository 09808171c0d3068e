-- A swap after a call that changed nothing but counts.
use Rattle.std.proofs.Common.{◌≡◌, ℕ, ◌+◌, ◌^◌, ◌<◌, ◌≤◌, Bool, length, Option, Some, sym, ap, ◌∙◌, subst, arith}
use Rattle.std.specs.List.{filter, range_with_len}
use Rattle.edge_bits.specs.declared.words.Word.{Word}
use Rattle.function_laws.specs.declared.orders.Order.{Order}
use Rattle.function_laws.specs.Sizes.{in_order}
use Rattle.function_laws.specs.Kinds.{Denoted}
use Rattle.node_store.specs.Contents.{Content, var_at, nodes_of, used_slots, is_node_of, is_used}
use Rattle.node_store.specs.Changes.{After, exchanged}
use Rattle.level_swap.specs.Swaps.{needed, HasRoomBack, IsSwapped, IsNamedBefore}
use Rattle.level_swap.proofs.Roots.{roots_kept}
use Rattle.level_swap.proofs.RoomForward.{nodes_few, room_forward}

counted_same : (test : Option Word → Bool) (f g : ℕ → Option Word) (m n : ℕ) → f ≡ g → m ≡ n → length (filter (λ s. test (f s)) (range_with_len 0 m)) ≡ length (filter (λ s. test (g s)) (range_with_len 0 n))
counted_same test f g m n e h = ap (λ (x : ℕ → Option Word). length (filter (λ s. test (x s)) (range_with_len 0 m))) e ∙ ap (λ k. length (filter (λ s. test (g s)) (range_with_len 0 k))) h

module _ (others : (ℕ → ℕ) → (ℕ → ℕ) → Type 0) (v0 v1 : Content) (a : After others v0 v1) (order : Order) where
  var_same : (level : ℕ) → var_at v1 order level ≡ var_at v0 order level
  var_same level = ap (λ o. var_at (record v0 { orders = o }) order level) a.orders

  pub nodes_same : (level : ℕ) → nodes_of v1 (var_at v1 order level) ≡ nodes_of v0 (var_at v0 order level)
  nodes_same level = counted_same (is_node_of (var_at v1 order level)) v1.word v0.word v1.limit v0.limit a.word a.limit ∙ ap (nodes_of v0) (var_same level)

  pub used_same : used_slots v1 ≡ used_slots v0
  used_same = counted_same is_used v1.word v0.word v1.limit v0.limit a.word a.limit

  pub within_same : (level : ℕ) → level + 1 < length (in_order v0.orders order) → level + 1 < length (in_order v1.orders order)
  within_same level = subst (λ o. level + 1 < length (in_order o order)) (sym a.orders)

  pub few_nodes : (level : ℕ) → nodes_of v1 (var_at v1 order level) < 2 ^ 23
  few_nodes level = let n = nodes_few v1 (var_at v1 order level) in let f = a.sound.few_slots in omega (arith, n, f)

  pub room_there : (level : ℕ) → level + 1 < length (in_order v0.orders order) → used_slots v0 + needed v0 order level ≤ v0.limit → HasRoomBack v1 order level
  room_there level within room =
      room_forward v1 a.sound order level (within_same level within)
      (let u = used_same in let x = nodes_same level in let y = nodes_same (level + 1) in let l = a.limit in omega (arith, u, x, y, l, room))

  pub swapped_then : (both : (x y z : ℕ → ℕ) → others x y → others y z → others x z) (level : ℕ) (v2 : Content) → IsSwapped others order level v1 v2 → IsSwapped others order level v0 v2
  swapped_then both level v2 s = record {
    orders = s.orders ∙ ap (λ o. exchanged o order level) a.orders;
    limit = s.limit ∙ a.limit;
    function = λ t f h. s.function t f (ap (λ (x : ℕ → Option Denoted). x t) a.function ∙ h);
    word = λ t word h no. s.word t word (ap (λ (x : ℕ → Option Word). x t) a.word ∙ h) (ap (λ v. is_node_of v (Some word)) (var_same level) ∙ no);
    stored = λ t none u. was_named t (s.stored t (ap (λ (x : ℕ → Option Word). x t) a.word ∙ none) u);
    generation = s.generation ∙ a.generation;
    once = s.once;
    roots = roots_kept v0 v2 (s.limit ∙ a.limit) (λ t f h. s.function t f (ap (λ (x : ℕ → Option Denoted). x t) a.function ∙ h));
    few = (let f = s.few in let u = used_same in let x = nodes_same level in omega (arith, f, u, x));
    marked = s.marked ∙ a.marked;
    pinned = s.pinned ∙ a.pinned;
    sweeping = s.sweeping ∙ a.sweeping;
    half = s.half;
    counts = both v0.count v1.count v2.count a.counts s.counts;
    sound = s.sound;
  }
    where
      was_named : (t : ℕ) → IsNamedBefore v1 v2 (var_at v1 order level) v1.limit t → IsNamedBefore v0 v2 (var_at v0 order level) v0.limit t
      was_named t (r, node, lt, word, names, was) = (
        r,
        node,
        (let l = a.limit in omega (arith, lt, l)),
        word,
        names,
        sym (ap (λ q. is_node_of q (v0.word r)) (var_same level)) ∙ sym (ap (λ (h : ℕ → Option Word). is_node_of (var_at v1 order level) (h r)) a.word) ∙ was,
      )
