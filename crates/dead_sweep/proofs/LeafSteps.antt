-- From one leaf to the next, and to the end.
use Rattle.std.proofs.Common.{◌≡◌, ℕ, ◌+◌, ◌<◌, ◌≤◌, inl, inr, Bool, true, length, Option, Some, None, ℤ, refl, sym, ap, ◌∙◌, subst, arith}
use Rattle.std.proofs.lemmas.Bool.{cases_lt}
use Rattle.edge_bits.specs.declared.words.Word.{Word}
use Rattle.edge_bits.specs.declared.words.Word.TheVariants.{Inner, Leaf}
use Rattle.function_laws.specs.Sizes.{order_of, in_order}
use Rattle.function_laws.specs.SiftedOrders.{place_of}
use Rattle.node_store.specs.Contents.{Content, IsSound, is_leaf}
use Rattle.node_store.specs.Changes.{After}
use Rattle.node_store.proofs.Standing.{stands}
use Rattle.node_store.proofs.SweptSize.{order_is}
use Rattle.node_store.proofs.Tops.{which_of, order_of-which}
use Rattle.dead_sweep.specs.Marks.{rank_of, IsDone, Marked}
use Rattle.dead_sweep.proofs.Ranks.{rank_is, rank_below}
use Rattle.dead_sweep.proofs.Advancing.{again}

pub leaf_test : (o : Option Word) → is_leaf o ≡ true → (x : ℤ) × (o ≡ Some (Leaf x))
leaf_test None h = cc
leaf_test (Some (Leaf x)) h = (x, refl)
leaf_test (Some (Inner node)) h = cc

-- what has the last rank is a leaf
pub rank_leaf : (w : Content) → IsSound w → w.half ≡ None → (s : ℕ) (word : Word) → w.word s ≡ Some word → length w.orders.variables + length w.orders.elements ≤ rank_of w.orders word → is_leaf (Some word) ≡ true
rank_leaf w sound settled s (Leaf x) h e = refl
rank_leaf w sound settled s (Inner node) h e =
    let d = sound.denotes s (Inner node, h) in
    let st = stands w sound settled s node d.0 h d.1 in
    let place = (order_is w sound settled d.0).stands st.var st.within in
    let inside : place_of st.var (order_of w.orders d.0) < length (in_order w.orders (which_of d.0)) = subst (λ x. place_of st.var (order_of w.orders d.0) < length x) (sym (order_of-which w.orders d.0)) place in
    let r = rank_below w sound settled (which_of d.0) (place_of st.var (order_of w.orders d.0)) inside in
    let i = rank_is w sound settled node d.0 st in
    absurd (omega (arith, r, i, e))

module _ (others : (ℕ → ℕ) → (ℕ → ℕ) → Type 0)
    (both : (a b c : ℕ → ℕ) → others a b → others b c → others a c)
    (zero_stays : (a b : ℕ → ℕ) → others a b → (s : ℕ) → a s ≡ 0 → b s ≡ 0)
    (start v x : Content) (is_root : ℕ → Bool) (from : ℕ) (sound : IsSound start) (settled : start.half ≡ None)
    (a : After others v x) (m : Marked others start v is_root (length start.orders.variables + length start.orders.elements) from) where
  abbrev last : ℕ
  last = length start.orders.variables + length start.orders.elements

  at_leaf : (s : ℕ) (word : Word) → start.word s ≡ Some word → rank_of start.orders word ≡ last → is_leaf (v.word s) ≡ true
  at_leaf s word h e = ap is_leaf (ap (λ (f : ℕ → Option Word). f s) m.same.word ∙ h) ∙ rank_leaf start sound settled s word h (omega (arith, e))

  pub leaf_next : (slot : ℕ) → from ≤ slot → ((t : ℕ) → from ≤ t → t < slot → is_leaf (v.word t) ≡ true → ⊥) → Marked others start x is_root last slot
  leaf_next slot le none =
      again others both zero_stays start v x is_root last from last slot a m
      (λ s word h d. elim d [
        | inl lt ↦ inl lt
        | inr (e, lt) ↦ elim (cases_lt s from) [ inl early ↦ inr (e, early) | inr late ↦ absurd (none s late lt (at_leaf s word h e)) ]
      ])
      (λ s word h d. elim d [ inl lt ↦ inl lt | inr (e, lt) ↦ inr (e, omega (arith, lt, le)) ])

  pub leaf_end : ((t : ℕ) → from ≤ t → is_leaf (v.word t) ≡ true → ⊥) → Marked others start x is_root (last + 1) 0
  leaf_end none =
      again others both zero_stays start v x is_root last from (last + 1) 0 a m
      (λ s word h d. elim d [
        | inr (e, lt) ↦ absurd (omega (arith, lt))
        | inl lt ↦ elim (cases_lt (rank_of start.orders word) last) [
          | inl less ↦ inl less
          | inr le ↦ (
              let e : rank_of start.orders word ≡ last = omega (arith, lt, le) in
              elim (cases_lt s from) [ inl early ↦ inr (e, early) | inr late ↦ absurd (none s late (at_leaf s word h e)) ])
        ]
      ])
      (λ s word h d. elim d [ inl lt ↦ inl (omega (arith, lt)) | inr (e, lt) ↦ inl (omega (arith, e)) ])

-- all is done
pub all_done : (w : Content) → IsSound w → w.half ≡ None → (s : ℕ) (word : Word) → w.word s ≡ Some word → IsDone w.orders (length w.orders.variables + length w.orders.elements + 1) 0 s word
all_done w sound settled s (Leaf x) h = inl (omega arith)
all_done w sound settled s (Inner node) h =
    let d = sound.denotes s (Inner node, h) in
    let st = stands w sound settled s node d.0 h d.1 in
    let place = (order_is w sound settled d.0).stands st.var st.within in
    let inside : place_of st.var (order_of w.orders d.0) < length (in_order w.orders (which_of d.0)) = subst (λ x. place_of st.var (order_of w.orders d.0) < length x) (sym (order_of-which w.orders d.0)) place in
    let r = rank_below w sound settled (which_of d.0) (place_of st.var (order_of w.orders d.0)) inside in
    let i = rank_is w sound settled node d.0 st in
    inl (omega (arith, r, i))
