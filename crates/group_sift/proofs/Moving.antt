-- Moves over one place.
use Rattle.std.proofs.Common.{◌≡◌, ℕ, suc, ◌+◌, ◌*◌, ◌<◌, ◌≤◌, nat_le, inl, inr, List, length, sym, ap, ◌∙◌, subst, arith}
use Rattle.std.specs.Prelude.{slice_index}
use Rattle.std.specs.List.{swap}
use Rattle.std.proofs.lemmas.Bool.Decides.{nat_tests}
use Rattle.std.proofs.lemmas.Bool.{cases_lt}
use Rattle.function_laws.specs.declared.orders.Order.{Order}
use Rattle.function_laws.specs.Sizes.{in_order}
use Rattle.function_laws.specs.SiftedOrders.{Measure}
use Rattle.function_laws.proofs.MovedOrders.{moved_down, moved_up}
use Rattle.node_store.specs.Contents.{Content}
use Rattle.group_sift.specs.Trips.{HasReserve, HasReturn, CanSwap, IsOpenFor}
use Rattle.group_sift.specs.Settled.{Trip, measure_at, IsSettled, IsAt, IsWayOpen}
use Rattle.group_sift.proofs.Splitting.{split}

pub same_test : (need room used all limit : ℕ) → room + used ≡ limit → all ≡ used + need → nat_le need room ≡ nat_le all limit
same_test need room used all limit e f = grind (arith, nat_tests)

module _ (others : (ℕ → ℕ) → (ℕ → ℕ) → Type 0) (which : Order) (t : Trip) where
  pub place_long : (q : ℕ) (w : Content) → IsAt others which t q w → (k : ℕ) → k < length t.list → k < length (in_order w.orders which)
  place_long q w h k lt = let a = h.as_long in let b = h.settled.held.long in omega (arith, a, b, lt)

  pub at_down : (q : ℕ) (v x : Content) → IsAt others which t q v → q + 1 < length t.list → IsSettled others which t.start x → in_order x.orders which ≡ swap (in_order v.orders which) q (q + 1) → IsAt others which t (q + 1) x
  at_down q v x h lt s e = record {
    settled = s;
    placed = e ∙ ap (λ l. swap l q (q + 1)) h.placed ∙ moved_down t.list t.home q h.here lt;
    as_long = h.as_long;
    here = h.here;
    there = lt;
  }

  pub at_up : (q : ℕ) (v x : Content) → IsAt others which t (q + 1) v → IsSettled others which t.start x → in_order x.orders which ≡ swap (in_order v.orders which) q (q + 1) → IsAt others which t q x
  at_up q v x h s e = record {
    settled = s;
    placed = e ∙ ap (λ l. swap l q (q + 1)) h.placed ∙ moved_up t.list t.home q h.here h.there;
    as_long = h.as_long;
    here = h.here;
    there = (let lt = h.there in omega (arith, lt));
  }

  pub free_down : (q : ℕ) (v : Content) → IsAt others which t q v → (lo hi : ℕ) → IsWayOpen which t lo hi → lo ≤ q → q < hi → CanSwap (measure_at which t.start) t.start.limit (in_order v.orders which) q
  free_down q v h lo hi free le lt = subst (λ l. CanSwap (measure_at which t.start) t.start.limit l q) (sym h.placed) (free q le lt).0

  pub free_up : (q : ℕ) (v : Content) → IsAt others which t (q + 1) v → (lo hi : ℕ) → IsWayOpen which t lo hi → lo ≤ q → q < hi → CanSwap (measure_at which t.start) t.start.limit (in_order v.orders which) q
  free_up q v h lo hi free le lt = subst (λ l. CanSwap (measure_at which t.start) t.start.limit l q) (sym h.placed) (free q le lt).1

-- After a move for which there was room, there is room for the move back.
pub returns_by : (m : Measure) (limit : ℕ) (l k : List ℕ) (q : ℕ) → q + 1 < length l → HasReserve m limit l q → k ≡ swap l q (q + 1) → swap k q (q + 1) ≡ l
    → m.size_of k ≤ m.size_of l + 2 * m.width_of l (slice_index l q) → HasReturn m limit k q
returns_by m limit l k q lt room there back few =
    let sp = split l q (omega (arith, lt)) in
    let next : q + 1 ≡ suc q = omega arith in
    let upper : slice_index k q ≡ slice_index l (q + 1) = ap (λ x. slice_index x q) (there ∙ ap (swap l q) next) ∙ sp.first ∙ sym sp.lower ∙ ap (slice_index l) (sym next) in
    let wide : m.width_of (swap k q (q + 1)) (slice_index k q) ≡ m.width_of l (slice_index l (q + 1)) = ap (λ x. m.width_of x (slice_index k q)) back ∙ ap (m.width_of l) upper in
    omega (arith, room, few, wide)

pub IsOpen-none : (m : Measure) (limit : ℕ) (list : List ℕ) (home p : ℕ) → IsOpenFor m limit list home p p
IsOpen-none m limit list home p q le lt = absurd (omega (arith, le, lt))

pub IsOpen-joined : (m : Measure) (limit : ℕ) (list : List ℕ) (home a b c : ℕ) → IsOpenFor m limit list home a b → IsOpenFor m limit list home b c → IsOpenFor m limit list home a c
IsOpen-joined m limit list home a b c f g q le lt = elim (cases_lt q b) [ inl less ↦ f q le less | inr more ↦ g q more lt ]

pub IsOpen-within : (m : Measure) (limit : ℕ) (list : List ℕ) (home a b c d : ℕ) → IsOpenFor m limit list home a b → a ≤ c → d ≤ b → IsOpenFor m limit list home c d
IsOpen-within m limit list home a b c d f ac db q le lt = f q (omega (arith, le, ac)) (omega (arith, lt, db))
