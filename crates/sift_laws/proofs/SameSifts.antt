-- Two measures that agree on all orders of the same variables sift alike.
use Rattle.std.proofs.Common.{◌≡◌, ℕ, ◌+◌, ◌*◌, ◌<◌, inl, inr, List, [], ◌∷◌, length, refl, sym, ap, ◌∙◌}
use Rattle.std.specs.Prelude.{min, nat_le, slice_index}
use Rattle.function_laws.specs.SiftedOrders.{Block, Line, Measure, Reached, bounds_from, default_ones, in_falling_width, line_of, moved, place_of, sift_by, sift_each, sift_one, turn}
use Rattle.function_laws.proofs.DistinctLemmas.{In}
use Rattle.function_laws.proofs.ValueLemmas.{everywhere}
use Rattle.sift_laws.proofs.Rearranged.{Rearranged, as_it_is, default_stand, moved_rearranged, place_below, rearranged_again, widest_stand}

-- a line by its sizes and widths
abbrev line_by : ℕ → List ℕ → ℕ → (ℕ → ℕ) → (ℕ → ℕ → ℕ) → Line
line_by limit order p sizes widths = record {
  size_at = sizes;
  has_room = λ from to. nat_le (sizes from + (2 * widths from (slice_index (moved order p from) (min from to)) + widths from (slice_index (moved order p from) (min from to + 1)))) limit;
}

line_is : (m : Measure) (limit : ℕ) (order : List ℕ) (p : ℕ) → line_of m limit order p ≡ line_by limit order p (λ q. m.size_of (moved order p q)) (λ q. m.width_of (moved order p q))
line_is m limit order p = refl

module _ (m k : Measure) (start : List ℕ) (sizes : (order : List ℕ) → Rearranged start order → m.size_of order ≡ k.size_of order)
    (widths : (order : List ℕ) → Rearranged start order → m.width_of order ≡ k.width_of order) (limit : ℕ) (blocks : List Block) where
  same_line : (order : List ℕ) (p : ℕ) → Rearranged start order → p < length order → line_of m limit order p ≡ line_of k limit order p
  same_line order p h lt =
      let again : (q : ℕ) → Rearranged start (moved order p q) = λ q. rearranged_again start order (moved order p q) h (moved_rearranged order p q lt) in
      line_is m limit order p
      ∙ ap (λ (s : ℕ → ℕ). line_by limit order p s (λ q. m.width_of (moved order p q)))
      (everywhere (λ q. m.size_of (moved order p q)) (λ q. k.size_of (moved order p q)) (λ q. sizes (moved order p q) (again q)))
      ∙ ap (line_by limit order p (λ q. k.size_of (moved order p q)))
      (everywhere (λ q. m.width_of (moved order p q)) (λ q. k.width_of (moved order p q)) (λ q. widths (moved order p q) (again q)))
      ∙ sym (line_is k limit order p)

  one_alike : (v : ℕ) (r : Reached) → Rearranged start r.order → In v start → sift_one m limit blocks v r ≡ sift_one k limit blocks v r
  one_alike v r h stands =
      let p = place_of v r.order in
      let b = bounds_from 0 blocks p in
      ap (λ (line : Line). let reached : Reached = record { order = moved r.order p (turn line b.lo b.hi p).place; swaps = r.swaps + (turn line b.lo b.hi p).swaps } in reached)
      (same_line r.order p h (place_below v r.order (h.there v stands)))

  one_rearranged : (v : ℕ) (r : Reached) → Rearranged start r.order → In v start → Rearranged start (sift_one m limit blocks v r).order
  one_rearranged v r h stands =
      let p = place_of v r.order in
      let b = bounds_from 0 blocks p in
      let q = (turn (line_of m limit r.order p) b.lo b.hi p).place in
      rearranged_again start r.order (moved r.order p q) h (moved_rearranged r.order p q (place_below v r.order (h.there v stands)))

  each_alike : (vs : List ℕ) (r : Reached) → Rearranged start r.order → ((v : ℕ) → In v vs → In v start)
      → (sift_each m limit blocks vs r ≡ sift_each k limit blocks vs r) × Rearranged start (sift_each m limit blocks vs r).order
  each_alike [] r h stand = (refl, h)
  each_alike (v ∷ vs) r h stand =
      let rest = each_alike vs (sift_one m limit blocks v r) (one_rearranged v r h (stand v (inl refl))) (λ u i. stand u (inr i)) in
      (rest.0 ∙ ap (sift_each k limit blocks vs) (one_alike v r h (stand v (inl refl))), rest.1)

  -- the order that is reached, and its swaps; and it has the same variables
  pub sifted_alike : (sift_by m limit blocks start ≡ sift_by k limit blocks start) × Rearranged start (sift_by m limit blocks start).order
  sifted_alike =
      let first : Reached = record { order = start; swaps = 0 } in
      let vs = in_falling_width (m.width_of start) (default_ones 0 blocks start) in
      let each = each_alike vs first (as_it_is start)
      (λ v i. default_stand v 0 blocks start (widest_stand (m.width_of start) v (default_ones 0 blocks start) i))
      in (each.0 ∙ ap (λ (w : ℕ → ℕ). sift_each k limit blocks (in_falling_width w (default_ones 0 blocks start)) first) (widths start (as_it_is start)), each.1)
