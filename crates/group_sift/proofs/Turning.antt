-- Both directions of a trip, and its end.
use Rattle.std.proofs.Common.{◌≡◌, ℕ, suc, ◌+◌, ◌*◌, ◌-◌, ◌<◌, ◌≤◌, inl, inr, true, false, cond, List, [], ◌∷◌, ◌++◌, length, refl, sym, ap, ◌∙◌, subst, arith}
use Rattle.std.specs.Prelude.{nat_lt}
use Rattle.std.proofs.lemmas.Bool.Decides.{nat_tests}
use Rattle.function_laws.specs.declared.orders.Order.{Order}
use Rattle.function_laws.specs.Sizes.{in_order}
use Rattle.function_laws.specs.SiftedOrders.{Line, Met, Turn, met_at, reach, least_of, first_least, distance, turn, moved, line_of}
use Rattle.node_store.specs.Contents.{Content}
use Rattle.group_sift.specs.declared.trips.Stand.{Stand as StandOf}
use Rattle.group_sift.specs.declared.trips.Way.{Way}
use Rattle.group_sift.specs.declared.trips.Way.TheVariants.{Down, Up}
use Rattle.group_sift.specs.Trips.{Stand, EndsAs}
use Rattle.group_sift.specs.Settled.{Trip, IsAt, IsWayOpen, trip_line, measure_at}
use Rattle.group_sift.specs.Ways.{neighbour_of, HasSteps, lo_of, hi_of, IsAhead, stand_of, other_way, places_ahead, turn_of, home_stand, IsScanned, IsBestOf, HasPath, IsTurned}
use Rattle.group_sift.proofs.Moving.{IsOpen-joined}

first_least-append : (best : Met) (xs ys : List Met) → first_least best (xs ++ ys) ≡ first_least (first_least best xs) ys
first_least-append best [] ys = refl
first_least-append best (x ∷ xs) ys = first_least-append (cond (nat_lt x.size best.size) x best) xs ys

lt_true : (a b : ℕ) → a < b → nat_lt a b ≡ true
lt_true a b h = grind (arith, nat_tests)

le_false : (a b : ℕ) → b ≤ a → nat_lt a b ≡ false
le_false a b h = grind (arith, nat_tests)

abbrev at_home : ℕ → Stand → Stand
at_home p one = record { place = p; least = one.least; best = one.best; count = 0 }

pub turned : (line : Line) (way : Way) (lo hi p : ℕ) (one two : Stand) → EndsAs line (neighbour_of way) (places_ahead way lo hi p) (home_stand line p) one
    → EndsAs line (neighbour_of (other_way way)) (places_ahead (other_way way) lo hi p) (at_home p one) two → IsAhead (other_way way) p two.count two.place
    → (two.best.place ≡ (turn_of way line lo hi p).place) × (2 * one.count + two.count + distance two.place two.best.place ≡ (turn_of way line lo hi p).swaps)
turned line Down lo hi p one two a b ahead =
    let here = met_at line p in
    let down = reach line suc (hi - p) p here.size in
    let up = reach line (λ q. q - 1) (p - lo) p (least_of here.size down) in
    let same : reach line (λ q. q - 1) (p - lo) p one.least ≡ up = ap (reach line (λ q. q - 1) (p - lo) p) a.least in
    let best : two.best ≡ first_least here (down ++ up) =
    b.best ∙ ap (first_least one.best) same ∙ ap (λ m. first_least m up) a.best ∙ sym (first_least-append here down up) in
    let place = ap (λ (m : Met). m.place) best in
    let n : one.count ≡ length down = omega (arith, a.count) in
    let k : two.count ≡ length up = omega (arith, b.count, ap length same) in
    let q : two.place ≡ p - length up = omega (arith, k, ahead) in (
      place,
      ap (λ z. 2 * z + two.count + distance two.place two.best.place) n ∙ ap (λ z. 2 * length down + z + distance two.place two.best.place) k
          ∙ ap (λ z. 2 * length down + length up + distance z two.best.place) q ∙ ap (λ z. 2 * length down + length up + distance (p - length up) z) place,
    )
turned line Up lo hi p one two a b ahead =
    let here = met_at line p in
    let up = reach line (λ q. q - 1) (p - lo) p here.size in
    let down = reach line suc (hi - p) p (least_of here.size up) in
    let same : reach line suc (hi - p) p one.least ≡ down = ap (reach line suc (hi - p) p) a.least in
    let best : two.best ≡ first_least here (up ++ down) =
    b.best ∙ ap (first_least one.best) same ∙ ap (λ m. first_least m down) a.best ∙ sym (first_least-append here up down) in
    let place = ap (λ (m : Met). m.place) best in
    let n : one.count ≡ length up = omega (arith, a.count) in
    let k : two.count ≡ length down = omega (arith, b.count, ap length same) in
    let q : two.place ≡ p + length down = omega (arith, k, ahead) in (
      place,
      ap (λ z. 2 * z + two.count + distance two.place two.best.place) n ∙ ap (λ z. 2 * length up + z + distance two.place two.best.place) k
          ∙ ap (λ z. 2 * length up + length down + distance z two.best.place) q ∙ ap (λ z. 2 * length up + length down + distance (p + length down) z) place,
    )

pub has_steps : (way : Way) (lo hi p long : ℕ) → lo ≤ p → p ≤ hi → hi < long → HasSteps way (places_ahead way lo hi p) p long
has_steps Down lo hi p long a b c = omega (arith, a, b, c)
has_steps Up lo hi p long a b c = (omega (arith, a), omega (arith, b, c))

module _ (others : (ℕ → ℕ) → (ℕ → ℕ) → Type 0) (which : Order) (t : Trip) where
  -- back to where the direction began
  pub path_back : (way : Way) (from end : StandOf) (steps : ℕ) (w : Content) → IsScanned others which t way from steps end w → from.place < length t.list → HasPath which t end.place from.place
  path_back Down from end steps w h lt = let a = h.ahead in record { lo = from.place; hi = end.place; free = h.free; from_lo = omega (arith, a); from_hi = omega arith; to_lo = omega arith; to_hi = omega (arith, a); within = lt }
  path_back Up from end steps w h lt = let a = h.ahead in record { lo = end.place; hi = from.place; free = h.free; from_lo = omega arith; from_hi = omega (arith, a); to_lo = omega (arith, a); to_hi = omega arith; within = lt }

  best_in : (way : Way) (from end : StandOf) (steps : ℕ) (w : Content) → IsScanned others which t way from steps end w → from.best ≡ from.place → (lo_of way from.place end.place ≤ end.best) × (end.best ≤ hi_of way from.place end.place)
  best_in way from end steps w h home = at way h.ahead h.best
    where
      at : (way : Way) → IsAhead way from.place end.count end.place → IsBestOf way from end → (lo_of way from.place end.place ≤ end.best) × (end.best ≤ hi_of way from.place end.place)
      at Down a (inl e) = (omega (arith, a, e, home), omega (arith, a, e, home))
      at Up a (inl e) = (omega (arith, a, e, home), omega (arith, a, e, home))
      at Down a (inr r) = r
      at Up a (inr r) = r

  -- from the end of the second direction to the best place
  pub path_best : (way : Way) (here one back two : StandOf) (steps more : ℕ) (v w : Content) → IsScanned others which t way here steps one v → here.best ≡ here.place
      → back.place ≡ here.place → back.best ≡ one.best → IsScanned others which t (other_way way) back more two w → here.place < length t.list → one.place < length t.list → two.place < length t.list → HasPath which t two.place two.best
  path_best Down here one back two steps more v w h home same best k in_here in_one in_two =
      let a = h.ahead in
      let b = k.ahead in
      let r = best_in Down here one steps v h home in
      let r0 = r.0 in
      let r1 = r.1 in
      let second : IsWayOpen which t two.place here.place = subst (IsWayOpen which t two.place) same k.free in
      let range : (two.place ≤ two.best) × (two.best ≤ one.place) = elim k.best [
        | inl e ↦ (omega (arith, b, e, best, r0, same), omega (arith, e, best, r1))
        | inr s ↦ (s.0, (let s1 = s.1 in omega (arith, s1, same, a)))
      ] in
      let up = range.1 in
      record {
        lo = two.place;
        hi = one.place;
        free = IsOpen-joined (measure_at which t.start) t.start.limit t.list t.home two.place here.place one.place second h.free;
        from_lo = omega arith;
        from_hi = omega (arith, a, b, same);
        to_lo = range.0;
        to_hi = range.1;
        within = omega (arith, up, in_one);
      }
  path_best Up here one back two steps more v w h home same best k in_here in_one in_two =
      let a = h.ahead in
      let b = k.ahead in
      let r = best_in Up here one steps v h home in
      let r0 = r.0 in
      let r1 = r.1 in
      let second : IsWayOpen which t here.place two.place = subst (λ p. IsWayOpen which t p two.place) same k.free in
      let range : (one.place ≤ two.best) × (two.best ≤ two.place) = elim k.best [
        | inl e ↦ (omega (arith, e, best, r0), omega (arith, b, e, best, r1, same))
        | inr s ↦ ((let s0 = s.0 in omega (arith, s0, same, a)), s.1)
      ] in
      let up = range.1 in
      record {
        lo = one.place;
        hi = two.place;
        free = IsOpen-joined (measure_at which t.start) t.start.limit t.list t.home one.place here.place two.place h.free second;
        from_lo = omega (arith, a, b, same);
        from_hi = omega arith;
        to_lo = range.0;
        to_hi = range.1;
        within = omega (arith, up, in_two);
      }

pub nearer_down : (line : Line) (lo hi p : ℕ) → hi - p < p - lo → turn_of Down line lo hi p ≡ turn line lo hi p
nearer_down line lo hi p lt = sym (ap (λ b. cond b (turn_of Down line lo hi p) (turn_of Up line lo hi p)) (lt_true (hi - p) (p - lo) lt))

pub nearer_up : (line : Line) (lo hi p : ℕ) → p - lo ≤ hi - p → turn_of Up line lo hi p ≡ turn line lo hi p
nearer_up line lo hi p le = sym (ap (λ b. cond b (turn_of Down line lo hi p) (turn_of Up line lo hi p)) (le_false (hi - p) (p - lo) le))

pub steps_few : (way : Way) (lo hi p : ℕ) → lo ≤ p → p ≤ hi → places_ahead way lo hi p ≤ hi
steps_few Down lo hi p a b = omega arith
steps_few Up lo hi p a b = omega (arith, a, b)

module _ (others : (ℕ → ℕ) → (ℕ → ℕ) → Type 0) (which : Order) (t : Trip) where
  pub travelled : (way back_way : Way) (lo hi : ℕ) (here one back two : StandOf) (steps more swaps apart : ℕ) (v w x : Content) → stand_of here ≡ home_stand (trip_line which t) t.home
      → back_way ≡ other_way way → steps ≡ places_ahead way lo hi here.place → more ≡ places_ahead back_way lo hi here.place → IsScanned others which t way here steps one v
      → stand_of back ≡ at_home here.place (stand_of one) → IsScanned others which t back_way back more two w → apart ≡ distance two.place two.best → swaps ≡ 2 * one.count + two.count + apart
      → IsAt others which t two.best x → IsTurned others which t (turn_of way (trip_line which t) lo hi t.home) swaps x
  travelled way back_way lo hi here one back two steps more swaps apart v w x home other e_steps e_more h same k e_apart e_swaps arrives =
      let line = trip_line which t in
      let place : here.place ≡ t.home = ap (λ (s : Stand). s.place) home in
      let h1 = subst (λ s. EndsAs line (neighbour_of way) (places_ahead way lo hi here.place) s (stand_of one)) (home ∙ ap (home_stand line) (sym place)) (subst (λ n. EndsAs line (neighbour_of way) n (stand_of here) (stand_of one)) e_steps h.leads) in
      let k0 = subst (λ n. EndsAs line (neighbour_of back_way) n (stand_of back) (stand_of two)) e_more k.leads in
      let k1 = subst (λ s. EndsAs line (neighbour_of back_way) (places_ahead back_way lo hi here.place) s (stand_of two)) same k0 in
      let k2 = subst (λ o. EndsAs line (neighbour_of o) (places_ahead o lo hi here.place) (at_home here.place (stand_of one)) (stand_of two)) other k1 in
      let a = subst (λ p. IsAhead back_way p two.count two.place) (ap (λ (s : Stand). s.place) same) k.ahead in
      let b = subst (λ o. IsAhead o here.place two.count two.place) other a in
      let r = turned line way lo hi here.place (stand_of one) (stand_of two) h1 k2 b in
      subst (λ p. IsTurned others which t (turn_of way line lo hi p) swaps x) place
      (record { arrives = subst (λ q. IsAt others which t q x) r.0 arrives; swaps_are = e_swaps ∙ ap (λ z. 2 * one.count + two.count + z) e_apart ∙ r.1 })

pub sifted_one : (others : (ℕ → ℕ) → (ℕ → ℕ) → Type 0) (which : Order) (start : Content) (list now : List ℕ) (way : Way) (lo hi p swaps : ℕ) (w : Content)
    → ((line : Line) → turn_of way line lo hi p ≡ turn line lo hi p) → now ≡ list
    → IsTurned others which (record { start = start; list = now; home = p }) (turn_of way (line_of (measure_at which start) start.limit now p) lo hi p) swaps w
    → (in_order w.orders which ≡ moved list p (turn (line_of (measure_at which start) start.limit list p) lo hi p).place) × (swaps ≡ (turn (line_of (measure_at which start) start.limit list p) lo hi p).swaps)
sifted_one others which start list now way lo hi p swaps w nearer same h =
    let m = measure_at which start in
    let e = nearer (line_of m start.limit now p) in (
      h.arrives.placed ∙ ap (λ (u : Turn). moved now p u.place) e ∙ ap (λ l. moved l p (turn (line_of m start.limit l p) lo hi p).place) same,
      h.swaps_are ∙ ap (λ (u : Turn). u.swaps) e ∙ ap (λ l. (turn (line_of m start.limit l p) lo hi p).swaps) same,
    )
