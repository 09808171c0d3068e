-- The steps of a loop in one direction.
use Rattle.std.proofs.Common.{◌≡◌, ℕ, suc, ◌+◌, ◌*◌, ◌-◌, ◌<◌, ◌≤◌, nat_le, min, ◌⊎◌, inl, inr, Bool, true, false, cond, List, length, refl, sym, ap, ◌∙◌, subst, arith}
use Rattle.std.specs.Prelude.{slice_index, nat_lt}
use Rattle.std.specs.List.{swap}
use Rattle.std.proofs.lemmas.Bool.Decides.{nat_tests}
use Rattle.std.proofs.lemmas.Bool.{cases_lt}
use Rattle.function_laws.specs.declared.orders.Order.{Order}
use Rattle.function_laws.specs.declared.orders.Order.TheVariants.{Variables, Elements}
use Rattle.function_laws.specs.Sizes.{in_order}
use Rattle.function_laws.specs.SiftedOrders.{Measure, Met, moved, is_too_large}
use Rattle.function_laws.proofs.MovedOrders.{moved_down, moved_up}
use Rattle.node_store.specs.Contents.{Content, IsSound}
use Rattle.group_sift.specs.declared.trips.Stand.{Stand as StandOf}
use Rattle.group_sift.specs.declared.trips.Way.{Way}
use Rattle.group_sift.specs.declared.trips.Way.TheVariants.{Down, Up}
use Rattle.group_sift.specs.Trips.{Stand, stand_at, EndsAs, asked, HasReserve, CanSwap}
use Rattle.group_sift.specs.Settled.{Trip, measure_at, trip_line, IsSettled, IsAt, IsWayOpen}
use Rattle.group_sift.specs.Ways.{neighbour_of, upper_place, HasNext, HasSteps, lo_of, hi_of, IsAhead, stand_of, IsStopped, IsMoved, IsBestOf, IsScanning, IsScanned}
use Rattle.group_sift.proofs.Leading.{ends, stops, grows, goes_on}
use Rattle.group_sift.proofs.Moving.{place_long, at_down, at_up, returns_by, IsOpen-none}

true_le : (a b : ℕ) → nat_le a b ≡ true → a ≤ b
true_le a b e = grind (arith, nat_tests)

module _ (others : (ℕ → ℕ) → (ℕ → ℕ) → Type 0) (which : Order) (t : Trip) where
  abbrev m : Measure
  m = measure_at which t.start

  abbrev at_place : ℕ → List ℕ
  at_place q = moved t.list t.home q

  pub room_is : (way : Way) (q : ℕ) → HasNext way q (length t.list) → (trip_line which t).has_room q (neighbour_of way q) ≡ nat_le (asked m (at_place q) (upper_place way q)) t.start.limit
  room_is Down q h = let e : min q (suc q) ≡ q = omega arith in ap (λ k. nat_le (asked m (at_place q) k) t.start.limit) e
  room_is Up q h = let e : min q (q - 1) ≡ q - 1 = omega arith in ap (λ k. nat_le (asked m (at_place q) k) t.start.limit) e

  pub level_within : (way : Way) (q long : ℕ) → HasNext way q long → upper_place way q + 1 < long
  level_within Down q long h = h
  level_within Up q long h = let a = h.0 in let b = h.1 in omega (arith, a, b)

  pub few_next : (way : Way) (q long most : ℕ) → long ≤ most → HasNext way q long → HasNext way q most
  few_next Down q long most le h = omega (arith, le, h)
  few_next Up q long most le h = (h.0, (let b = h.1 in omega (arith, le, b)))

  pub at_again : (q : ℕ) (v x : Content) → IsAt others which t q v → IsSettled others which t.start x → in_order x.orders which ≡ in_order v.orders which → IsAt others which t q x
  at_again q v x h s e = record { settled = s; placed = e ∙ h.placed; as_long = h.as_long; here = h.here; there = h.there }

  pub stopped : (way : Way) (now : StandOf) (v x : Content) (b : Bool) → IsAt others which t now.place v → HasNext way now.place (length t.list) → IsSettled others which t.start x → in_order x.orders which ≡ in_order v.orders which
      → b ≡ nat_le (asked m (in_order v.orders which) (upper_place way now.place)) t.start.limit → b ≡ false → IsStopped others which t way now x
  stopped way now v x b h next s e test is = record {
    stays = at_again now.place v x h s e;
    room = room_is way now.place next ∙ ap (λ l. nat_le (asked m l (upper_place way now.place)) t.start.limit) (sym h.placed) ∙ sym test ∙ is;
  }

  pub reserve : (way : Way) (q : ℕ) (v x : Content) (b : Bool) → IsAt others which t q v → in_order x.orders which ≡ in_order v.orders which
      → b ≡ nat_le (asked m (in_order v.orders which) (upper_place way q)) t.start.limit → b ≡ true → HasReserve m t.start.limit (in_order x.orders which) (upper_place way q)
  reserve way q v x b h e test is = subst (λ l. HasReserve m t.start.limit l (upper_place way q)) (sym e) (true_le (asked m (in_order v.orders which) (upper_place way q)) t.start.limit (sym test ∙ is))

  arrived : (way : Way) (q : ℕ) (x y : Content) → IsAt others which t q x → HasNext way q (length t.list) → IsSettled others which t.start y
      → in_order y.orders which ≡ swap (in_order x.orders which) (upper_place way q) (upper_place way q + 1) → IsAt others which t (neighbour_of way q) y
  arrived Down q x y h next s e = let k : q + 1 ≡ suc q = omega arith in subst (λ k. IsAt others which t k y) k (at_down others which t q x y h next s e)
  arrived Up q x y h next s e =
      let a = next.0 in
      let k : q ≡ q - 1 + 1 = omega (arith, a) in
      at_up others which t (q - 1) x y (subst (λ k. IsAt others which t k x) k h) s e

  moved_long : (q : ℕ) (x : Content) → IsAt others which t q x → (k : ℕ) → k < length t.list → k < length (at_place q)
  moved_long q x h k lt = subst (λ l. k < length l) h.placed (place_long others which t q x h k lt)

  -- there is room for the move again, and for the move back
  pair : (way : Way) (q : ℕ) (x y : Content) → IsAt others which t q x → IsAt others which t (neighbour_of way q) y → HasNext way q (length t.list)
      → HasReserve m t.start.limit (at_place q) (upper_place way q) → m.size_of (at_place (neighbour_of way q)) ≤ m.size_of (at_place q) + 2 * m.width_of (at_place q) (slice_index (at_place q) (upper_place way q))
      → CanSwap m t.start.limit (at_place (upper_place way q)) (upper_place way q) × CanSwap m t.start.limit (at_place (upper_place way q + 1)) (upper_place way q)
  pair Down q x y h k next room few =
      let e : suc q ≡ q + 1 = omega arith in (
        inl room,
        inr (returns_by m t.start.limit (at_place q) (at_place (q + 1)) q (moved_long q x h (q + 1) next) room
            (sym (moved_down t.list t.home q h.here next)) (moved_up t.list t.home q h.here next) (subst (λ z. m.size_of (at_place z) ≤ m.size_of (at_place q) + 2 * m.width_of (at_place q) (slice_index (at_place q) q)) e few)),
      )
  pair Up q x y h k next room few =
      let a = next.0 in
      let b = next.1 in
      let e : q ≡ q - 1 + 1 = omega (arith, a) in
      let lt : q - 1 + 1 < length t.list = omega (arith, a, b) in
      let h1 = subst (λ z. IsAt others which t z x) e h in
      let room1 = subst (λ z. HasReserve m t.start.limit (at_place z) (q - 1)) e room in
      let few1 = subst (λ z. m.size_of (at_place (q - 1)) ≤ m.size_of (at_place z) + 2 * m.width_of (at_place z) (slice_index (at_place z) (q - 1))) e few in (
        inr (returns_by m t.start.limit (at_place (q - 1 + 1)) (at_place (q - 1)) (q - 1) (moved_long (q - 1 + 1) x h1 (q - 1 + 1) lt) room1
            (sym (moved_up t.list t.home (q - 1) h.here lt)) (moved_down t.list t.home (q - 1) h.here lt) few1),
        inl room1,
      )

  pub was_moved : (way : Way) (now next : StandOf) (v x y : Content) (b : Bool) (size : ℕ) → IsAt others which t now.place v → HasNext way now.place (length t.list)
      → IsSettled others which t.start x → in_order x.orders which ≡ in_order v.orders which → b ≡ nat_le (asked m (in_order v.orders which) (upper_place way now.place)) t.start.limit → b ≡ true
      → IsSettled others which t.start y → in_order y.orders which ≡ swap (in_order x.orders which) (upper_place way now.place) (upper_place way now.place + 1)
      → size ≡ m.size_of (in_order y.orders which) → size ≤ m.size_of (in_order x.orders which) + 2 * m.width_of (in_order x.orders which) (slice_index (in_order x.orders which) (upper_place way now.place))
      → next.place ≡ neighbour_of way now.place → next.size ≡ size → stand_of next ≡ stand_at (neighbour_of way now.place) size (stand_of now) → IsMoved others which t way now next y
  was_moved way now next v x y b size h has sx ex test is sy ey size_is few place next_size stand =
      let hx = at_again now.place v x h sx ex in
      let hy = arrived way now.place x y hx has sy ey in
      let size_at : size ≡ m.size_of (at_place (neighbour_of way now.place)) = size_is ∙ ap m.size_of hy.placed in
      let room = reserve way now.place v x b h ex test is in
      let few1 = subst (λ l. size ≤ m.size_of l + 2 * m.width_of l (slice_index l (upper_place way now.place))) hx.placed few in
      let p = pair way now.place x y hx hy has (subst (λ l. HasReserve m t.start.limit l (upper_place way now.place)) hx.placed room) (omega (arith, few1, size_at)) in
      record {
        room = room_is way now.place has ∙ ap (λ l. nat_le (asked m l (upper_place way now.place)) t.start.limit) (sym h.placed) ∙ sym test ∙ is;
        arrives = hy;
        place = place;
        size = next_size ∙ size_at;
        stand = stand ∙ ap (λ s. stand_at (neighbour_of way now.place) s (stand_of now)) size_at;
        first = p.0;
        second = p.1;
      }

  -- the loop
  pub has_next : (way : Way) (steps from i now long : ℕ) → HasSteps way steps from long → IsAhead way from i now → i < steps → HasNext way now long
  has_next Down steps from i now long h ahead lt = omega (arith, h, ahead, lt)
  has_next Up steps from i now long h ahead lt = (let a = h.0 in omega (arith, a, ahead, lt), let b = h.1 in omega (arith, b, ahead))

  none_open : (way : Way) (p : ℕ) → IsWayOpen which t (lo_of way p p) (hi_of way p p)
  none_open Down p = IsOpen-none m t.start.limit t.list t.home p
  none_open Up p = IsOpen-none m t.start.limit t.list t.home p

  none_ahead : (way : Way) (p : ℕ) → IsAhead way p 0 p
  none_ahead Down p = omega arith
  none_ahead Up p = omega arith

  pub scanning_init : (way : Way) (from : StandOf) (steps : ℕ) (w : Content) → IsAt others which t from.place w → from.count ≡ 0 → IsScanning others which t way from steps 0 from w
  scanning_init way from steps w h count = record {
    stays = h;
    free = none_open way from.place;
    ahead = none_ahead way from.place;
    count = count;
    best = inl refl;
    left = λ end l. (let e : steps - 0 ≡ steps = omega arith in subst (λ k. EndsAs (trip_line which t) (neighbour_of way) k (stand_of from) end) e l);
  }

  more_open : (way : Way) (from now next : ℕ) → IsWayOpen which t (lo_of way from now) (hi_of way from now) → next ≡ neighbour_of way now
      → CanSwap m t.start.limit (at_place (upper_place way now)) (upper_place way now) → CanSwap m t.start.limit (at_place (upper_place way now + 1)) (upper_place way now)
      → IsWayOpen which t (lo_of way from next) (hi_of way from next)
  more_open Down from now next free e a b q le lt = elim (cases_lt q now) [
    | inl less ↦ free q le less
    | inr more ↦ (let same : now ≡ q = omega (arith, e, lt, more) in subst (λ k. CanSwap m t.start.limit (at_place k) k × CanSwap m t.start.limit (at_place (k + 1)) k) same (a, b))
  ]
  more_open Up from now next free e a b q le lt = elim (cases_lt q now) [
    | inl less ↦ (let same : now - 1 ≡ q = omega (arith, e, le, less) in subst (λ k. CanSwap m t.start.limit (at_place k) k × CanSwap m t.start.limit (at_place (k + 1)) k) same (a, b))
    | inr more ↦ free q more lt
  ]

  more_ahead : (way : Way) (from i now next long : ℕ) → IsAhead way from i now → HasNext way now long → next ≡ neighbour_of way now → IsAhead way from (i + 1) next
  more_ahead Down from i now next long a h e = omega (arith, a, e)
  more_ahead Up from i now next long a h e = let b = h.0 in omega (arith, a, e, b)

  chosen : (b : Bool) (x y z : Met) → z ≡ cond b x y → (z ≡ x) ⊎ (z ≡ y)
  chosen true x y z e = inl e
  chosen false x y z e = inr e

  in_range : (way : Way) (from i now next best long : ℕ) → IsAhead way from i now → HasNext way now long → next ≡ neighbour_of way now
      → (best ≡ next) ⊎ ((lo_of way from now ≤ best) × (best ≤ hi_of way from now)) → (lo_of way from next ≤ best) × (best ≤ hi_of way from next)
  in_range Down from i now next best long a h e (inl b) = (omega (arith, a, e, b), omega (arith, a, e, b))
  in_range Down from i now next best long a h e (inr b) = (b.0, (let c = b.1 in omega (arith, c, e)))
  in_range Up from i now next best long a h e (inl b) = (omega (arith, a, e, b), omega (arith, a, e, b))
  in_range Up from i now next best long a h e (inr b) = ((let c = b.0 in omega (arith, c, e)), b.1)

  more_best : (way : Way) (from now next : StandOf) (i long : ℕ) (x : Content) → IsBestOf way from now → IsAhead way from.place i now.place → HasNext way now.place long → IsMoved others which t way now next x → IsBestOf way from next
  more_best way from now next i long x h a has r =
      let size = (trip_line which t).size_at (neighbour_of way now.place) in
      let old : Met = record { place = now.best; size = now.smallest } in
      let new : Met = record { place = neighbour_of way now.place; size = size } in
      elim (chosen (nat_lt size now.smallest) new old (record { place = next.best; size = next.smallest }) (ap (λ (s : Stand). s.best) r.stand)) [
        | inl e ↦ inr (in_range way from.place i now.place next.place next.best long a has r.place (inl (ap (λ (x : Met). x.place) e ∙ sym r.place)))
        | inr e ↦ elim h [
          | inl s ↦ inl (ap (λ (x : Met). x.place) e ∙ s)
          | inr s ↦ inr (in_range way from.place i now.place next.place next.best long a has r.place (inr (subst (λ k. (lo_of way from.place now.place ≤ k) × (k ≤ hi_of way from.place now.place)) (sym (ap (λ (x : Met). x.place) e)) s)))
        ]
      ]

  large_is : (way : Way) (now next : StandOf) (x : Content) (b : Bool) → IsMoved others which t way now next x → is_too_large next.size next.least ≡ b
      → is_too_large ((trip_line which t).size_at (neighbour_of way now.place)) (min now.least ((trip_line which t).size_at (neighbour_of way now.place))) ≡ b
  large_is way now next x b r e = ap (λ s. is_too_large s (min now.least ((trip_line which t).size_at (neighbour_of way now.place)))) (sym r.size) ∙ ap (is_too_large next.size) (sym (ap (λ (s : Stand). s.least) r.stand)) ∙ e

  pub scanning_next : (way : Way) (from now next : StandOf) (steps i long : ℕ) (v x : Content) → IsScanning others which t way from steps i now v → i < steps → HasNext way now.place long → IsMoved others which t way now next x
      → is_too_large next.size next.least ≡ false → IsScanning others which t way from steps (i + 1) next x
  scanning_next way from now next steps i long v x h lt has r small = record {
    stays = subst (λ k. IsAt others which t k x) (sym r.place) r.arrives;
    free = more_open way from.place now.place next.place h.free r.place r.first r.second;
    ahead = more_ahead way from.place i now.place next.place long h.ahead has r.place;
    count = (let c = ap (λ (s : Stand). s.count) r.stand in let d = h.count in omega (arith, c, d));
    best = more_best way from now next i long x h.best h.ahead has r;
    left = λ end l.
        (let e : suc (steps - (i + 1)) ≡ steps - i = omega (arith, lt) in
        h.left end (subst (λ k. EndsAs (trip_line which t) (neighbour_of way) k (stand_of now) end) e
        (goes_on (trip_line which t) (neighbour_of way) (steps - (i + 1)) (stand_of now) end r.room (large_is way now next x false r small)
        (subst (λ s. EndsAs (trip_line which t) (neighbour_of way) (steps - (i + 1)) s end) r.stand l))));
  }

  pub scanned_stop : (way : Way) (from now : StandOf) (steps i : ℕ) (v x : Content) → IsScanning others which t way from steps i now v → i < steps → IsStopped others which t way now x → IsScanned others which t way from steps now x
  scanned_stop way from now steps i v x h lt r = record {
    stays = r.stays;
    free = h.free;
    ahead = subst (λ k. IsAhead way from.place k now.place) (sym h.count) h.ahead;
    few = (let c = h.count in omega (arith, c, lt));
    best = h.best;
    leads = (let e : suc (steps - (i + 1)) ≡ steps - i = omega (arith, lt) in
        h.left (stand_of now) (subst (λ k. EndsAs (trip_line which t) (neighbour_of way) k (stand_of now) (stand_of now)) e (stops (trip_line which t) (neighbour_of way) (steps - (i + 1)) (stand_of now) r.room)));
  }

  pub scanned_large : (way : Way) (from now next : StandOf) (steps i long : ℕ) (v x : Content) → IsScanning others which t way from steps i now v → i < steps → HasNext way now.place long → IsMoved others which t way now next x
      → is_too_large next.size next.least ≡ true → IsScanned others which t way from steps next x
  scanned_large way from now next steps i long v x h lt has r large =
      let c = ap (λ (s : Stand). s.count) r.stand in
      let d = h.count in
      let count : next.count ≡ i + 1 = omega (arith, c, d) in
      record {
        stays = subst (λ k. IsAt others which t k x) (sym r.place) r.arrives;
        free = more_open way from.place now.place next.place h.free r.place r.first r.second;
        ahead = subst (λ k. IsAhead way from.place k next.place) (sym count) (more_ahead way from.place i now.place next.place long h.ahead has r.place);
        few = omega (arith, count, lt);
        best = more_best way from now next i long x h.best h.ahead has r;
        leads = (let e : suc (steps - (i + 1)) ≡ steps - i = omega (arith, lt) in
            h.left (stand_of next) (subst (λ k. EndsAs (trip_line which t) (neighbour_of way) k (stand_of now) (stand_of next)) e
            (subst (λ s. EndsAs (trip_line which t) (neighbour_of way) (suc (steps - (i + 1))) (stand_of now) s) (sym r.stand)
            (grows (trip_line which t) (neighbour_of way) (steps - (i + 1)) (stand_of now) r.room (large_is way now next x true r large)))));
      }

  pub scanned_end : (way : Way) (from now : StandOf) (steps i : ℕ) (v : Content) → IsScanning others which t way from steps i now v → i ≡ steps → IsScanned others which t way from steps now v
  scanned_end way from now steps i v h last = record {
    stays = h.stays;
    free = h.free;
    ahead = subst (λ k. IsAhead way from.place k now.place) (sym h.count) h.ahead;
    few = (let c = h.count in omega (arith, c, last));
    best = h.best;
    leads = (let e : 0 ≡ steps - i = omega (arith, last) in h.left (stand_of now) (subst (λ k. EndsAs (trip_line which t) (neighbour_of way) k (stand_of now) (stand_of now)) e (ends (trip_line which t) (neighbour_of way) (stand_of now))));
  }

  few_levels : (w : Content) → IsSound w → (o : Order) → length (in_order w.orders o) ≤ 16384
  few_levels w sound Variables = sound.few_variables
  few_levels w sound Elements = sound.few_elements

  pub long_few : (q : ℕ) (w : Content) → IsAt others which t q w → length t.list ≤ 16384
  long_few q w h = let a = few_levels w h.settled.held.sound which in let b = h.as_long in let c = h.settled.held.long in omega (arith, a, b, c)
