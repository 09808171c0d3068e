-- What a swap and a sweep keep of a store in the middle of a sift.
use Rattle.std.proofs.Common.{◌≡◌, ℕ, suc, ◌+◌, ◌*◌, ◌<◌, ◌≤◌, inl, inr, Bool, true, false, List, ◌∷◌, ◌++◌, length, Option, Some, None, refl, sym, ap, ◌∙◌, subst, arith}
use Rattle.std.specs.Prelude.{slice_index}
use Rattle.std.specs.List.{swap, filter, range_with_len}
use Rattle.std.proofs.lemmas.List.Edits.{length-swap}
use Rattle.edge_bits.specs.declared.words.Word.{Word}
use Rattle.edge_bits.specs.Reading.{IsReached as LeadsTo, itself, then_child, else_child}
use Rattle.function_laws.specs.declared.orders.Order.{Order}
use Rattle.function_laws.specs.declared.orders.Order.TheVariants.{Variables, Elements}
use Rattle.function_laws.specs.Kinds.{Denoted}
use Rattle.function_laws.specs.Sizes.{Orders, in_order, size, width, permanent}
use Rattle.function_laws.specs.SiftedOrders.{with_order, Measure}
use Rattle.node_store.specs.Contents.{Content, IsSound, IsUsed, IsOrder, used_slots, nodes_of, number_of, var_at}
use Rattle.node_store.specs.Changes.{After}
use Rattle.node_store.specs.Sweeps.{IsStart, IsReached, functions_of, root_functions}
use Rattle.node_store.proofs.SweptSize.{swept_size}
use Rattle.level_swap.specs.Swaps.{needed, HasRoomBack, IsSwapped}
use Rattle.dead_sweep.specs.declared.sweeping.Swept.{Swept}
use Rattle.dead_sweep.specs.Swept.{IsSwept}
use Rattle.dead_sweep.proofs.SweepLemmas.{functions_same_on}
use Rattle.group_sift.specs.Trips.{CanSwap}
use Rattle.group_sift.specs.Settled.{measure_at, IsPinned, IsSettled}
use Rattle.group_sift.proofs.Splitting.{split, in_with, with_with, same_variables}

-- what is reached hangs on the roots, on words and orders alone, and on the words of what is reached
pub reached_same : (v w : Content) (p q : ℕ → Bool) → w.orders ≡ v.orders → ((s : ℕ) → p s ≡ q s) → ((s : ℕ) → IsReached v p s → w.word s ≡ v.word s) → (s : ℕ) → IsReached v p s → IsReached w q s
reached_same v w p q eo roots kept s (from, start, arcs) = (from, start_same start, arcs_same s arcs)
  where
    start_same : IsStart v p from → IsStart w q from
    start_same (inl (inl lt)) = inl (inl lt)
    start_same (inl (inr (x, lt, h))) = inl (inr (x, subst (λ (o : Orders). x < length o.variables) (sym eo) lt, kept from (from, start, itself) ∙ h))
    start_same (inr (u, h)) = inr ((u.0, kept from (from, start, itself) ∙ u.1), sym (roots from) ∙ h)

    arcs_same : (s : ℕ) → LeadsTo v.word from s → LeadsTo w.word from s
    arcs_same _ itself = itself
    arcs_same _ (then_child s node r h) = then_child s node (arcs_same s r) (kept s (from, start, r) ∙ h)
    arcs_same _ (else_child s node r h) = else_child s node (arcs_same s r) (kept s (from, start, r) ∙ h)

by_both : {A : Type 0} (b : Bool) → (b ≡ true → A) → (b ≡ false → A) → A
by_both true when_true when_false = when_true refl
by_both false when_true when_false = when_false refl

pub order_is : (w : Content) → IsSound w → (which : Order) → IsOrder (in_order w.orders which)
order_is w sound Variables = sound.variables
order_is w sound Elements = sound.elements

module _ (others : (ℕ → ℕ) → (ℕ → ℕ) → Type 0) (both : (a b c : ℕ → ℕ) → others a b → others b c → others a c)
    (zero_stays : (a b : ℕ → ℕ) → others a b → (s : ℕ) → a s ≡ 0 → b s ≡ 0) (which : Order) (start : Content) where
  abbrev m : Measure
  m = measure_at which start

  pub roots_same : (w : Content) → IsPinned others which start w → root_functions w start.pinned ≡ root_functions start start.pinned
  roots_same w h =
      ap (λ n. functions_of w.function (filter start.pinned (range_with_len 0 n))) h.limit
      ∙ functions_same_on start.pinned w.function start.function (range_with_len 0 start.limit) h.function

  -- what the definition takes of the store, in the order that stands now
  roots_now : (w : Content) → IsPinned others which start w
      → permanent (length w.orders.variables) ++ root_functions w start.pinned ≡ permanent (length start.orders.variables) ++ root_functions start start.pinned
  roots_now w h =
      ap (λ n. permanent n ++ root_functions w start.pinned) (same_variables which w.orders start.orders h.orders h.long)
      ∙ ap (λ r. permanent (length start.orders.variables) ++ r) (roots_same w h)

  pub settled_size : (w : Content) → IsSettled others which start w → used_slots w ≡ m.size_of (in_order w.orders which)
  unfolding measure_at
  settled_size w h =
      swept_size w h.held.sound h.held.half start.pinned h.reached
      ∙ ap (size w.orders) (roots_now w h.held)
      ∙ ap (λ o. size o (permanent (length start.orders.variables) ++ root_functions start start.pinned)) h.held.orders

  pub after_pinned : (v x : Content) → IsPinned others which start v → After others v x → IsPinned others which start x
  after_pinned v x h a = record {
    orders = a.orders ∙ h.orders ∙ ap (λ (o : Orders). with_order start.orders which (in_order o which)) (sym a.orders);
    long = ap (λ (o : Orders). length (in_order o which)) a.orders ∙ h.long;
    limit = a.limit ∙ h.limit;
    pinned = a.pinned ∙ h.pinned;
    sweeping = a.sweeping ∙ h.sweeping;
    half = a.half ∙ h.half;
    function = λ s p. ap (λ (f : ℕ → Option Denoted). f s) a.function ∙ h.function s p;
    generation = λ s p. ap (λ (f : ℕ → ℕ). f s) a.generation ∙ h.generation s p;
    uncounted = λ s p. zero_stays v.count x.count a.counts s (h.uncounted s p);
    counts = both start.count v.count x.count h.counts a.counts;
    sound = a.sound;
  }

  pub after_settled : (v x : Content) → IsSettled others which start v → After others v x → IsSettled others which start x
  after_settled v x h a = record {
    held = after_pinned v x h.held a;
    reached = λ s u. reached_same v x start.pinned start.pinned a.orders (λ t. refl) (λ t r. ap (λ (f : ℕ → Option Word). f t) a.word) s
        (h.reached s (u.0, sym (ap (λ (f : ℕ → Option Word). f s) a.word) ∙ u.1));
  }

  denotes : (w : Content) → IsPinned others which start w → (s : ℕ) → start.pinned s ≡ true → (f : Denoted) × (w.function s ≡ Some f)
  denotes w h s p = at (w.word s) refl
    where
      at : (o : Option Word) → w.word s ≡ o → (f : Denoted) × (w.function s ≡ Some f)
      at None e = let c : true ≡ false = sym p ∙ sym (ap (λ (f : ℕ → Bool). f s) h.pinned) ∙ h.sound.unpinned s e in cc
      at (Some word) e = h.sound.denotes s (word, e)

  pub swapped_pinned : (level : ℕ) (v x : Content) → IsPinned others which start v → IsSwapped others which level v x → IsPinned others which start x
  swapped_pinned level v x h a =
      let now = in_order v.orders which in
      let order : in_order x.orders which ≡ swap now level (level + 1) = ap (λ (o : Orders). in_order o which) a.orders ∙ in_with v.orders which (swap now level (level + 1)) in
      record {
        orders = a.orders ∙ ap (λ o. with_order o which (swap now level (level + 1))) h.orders ∙ with_with start.orders which now (swap now level (level + 1)) ∙ ap (with_order start.orders which) (sym order);
        long = ap length order ∙ length-swap now level (level + 1) ∙ h.long;
        limit = a.limit ∙ h.limit;
        pinned = a.pinned ∙ h.pinned;
        sweeping = a.sweeping ∙ h.sweeping;
        half = a.half;
        function = λ s p. (let d = denotes v h s p in a.function s d.0 d.1 ∙ sym d.1 ∙ h.function s p);
        generation = λ s p. ap (λ (f : ℕ → ℕ). f s) a.generation ∙ h.generation s p;
        uncounted = λ s p. zero_stays v.count x.count a.counts s (h.uncounted s p);
        counts = both start.count v.count x.count h.counts a.counts;
        sound = a.sound;
      }

  pub swapped_order : (level : ℕ) (v x : Content) → IsSwapped others which level v x → in_order x.orders which ≡ swap (in_order v.orders which) level (level + 1)
  swapped_order level v x a = ap (λ (o : Orders). in_order o which) a.orders ∙ in_with v.orders which (swap (in_order v.orders which) level (level + 1))

  pub swept_settled : (x y : Content) (swept : Swept) → IsPinned others which start x → IsSwept others x y swept → IsSettled others which start y
  swept_settled x y swept h a =
      let same : (s : ℕ) → a.is_root s ≡ start.pinned s =
      λ s. by_both (start.pinned s)
      (λ p. by_both (a.is_root s) (λ r. r ∙ sym p)
      (λ r. (let c : true ≡ false = sym p ∙ sym (ap (λ (f : ℕ → Bool). f s) (a.pinned ∙ h.pinned)) ∙ (a.zero_after s r).1 in absurd_bool c)))
      (λ p. a.zero_before s (h.uncounted s p) (ap (λ (f : ℕ → Bool). f s) h.pinned ∙ p) ∙ sym p) in
      let root : (s : ℕ) → start.pinned s ≡ true → IsReached x a.is_root s =
      λ s p. (let d = denotes x h s p in (s, inr (h.sound.used s d.0 d.1, same s ∙ p), itself)) in
      record {
        held = record {
          orders = a.orders ∙ h.orders ∙ ap (λ (o : Orders). with_order start.orders which (in_order o which)) (sym a.orders);
          long = ap (λ (o : Orders). length (in_order o which)) a.orders ∙ h.long;
          limit = a.limit ∙ h.limit;
          pinned = a.pinned ∙ h.pinned;
          sweeping = a.sweeping;
          half = a.half;
          function = λ s p. a.kept_function s (root s p) ∙ h.function s p;
          generation = λ s p. a.kept_generation s (a.kept_word s (root s p)) ∙ h.generation s p;
          uncounted = λ s p. (a.zero_after s (same s ∙ p)).0;
          counts = both start.count x.count y.count h.counts a.counts;
          sound = a.sound;
        };
        reached = λ s u. reached_same x y a.is_root start.pinned a.orders same a.kept_word s (a.left s u);
      }
    where
      absurd_bool : {A : Type 0} → true ≡ false → A
      absurd_bool c = cc

  module _ (widths : (w : Content) → IsSound w → w.half ≡ None → (is_root : ℕ → Bool) → ((s : ℕ) → IsUsed w s → IsReached w is_root s)
      → (o : Order) (v : ℕ) → v < length (in_order w.orders o)
      → nodes_of w (number_of o v) ≡ width w.orders o (permanent (length w.orders.variables) ++ root_functions w is_root) v) where
    pub settled_width : (w : Content) → IsSettled others which start w → (v : ℕ) → v < length (in_order w.orders which) → nodes_of w (number_of which v) ≡ m.width_of (in_order w.orders which) v
    unfolding measure_at
    settled_width w h v lt =
        widths w h.held.sound h.held.half start.pinned h.reached which v lt
        ∙ ap (λ r. width w.orders which r v) (roots_now w h.held)
        ∙ ap (λ o. width o which (permanent (length start.orders.variables) ++ root_functions start start.pinned) v) h.held.orders

    pub level_width : (w : Content) → IsSettled others which start w → (level : ℕ) → level < length (in_order w.orders which)
        → nodes_of w (var_at w which level) ≡ m.width_of (in_order w.orders which) (slice_index (in_order w.orders which) level)
    level_width w h level lt = settled_width w h (slice_index (in_order w.orders which) level) ((order_is w h.held.sound which).below level lt)

    pub needed_is : (w : Content) → IsSettled others which start w → (level : ℕ) → level + 1 < length (in_order w.orders which)
        → needed w which level ≡ 2 * m.width_of (in_order w.orders which) (slice_index (in_order w.orders which) level) + m.width_of (in_order w.orders which) (slice_index (in_order w.orders which) (level + 1))
    needed_is w h level lt = let a = level_width w h level (omega arith) in let b = level_width w h (level + 1) lt in omega (arith, a, b)

    -- at most two nodes were stored for each upper one
    pub few_more : (level : ℕ) (v x y : Content) → IsSettled others which start v → level + 1 < length (in_order v.orders which)
        → IsSwapped others which level v x → used_slots y ≤ used_slots x
        → used_slots y ≤ m.size_of (in_order v.orders which) + 2 * m.width_of (in_order v.orders which) (slice_index (in_order v.orders which) level)
    few_more level v x y h lt a freed =
        let e = settled_size v h in
        let n = level_width v h level (omega arith) in
        let few = a.few in
        omega (arith, e, n, few, freed)

    module _ (room_forward : (w : Content) → IsSound w → (o : Order) (level : ℕ) → level + 1 < length (in_order w.orders o) → used_slots w + needed w o level ≤ w.limit → HasRoomBack w o level)
        (room_back : (w : Content) → IsSound w → w.half ≡ None → (is_root : ℕ → Bool) → ((s : ℕ) → IsUsed w s → IsReached w is_root s)
        → (o : Order) (before : List ℕ) (y x : ℕ) (rest : List ℕ) → in_order w.orders o ≡ before ++ y ∷ (x ∷ rest)
        → used_slots w + width (with_order w.orders o (before ++ x ∷ (y ∷ rest))) o (permanent (length w.orders.variables) ++ root_functions w is_root) y ≤ w.limit
        → HasRoomBack w o (length before)) where
      pub has_room : (w : Content) → IsSettled others which start w → (level : ℕ) → level + 1 < length (in_order w.orders which)
          → CanSwap m start.limit (in_order w.orders which) level → HasRoomBack w which level
      unfolding measure_at
      has_room w h level lt (inl reserve) =
          let e = settled_size w h in
          let n = needed_is w h level lt in
          let l = h.held.limit in
          room_forward w h.held.sound which level lt (omega (arith, e, n, l, reserve))
      has_room w h level lt (inr back) =
          let now = in_order w.orders which in
          let next : level + 1 ≡ suc level = omega arith in
          let sp = split now level (omega arith) in
          let restored = sp.before ++ sp.x ∷ (sp.y ∷ sp.rest) in
          let e = settled_size w h in
          let l = h.held.limit in
          let there : swap now level (level + 1) ≡ restored = ap (swap now level) next ∙ sp.exchanged in
          let same_orders : with_order w.orders which restored ≡ with_order start.orders which restored = ap (λ o. with_order o which restored) h.held.orders ∙ with_with start.orders which now restored in
          let wide : width (with_order w.orders which restored) which (permanent (length w.orders.variables) ++ root_functions w start.pinned) sp.y
          ≡ m.width_of (swap now level (level + 1)) (slice_index now level) =
          ap (λ r. width (with_order w.orders which restored) which r sp.y) (roots_now w h.held)
          ∙ ap (λ o. width o which (permanent (length start.orders.variables) ++ root_functions start start.pinned) sp.y) same_orders
          ∙ ap (λ z. m.width_of z sp.y) (sym there) ∙ ap (m.width_of (swap now level (level + 1))) (sym sp.upper) in
          subst (HasRoomBack w which) sp.long
          (room_back w h.held.sound h.held.half start.pinned h.reached which sp.before sp.y sp.x sp.rest sp.is (omega (arith, e, l, wide, back)))
