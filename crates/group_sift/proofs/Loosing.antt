-- A swap and the pass that follows it, in the middle of a sift.
use Rattle.std.proofs.Common.{◌≡◌, ℕ, suc, ◌+◌, ◌<◌, ◌≤◌, ◌⊎◌, inl, inr, Bool, true, false, cond, List, [], ◌∷◌, length, Option, Some, None, refl, sym, ap, ◌∙◌, subst, arith}
use Rattle.std.specs.Prelude.{slice_index}
use Rattle.std.specs.List.{swap, filter, range_with_len}
use Rattle.std.proofs.lemmas.List.Edits.{length-swap}
use Rattle.edge_bits.specs.declared.words.Word.{Word}
use Rattle.edge_bits.specs.declared.words.Word.TheVariants.{Inner}
use Rattle.function_laws.specs.declared.orders.Order.{Order}
use Rattle.function_laws.specs.Kinds.{Denoted}
use Rattle.function_laws.specs.Sizes.{Orders, in_order}
use Rattle.function_laws.specs.SiftedOrders.{with_order}
use Rattle.node_store.specs.Contents.{Content, IsUsed, IsNamed, IsPermanent, used_slots, is_used, is_node_of, number_of, var_at}
use Rattle.node_store.specs.Changes.{After}
use Rattle.dead_sweep.proofs.SweepLemmas.{used_is_true}
use Rattle.level_swap.specs.Swaps.{IsSwapped}
use Rattle.level_swap.proofs.SwapLoop.{named_on}
use Rattle.group_sift.specs.Passes.{IsHeldUp, Stays, IsNamedByStaying, IsLoose, Passing}
use Rattle.group_sift.specs.Settled.{IsPinned, IsSettled}
use Rattle.group_sift.proofs.Splitting.{split, same_variables}
use Rattle.group_sift.proofs.Settling.{swapped_pinned, swapped_order}
use Rattle.group_sift.proofs.Naming.{reached_held, held_reached, apart_name, not_var, tested, swapped_named}
use Rattle.group_sift.proofs.Passing.{permanent_same}

count_le : (p q : ℕ → Bool) → ((s : ℕ) → p s ≡ true → q s ≡ true) → (ss : List ℕ) → length (filter p ss) ≤ length (filter q ss)
count_le p q more [] = omega arith
count_le p q more (s ∷ ss) = at (p s) (q s) (more s) (count_le p q more ss)
  where
    at : (a b : Bool) → (a ≡ true → b ≡ true) → length (filter p ss) ≤ length (filter q ss)
        → length (cond a (s ∷ filter p ss) (filter p ss)) ≤ length (cond b (s ∷ filter q ss) (filter q ss))
    at true true h le = omega (arith, le)
    at true false h le = let c : false ≡ true = h refl in cc
    at false true h le = omega (arith, le)
    at false false h le = le

never : {A : Type 0} → true ≡ false → A
never e = cc

module _ (others : (ℕ → ℕ) → (ℕ → ℕ) → Type 0) (both : (a b c : ℕ → ℕ) → others a b → others b c → others a c)
    (zero_stays : (a b : ℕ → ℕ) → others a b → (s : ℕ) → a s ≡ 0 → b s ≡ 0) (which : Order) (start : Content) (level : ℕ) (v x x1 : Content)
    (h : IsSettled others which start v) (within : level + 1 < length (in_order v.orders which)) (a : IsSwapped others which level v x)
    (b : After others (record x { sweeping = true; marked = λ s. false }) x1) where
  abbrev lower : ℕ
  lower = number_of which (slice_index (in_order v.orders which) (level + 1))

  hx : IsPinned others which start x
  hx = swapped_pinned others both zero_stays which start level v x h.held a

  pinned1 : x1.pinned ≡ start.pinned
  pinned1 = b.pinned ∙ hx.pinned

  order_1 : in_order x1.orders which ≡ swap (in_order v.orders which) level (level + 1)
  order_1 = ap (λ (o : Orders). in_order o which) b.orders ∙ swapped_order others both zero_stays which start level v x a

  long_1 : length (in_order x1.orders which) ≡ length (in_order v.orders which)
  long_1 = ap length order_1 ∙ length-swap (in_order v.orders which) level (level + 1)

  var_lower : var_at x1 which level ≡ number_of which (slice_index (in_order v.orders which) (level + 1))
  var_lower =
      let one : level + 1 ≡ suc level = omega arith in
      let sp = split (in_order v.orders which) level (omega (arith, within)) in
      ap (number_of which) (ap (λ l. slice_index l level) (order_1 ∙ ap (swap (in_order v.orders which) level) one) ∙ sp.first ∙ sym sp.lower ∙ ap (slice_index (in_order v.orders which)) (sym one))

  long_variables : length x1.orders.variables ≡ length v.orders.variables
  long_variables = same_variables which x1.orders v.orders (b.orders ∙ a.orders ∙ ap (with_order v.orders which) (sym order_1)) long_1

  uncounted1 : (s : ℕ) → x1.pinned s ≡ false → x1.count s ≡ 0
  uncounted1 s p = zero_stays x.count x1.count b.counts s (hx.uncounted s (sym (ap (λ (q : ℕ → Bool). q s) pinned1) ∙ p))

  named1 : (s : ℕ) → IsUsed x1 s → is_node_of (number_of which (slice_index (in_order v.orders which) (level + 1))) (x1.word s) ≡ false
      → IsPermanent x1 s ⊎ ((x1.pinned s ≡ true) ⊎ IsNamedByStaying x1 x1.pinned (number_of which (slice_index (in_order v.orders which) (level + 1))) s)
  named1 = swapped_named v x1 h.held.sound h.held.half b.sound (b.half ∙ a.half) which level within order_1
      (λ s f is. ap (λ (q : ℕ → Option Denoted). q s) b.function ∙ a.function s f is)
      (λ s word at differ. ap (λ (q : ℕ → Option Word). q s) b.word ∙ a.word s word at differ)
      (λ s none u. named_on others v x x1 (var_at v which level) v.limit v.limit s b.word (omega arith) (a.stored s none (u.0, sym (ap (λ (q : ℕ → Option Word). q s) b.word) ∙ u.1)))
      long_variables x1.pinned
      (λ s u. subst (λ (q : ℕ → Bool). IsHeldUp v q s) (sym pinned1) (reached_held v start.pinned s (h.reached s u)))

  loose1 : IsLoose x1 (number_of which (slice_index (in_order v.orders which) (level + 1)))
  loose1 = record { sound = b.sound; half = b.half ∙ a.half; sweeping = b.sweeping; uncounted = uncounted1; named = named1 }

  pub loose_here : IsLoose x1 (var_at x1 which level)
  loose_here = subst (IsLoose x1) (sym var_lower) loose1

  pub level_there : level < length (in_order x1.orders which)
  level_there = let l = long_1 in omega (arith, l, within)

  module _ (y y1 : Content) (pass : Passing others x1 (var_at x1 which level) y x1.limit) (c : After others (record y { sweeping = false }) y1) where
    pl : Passing others x1 (number_of which (slice_index (in_order v.orders which) (level + 1))) y x1.limit
    pl = subst (λ q. Passing others x1 q y x1.limit) var_lower pass

    word_y : (s : ℕ) → y1.word s ≡ y.word s
    word_y s = ap (λ (q : ℕ → Option Word). q s) c.word

    orders_1 : y1.orders ≡ x1.orders
    orders_1 = c.orders ∙ pl.orders

    staying_word : (t : ℕ) → Stays x1 x1.pinned (number_of which (slice_index (in_order v.orders which) (level + 1))) t → y1.word t ≡ x1.word t
    staying_word t st = word_y t ∙ (pl.kept t st).0

    by_bool : {A : Type 0} (q : Bool) → (q ≡ true → A) → (q ≡ false → A) → A
    by_bool true when_true when_false = when_true refl
    by_bool false when_true when_false = when_false refl

    all_held : (s : ℕ) → IsUsed y1 s → IsHeldUp y1 start.pinned s
    all_held s (word, at) = by_bool (is_node_of (number_of which (slice_index (in_order v.orders which) (level + 1))) (y.word s)) here other
      where
        at_y : y.word s ≡ Some word
        at_y = sym (word_y s) ∙ at

        at_1 : x1.word s ≡ Some word
        at_1 = pl.less s word at_y

        perm : IsPermanent x1 s → IsPermanent y1 s
        perm = permanent_same x1 y1 orders_1 s (at ∙ sym at_1)

        root : x1.pinned s ≡ true → start.pinned s ≡ true
        root r = sym (ap (λ (q : ℕ → Bool). q s) pinned1) ∙ r

        by_name : is_node_of (number_of which (slice_index (in_order v.orders which) (level + 1))) (y.word s) ≡ true → IsNamed x1 s → IsNamed y1 s
        by_name e (t, node, at_t, names) =
            let n = tested (number_of which (slice_index (in_order v.orders which) (level + 1))) (y.word s) e in
            let ne = apart_name x1 b.sound (b.half ∙ a.half) t node at_t s n.0 (pl.less s (Inner n.0) n.1) names in
            let st : Stays x1 x1.pinned (number_of which (slice_index (in_order v.orders which) (level + 1))) t = (
              (Inner node, at_t),
              inl (ap (is_node_of (number_of which (slice_index (in_order v.orders which) (level + 1)))) at_t
                  ∙ not_var node.var (number_of which (slice_index (in_order v.orders which) (level + 1))) (λ k. ne (k ∙ sym n.2))),
            ) in
            (t, node, staying_word t st ∙ at_t, names)

        here : is_node_of (number_of which (slice_index (in_order v.orders which) (level + 1))) (y.word s) ≡ true → IsHeldUp y1 start.pinned s
        here e = elim (pl.done s (b.sound.within s (word, at_1)) e) [
          | inl p ↦ inl (perm p)
          | inr (inl r) ↦ inr (inl (root r))
          | inr (inr n) ↦ inr (inr (by_name e n))
        ]

        other : is_node_of (number_of which (slice_index (in_order v.orders which) (level + 1))) (y.word s) ≡ false → IsHeldUp y1 start.pinned s
        other e = elim (named1 s (word, at_1) (ap (is_node_of (number_of which (slice_index (in_order v.orders which) (level + 1)))) (at_1 ∙ sym at_y) ∙ e)) [
          | inl p ↦ inl (perm p)
          | inr (inl r) ↦ inr (inl (root r))
          | inr (inr (t, st, n)) ↦ inr (inr (t, n.0, staying_word t st ∙ n.1, n.2))
        ]

    pinned_stays : (s : ℕ) → start.pinned s ≡ true → Stays x1 x1.pinned (number_of which (slice_index (in_order v.orders which) (level + 1))) s
    pinned_stays s p = by_word (x1.word s) refl
      where
        pin : x1.pinned s ≡ true
        pin = ap (λ (q : ℕ → Bool). q s) pinned1 ∙ p

        by_word : (o : Option Word) → x1.word s ≡ o → Stays x1 x1.pinned (number_of which (slice_index (in_order v.orders which) (level + 1))) s
        by_word None e = never (sym pin ∙ b.sound.unpinned s e)
        by_word (Some word) e = ((word, e), inr (inr (inl pin)))

    pub passed_settled : IsSettled others which start y1
    passed_settled = record {
      held = record {
        orders = orders_1 ∙ b.orders ∙ hx.orders ∙ ap (λ (o : Orders). with_order start.orders which (in_order o which)) (sym (orders_1 ∙ b.orders));
        long = ap (λ (o : Orders). length (in_order o which)) (orders_1 ∙ b.orders) ∙ hx.long;
        limit = c.limit ∙ pl.limit ∙ b.limit ∙ hx.limit;
        pinned = c.pinned ∙ pl.pinned ∙ pinned1;
        sweeping = c.sweeping;
        half = c.half ∙ pl.half ∙ b.half ∙ a.half;
        function = λ s p. ap (λ (q : ℕ → Option Denoted). q s) c.function ∙ (pl.kept s (pinned_stays s p)).1 ∙ ap (λ (q : ℕ → Option Denoted). q s) b.function ∙ hx.function s p;
        generation = λ s p. ap (λ (q : ℕ → ℕ). q s) c.generation ∙ (pl.kept s (pinned_stays s p)).2 ∙ ap (λ (q : ℕ → ℕ). q s) b.generation ∙ hx.generation s p;
        uncounted = λ s p. zero_stays x.count y1.count (both x.count y.count y1.count (both x.count x1.count y.count b.counts pl.counts) c.counts) s (hx.uncounted s p);
        counts = both start.count x.count y1.count hx.counts (both x.count y.count y1.count (both x.count x1.count y.count b.counts pl.counts) c.counts);
        sound = c.sound;
      };
      reached = held_reached y1 c.sound (c.half ∙ pl.half ∙ b.half ∙ a.half) start.pinned all_held;
    }

    pub passed_order : in_order y1.orders which ≡ swap (in_order v.orders which) level (level + 1)
    passed_order = ap (λ (o : Orders). in_order o which) orders_1 ∙ order_1

    pub passed_fewer : used_slots y1 ≤ used_slots x
    passed_fewer =
        let l : y1.limit ≡ x.limit = c.limit ∙ pl.limit ∙ b.limit in
        let le = count_le (λ s. is_used (y1.word s)) (λ s. is_used (x.word s)) (λ s u.
        let w = used_is_true (y1.word s) u in
        let at_x : x.word s ≡ Some w.0 = sym (ap (λ (q : ℕ → Option Word). q s) b.word) ∙ pl.less s w.0 (sym (word_y s) ∙ w.1) in ap is_used at_x) (range_with_len 0 y1.limit) in
        subst (λ n. used_slots y1 ≤ length (filter (λ s. is_used (x.word s)) (range_with_len 0 n))) l le

  pub pass_on : (y : Content) → Passing others x1 (var_at x1 which level) y x1.limit → y.sweeping ≡ true
  pass_on y p = p.sweeping ∙ b.sweeping
