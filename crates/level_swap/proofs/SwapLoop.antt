-- The loop of a swap in place over the upper nodes.
use Rattle.std.proofs.Common.{◌≡◌, ℕ, zero, suc, ◌+◌, ◌^◌, ◌<◌, ◌≤◌, ◌⊎◌, inl, inr, Bool, true, false, cond, ◌∷◌, length, Option, Some, None, refl, sym, ap, ◌∙◌, subst, arith}
use Rattle.std.specs.List.{filter, range_with_len}
use Rattle.std.proofs.lemmas.Bool.{cases_lt, eq-eqb}
use Rattle.edge_bits.specs.declared.words.Node.{Node}
use Rattle.edge_bits.specs.declared.words.Word.{Word}
use Rattle.edge_bits.specs.declared.words.Word.TheVariants.{Inner}
use Rattle.function_laws.specs.declared.orders.Order.{Order}
use Rattle.function_laws.specs.Sizes.{in_order}
use Rattle.function_laws.specs.Kinds.{Denoted, Lacks}
use Rattle.node_store.specs.Contents.{Content, IsSound, var_at, nodes_of, used_slots, is_node_of, IsHalf}
use Rattle.node_store.specs.Changes.{After, exchanged, CanExchange, NoneOrHalf, IsLeastFrom}
use Rattle.level_swap.specs.Swaps.{HasRoomBack, IsSwapped, IsNamedBefore}
use Rattle.node_store.proofs.SlotLists.{slot_once}
use Rattle.level_swap.specs.Swapping.{Swapping}
use Rattle.level_swap.proofs.Roots.{roots_kept}
use Rattle.level_swap.proofs.Steps.{used_same}
use Rattle.level_swap.proofs.UpperLemmas.{node_test}

pub count_more : (p : ℕ → Bool) (a m n : ℕ) → m ≤ n → length (filter p (range_with_len a m)) ≤ length (filter p (range_with_len a n))
count_more p a zero n le = omega arith
count_more p a (suc m) zero le = absurd (omega (arith, le))
count_more p a (suc m) (suc n) le = at (p a) (count_more p (a + 1) m n (omega (arith, le)))
  where
    at : (b : Bool) → length (filter p (range_with_len (a + 1) m)) ≤ length (filter p (range_with_len (a + 1) n))
        → length (cond b (a ∷ filter p (range_with_len (a + 1) m)) (filter p (range_with_len (a + 1) m))) ≤ length (cond b (a ∷ filter p (range_with_len (a + 1) n)) (filter p (range_with_len (a + 1) n)))
    at true le = omega (arith, le)
    at false le = le

-- room hangs on orders, limit, words and functions alone
pub room_same : (others : (ℕ → ℕ) → (ℕ → ℕ) → Type 0) (v0 v1 : Content) → After others v0 v1 → (order : Order) (level : ℕ) → HasRoomBack v0 order level → HasRoomBack v1 order level
room_same others v0 v1 a order level r =
    let r1 = subst (λ (x : ℕ → Option Word). HasRoomBack (record v0 { word = x }) order level) (sym a.word) r in
    let r2 = subst (λ (x : ℕ → Option Denoted). HasRoomBack (record v0 { word = v1.word; function = x }) order level) (sym a.function) r1 in
    let r3 = subst (λ n. HasRoomBack (record v0 { word = v1.word; function = v1.function; limit = n }) order level) (sym a.limit) r2 in
    subst (λ o. HasRoomBack (record v0 { word = v1.word; function = v1.function; limit = v1.limit; orders = o }) order level) (sym a.orders) r3

some_is : {A : Type 0} (o : Option A) (x y : A) → o ≡ Some x → o ≡ Some y → x ≡ y
some_is o x y h k = cc

none_some : {A : Type 0} (o : Option A) (x : A) → o ≡ None → o ≡ Some x → ⊥
none_some o x h k = cc

pub found : (passes : ℕ → Type 0) (w : Content) (from : ℕ) (r : Option ℕ) (slot : ℕ) → IsLeastFrom w passes from r → r ≡ Some slot → (from ≤ slot) × passes slot × ((t : ℕ) → from ≤ t → t < slot → passes t → ⊥)
found passes w from r slot h e = subst (λ o. IsLeastFrom w passes from o) e h

pub not_found : (passes : ℕ → Type 0) (w : Content) (from : ℕ) (r : Option ℕ) → IsLeastFrom w passes from r → ((x : ℕ) → r ≡ Some x → ⊥) → (s : ℕ) → from ≤ s → passes s → ⊥
not_found passes w from None h none = h
not_found passes w from (Some x) h none = absurd (none x refl)

-- the same later on
pub named_on : (others : (ℕ → ℕ) → (ℕ → ℕ) → Type 0) (old v w : Content) (upper from next s : ℕ) → w.word ≡ v.word → from ≤ next → IsNamedBefore old v upper from s → IsNamedBefore old w upper next s
named_on others old v w upper from next s e le (t, node, lt, word, names, was) = (t, node, omega (arith, lt, le), ap (λ (x : ℕ → Option Word). x t) e ∙ word, names, was)

pub inside_of : (w : Content) → IsSound w → (v s : ℕ) → is_node_of v (w.word s) ≡ true → s < w.limit
inside_of w sound v s h = let n = node_test v (w.word s) h in sound.within s (Inner n.0, n.1)

pub few_inside : (w : Content) → IsSound w → (v s : ℕ) → is_node_of v (w.word s) ≡ true → s < 2 ^ 23
few_inside w sound v s h = let i = inside_of w sound v s h in let f = sound.few_slots in omega (arith, i, f)

pub after_both : (others : (ℕ → ℕ) → (ℕ → ℕ) → Type 0) → ((x y z : ℕ → ℕ) → others x y → others y z → others x z) → (u v w : Content) → After others u v → After others v w → After others u w
after_both others both u v w a b = record {
  orders = b.orders ∙ a.orders;
  limit = b.limit ∙ a.limit;
  word = b.word ∙ a.word;
  function = b.function ∙ a.function;
  generation = b.generation ∙ a.generation;
  marked = b.marked ∙ a.marked;
  pinned = b.pinned ∙ a.pinned;
  sweeping = b.sweeping ∙ a.sweeping;
  half = b.half ∙ a.half;
  counts = both u.count v.count w.count a.counts b.counts;
  sound = b.sound;
}

module _ (others : (ℕ → ℕ) → (ℕ → ℕ) → Type 0) (both : (x y z : ℕ → ℕ) → others x y → others y z → others x z) (order : Order) (level : ℕ) where
  pub var_kept : (v w : Content) → w.orders ≡ v.orders → (l : ℕ) → var_at w order l ≡ var_at v order l
  var_kept v w e l = ap (λ o. var_at (record v { orders = o }) order l) e

  pub swap_begins : (v0 v1 : Content) → After others v0 v1 → (v0.half ≡ None) → HasRoomBack v0 order level → Swapping others order level v0 v1 0
  swap_begins v0 v1 a whole room = record {
    orders = a.orders;
    limit = a.limit;
    generation = a.generation;
    marked = a.marked;
    pinned = a.pinned;
    sweeping = a.sweeping;
    half = inl (a.half ∙ whole);
    counts = a.counts;
    sound = a.sound;
    function = λ s f h. ap (λ (x : ℕ → Option Denoted). x s) a.function ∙ h;
    inside = omega arith;
    waiting = λ s word h way. ap (λ (x : ℕ → Option Word). x s) a.word ∙ h;
    done = λ s node k f h e i d. absurd (nothing s node h d);
    stored = λ s none u. absurd (none_some (v0.word s) u.0 none (sym (ap (λ (x : ℕ → Option Word). x s) a.word) ∙ u.1));
    room = room_same others v0 v1 a order level room;
    few = (let u = used_same others v0 v1 a order in omega (arith, u));
  }
    where
      nothing : (s : ℕ) (node : Node) → v1.word s ≡ Some (Inner node) → (s < 0) ⊎ (v0.word s ≡ None) → ⊥
      nothing s node h (inl lt) = omega (arith, lt)
      nothing s node h (inr e) = none_some (v0.word s) (Inner node) e (sym (ap (λ (x : ℕ → Option Word). x s) a.word) ∙ h)

  -- the same further on, where no upper node stands between
  pub swap_skips : (v0 v w : Content) (from next : ℕ) → Swapping others order level v0 v from → After others v w → from ≤ next → next ≤ v0.limit
      → ((t : ℕ) → from ≤ t → t < next → is_node_of (var_at v order level) (v.word t) ≡ true → ⊥) → Swapping others order level v0 w next
  swap_skips v0 v w from next s a le inside none = record {
    orders = a.orders ∙ s.orders;
    limit = a.limit ∙ s.limit;
    generation = a.generation ∙ s.generation;
    marked = a.marked ∙ s.marked;
    pinned = a.pinned ∙ s.pinned;
    sweeping = a.sweeping ∙ s.sweeping;
    half = half_kept s.half;
    counts = both v0.count v.count w.count s.counts a.counts;
    sound = a.sound;
    function = λ t f h. ap (λ (x : ℕ → Option Denoted). x t) a.function ∙ s.function t f h;
    inside = inside;
    waiting = λ t word h way. ap (λ (x : ℕ → Option Word). x t) a.word ∙ s.waiting t word h (elim way [ inl other ↦ inl other | inr further ↦ inr (omega (arith, le, further)) ]);
    done = λ t node k f h e i d.
        let h1 : v.word t ≡ Some (Inner node) = sym (ap (λ (x : ℕ → Option Word). x t) a.word) ∙ h in
        s.done t node k f h1 e (sym (ap (λ (x : ℕ → Option Denoted). x t) a.function) ∙ i) (early t node h1 e d);
    stored = λ r none u. named_on others v0 v w (var_at v0 order level) from next r a.word le (s.stored r none (u.0, sym (ap (λ (x : ℕ → Option Word). x r) a.word) ∙ u.1));
    room = room_same others v w a order level s.room;
    few = (let f = s.few in let u = used_same others v w a order in
        let m = count_more (λ t. is_node_of (var_at v0 order level) (v0.word t)) 0 from next le in omega (arith, f, u, m));
  }
    where
      half_kept : NoneOrHalf v (var_at v0 order level) (var_at v0 order (level + 1)) → NoneOrHalf w (var_at v0 order level) (var_at v0 order (level + 1))
      half_kept (inl h) = inl (a.half ∙ h)
      half_kept (inr h) = inr (a.half ∙ h)

      early : (t : ℕ) (node : Node) → v.word t ≡ Some (Inner node) → node.var ≡ var_at v0 order level → (t < next) ⊎ (v0.word t ≡ None) → (t < from) ⊎ (v0.word t ≡ None)
      early t node h e (inr x) = inr x
      early t node h e (inl lt) = cases t<
        where
          t< : (t < from) ⊎ (from ≤ t)
          t< = cases_lt t from

          cases : (t < from) ⊎ (from ≤ t) → (t < from) ⊎ (v0.word t ≡ None)
          cases (inl x) = inl x
          cases (inr x) = absurd (none t x lt (ap (is_node_of (var_at v order level)) h ∙ eq-eqb node.var (var_at v order level) (e ∙ sym (var_kept v0 v s.orders level))))

  -- at the end the two levels can be exchanged
  pub swap_ends : (v0 w : Content) (from : ℕ) → Swapping others order level v0 w from → level + 1 < length (in_order v0.orders order)
      → ((t : ℕ) → from ≤ t → is_node_of (var_at w order level) (w.word t) ≡ true → ⊥) → CanExchange w order level
  swap_ends v0 w from s within none = record {
    within = subst (λ o. level + 1 < length (in_order o order)) (sym s.orders) within;
    half = half_here s.half;
    lacks = λ t node k f h e i.
        let e0 = e ∙ var_kept v0 w s.orders level in
        subst (Lacks k f) (sym (var_kept v0 w s.orders (level + 1))) (s.done t node k f h e0 i (early t node h e));
  }
    where
      half_here : NoneOrHalf w (var_at v0 order level) (var_at v0 order (level + 1)) → NoneOrHalf w (var_at w order level) (var_at w order (level + 1))
      half_here (inl h) = inl h
      half_here (inr h) = inr (subst (λ x. IsHalf w x (var_at w order (level + 1))) (sym (var_kept v0 w s.orders level)) (subst (IsHalf w (var_at v0 order level)) (sym (var_kept v0 w s.orders (level + 1))) h))

      early : (t : ℕ) (node : Node) → w.word t ≡ Some (Inner node) → node.var ≡ var_at w order level → (t < from) ⊎ (v0.word t ≡ None)
      early t node h e = cases (cases_lt t from)
        where
          cases : (t < from) ⊎ (from ≤ t) → (t < from) ⊎ (v0.word t ≡ None)
          cases (inl x) = inl x
          cases (inr x) = absurd (none t x (ap (is_node_of (var_at w order level)) h ∙ eq-eqb node.var (var_at w order level) e))

  pub swap_done : (v0 w x : Content) (from : ℕ) → Swapping others order level v0 w from → After others (record w { orders = exchanged w.orders order level; half = None }) x → IsSwapped others order level v0 x
  swap_done v0 w x from s a = record {
    orders = a.orders ∙ ap (λ o. exchanged o order level) s.orders;
    limit = a.limit ∙ s.limit;
    function = λ t f h. ap (λ (y : ℕ → Option Denoted). y t) a.function ∙ s.function t f h;
    word = λ t word h no. ap (λ (y : ℕ → Option Word). y t) a.word ∙ s.waiting t word h (inl no);
    stored = λ r none u. named_on others v0 w x (var_at v0 order level) from v0.limit r a.word s.inside (s.stored r none (u.0, sym (ap (λ (y : ℕ → Option Word). y r) a.word) ∙ u.1));
    generation = a.generation ∙ s.generation;
    once = slot_once x a.sound;
    roots = roots_kept v0 x (a.limit ∙ s.limit) (λ t f h. ap (λ (y : ℕ → Option Denoted). y t) a.function ∙ s.function t f h);
    few = (let f = s.few in
        let u : used_slots x ≡ used_slots w = used_same others (record w { orders = exchanged w.orders order level; half = None }) x a order in
        let m : length (filter (λ t. is_node_of (var_at v0 order level) (v0.word t)) (range_with_len 0 from)) ≤ nodes_of v0 (var_at v0 order level) = count_more (λ t. is_node_of (var_at v0 order level) (v0.word t)) 0 from v0.limit s.inside in omega (arith, f, u, m));
    marked = a.marked ∙ s.marked;
    pinned = a.pinned ∙ s.pinned;
    sweeping = a.sweeping ∙ s.sweeping;
    half = a.half;
    counts = both v0.count w.count x.count s.counts a.counts;
    sound = a.sound;
  }
