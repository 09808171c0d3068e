-- The marking goes on to the next node of a level, to the next level, and to the leaves.
use Rattle.std.proofs.Common.{◌≡◌, ℕ, ◌+◌, ◌<◌, ◌≤◌, inl, inr, Bool, true, false, length, Option, Some, None, ℤ, eq-eqb, eqb-true, refl, sym, ap, ◌∙◌, subst, arith}
use Rattle.std.specs.Prelude.{slice_index}
use Rattle.std.proofs.lemmas.Bool.{cases_lt}
use Rattle.edge_bits.specs.declared.words.Node.{Node}
use Rattle.edge_bits.specs.declared.words.Word.{Word}
use Rattle.edge_bits.specs.declared.words.Word.TheVariants.{Inner, Leaf}
use Rattle.edge_bits.specs.declared.edges.Kind.{Kind}
use Rattle.edge_bits.specs.declared.edges.Kind.TheVariants.{Bdd, Add, Zdd}
use Rattle.edge_bits.specs.Reading.{plain}
use Rattle.function_laws.specs.Kinds.{Denoted, BddFunction, AddFunction, ZddFamily}
use Rattle.node_store.specs.Views.{Is}
use Rattle.node_store.specs.Edges.{flip_if}
use Rattle.node_store.specs.declared.grow.Opened.{Opened}
use Rattle.node_store.specs.declared.grow.Opened.TheVariants as opened
use Rattle.edge_bits.specs.declared.edges.Edge.{Edge}
use Rattle.node_store.specs.ViewLaws.{Is-from}
use Rattle.function_laws.specs.declared.orders.Order.{Order}
use Rattle.function_laws.specs.declared.orders.Order.TheVariants.{Variables, Elements}
use Rattle.function_laws.specs.Sizes.{order_of, in_order}
use Rattle.function_laws.specs.SiftedOrders.{place_of}
use Rattle.node_store.specs.Contents.{Content, IsSound, IsUsed, number_of, var_at, is_node_of, opened_of, view_of}
use Rattle.node_store.specs.Changes.{After, IsLeastFrom}
use Rattle.node_store.proofs.Standing.{stands}
use Rattle.node_store.proofs.SweptSize.{order_is}
use Rattle.node_store.proofs.Tops.{which_of, order_of-which}
use Rattle.dead_sweep.specs.Marks.{rank_of, rank_at, IsDone, Marked}
use Rattle.dead_sweep.proofs.DoneSlots.{same_after}
use Rattle.dead_sweep.proofs.Ranks.{rank_is}

-- a slot in use denotes a function of its kind
pub used_is : (w : Content) → IsSound w → (s : ℕ) → IsUsed w s → (k : Kind) × Is k (view_of w) (plain s)
used_is w sound s u = let d = sound.denotes s u in by_kind d.0 d.1
  where
    by_kind : (f : Denoted) → w.function s ≡ Some f → (k : Kind) × Is k (view_of w) (plain s)
    by_kind (BddFunction f) e = (Bdd, Is-from Bdd {a = view_of w} {e = plain s} {f = f} (record { is = e; beyond = (sound.of_store s Bdd f e).0; fits = (sound.of_store s Bdd f e).1 }))
    by_kind (AddFunction f) e = (Add, Is-from Add {a = view_of w} {e = plain s} {f = f} (record { is = e; beyond = (sound.of_store s Add f e).0; fits = (sound.of_store s Add f e).1 }))
    by_kind (ZddFamily f) e = (Zdd, Is-from Zdd {a = view_of w} {e = plain s} {f = f} (record { is = e; beyond = (sound.of_store s Zdd f e).0; fits = (sound.of_store s Zdd f e).1 }))

module _ (others : (ℕ → ℕ) → (ℕ → ℕ) → Type 0)
    (both : (a b c : ℕ → ℕ) → others a b → others b c → others a c)
    (zero_stays : (a b : ℕ → ℕ) → others a b → (s : ℕ) → a s ≡ 0 → b s ≡ 0) where
  -- where no more is done than before
  pub again : (start v x : Content) (is_root : ℕ → Bool) (rank from rank' from' : ℕ) → After others v x → Marked others start v is_root rank from
      → ((s : ℕ) (word : Word) → start.word s ≡ Some word → IsDone start.orders rank' from' s word → IsDone start.orders rank from s word)
      → ((s : ℕ) (word : Word) → start.word s ≡ Some word → IsDone start.orders rank from s word → IsDone start.orders rank' from' s word)
      → Marked others start x is_root rank' from'
  again start v x is_root rank from rank' from' a m back on = record {
    same = same_after others both zero_stays start v x m.same v.marked a;
    zero_before = m.zero_before;
    fresh = λ s word h undone. m.fresh s word h (λ d. undone (on s word h d));
    reached = λ s h. m.reached s (sym (ap (λ (f : ℕ → Bool). f s) a.marked) ∙ h);
    roots = λ s word h d r. ap (λ (f : ℕ → Bool). f s) a.marked ∙ m.roots s word h (back s word h d) r;
    permanent = λ s word h d p. ap (λ (f : ℕ → Bool). f s) a.marked ∙ m.permanent s word h (back s word h d) p;
    zero_after = λ s word h d r. (let z = m.zero_after s word h (back s word h d) r in (zero_stays v.count x.count a.counts s z.0, ap (λ (f : ℕ → Bool). f s) a.pinned ∙ z.1));
    closed = λ s node h d marked. (let c = m.closed s node h (back s (Inner node) h d) (sym (ap (λ (f : ℕ → Bool). f s) a.marked) ∙ marked) in
        (ap (λ (f : ℕ → Bool). f node.hi) a.marked ∙ c.0, ap (λ (f : ℕ → Bool). f node.lo.index) a.marked ∙ c.1));
  }

module _ (w : Content) (sound : IsSound w) (settled : w.half ≡ None) where
  same_rank : (o p : Order) (i j : ℕ) → i < length (in_order w.orders o) → j < length (in_order w.orders p) → rank_at w.orders o i ≡ rank_at w.orders p j → (o ≡ p) × (i ≡ j)
  same_rank Variables Variables i j hi hj e = (refl, e)
  same_rank Variables Elements i j hi hj e = absurd (omega (arith, e, hi))
  same_rank Elements Variables i j hi hj e = absurd (omega (arith, e, hj))
  same_rank Elements Elements i j hi hj e = (refl, omega (arith, e))

  -- what has the rank of a level is a node of its variable
  pub rank_node : (s : ℕ) (word : Word) → w.word s ≡ Some word → (order : Order) (level : ℕ) → level < length (in_order w.orders order) → rank_of w.orders word ≡ rank_at w.orders order level
      → is_node_of (var_at w order level) (Some word) ≡ true
  rank_node s (Leaf x) h order level lt e = absurd (below order lt e)
    where
      below : (order : Order) → level < length (in_order w.orders order) → length w.orders.variables + length w.orders.elements ≡ rank_at w.orders order level → ⊥
      below Variables lt e = omega (arith, e, lt)
      below Elements lt e = omega (arith, e, lt)
  rank_node s (Inner node) h order level lt e =
      let d = sound.denotes s (Inner node, h) in
      let st = stands w sound settled s node d.0 h d.1 in
      let o = order_is w sound settled d.0 in
      let place = o.stands st.var st.within in
      let inside : place_of st.var (order_of w.orders d.0) < length (in_order w.orders (which_of d.0)) =
      subst (λ x. place_of st.var (order_of w.orders d.0) < length x) (sym (order_of-which w.orders d.0)) place in
      let same = same_rank (which_of d.0) order (place_of st.var (order_of w.orders d.0)) level inside lt (sym (rank_is w sound settled node d.0 st) ∙ e) in
      let var : st.var ≡ slice_index (in_order w.orders order) level =
      sym (o.there st.var st.within) ∙ ap (slice_index (order_of w.orders d.0)) same.1 ∙ ap (λ x. slice_index x level) (sym (order_of-which w.orders d.0)) ∙ ap (λ q. slice_index (in_order w.orders q) level) same.0 in
      let number : node.var ≡ var_at w order level = sym st.numbered ∙ ap (λ q. number_of q st.var) same.0 ∙ ap (number_of order) var in
      eq-eqb node.var (var_at w order level) number

-- what opening a node's slot gives
pub opened_node : (node : Node) (c : Bool) (r : Opened) (v : ℕ) (hi lo : Edge) → c ≡ false → r ≡ opened_of (Inner node) c → r ≡ opened.Inner v hi lo → (hi ≡ plain node.hi) × (lo ≡ node.lo)
opened_node node c r v hi lo plain_edge is arm =
    let e : opened.Inner v hi lo ≡ opened.Inner node.var (plain node.hi) node.lo = sym arm ∙ is ∙ ap (opened_of (Inner node)) plain_edge in (second e, third e)
  where
    second : opened.Inner v hi lo ≡ opened.Inner node.var (plain node.hi) node.lo → hi ≡ plain node.hi
    second e = cc

    third : opened.Inner v hi lo ≡ opened.Inner node.var (plain node.hi) node.lo → lo ≡ node.lo
    third e = cc

pub no_leaf : (node : Node) (c : Bool) (r : Opened) (x : ℤ) → r ≡ opened_of (Inner node) c → r ≡ opened.Leaf x → ⊥
no_leaf node c r x is arm = let e : opened.Leaf x ≡ opened.Inner node.var (flip_if c (plain node.hi)) (flip_if c node.lo) = sym arm ∙ is in never e
  where
    never : opened.Leaf x ≡ opened.Inner node.var (flip_if c (plain node.hi)) (flip_if c node.lo) → ⊥
    never e = cc

-- the parts that opening a node's slot gives
pub slot_parts : (v : Content) (slot : ℕ) (node : Node) (e : Edge) (r : Opened) (x : ℕ) (hi lo : Edge) → v.word slot ≡ Some (Inner node) → e ≡ plain slot
    → ((word : Word) → v.word e.index ≡ Some word → r ≡ opened_of word e.complement) → r ≡ opened.Inner x hi lo → (hi ≡ plain node.hi) × (lo ≡ node.lo)
slot_parts v slot node e r x hi lo word is opens arm =
    opened_node node e.complement r x hi lo (ap (λ (d : Edge). d.complement) is) (opens (Inner node) (ap (λ (d : Edge). v.word d.index) is ∙ word)) arm

pub slot_no_leaf : (v : Content) (slot : ℕ) (node : Node) (e : Edge) (r : Opened) (x : ℤ) → v.word slot ≡ Some (Inner node) → e ≡ plain slot
    → ((word : Word) → v.word e.index ≡ Some word → r ≡ opened_of word e.complement) → r ≡ opened.Leaf x → ⊥
slot_no_leaf v slot node e r x word is opens arm = no_leaf node e.complement r x (opens (Inner node) (ap (λ (d : Edge). v.word d.index) is ∙ word)) arm

pub after_none : (others : (ℕ → ℕ) → (ℕ → ℕ) → Type 0) → ((c : ℕ → ℕ) → others c c) → (v : Content) → IsSound v → After others (record v { marked = v.marked }) v
after_none others none v sound = record {
  orders = refl;
  limit = refl;
  word = refl;
  function = refl;
  generation = refl;
  marked = refl;
  pinned = refl;
  sweeping = refl;
  half = refl;
  counts = none v.count;
  sound = sound;
}

pub node_test : (v : ℕ) (o : Option Word) → is_node_of v o ≡ true → (node : Node) × (o ≡ Some (Inner node))
node_test v None h = cc
node_test v (Some (Leaf x)) h = cc
node_test v (Some (Inner node)) h = (node, refl)

-- what a search found
pub found : (passes : ℕ → Type 0) (w : Content) (from : ℕ) (r : Option ℕ) (slot : ℕ) → IsLeastFrom w passes from r → r ≡ Some slot → (from ≤ slot) × passes slot × ((t : ℕ) → from ≤ t → t < slot → passes t → ⊥)
found passes w from r slot h e = subst (λ o. IsLeastFrom w passes from o) e h

pub not_found : (passes : ℕ → Type 0) (w : Content) (from : ℕ) (r : Option ℕ) → IsLeastFrom w passes from r → ((x : ℕ) → r ≡ Some x → ⊥) → (s : ℕ) → from ≤ s → passes s → ⊥
not_found passes w from None h none = h
not_found passes w from (Some x) h none = absurd (none x refl)

module _ (others : (ℕ → ℕ) → (ℕ → ℕ) → Type 0)
    (both : (a b c : ℕ → ℕ) → others a b → others b c → others a c)
    (zero_stays : (a b : ℕ → ℕ) → others a b → (s : ℕ) → a s ≡ 0 → b s ≡ 0)
    (start v x : Content) (is_root : ℕ → Bool) (order : Order) (level from : ℕ) (sound : IsSound start) (settled : start.half ≡ None) (within : level < length (in_order start.orders order))
    (a : After others v x) (m : Marked others start v is_root (rank_at start.orders order level) from) where
  at_level : (s : ℕ) (word : Word) → start.word s ≡ Some word → rank_of start.orders word ≡ rank_at start.orders order level → is_node_of (var_at v order level) (v.word s) ≡ true
  at_level s word h e =
      ap (λ o. is_node_of (number_of order (slice_index (in_order o order) level)) (v.word s)) m.same.orders
      ∙ ap (is_node_of (var_at start order level)) (ap (λ (f : ℕ → Option Word). f s) m.same.word ∙ h) ∙ rank_node start sound settled s word h order level within e

  pub level_next : (slot : ℕ) → from ≤ slot → ((t : ℕ) → from ≤ t → t < slot → is_node_of (var_at v order level) (v.word t) ≡ true → ⊥) → Marked others start x is_root (rank_at start.orders order level) slot
  level_next slot le none =
      again others both zero_stays start v x is_root (rank_at start.orders order level) from (rank_at start.orders order level) slot a m
      (λ s word h d. elim d [
        | inl lt ↦ inl lt
        | inr (e, lt) ↦ elim (cases_lt s from) [ inl early ↦ inr (e, early) | inr late ↦ absurd (none s late lt (at_level s word h e)) ]
      ])
      (λ s word h d. elim d [ inl lt ↦ inl lt | inr (e, lt) ↦ inr (e, omega (arith, lt, le)) ])

  pub level_end : ((t : ℕ) → from ≤ t → is_node_of (var_at v order level) (v.word t) ≡ true → ⊥) → Marked others start x is_root (rank_at start.orders order level + 1) 0
  level_end none =
      again others both zero_stays start v x is_root (rank_at start.orders order level) from (rank_at start.orders order level + 1) 0 a m
      (λ s word h d. elim d [
        | inr (e, lt) ↦ absurd (omega (arith, lt))
        | inl lt ↦ elim (cases_lt (rank_of start.orders word) (rank_at start.orders order level)) [
          | inl less ↦ inl less
          | inr le ↦ (
              let e : rank_of start.orders word ≡ rank_at start.orders order level = omega (arith, lt, le) in
              elim (cases_lt s from) [ inl early ↦ inr (e, early) | inr late ↦ absurd (none s late (at_level s word h e)) ])
        ]
      ])
      (λ s word h d. elim d [ inl lt ↦ inl (omega (arith, lt)) | inr (e, lt) ↦ inl (omega (arith, e)) ])

-- one after another
pub marks_both : (others : (ℕ → ℕ) → (ℕ → ℕ) → Type 0) → ((a b c : ℕ → ℕ) → others a b → others b c → others a c)
    → (u v x y : Content) → After others (record u { marked = v.marked }) v → After others v x → After others (record x { marked = y.marked }) y → After others (record u { marked = y.marked }) y
marks_both others both u v x y a b c = record {
  orders = c.orders ∙ b.orders ∙ a.orders;
  limit = c.limit ∙ b.limit ∙ a.limit;
  word = c.word ∙ b.word ∙ a.word;
  function = c.function ∙ b.function ∙ a.function;
  generation = c.generation ∙ b.generation ∙ a.generation;
  marked = refl;
  pinned = c.pinned ∙ b.pinned ∙ a.pinned;
  sweeping = c.sweeping ∙ b.sweeping ∙ a.sweeping;
  half = c.half ∙ b.half ∙ a.half;
  counts = both u.count x.count y.count (both u.count v.count x.count a.counts b.counts) c.counts;
  sound = c.sound;
}

pub marks_then : (others : (ℕ → ℕ) → (ℕ → ℕ) → Type 0) → ((a b c : ℕ → ℕ) → others a b → others b c → others a c)
    → (u v x : Content) → After others (record u { marked = v.marked }) v → After others v x → After others (record u { marked = x.marked }) x
marks_then others both u v x a b = record {
  orders = b.orders ∙ a.orders;
  limit = b.limit ∙ a.limit;
  word = b.word ∙ a.word;
  function = b.function ∙ a.function;
  generation = b.generation ∙ a.generation;
  marked = refl;
  pinned = b.pinned ∙ a.pinned;
  sweeping = b.sweeping ∙ a.sweeping;
  half = b.half ∙ a.half;
  counts = both u.count v.count x.count a.counts b.counts;
  sound = b.sound;
}

pub node_number : (v : ℕ) (o : Option Word) (node : Node) → is_node_of v o ≡ true → o ≡ Some (Inner node) → node.var ≡ v
node_number v o node h e = eqb-true node.var v (ap (is_node_of v) (sym e) ∙ h)
