-- A store whose orders are exchanged at a level is sound where no function of an upper node depends on the lower variable.
use Rattle.std.proofs.Common.{◌≡◌, ℕ, ◌+◌, ◌<◌, ◌⊎◌, inl, inr, length, Option, Some, None, refl, sym, ap, ◌∙◌, subst, arith}
use Rattle.std.specs.Prelude.{slice_index}
use Rattle.std.specs.List.{swap}
use Rattle.std.proofs.lemmas.List.Edits.{length-swap}
use Rattle.edge_bits.specs.declared.edges.Kind.{Kind}
use Rattle.edge_bits.specs.declared.edges.Kind.TheVariants.{Bdd, Add, Zdd}
use Rattle.edge_bits.specs.declared.words.Node.{Node}
use Rattle.edge_bits.specs.declared.words.Word.TheVariants.{Inner}
use Rattle.function_laws.specs.Kinds.{Denoted, ValueOf, function_of, joined_at, Lacks}
use Rattle.node_store.specs.Views.{IsVariable, IsBeyond}
use Rattle.function_laws.specs.declared.orders.Order.{Order}
use Rattle.function_laws.specs.declared.orders.Order.TheVariants.{Variables, Elements}
use Rattle.function_laws.specs.Sizes.{in_order}
use Rattle.function_laws.specs.SiftedOrders.{place_of}
use Rattle.function_laws.proofs.LackingParts.{own}
use Rattle.node_store.specs.Contents.{Content, Pair, IsSound, IsNodeOf, IsOrder, IsHalf, number_of, level_of, var_at, view_of}
use Rattle.node_store.specs.Changes.{CanExchange, exchanged}
use Rattle.node_store.proofs.Parting.{same_kind}
use Rattle.node_store.proofs.Ordering.{order_at, level-own, own-within, orders_are}
use Rattle.node_store.proofs.Exchange.{exchange_place, exchanged_order, new_place, upper, lower, apart, case_of}

module _ (w : Content) (sound : IsSound w) (which : Order) (l : ℕ) (can : CanExchange w which l) where
  abbrev new : Content
  new = record w { orders = exchanged w.orders which l; half = None }

  lengths_at : (o : Order) → (length (exchanged w.orders o l).variables ≡ length w.orders.variables) × (length (exchanged w.orders o l).elements ≡ length w.orders.elements)
  lengths_at Variables = (length-swap w.orders.variables l (l + 1), refl)
  lengths_at Elements = (refl, length-swap w.orders.elements l (l + 1))

  variables_long : length new.orders.variables ≡ length w.orders.variables
  variables_long = (lengths_at which).0

  elements_long : length new.orders.elements ≡ length w.orders.elements
  elements_long = (lengths_at which).1

  to_new : (k : Kind) (v : ℕ) → IsVariable k (view_of w) v → IsVariable k (view_of new) v
  to_new Bdd v h = (h.0, rw variables_long h.1)
  to_new Add v h = (h.0, rw variables_long h.1)
  to_new Zdd v h = (h.0, rw elements_long h.1)

  from_new : (k : Kind) (v : ℕ) → IsVariable k (view_of new) v → IsVariable k (view_of w) v
  from_new Bdd v h = (h.0, rw (sym variables_long) h.1)
  from_new Add v h = (h.0, rw (sym variables_long) h.1)
  from_new Zdd v h = (h.0, rw (sym elements_long) h.1)

  beyond_from : (k : Kind) (v : ℕ) → IsBeyond k (view_of new) v → IsBeyond k (view_of w) v
  beyond_from Bdd v h = rw (sym variables_long) h
  beyond_from Add v h = rw (sym variables_long) h
  beyond_from Zdd v h = rw (sym elements_long) h

  -- a kind stands in the order that is exchanged, or in the other
  record Moved (k : Kind) (o : Order) : Type 0 where
    order : order_at k (exchanged w.orders o l) ≡ swap (order_at k w.orders) l (l + 1)
    same : in_order w.orders o ≡ order_at k w.orders
    number : (x : ℕ) → own k (number_of o x) ≡ x
    back : (v : ℕ) → IsVariable k (view_of w) v → number_of o (own k v) ≡ v

  record Still (k : Kind) (o : Order) : Type 0 where
    order : order_at k (exchanged w.orders o l) ≡ order_at k w.orders
    never : (v x : ℕ) → IsVariable k (view_of w) v → x < length (in_order w.orders o) → v ≡ number_of o x → ⊥

  kind_in : (k : Kind) (o : Order) → Moved k o ⊎ Still k o
  kind_in Bdd Variables = inl (record { order = refl; same = refl; number = λ x. refl; back = λ v h. refl })
  kind_in Add Variables = inl (record { order = refl; same = refl; number = λ x. refl; back = λ v h. refl })
  kind_in Zdd Variables = inr (record { order = refl; never = λ v x h lt e. let a = h.0 in let b = sound.few_variables in omega (arith, e) })
  kind_in Bdd Elements = inr (record { order = refl; never = λ v x h lt e. let a = h.0 in omega (arith, e) })
  kind_in Add Elements = inr (record { order = refl; never = λ v x h lt e. let a = h.0 in omega (arith, e) })
  kind_in Zdd Elements = inl (record { order = refl; same = refl; number = λ x. omega arith; back = λ v h. let a = h.0 in omega arith })

  level_moved : (k : Kind) (u : ℕ) → Moved k which → IsVariable k (view_of w) u → level_of new.orders u ≡ exchange_place l (level_of w.orders u)
  level_moved k u m hu =
      level-own k new u (to_new k u hu) ∙ ap (place_of (own k u)) m.order
      ∙ new_place (order_at k w.orders) l (orders_are w sound k) (subst (λ x. l + 1 < length x) m.same can.within) (own k u) (own-within k w u hu)
      ∙ ap (exchange_place l) (sym (level-own k w u hu))

  level_still : (k : Kind) (u : ℕ) → Still k which → IsVariable k (view_of w) u → level_of new.orders u ≡ level_of w.orders u
  level_still k u m hu = level-own k new u (to_new k u hu) ∙ ap (place_of (own k u)) m.order ∙ sym (level-own k w u hu)

  -- the level of the variable at a level
  level_at : (k : Kind) (u i : ℕ) → Moved k which → IsVariable k (view_of w) u → i < length (in_order w.orders which) → level_of w.orders u ≡ i → u ≡ var_at w which i
  level_at k u i m hu lt e =
      let o = orders_are w sound k in
      let place : place_of (own k u) (order_at k w.orders) ≡ i = sym (level-own k w u hu) ∙ e in
      sym (m.back u hu) ∙ ap (number_of which) (sym (o.there (own k u) (own-within k w u hu)) ∙ ap (slice_index (order_at k w.orders)) place ∙ ap (λ x. slice_index x i) (sym m.same))

  at_level : (k : Kind) (u i : ℕ) → Moved k which → IsVariable k (view_of w) u → i < length (in_order w.orders which) → u ≡ var_at w which i → level_of w.orders u ≡ i
  at_level k u i m hu lt e =
      let o = orders_are w sound k in
      let own_is : own k u ≡ slice_index (order_at k w.orders) i = ap (own k) e ∙ m.number (slice_index (in_order w.orders which) i) ∙ ap (λ x. slice_index x i) m.same in
      level-own k w u hu ∙ ap (λ x. place_of x (order_at k w.orders)) own_is ∙ o.once i (subst (λ x. i < length x) m.same lt)

  which_order : IsOrder (in_order w.orders which)
  which_order = at which
    where
      at : (o : Order) → IsOrder (in_order w.orders o)
      at Variables = sound.variables
      at Elements = sound.elements

  upper_of : Option Pair → ℕ
  upper_of None = 0
  upper_of (Some p) = p.upper

  lower_of : Option Pair → ℕ
  lower_of None = 0
  lower_of (Some p) = p.lower

  half_is : (u z : ℕ) → IsHalf w u z → (u ≡ var_at w which l) × (z ≡ var_at w which (l + 1))
  unfolding upper_of lower_of
  half_is u z h = elim can.half [
    | inl none ↦ (let c : ◌≡◌ {A = Option Pair} None (Some (record { upper = u; lower = z })) = sym none ∙ h in cc)
    | inr same ↦ (ap upper_of (sym h ∙ same), ap lower_of (sym h ∙ same))
  ]

  node_kind : (s : ℕ) (node : Node) (k : Kind) (f : ℕ → ValueOf k) → w.word s ≡ Some (Inner node) → w.function s ≡ Some (function_of k f) → IsVariable k (view_of w) node.var
  node_kind s node k f word is =
      let n = sound.nodes s node (function_of k f) word is in
      subst (λ x. IsVariable x (view_of w) node.var) (sym (same_kind k n.kind f (joined_at n.kind node.var n.high n.low) n.is)) n.in_range

  lacks_above : (s : ℕ) (node : Node) (k : Kind) (f : ℕ → ValueOf k) → w.word s ≡ Some (Inner node) → w.function s ≡ Some (function_of k f)
      → (u : ℕ) → IsVariable k (view_of w) u → level_of new.orders u < level_of new.orders node.var → Lacks k f u
  lacks_above s node k f word is u hu lt = at (kind_in k which)
    where
      hn : IsVariable k (view_of w) node.var
      hn = node_kind s node k f word is

      old : level_of w.orders u < level_of w.orders node.var → (IsHalf w u node.var → ⊥) → Lacks k f u
      old less whole = elim (sound.ordered s node k f word is u hu less) [ inl lacks ↦ lacks | inr h ↦ absurd (whole h) ]

      crossed : Moved k which → level_of w.orders u ≡ l + 1 → level_of w.orders node.var ≡ l → Lacks k f u
      crossed m a b =
          let u_is = level_at k u (l + 1) m hu can.within a in
          let v_is = level_at k node.var l m hn (let x = can.within in omega arith) b in
          subst (Lacks k f) (sym u_is) (can.lacks s node k f word v_is is)

      at : Moved k which ⊎ Still k which → Lacks k f u
      at (inr m) = old (let a = level_still k u m hu in let b = level_still k node.var m hn in omega (arith, a, b, lt))
          (λ h. m.never node.var (slice_index (in_order w.orders which) (l + 1)) hn (which_order.below (l + 1) can.within) (half_is u node.var h).1)
      at (inl m) =
          let a = level_moved k u m hu in
          let b = level_moved k node.var m hn in
          let moved : exchange_place l (level_of w.orders u) < exchange_place l (level_of w.orders node.var) = omega (arith, a, b, lt) in
          elim (case_of l (level_of w.orders u)) [
            | upper e p ↦ elim (case_of l (level_of w.orders node.var)) [
              | upper f q ↦ absurd (omega (arith, p, q, moved))
              | lower f q ↦ absurd (omega (arith, p, q, moved))
              | apart c d q ↦ old (omega (arith, e, p, q, moved)) (λ h. d (at_level k node.var (l + 1) m hn can.within (half_is u node.var h).1))
            ]
            | lower e p ↦ elim (case_of l (level_of w.orders node.var)) [
              | upper f q ↦ crossed m e f
              | lower f q ↦ absurd (omega (arith, p, q, moved))
              | apart c d q ↦ old (omega (arith, e, p, q, moved, c, d)) (λ h. d (at_level k node.var (l + 1) m hn can.within (half_is u node.var h).1))
            ]
            | apart c d p ↦ elim (case_of l (level_of w.orders node.var)) [
              | upper f q ↦ old (omega (arith, f, p, q, moved, c, d)) (λ h. c (at_level k u l m hu (let x = can.within in omega arith) (half_is u node.var h).0))
              | lower f q ↦ old (omega (arith, f, p, q, moved)) (λ h. c (at_level k u l m hu (let x = can.within in omega arith) (half_is u node.var h).0))
              | apart g h q ↦ old (omega (arith, p, q, moved)) (λ x. c (at_level k u l m hu (let y = can.within in omega arith) (half_is u node.var x).0))
            ]
          ]

  order_after : (o : Order) → IsOrder (in_order w.orders which) → (IsOrder (exchanged w.orders which l).variables) × IsOrder (exchanged w.orders which l).elements
  order_after o h = at which h can.within
    where
      at : (q : Order) → IsOrder (in_order w.orders q) → l + 1 < length (in_order w.orders q) → (IsOrder (exchanged w.orders q l).variables) × IsOrder (exchanged w.orders q l).elements
      at Variables is lt = (exchanged_order w.orders.variables l is lt, sound.elements)
      at Elements is lt = (sound.variables, exchanged_order w.orders.elements l is lt)

  node_after : (node : Node) (f : Denoted) → IsNodeOf w node f → IsNodeOf new node f
  node_after node f h = record {
    kind = h.kind;
    high = h.high;
    low = h.low;
    in_range = to_new h.kind node.var h.in_range;
    high_is = h.high_is;
    low_is = h.low_is;
    is = h.is;
    high_lacks = h.high_lacks;
    low_lacks = h.low_lacks;
    proper = h.proper;
  }

  pub exchanged_sound : IsSound new
  exchanged_sound = record {
    variables = (order_after which which_order).0;
    elements = (order_after which which_order).1;
    few_variables = (let f = sound.few_variables in let e = variables_long in omega (arith, f, e));
    few_elements = (let f = sound.few_elements in let e = elements_long in omega (arith, f, e));
    within = sound.within;
    few_slots = sound.few_slots;
    denotes = sound.denotes;
    used = sound.used;
    constants = sound.constants;
    logic_one = sound.logic_one;
    empty_family = sound.empty_family;
    base_family = sound.base_family;
    projections = λ v lt. sound.projections v (let e = variables_long in omega (arith, e, lt));
    nodes = λ s node f word is. node_after node f (sound.nodes s node f word is);
    leaves = sound.leaves;
    apart = sound.apart;
    regular = λ s f is k all. sound.regular s f is k (λ v lt. all v (let e = variables_long in omega (arith, e, lt)));
    of_store = λ s k f is. let o = sound.of_store s k f is in ((λ v b. o.0 v (beyond_from k v b)), o.1);
    ordered = λ s node k f word is u hu lt. inl (lacks_above s node k f word is u (from_new k u hu) lt);
    few_counts = sound.few_counts;
    uncounted = sound.uncounted;
    unpinned = sound.unpinned;
  }
