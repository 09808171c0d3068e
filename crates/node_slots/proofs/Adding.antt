-- A store with one word more.
use Rattle.std.proofs.Common.{◌≡◌, ◌≢◌, ℕ, zero, suc, ◌+◌, ◌<◌, ◌≤◌, inl, inr, Bool, true, false, ◌&&◌, nat_le, length, set, Option, Some, None, ℤ, refl, ap, sym, ◌∙◌, subst, arith}
use Rattle.std.proofs.lemmas.Bool.{cases_eq}
use Rattle.std.proofs.lemmas.List.{get_or-set_same, get_or-set_other, length-set}
use Rattle.edge_bits.specs.declared.edges.Edge.{Edge}
use Rattle.edge_bits.specs.declared.edges.Kind.{Kind}
use Rattle.edge_bits.specs.declared.edges.Kind.TheVariants.{Add}
use Rattle.edge_bits.specs.declared.words.Node.{Node}
use Rattle.edge_bits.specs.declared.words.Word.{Word}
use Rattle.edge_bits.specs.declared.words.Word.TheVariants.{Inner, Leaf}
use Rattle.edge_bits.specs.Words.{unpack_of}
use Rattle.edge_bits.specs.Reading.{plain}
use Rattle.function_laws.specs.Values.{constant}
use Rattle.function_laws.specs.Numbers.{is_value}
use Rattle.function_laws.specs.Kinds.{Denoted, AddFunction, function_of, joined_at, Lacks}
use Rattle.node_store.specs.Views.{View, IsBelow, CanMake, Grown, values_at, node_values, IsLeafOf, number}
use Rattle.node_store.specs.ViewLaws.{Is-grown, values_at-grown, IsBelow-grown, IsVariable-grown, IsVariable-back, levels-grown}
use Rattle.node_store.proofs.TwoParts.{Lacks-leaf}
use Rattle.node_store.proofs.MemoLaws.{Carries-grown, MemoHolds-carried}
use Rattle.node_slots.specs.Slots.{word_function, function_at_most}
use Rattle.node_store.specs.Contents.{is_used}
use Rattle.node_slots.specs.Stores.{Plain, slots, longest, content_of, top_of_word, top_in, plain_view, IsNode, IsStore}
use Rattle.node_slots.proofs.Reading.{was_refused, at_word, function-more, used}
use Rattle.node_store.proofs.Parting.{depends, top_once, same_parts}
use Rattle.node_slots.proofs.Solving.{content_node}
use Rattle.node_slots.proofs.Holding.{written_holds}
use Rattle.node_slots.proofs.Canonical.{leaf_or_node, same_edge}

pub CanMake-grown : (k : Kind) {a b : View} {v : ℕ} {hi lo : Edge} → Grown a b → CanMake k a v hi lo → CanMake k b v hi lo
CanMake-grown k {a} {b} {v} {hi} {lo} g c = record {
  in_range = IsVariable-grown k g v c.in_range;
  hi_is = Is-grown k g c.hi_is;
  lo_is = Is-grown k g c.lo_is;
  hi_below = rw (values_at-grown k g c.hi_is) (IsBelow-grown k v (values_at k a hi) g c.hi_below);
  lo_below = rw (values_at-grown k g c.lo_is) (IsBelow-grown k v (values_at k a lo) g c.lo_below);
}

pub node_values-grown : (k : Kind) {a b : View} {v : ℕ} {hi lo : Edge} → Grown a b → CanMake k a v hi lo → node_values k b v hi lo ≡ node_values k a v hi lo
node_values-grown k g c = rw (values_at-grown k g c.hi_is, values_at-grown k g c.lo_is) refl

-- the store with these bits in a slot
abbrev pub written : Plain → ℕ → ℕ → Plain
written p i bits = record p { words = set p.words i bits }

module _ (p : Plain) (i bits : ℕ) (word : Word) (within : i < length p.words) (reads : unpack_of bits ≡ Some word) (free : slots p i ≡ None) where
  pub slot-here : slots (written p i bits) i ≡ Some word
  slot-here = ap unpack_of (get_or-set_same p.words i bits 0 within) ∙ reads

  pub slot-other : (t : ℕ) → t ≢ i → slots (written p i bits) t ≡ slots p t
  slot-other t ne = ap unpack_of (get_or-set_other p.words i t bits 0 ne)

  pub extends : (t : ℕ) (x : Word) → slots p t ≡ Some x → slots (written p i bits) t ≡ Some x
  extends t x is = elim (cases_eq t i) [
    | inl e ↦ (let f : None ≡ Some x = sym free ∙ ap (slots p) (sym e) ∙ is in cc)
    | inr ne ↦ slot-other t ne ∙ is
  ]

  content-grown : (s : ℕ) (f : Denoted) → content_of p s ≡ Some f → content_of (written p i bits) s ≡ Some f
  content-grown s f h = function-more (slots p) (slots (written p i bits)) extends (suc (longest p)) (suc (longest p)) (omega arith) s f h

  top-grown : (s : ℕ) (f : Denoted) → content_of p s ≡ Some f → top_in (written p i bits) s ≡ top_in p s
  top-grown zero f h = refl
  top-grown (suc zero) f h = refl
  top-grown (suc (suc zero)) f h = refl
  top-grown (suc (suc (suc s))) f h =
      let u = used (slots p) (longest p) (suc (suc (suc s))) f (omega arith) h in
      ap (top_of_word p) (extends (suc (suc (suc s))) u.0 u.1 ∙ sym u.1)

  made-grown : (s : ℕ) → (nat_le (5 + length p.variable_levels) s && is_used (slots p s)) ≡ true → (nat_le (5 + length p.variable_levels) s && is_used (slots (written p i bits) s)) ≡ true
  made-grown s h = by_test (nat_le (5 + length p.variable_levels) s) (slots p s) refl h
    where
      by_test : (b : Bool) (o : Option Word) → slots p s ≡ o → (b && is_used o) ≡ true → (b && is_used (slots (written p i bits) s)) ≡ true
      by_test false o is h = h
      by_test true None is h = cc
      by_test true (Some x) is h = ap is_used (extends s x is)

  pub written-grown : Grown (plain_view p) (plain_view (written p i bits))
  written-grown = record {
    vars = refl;
    elements = refl;
    slots = length-set p.words i bits;
    level = refl;
    content = content-grown;
    top = top-grown;
    made = made-grown;
    fulls = omega arith;
    counts = refl;
    generations = refl;
    holds = refl;
    wants = λ h. h;
  }

  pub IsNode-grown : (k : Kind) (node : Node) → IsNode k p node → IsNode k (written p i bits) node
  unfolding written-grown
  IsNode-grown k node n =
      let g = written-grown in
      let c = n.can_make in
      let w = plain_view p in
      let same = values_at-grown k g c.hi_is in
      record {
        can_make = CanMake-grown k g c;
        proper = rw (same, values_at-grown k g c.lo_is) n.proper;
        regular = rw same n.regular;
      }

  -- what is asked of the word
  module _ (st : IsStore p) (f : Denoted) (here : content_of (written p i bits) i ≡ Some f) (fresh : (t : ℕ) → content_of p t ≡ Some f → ⊥)
      (node_is : (node : Node) → word ≡ Inner node → (k : Kind) × IsNode k p node) (leaf_is : (x : ℤ) → word ≡ Leaf x → is_value x ≡ true) where
    back-some : (t : ℕ) (g : Denoted) → 3 ≤ t → (x : Word) → slots p t ≡ Some x → (h : Denoted) × (content_of p t ≡ Some h)
    back-some t g le (Leaf x) is = (AddFunction (constant x), at_word (slots p) (longest p) t le ∙ ap (word_function (function_at_most (slots p) (longest p))) is)
    back-some t g le (Inner node) is =
        let n = st.canonical.nodes t node is in
        (function_of n.0 (node_values n.0 (plain_view p) node.var (plain node.hi) node.lo), content_node p st.canonical n.0 t node is le n.1)

    back-other : (t : ℕ) (g : Denoted) → t ≢ i → 3 ≤ t → content_of (written p i bits) t ≡ Some g → content_of p t ≡ Some g
    back-other t g ne le h =
        let u = used (slots (written p i bits)) (longest p) t g le h in
        let x = back-some t g le u.0 (sym (slot-other t ne) ∙ u.1) in
        let e : Some x.0 ≡ Some g = sym (content-grown t x.0 x.1) ∙ h in
        x.1 ∙ e

    -- what another slot denotes it denoted before
    back : (t : ℕ) (g : Denoted) → t ≢ i → content_of (written p i bits) t ≡ Some g → content_of p t ≡ Some g
    unfolding function_at_most
    back zero g ne h = h
    back (suc zero) g ne h = h
    back (suc (suc zero)) g ne h = h
    back (suc (suc (suc t))) g ne h = back-other (suc (suc (suc t))) g ne (omega arith) h

    clash : (t : ℕ) (g : Denoted) → t ≢ i → content_of (written p i bits) i ≡ Some g → content_of (written p i bits) t ≡ Some g → ⊥
    clash t g ne hi ht = fresh t (back t g ne ht ∙ sym hi ∙ here)

    nodes-more : (s : ℕ) (node : Node) → slots (written p i bits) s ≡ Some (Inner node) → (k : Kind) × IsNode k (written p i bits) node
    nodes-more s node is = elim (cases_eq s i) [
      | inl e ↦ (
          let same : Some word ≡ Some (Inner node) = sym slot-here ∙ ap (slots (written p i bits)) (sym e) ∙ is in
          let n = node_is node cc in (n.0, IsNode-grown n.0 node n.1))
      | inr ne ↦ (let n = st.canonical.nodes s node (sym (slot-other s ne) ∙ is) in (n.0, IsNode-grown n.0 node n.1))
    ]

    leaves-more : (s : ℕ) (x : ℤ) → slots (written p i bits) s ≡ Some (Leaf x) → is_value x ≡ true
    leaves-more s x is = elim (cases_eq s i) [
      | inl e ↦ (
          let same : Some word ≡ Some (Leaf x) = sym slot-here ∙ ap (slots (written p i bits)) (sym e) ∙ is in
          leaf_is x cc)
      | inr ne ↦ st.canonical.leaves s x (sym (slot-other s ne) ∙ is)
    ]

    apart-more : (s t : ℕ) (g : Denoted) → content_of (written p i bits) s ≡ Some g → content_of (written p i bits) t ≡ Some g → s ≡ t
    apart-more s t g hs ht = elim (cases_eq s i) [
      | inl es ↦ elim (cases_eq t i) [
        | inl et ↦ es ∙ sym et
        | inr nt ↦ absurd (clash t g nt (ap (content_of (written p i bits)) (sym es) ∙ hs) ht)
      ]
      | inr ns ↦ elim (cases_eq t i) [
        | inl et ↦ absurd (clash s g ns (ap (content_of (written p i bits)) (sym et) ∙ ht) hs)
        | inr nt ↦ st.canonical.apart s t g (back s g ns hs) (back t g nt ht)
      ]
    ]

    was_free : (s : ℕ) → slots (written p i bits) s ≡ None → slots p s ≡ None
    was_free s none = elim (cases_eq s i) [
      | inl e ↦ absurd (let x : None ≡ Some word = sym none ∙ ap (slots (written p i bits)) e ∙ slot-here in cc)
      | inr ne ↦ sym (slot-other s ne) ∙ none
    ]

    -- the store is canonical again
    pub IsStore-written : IsStore (written p i bits)
    IsStore-written = record {
      ordered = record {
        within = λ k v vn. rw (levels-grown k written-grown) (st.ordered.within k v (IsVariable-back k written-grown v vn));
        alone = λ k u v un vn e. st.ordered.alone k u v (IsVariable-back k written-grown u un) (IsVariable-back k written-grown v vn) e;
      };
      permanent = record {
        constants = λ s lt. extends s _ (st.permanent.constants s lt);
        projections = λ v lt. extends (5 + v) _ (st.permanent.projections v lt);
      };
      canonical = record { nodes = nodes-more; leaves = leaves-more; apart = apart-more };
      variables_stand = st.variables_stand;
      elements_stand = st.elements_stand;
      few_variables = st.few_variables;
      few_elements = st.few_elements;
      room = rw (length-set {A = ℕ}) st.room;
      few_words = rw (length-set {A = ℕ}) st.few_words;
      holds = written_holds p st.holds (set p.words i bits) (length-set p.words i bits) was_free;
      refused = λ r is t below none. absurd (st.refused r is i within free);
      missing = λ f due. absurd (let r = was_refused (content_of (written p i bits)) p.due f due in st.refused r.0 r.1 i within free);
      remembered = λ j kept h. MemoHolds-carried (Carries-grown written-grown) kept.key kept.edge tt tt tt tt (st.remembered j kept h);
    }

-- a slot of the function of a node holds the node
pub slot_of_node : (p : Plain) → IsStore p → (k : Kind) (node : Node) → IsNode k p node → (t : ℕ)
    → content_of p t ≡ Some (function_of k (node_values k (plain_view p) node.var (plain node.hi) node.lo)) → slots p t ≡ Some (Inner node)
slot_of_node p st k node n t h =
    let w = plain_view p in let c = n.can_make in
    let f = node_values k w node.var (plain node.hi) node.lo in
    let high = values_at k w (plain node.hi) in let low = values_at k w node.lo in
    elim (leaf_or_node p st.permanent st.canonical k t f h) [
      | inl l ↦ absurd (depends k node.var high low (c.hi_below node.var c.in_range (omega arith)) (c.lo_below node.var c.in_range (omega arith)) n.proper
          (Lacks-leaf k (plain t) f l.value l.leaf node.var))
      | inr m ↦ (
          let d = m.is_node.can_make in let other = m.node in
          let high2 = values_at k w (plain other.hi) in let low2 = values_at k w other.lo in
          let var : node.var ≡ other.var = top_once k w (st.ordered.alone k) node.var other.var high low high2 low2 c.in_range d.in_range c.hi_below c.lo_below n.proper d.hi_below d.lo_below m.is_node.proper m.is in
          let halves = same_parts k other.var high low high2 low2
          (subst (λ v. IsBelow k w v high) var c.hi_below other.var d.in_range (omega arith)) (subst (λ v. IsBelow k w v low) var c.lo_below other.var d.in_range (omega arith))
          (d.hi_below other.var d.in_range (omega arith)) (d.lo_below other.var d.in_range (omega arith)) (subst (λ v. joined_at k v high low ≡ joined_at k other.var high2 low2) var m.is) in
          let hi = same_edge p st.permanent st.canonical (plain other.hi) (plain node.hi) (function_of k high2) d.hi_is.is (c.hi_is.is ∙ ap (λ x. Some (function_of k x)) halves.0) in
          let lo = same_edge p st.permanent st.canonical other.lo node.lo (function_of k low2) d.lo_is.is (c.lo_is.is ∙ ap (λ x. Some (function_of k x)) halves.1) in
          m.word ∙ ap (λ x. Some (Inner x)) (same_node other node (sym var) (ap (λ (x : Edge). x.index) hi) lo))
    ]
  where
    same_node : (a b : Node) → a.var ≡ b.var → a.hi ≡ b.hi → a.lo ≡ b.lo → a ≡ b
    same_node a b ev eh el =
        let mk : ℕ → ℕ → Edge → Node = λ v h l. record { var = v; hi = h; lo = l } in
        ap (λ v. mk v a.hi a.lo) ev ∙ ap (λ h. mk b.var h a.lo) eh ∙ ap (λ l. mk b.var b.hi l) el

leaf_high : (p : Plain) (x : ℤ) (t : ℕ) → content_of p t ≡ Some (AddFunction (constant x)) → 3 ≤ t
unfolding function_at_most
leaf_high p x zero h = cc
leaf_high p x (suc zero) h = cc
leaf_high p x (suc (suc zero)) h = cc
leaf_high p x (suc (suc (suc t))) h = omega arith

-- a slot of the function of a leaf holds the leaf
pub slot_of_leaf : (p : Plain) → IsStore p → (x : ℤ) (t : ℕ) → content_of p t ≡ Some (AddFunction (constant x)) → slots p t ≡ Some (Leaf x) × (3 ≤ t)
slot_of_leaf p st x t h = elim (leaf_or_node p st.permanent st.canonical Add t (constant x) h) [
  | inl l ↦ (l.word ∙ ap (λ y. Some (Leaf y)) (leaf_value (plain t) (constant x) l.value l.leaf 0), leaf_high p x t h)
  | inr m ↦ (
      let d = m.is_node.can_make in let n = m.node in let w = plain_view p in
      let vn = d.in_range in
      absurd (depends Add n.var (values_at Add w (plain n.hi)) (values_at Add w n.lo) (d.hi_below n.var vn (omega arith)) (d.lo_below n.var vn (omega arith)) m.is_node.proper
      (subst (λ f. Lacks Add f n.var) m.is (λ k b. refl))))
]
  where
    leaf_value : (e : Edge) (f : ℕ → ℤ) (y : ℤ) → IsLeafOf Add e f y → (k : ℕ) → y ≡ f k
    leaf_value _ _ _ (number e y) k = refl
