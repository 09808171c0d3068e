-- What the calls that store a node or a leaf leave.
use Rattle.std.proofs.Common.{◌≡◌, ◌≢◌, ℕ, ◌+◌, ◌<◌, ◌≤◌, ◌⊎◌, inl, inr, Bool, true, false, not, ◌&&◌, nat_le, List, length, Option, Some, None, ℤ, refl, ap, sym, ◌∙◌, subst, arith}
use Rattle.std.proofs.lemmas.Bool.{cases_lt, cases_eq}
use Rattle.std.proofs.lemmas.List.{get_or-set_other}
use Rattle.edge_bits.specs.declared.edges.Edge.{Edge}
use Rattle.edge_bits.specs.declared.edges.Kind.{Kind}
use Rattle.edge_bits.specs.declared.edges.Kind.TheVariants.{Bdd, Add, Zdd}
use Rattle.edge_bits.specs.declared.words.Node.{Node}
use Rattle.edge_bits.specs.declared.words.Word.TheVariants.{Inner, Leaf}
use Rattle.edge_bits.specs.Words.{unpack_of}
use Rattle.edge_bits.specs.Reading.{plain, element_of}
use Rattle.function_laws.specs.Values.{constant, negation, choice}
use Rattle.function_laws.specs.Numbers.{is_value}
use Rattle.function_laws.specs.Families.{empty, joined}
use Rattle.function_laws.proofs.ValueLemmas.{everywhere, place_one, choice-same}
use Rattle.function_laws.specs.Kinds.{Denoted, BddFunction, AddFunction, ZddFamily, ValueOf, function_of, flipped}
use Rattle.node_store.specs.KindLaws.{joined-absent}
use Rattle.node_store.specs.Edges.{flip_if}
use Rattle.node_store.specs.Views.{View, IsBelow, IsProper, CanMake, Grown, Denotes, function_at, values_at, node_values, Kept}
use Rattle.edge_bits.specs.Permanent.{empty_edge}
use Rattle.node_store.specs.ViewLaws.{values_at-is, Is-from, Denotes-flip, Denotes-node, flipped-not, levels-grown, IsVariable-back}
use Rattle.node_store.proofs.MemoLaws.{Carries-grown, MemoHolds-carried}
use Rattle.node_slots.specs.Slots.{node_of, function_at_most}
use Rattle.node_store.specs.Contents.{is_used}
use Rattle.node_slots.specs.Stores.{Plain, slots, content_of, refused_function, plain_view, ones, IsRegular, IsNode, HasNoFree, IsUnknown, AreRemembered, IsStore}
use Rattle.node_slots.specs.Placing.{IsPlaced, IsUnknownNode, IsChild, HasNoChild}
use Rattle.node_slots.specs.declared.plain_store.Refused.{Refused}
use Rattle.node_slots.specs.declared.plain_store.Refused.TheVariants as refused
use Rattle.node_slots.proofs.Reading.{node_of-functions}
use Rattle.node_slots.proofs.Solving.{content_node, node-more}
use Rattle.node_slots.proofs.Canonical.{inner_high, regular_slot, regular-joined, same_edge, not_both}
use Rattle.node_slots.proofs.Flips.{not-injective, unflip}
use Rattle.node_slots.proofs.Adding.{CanMake-grown, written, extends, slot-here, written-grown, IsStore-written, slot_of_node, slot_of_leaf}
use Rattle.node_slots.proofs.Holding.{same_holds}
use Rattle.node_slots.proofs.Calls.{node_kept, leaf_content}

below-not : (w : View) (v : ℕ) (f : ℕ → Bool) → IsBelow Bdd w v f → IsBelow Bdd w v (negation f)
below-not w v f h u un le k b = ap not (h u un le k b)

twice : (f : ℕ → Bool) → negation (negation f) ≡ f
twice f = everywhere (negation (negation f)) f (λ k. at (f k))
  where
    at : (b : Bool) → not (not b) ≡ b
    at true = refl
    at false = refl

-- a node whose then edge is not complemented, in place of another
pub record Normal (k : Kind) (w : View) (v : ℕ) (hi lo : Edge) : Type 0 where
  pub can : CanMake k w v (plain hi.index) (flip_if hi.complement lo)
  pub gives : (o : Option Denoted) → o ≡ Some (function_of k (node_values k w v (plain hi.index) (flip_if hi.complement lo))) → flipped hi.complement o ≡ Some (function_of k (node_values k w v hi lo))
  pub back : (e : Edge) → function_at w e ≡ Some (function_of k (node_values k w v hi lo)) → function_at w (flip_if hi.complement e) ≡ Some (function_of k (node_values k w v (plain hi.index) (flip_if hi.complement lo)))
  pub proper : IsProper k (values_at k w hi) (values_at k w lo) → IsProper k (values_at k w (plain hi.index)) (values_at k w (flip_if hi.complement lo))

no-add : (o : Option Denoted) (f : ℕ → ℤ) → flipped true o ≡ Some (AddFunction f) → ⊥
no-add None f h = cc
no-add (Some (BddFunction g)) f h = cc
no-add (Some (AddFunction g)) f h = cc
no-add (Some (ZddFamily g)) f h = cc

no-family : (o : Option Denoted) (f : ℕ → Bool) → flipped true o ≡ Some (ZddFamily f) → ⊥
no-family None f h = cc
no-family (Some (BddFunction g)) f h = cc
no-family (Some (AddFunction g)) f h = cc
no-family (Some (ZddFamily g)) f h = cc

normal-at : (k : Kind) (w : View) (v i : ℕ) (c : Bool) (lo : Edge) → CanMake k w v (record { index = i; complement = c }) lo → Normal k w v (record { index = i; complement = c }) lo
normal-at k w v i false lo m = record { can = m; gives = λ o h. h; back = λ e h. h; proper = λ h. h }
normal-at Add w v i true lo m = absurd (no-add _ _ m.hi_is.is)
normal-at Zdd w v i true lo m = absurd (no-family _ _ m.hi_is.is)
normal-at Bdd w v i true lo m =
    let hi : Edge = record { index = i; complement = true } in
    let high = values_at Bdd w hi in let low = values_at Bdd w lo in
    let dh = Denotes-flip m.hi_is in let dl = Denotes-flip m.lo_is in
    let eh : values_at Bdd w (plain i) ≡ negation high = values_at-is Bdd dh in
    let el : values_at Bdd w (flip_if true lo) ≡ negation low = values_at-is Bdd dl in
    let whole : node_values Bdd w v (plain i) (flip_if true lo) ≡ negation (choice v high low) = rw (eh, el) (sym (place_one not high low v)) in
    record {
      can = record {
        in_range = m.in_range;
        hi_is = Is-from Bdd dh;
        lo_is = Is-from Bdd dl;
        hi_below = rw eh (below-not w v high m.hi_below);
        lo_below = rw el (below-not w v low m.lo_below);
      };
      gives = λ o h. flipped-not false o _ h ∙ ap (λ f. Some (BddFunction f)) (ap negation whole ∙ twice (choice v high low));
      back = λ e h. flipped-not e.complement (w.content e.index) _ h ∙ ap (λ f. Some (BddFunction f)) (sym whole);
      proper = λ h. rw (eh, el) (λ e. h (everywhere high low (λ x. not-injective (high x) (low x) (ap (λ (g : ℕ → Bool). g x) e))));
    }

pub normal : (k : Kind) (w : View) (v : ℕ) (hi lo : Edge) → CanMake k w v hi lo → Normal k w v hi lo
normal k w v hi lo m = normal-at k w v hi.index hi.complement lo m

-- the node of an edge without complement
abbrev pub node_with : ℕ → Edge → Edge → Node
node_with v hi lo = record { var = v; hi = hi.index; lo = flip_if hi.complement lo }

abbrev pub with_words : Plain → List ℕ → Plain
with_words p ws = record p { words = ws }

-- the store after a refused call
abbrev pub after_refusal : Plain → ℕ → Option Refused → Plain
after_refusal p n d = record p { fulls = n; due = d }

-- a store after its scratch was lent or given back, with room for so many levels, or an answer was remembered
abbrev pub after_lending : Plain → ℕ → List ℕ → Plain
after_lending p r memo = record p { scratch_room = r; memo = memo }

-- what a call that answers an edge leaves
pub record Stored (k : Kind) (p q : Plain) (e : Edge) (f : ℕ → ValueOf k) : Type 0 where
  pub store : IsStore q
  pub grown : Grown (plain_view p) (plain_view q)
  pub denotes : Denotes k (plain_view q) e f
  pub made : (s : ℕ) → (plain_view q).made s ≡ true → ((plain_view p).made s ≡ true) ⊎ (e.index ≡ s)
  pub due : (plain_view q).due ≡ (plain_view p).due
  -- the edge denoted the function, or a slot was free
  pub refused_not : IsUnknown p (function_of k f) → HasNoFree p → ⊥

no_members : (c : Bool) (o : Option Denoted) (f : ℕ → Bool) → o ≡ Some (ZddFamily empty) → flipped c o ≡ Some (ZddFamily f) → f ≡ empty
no_members false o f is h = let e : Some (ZddFamily f) ≡ Some (ZddFamily empty) = sym h ∙ is in cc
no_members true o f is h = let e : None ≡ Some (ZddFamily f) = ap (flipped true) (sym is) ∙ h in cc

-- a node that is one of its children, where slot 1 is that of the empty family
pub child_is : (w : View) → w.content 1 ≡ Some (ZddFamily empty) → (k : Kind) (v : ℕ) (hi lo e : Edge) → CanMake k w v hi lo → IsChild v hi lo e → Denotes k w e (node_values k w v hi lo)
child_is w none k v hi lo e m (inl h) = subst (λ x. Denotes k w x (node_values k w v hi lo)) (sym h.2) (equal k m)
  where
    equal : (k : Kind) → CanMake k w v hi lo → Denotes k w hi (node_values k w v hi lo)
    equal Bdd m = subst (λ x. Denotes Bdd w hi (choice v (values_at Bdd w hi) (values_at Bdd w x))) h.1
        (subst (λ f. Denotes Bdd w hi f) (sym (choice-same (values_at Bdd w hi) v)) m.hi_is)
    equal Add m = subst (λ x. Denotes Add w hi (choice v (values_at Add w hi) (values_at Add w x))) h.1
        (subst (λ f. Denotes Add w hi f) (sym (choice-same (values_at Add w hi) v)) m.hi_is)
    equal Zdd m = let r = m.in_range.0 in let low = h.0 in absurd (omega arith)
child_is w none k v hi lo e m (inr h) = subst (λ x. Denotes k w x (node_values k w v hi lo)) (sym h.2) (only_low k m)
  where
    only_low : (k : Kind) → CanMake k w v hi lo → Denotes k w lo (node_values k w v hi lo)
    only_low Bdd m = let r = m.in_range.0 in let high = h.0 in absurd (omega arith)
    only_low Add m = let r = m.in_range.0 in let high = h.0 in absurd (omega arith)
    only_low Zdd m =
        let high = no_members hi.complement (w.content hi.index) (values_at Zdd w hi) (ap w.content h.1 ∙ none) m.hi_is.is in
        let whole : joined (element_of v) (values_at Zdd w hi) (values_at Zdd w lo) ≡ values_at Zdd w lo = rw high (joined-absent Zdd v (values_at Zdd w lo) (m.lo_below v m.in_range (omega arith))) in
        subst (λ f. Denotes Zdd w lo f) (sym whole) m.lo_is

-- an edge of a function that is true where the first variables are has no complement
pub unturned : (n : ℕ) (k : Kind) (c : Bool) (o : Option Denoted) (f : ℕ → ValueOf k) → ((g : ℕ → Bool) → o ≡ Some (BddFunction g) → g (ones n) ≡ true) → IsRegular k n f
    → flipped c o ≡ Some (function_of k f) → o ≡ Some (function_of k f)
unturned n k false o f slot r h = h
unturned n Add true o f slot r h = absurd (no-add o f h)
unturned n Zdd true o f slot r h = absurd (no-family o f h)
unturned n Bdd true o f slot r h =
    let g = unflip Bdd true o f h in
    let e : Some (BddFunction (negation g.inner)) ≡ Some (BddFunction f) = ap (flipped true) (sym g.is) ∙ h in
    let same : negation g.inner ≡ f = cc in
    absurd (not_both n g.inner (slot g.inner g.is) (subst (λ (x : ℕ → Bool). x (ones n) ≡ true) (sym same) r))

Grown-same : (a : View) → Grown a a
Grown-same a = record { vars = refl; elements = refl; slots = refl; level = refl; content = λ s f h. h; top = λ s f h. refl; made = λ s h. h; fulls = omega arith; counts = refl; generations = refl; holds = refl; wants = λ h. h }

-- what was due where a node was refused
pub due_node : (p : Plain) (n : ℕ) (k : Kind) (v : ℕ) (hi lo : Edge) → CanMake k (plain_view p) v hi lo
    → (plain_view (after_refusal p n (Some (refused.Node v hi lo)))).due ≡ Some (function_of k (node_values k (plain_view p) v hi lo))
due_node p n k v hi lo m =
    let w = plain_view p in
    ap (λ o. node_of v o (function_at w lo)) m.hi_is.is ∙ ap (λ o. node_of v (Some (function_of k (values_at k w hi))) o) m.lo_is.is ∙ node_of-functions k v (values_at k w hi) (values_at k w lo)

module _ (p : Plain) (st : IsStore p) where
  free_high : (s : ℕ) → slots p s ≡ None → 5 ≤ s
  free_high s is = elim (cases_lt s 5) [
    | inl lt ↦ (let e = sym (st.permanent.constants s lt) ∙ is in cc)
    | inr le ↦ le
  ]

  was_stored : (k : Kind) (e : Edge) (f : ℕ → ValueOf k) → Denotes k (plain_view p) e f → (ws : List ℕ) → ws ≡ p.words → Stored k p (with_words p ws) e f
  was_stored k e f d ws same = subst (λ x. Stored k p (with_words p x) e f) (sym same)
      (record { store = st; grown = Grown-same (plain_view p); denotes = d; made = λ s h. inl h; due = refl; refused_not = λ unknown full. unknown e d.is })

  new_made : (i bits : ℕ) → (c : Bool) (s : ℕ) → (plain_view (written p i bits)).made s ≡ true → ((plain_view p).made s ≡ true) ⊎ (i ≡ s)
  new_made i bits c s h = elim (cases_eq s i) [
    | inl e ↦ inr (sym e)
    | inr ne ↦ inl (subst (λ o. (nat_le (5 + length p.variable_levels) s && is_used o) ≡ true) (other s ne) h)
  ]
    where
      other : (s : ℕ) → s ≢ i → slots (written p i bits) s ≡ slots p s
      other s ne = ap unpack_of (get_or-set_other p.words i s bits 0 ne)

  -- nothing is due where a slot is free
  due_kept : (d : Option Refused) → p.due ≡ d → (s bits : ℕ) → s < length p.words → slots p s ≡ None → (plain_view (written p s bits)).due ≡ (plain_view p).due
  due_kept None is s bits within free = rw is refl
  due_kept (Some r) is s bits within free = absurd (st.refused r is s within free)

  -- a node came to stand in a slot
  node_stored : (k : Kind) (v : ℕ) (hi lo : Edge) → CanMake k (plain_view p) v hi lo → IsNode k p (node_with v hi lo)
      → (s : ℕ) → s < length p.words → (bits : ℕ) → unpack_of bits ≡ Some (Inner (node_with v hi lo)) → slots p s ≡ None
      → ((t : ℕ) → 3 ≤ t → slots p t ≡ Some (Inner (node_with v hi lo)) → ⊥)
      → Stored k p (written p s bits) (record { index = s; complement = hi.complement }) (node_values k (plain_view p) v hi lo)
  node_stored k v hi lo m n s within bits reads free absent =
      let node = node_with v hi lo in
      let q = written p s bits in
      let high = free_high s free in
      let grown = written-grown p s bits (Inner node) within reads free in
      let here = node-more p st.canonical (slots q) (extends p s bits (Inner node) within reads free) k s node (slot-here p s bits (Inner node) within reads free) (omega arith) n in
      let fresh : (t : ℕ) → content_of p t ≡ Some (function_of k (node_values k (plain_view p) v (plain hi.index) (flip_if hi.complement lo))) → ⊥ =
      λ t h. (let w = slot_of_node p st k node n t h in let le = inner_high p st.permanent t node w in absent t (omega arith) w) in
      record {
        store = IsStore-written p s bits (Inner node) within reads free st _ here fresh
            (λ x same. subst (λ y. (j : Kind) × IsNode j p y) (let e : node ≡ x = cc in e) (k, n)) (λ x same. cc);
        grown = grown;
        denotes = Denotes-node k m (plain_view q) _ ((normal k (plain_view p) v hi lo m).gives (content_of q s) here) grown;
        made = new_made s bits hi.complement;
        due = due_kept p.due refl s bits within free;
        refused_not = λ unknown full. full s within free;
      }

  pub node_placed : (k : Kind) (v : ℕ) (hi lo : Edge) → CanMake k (plain_view p) v hi lo → IsNode k p (node_with v hi lo)
      → (ws : List ℕ) (s : ℕ) → IsPlaced p.words ws (Inner (node_with v hi lo)) s
      → Stored k p (with_words p ws) (record { index = s; complement = hi.complement }) (node_values k (plain_view p) v hi lo)
  node_placed k v hi lo m n ws s placed = elim placed.way [
    | inl there ↦ was_stored k _ _ (Denotes-node k m (plain_view p) _ ((normal k (plain_view p) v hi lo m).gives (content_of p s) (content_node p st.canonical k s (node_with v hi lo) there.here there.high n)) (Grown-same (plain_view p))) ws there.same
    | inr new ↦ subst (λ x. Stored k p (with_words p x) (record { index = s; complement = hi.complement }) (node_values k (plain_view p) v hi lo)) (sym new.is)
        (node_stored k v hi lo m n s placed.within new.bits new.reads new.free new.absent)
  ]

  -- the word of a node that is none of its children
  pub node_proper : (k : Kind) (v : ℕ) (hi lo : Edge) → CanMake k (plain_view p) v hi lo → HasNoChild v hi lo → IsProper k (values_at k (plain_view p) hi) (values_at k (plain_view p) lo)
  unfolding function_at_most
  node_proper Bdd v hi lo m child = λ same. child.differ m.in_range.0 (same_edge p st.permanent st.canonical hi lo _ m.hi_is.is (m.lo_is.is ∙ ap (λ f. Some (BddFunction f)) (sym same)))
  node_proper Add v hi lo m child = λ same. child.differ m.in_range.0 (same_edge p st.permanent st.canonical hi lo _ m.hi_is.is (m.lo_is.is ∙ ap (λ f. Some (AddFunction f)) (sym same)))
  node_proper Zdd v hi lo m child = λ same. child.member m.in_range.0 (ap (λ (e : Edge). e.index) (same_edge p st.permanent st.canonical hi empty_edge (ZddFamily empty) (m.hi_is.is ∙ ap (λ f. Some (ZddFamily f)) same) refl))

  pub new_node : (k : Kind) (v : ℕ) (hi lo : Edge) → CanMake k (plain_view p) v hi lo → HasNoChild v hi lo → IsNode k p (node_with v hi lo)
  new_node k v hi lo m child = let n = normal k (plain_view p) v hi lo m in node_kept p st k (node_with v hi lo) n.can (n.proper (node_proper k v hi lo m child))

  -- a node that is one of its children
  pub child_denotes : (k : Kind) (v : ℕ) (hi lo e : Edge) → CanMake k (plain_view p) v hi lo → IsChild v hi lo e → Denotes k (plain_view p) e (node_values k (plain_view p) v hi lo)
  unfolding function_at_most
  child_denotes k v hi lo e m child = child_is (plain_view p) refl k v hi lo e m child

  -- no slot of the node, and no edge of its function
  unknown_node : (k : Kind) (v : ℕ) (hi lo : Edge) → CanMake k (plain_view p) v hi lo → IsNode k p (node_with v hi lo)
      → ((t : ℕ) → 3 ≤ t → slots p t ≡ Some (Inner (node_with v hi lo)) → ⊥) → IsUnknown p (function_of k (node_values k (plain_view p) v hi lo))
  unknown_node k v hi lo m n absent e h =
      let node = node_with v hi lo in
      let f = node_values k (plain_view p) v (plain hi.index) (flip_if hi.complement lo) in
      let regular = regular-joined p st.permanent st.canonical k v (values_at k (plain_view p) (plain hi.index)) (values_at k (plain_view p) (flip_if hi.complement lo)) n.can_make.in_range n.regular in
      let is = unturned (length p.variable_levels) k (flip_if hi.complement e).complement (content_of p e.index) f (λ g. regular_slot p st.permanent st.canonical Bdd e.index g) regular
      ((normal k (plain_view p) v hi lo m).back e h) in
      let w = slot_of_node p st k node n e.index is in let le = inner_high p st.permanent e.index node w in absent e.index (omega arith) w

  pub unknown_nodes : (v : ℕ) (hi lo : Edge) → HasNoChild v hi lo → ((t : ℕ) → 3 ≤ t → slots p t ≡ Some (Inner (node_with v hi lo)) → ⊥) → IsUnknownNode p v hi lo
  unknown_nodes v hi lo child absent k m = unknown_node k v hi lo m (new_node k v hi lo m child) absent

  -- leaves
  leaf_denotes : (q : Plain) (s : ℕ) (x : ℤ) → is_value x ≡ true → content_of q s ≡ Some (AddFunction (constant x)) → Denotes Add (plain_view q) (plain s) (constant x)
  leaf_denotes q s x fits is = record { is = is; beyond = λ v h k b. refl; fits = λ k. fits }

  leaf_stored : (x : ℤ) → is_value x ≡ true → (s : ℕ) → s < length p.words → (bits : ℕ) → unpack_of bits ≡ Some (Leaf x) → slots p s ≡ None
      → ((t : ℕ) → 3 ≤ t → slots p t ≡ Some (Leaf x) → ⊥) → Stored Add p (written p s bits) (plain s) (constant x)
  leaf_stored x fits s within bits reads free absent =
      let q = written p s bits in
      let high = free_high s free in
      let grown = written-grown p s bits (Leaf x) within reads free in
      let here = leaf_content q s x (omega arith) (slot-here p s bits (Leaf x) within reads free) in
      let fresh : (t : ℕ) → content_of p t ≡ Some (AddFunction (constant x)) → ⊥ = λ t h. (let w = slot_of_leaf p st x t h in absent t w.1 w.0) in
      record {
        store = IsStore-written p s bits (Leaf x) within reads free st _ here fresh (λ node same. cc) (λ y same. subst (λ z. is_value z ≡ true) (let e : x ≡ y = cc in e) fits);
        grown = grown;
        denotes = leaf_denotes q s x fits here;
        made = new_made s bits false;
        due = due_kept p.due refl s bits within free;
        refused_not = λ unknown full. full s within free;
      }

  pub leaf_placed : (x : ℤ) → is_value x ≡ true → (ws : List ℕ) (s : ℕ) → IsPlaced p.words ws (Leaf x) s → Stored Add p (with_words p ws) (plain s) (constant x)
  leaf_placed x fits ws s placed = elim placed.way [
    | inl there ↦ was_stored Add (plain s) (constant x) (leaf_denotes p s x fits (leaf_content p s x there.high there.here)) ws there.same
    | inr new ↦ subst (λ y. Stored Add p (with_words p y) (plain s) (constant x)) (sym new.is) (leaf_stored x fits s placed.within new.bits new.reads new.free new.absent)
  ]

  pub unknown_leaf : (x : ℤ) → ((t : ℕ) → 3 ≤ t → slots p t ≡ Some (Leaf x) → ⊥) → IsUnknown p (AddFunction (constant x))
  unknown_leaf x absent e h = by_complement e.complement e.index h
    where
      by_complement : (c : Bool) (s : ℕ) → flipped c (content_of p s) ≡ Some (AddFunction (constant x)) → ⊥
      by_complement false s h = let w = slot_of_leaf p st x s h in absent s w.1 w.0
      by_complement true s h = no-add (content_of p s) (constant x) h

  -- a refused call
  module _ (n : ℕ) (d : Option Refused) (more : p.fulls ≤ n) where
    pub refused-grown : Grown (plain_view p) (plain_view (after_refusal p n d))
    refused-grown = record { vars = refl; elements = refl; slots = refl; level = refl; content = λ s f h. h; top = λ s f h. refl; made = λ s h. h; fulls = more; counts = refl; generations = refl; holds = refl; wants = λ h. h }

    IsNode-refused : (k : Kind) (node : Node) → IsNode k p node → IsNode k (after_refusal p n d) node
    unfolding refused-grown
    IsNode-refused k node i = record {
      can_make = CanMake-grown k refused-grown i.can_make;
      proper = i.proper;
      regular = i.regular;
    }

    pub refused-store : HasNoFree p → ((f : Denoted) → refused_function (content_of p) d ≡ Some f → IsUnknown p f) → IsStore (after_refusal p n d)
    refused-store full unknown = record {
      ordered = record {
        within = λ k v vn. rw (levels-grown k refused-grown) (st.ordered.within k v (IsVariable-back k refused-grown v vn));
        alone = λ k u v un vn e. st.ordered.alone k u v (IsVariable-back k refused-grown u un) (IsVariable-back k refused-grown v vn) e;
      };
      permanent = record { constants = st.permanent.constants; projections = st.permanent.projections };
      canonical = record {
        nodes = λ s node is. (let x = st.canonical.nodes s node is in (x.0, IsNode-refused x.0 node x.1));
        leaves = st.canonical.leaves;
        apart = st.canonical.apart;
      };
      variables_stand = st.variables_stand;
      elements_stand = st.elements_stand;
      few_variables = st.few_variables;
      few_elements = st.few_elements;
      room = st.room;
      few_words = st.few_words;
      holds = same_holds p st.holds (after_refusal p n d) refl refl refl refl;
      refused = λ r is t below free. full t below free;
      missing = unknown;
      remembered = λ j kept h. MemoHolds-carried (Carries-grown refused-grown) kept.key kept.edge tt tt tt tt (st.remembered j kept h);
    }

  -- the scratch was lent or given back, or an answer was remembered
  module _ (r : ℕ) (memo : List ℕ) where
    pub lent-kept : Kept (plain_view p) (plain_view (after_lending p r memo))
    lent-kept = record {
      grown = record { vars = refl; elements = refl; slots = refl; level = refl; content = λ s f h. h; top = λ s f h. refl; made = λ s h. h; fulls = omega arith; counts = refl; generations = refl; holds = refl; wants = λ h. h };
      made = refl;
      fulls = refl;
      due = refl;
    }

    IsNode-lent : (k : Kind) (node : Node) → IsNode k p node → IsNode k (after_lending p r memo) node
    unfolding lent-kept
    IsNode-lent k node i = record { can_make = CanMake-grown k lent-kept.grown i.can_make; proper = i.proper; regular = i.regular }

    pub lent-store : AreRemembered (plain_view p) memo → IsStore (after_lending p r memo)
    lent-store remembered = record {
      ordered = record {
        within = λ k v vn. rw (levels-grown k lent-kept.grown) (st.ordered.within k v (IsVariable-back k lent-kept.grown v vn));
        alone = λ k u v un vn e. st.ordered.alone k u v (IsVariable-back k lent-kept.grown u un) (IsVariable-back k lent-kept.grown v vn) e;
      };
      permanent = record { constants = st.permanent.constants; projections = st.permanent.projections };
      canonical = record {
        nodes = λ s node is. (let x = st.canonical.nodes s node is in (x.0, IsNode-lent x.0 node x.1));
        leaves = st.canonical.leaves;
        apart = st.canonical.apart;
      };
      variables_stand = st.variables_stand;
      elements_stand = st.elements_stand;
      few_variables = st.few_variables;
      few_elements = st.few_elements;
      room = st.room;
      few_words = st.few_words;
      holds = same_holds p st.holds (after_lending p r memo) refl refl refl refl;
      refused = st.refused;
      missing = st.missing;
      remembered = λ j kept h. MemoHolds-carried (Carries-grown lent-kept.grown) kept.key kept.edge tt tt tt tt (remembered j kept h);
    }

  -- what is due where a node or a leaf is refused
  pub missing_node : (k : Kind) (v : ℕ) (hi lo : Edge) → CanMake k (plain_view p) v hi lo → IsUnknownNode p v hi lo → (f : Denoted) → refused_function (content_of p) (Some (refused.Node v hi lo)) ≡ Some f → IsUnknown p f
  missing_node k v hi lo m unknown f due =
      let e : Some (function_of k (node_values k (plain_view p) v hi lo)) ≡ Some f = sym (due_node p p.fulls k v hi lo m) ∙ due in
      subst (IsUnknown p) (let same : function_of k (node_values k (plain_view p) v hi lo) ≡ f = cc in same) (unknown k m)

  pub missing_leaf : (x : ℤ) → IsUnknown p (AddFunction (constant x)) → (f : Denoted) → refused_function (content_of p) (Some (refused.Leaf x)) ≡ Some f → IsUnknown p f
  missing_leaf x unknown f due = subst (IsUnknown p) (let same : AddFunction (constant x) ≡ f = cc in same) unknown
