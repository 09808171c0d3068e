-- A store as it is between swaps is a sound whole store.
use Rattle.std.proofs.Common.{◌≡◌, ◌≢◌, ℕ, zero, suc, ◌+◌, ◌-◌, ◌<◌, ◌≤◌, inl, inr, true, length, Some, ℤ, refl, ap, sym, ◌∙◌, subst, arith}
use Rattle.std.specs.Prelude.{slice_index}
use Rattle.std.proofs.lemmas.Bool.{lt-ltb, le-ltb}
use Rattle.edge_bits.specs.declared.edges.Edge.{Edge}
use Rattle.edge_bits.specs.declared.edges.Kind.{Kind}
use Rattle.edge_bits.specs.declared.edges.Kind.TheVariants.{Bdd, Add, Zdd}
use Rattle.edge_bits.specs.declared.words.Node.{Node}
use Rattle.edge_bits.specs.declared.words.Word.{Word}
use Rattle.edge_bits.specs.declared.words.Word.TheVariants.{Inner, Leaf}
use Rattle.edge_bits.specs.Reading.{element_of, plain}
use Rattle.edge_bits.specs.Permanent.{first_element}
use Rattle.function_laws.specs.Values.{constant}
use Rattle.function_laws.specs.Numbers.{is_value}
use Rattle.function_laws.specs.Families.{empty, base}
use Rattle.function_laws.specs.Kinds.{Denoted, BddFunction, AddFunction, ZddFamily, ValueOf, function_of, Lacks}
use Rattle.node_store.specs.KindLaws.{Fits-joined, Lacks-joined}
use Rattle.node_store.specs.Views.{View, Denotes, IsBeyond, IsLeafOf, logic_one, logic_zero, number, no_member, only_base, IsVariable, function_at, values_at, node_values}
use Rattle.node_store.specs.ViewLaws.{Apart-beyond, Apart-variables}
use Rattle.node_store.specs.Contents.{IsNodeOf, IsSound, constant_value, level_of, view_of}
use Rattle.node_store.proofs.TwoParts.{base-without}
use Rattle.node_slots.specs.Stores.{Plain, slots, level_in, longest, content_of, plain_view, IsStore}
use Rattle.node_slots.specs.Wholes.{content_view}
use Rattle.node_slots.proofs.Reading.{in_words, used}
use Rattle.node_slots.proofs.Solving.{content_node}
use Rattle.node_slots.proofs.Canonical.{inner_high, leaf_or_node, regular_slot}
use Rattle.node_slots.proofs.Calls.{leaf_content, permanent_is}
use Rattle.node_slots.proofs.Ones.{true_on_ones}
use Rattle.node_slots.proofs.Orders.{IsOrderOf, order_of_levels}

-- a leaf's function, whatever the store
leaf_denotes : (w : View) (k : Kind) (e : Edge) (f : ℕ → ValueOf k) (x : ℤ) → IsLeafOf k e f x → function_at w e ≡ Some (function_of k f) → is_value x ≡ true → Denotes k w e f
leaf_denotes w _ _ _ _ logic_one h fits = record { is = h; beyond = λ v b k c. refl; fits = tt }
leaf_denotes w _ _ _ _ logic_zero h fits = record { is = h; beyond = λ v b k c. refl; fits = tt }
leaf_denotes w _ _ _ _ (number e x) h fits = record { is = h; beyond = λ v b k c. refl; fits = λ k. fits }
leaf_denotes w _ _ _ _ no_member h fits = record { is = h; beyond = λ v b a has. refl; fits = tt }
leaf_denotes w _ _ _ _ only_base h fits = record { is = h; beyond = λ v b. base-without (element_of v); fits = tt }

-- what its variables are, for operators and for a holder
module _ (p : Plain) (variables : length p.variables_at ≡ length p.variable_levels) (elements : length p.elements_at ≡ length p.element_levels) where
  pub variable_back : (k : Kind) (v : ℕ) → IsVariable k (view_of (content_view p)) v → IsVariable k (plain_view p) v
  variable_back Bdd v h = (h.0, (let a = h.1 in omega (arith, a, variables)))
  variable_back Add v h = (h.0, (let a = h.1 in omega (arith, a, variables)))
  variable_back Zdd v h = (h.0, (let a = h.1 in omega (arith, a, elements)))

  pub variable_on : (k : Kind) (v : ℕ) → IsVariable k (plain_view p) v → IsVariable k (view_of (content_view p)) v
  variable_on Bdd v h = (h.0, (let a = h.1 in omega (arith, a, variables)))
  variable_on Add v h = (h.0, (let a = h.1 in omega (arith, a, variables)))
  variable_on Zdd v h = (h.0, (let a = h.1 in omega (arith, a, elements)))

  pub beyond_back : (k : Kind) (v : ℕ) → IsBeyond k (view_of (content_view p)) v → IsBeyond k (plain_view p) v
  beyond_back Bdd v h = omega (arith, h, variables)
  beyond_back Add v h = omega (arith, h, variables)
  beyond_back Zdd v h = omega (arith, h, elements)

  pub beyond_on : (k : Kind) (v : ℕ) → IsBeyond k (plain_view p) v → IsBeyond k (view_of (content_view p)) v
  beyond_on Bdd v h = omega (arith, h, variables)
  beyond_on Add v h = omega (arith, h, variables)
  beyond_on Zdd v h = omega (arith, h, elements)

module _ (p : Plain) (st : IsStore p) where
  -- the two orders
  variable_level : (v : ℕ) → v < first_element → level_in p v ≡ slice_index p.variable_levels v
  variable_level v lt = rw (lt-ltb v first_element lt) refl

  element_level : (e : ℕ) → level_in p (first_element + e) ≡ slice_index p.element_levels e
  element_level e =
      let own : first_element + e - first_element ≡ e = omega arith in
      rw (le-ltb (first_element + e) first_element (omega arith)) (ap (slice_index p.element_levels) own)

  small : (v : ℕ) → v < length p.variable_levels → v < first_element
  small v lt = let f = st.few_variables in omega arith

  variables_ordered : IsOrderOf p.variable_levels p.variables_at
  variables_ordered = order_of_levels p.variable_levels p.variables_at st.variables_stand
      (λ v lt. let w = st.ordered.within Bdd v (small v lt, lt) in omega (arith, w, variable_level v (small v lt)))
      (λ u v lu lv e. st.ordered.alone Bdd u v (small u lu, lu) (small v lv, lv) (variable_level u (small u lu) ∙ e ∙ sym (variable_level v (small v lv))))

  elements_ordered : IsOrderOf p.element_levels p.elements_at
  elements_ordered = order_of_levels p.element_levels p.elements_at st.elements_stand
      (λ v lt. let w = st.ordered.within Zdd (first_element + v) (omega arith, omega arith) in omega (arith, w, element_level v))
      (λ u v lu lv e. let s = st.ordered.alone Zdd (first_element + u) (first_element + v) (omega arith, omega arith) (omega arith, omega arith) (element_level u ∙ e ∙ sym (element_level v)) in omega (arith, s))

  pub level_same : (k : Kind) (v : ℕ) → IsVariable k (plain_view p) v → level_of (content_view p).orders v ≡ level_in p v
  level_same Bdd v h = rw (lt-ltb v first_element h.0) (variables_ordered.place v h.1)
  level_same Add v h = rw (lt-ltb v first_element h.0) (variables_ordered.place v h.1)
  level_same Zdd v h = rw (le-ltb v first_element h.0) (elements_ordered.place (element_of v) (let a = h.0 in let b = h.1 in omega arith))

  -- what a slot denotes is a function of the store's variables
  pub slot_denotes : (k : Kind) (s : ℕ) (f : ℕ → ValueOf k) → content_of p s ≡ Some (function_of k f) → Denotes k (plain_view p) (plain s) f
  slot_denotes k s f h = elim (leaf_or_node p st.permanent st.canonical k s f h) [
    | inl l ↦ leaf_denotes (plain_view p) k (plain s) f l.value l.leaf h (st.canonical.leaves s l.value l.word)
    | inr n ↦ (
        let m = n.is_node.can_make in
        let high = values_at k (plain_view p) (plain n.node.hi) in
        let low = values_at k (plain_view p) n.node.lo in
        subst (Denotes k (plain_view p) (plain s)) (sym n.is)
        (record {
          is = h ∙ ap (λ g. Some (function_of k g)) n.is;
          beyond = λ v b. Lacks-joined k v n.node.var high low (Apart-beyond k (plain_view p) v n.node.var b m.in_range) (m.hi_is.beyond v b) (m.lo_is.beyond v b);
          fits = Fits-joined k n.node.var high low m.hi_is.fits m.lo_is.fits;
        }))
  ]

  word_denotes : (s : ℕ) → 3 ≤ s → (word : Word) → slots p s ≡ Some word → (f : Denoted) × (content_of p s ≡ Some f)
  word_denotes s le (Leaf x) is = (AddFunction (constant x), leaf_content p s x le is)
  word_denotes s le (Inner node) is =
      let n = st.canonical.nodes s node is in
      (function_of n.0 (node_values n.0 (plain_view p) node.var (plain node.hi) node.lo), content_node p st.canonical n.0 s node is le n.1)

  used_denotes : (s : ℕ) (word : Word) → slots p s ≡ Some word → (f : Denoted) × (content_of p s ≡ Some f)
  used_denotes zero word is = (BddFunction (constant true), (permanent_is p st).one)
  used_denotes (suc zero) word is = (ZddFamily empty, (permanent_is p st).empty)
  used_denotes (suc (suc zero)) word is = (ZddFamily base, (permanent_is p st).base)
  used_denotes (suc (suc (suc s))) word is = word_denotes (suc (suc (suc s))) (omega arith) word is

  word_there : (s : ℕ) (f : Denoted) → content_of p s ≡ Some f → (word : Word) × (slots p s ≡ Some word)
  word_there zero f h = (Leaf (constant_value 0), st.permanent.constants 0 (omega arith))
  word_there (suc zero) f h = (Leaf (constant_value 1), st.permanent.constants 1 (omega arith))
  word_there (suc (suc zero)) f h = (Leaf (constant_value 2), st.permanent.constants 2 (omega arith))
  word_there (suc (suc (suc s))) f h = used (slots p) (longest p) (suc (suc (suc s))) f (omega arith) h

  node_sound : (s : ℕ) (node : Node) (f : Denoted) → slots p s ≡ Some (Inner node) → content_of p s ≡ Some f → IsNodeOf (content_view p) node f
  node_sound s node f word h =
      let n = st.canonical.nodes s node word in
      let k = n.0 in
      let m = n.1.can_make in
      let le = inner_high p st.permanent s node word in
      let e : Some (function_of k (node_values k (plain_view p) node.var (plain node.hi) node.lo)) ≡ Some f = sym (content_node p st.canonical k s node word (omega arith) n.1) ∙ h in
      record {
        kind = k;
        high = values_at k (plain_view p) (plain node.hi);
        low = values_at k (plain_view p) node.lo;
        in_range = variable_on p st.variables_stand.as_many st.elements_stand.as_many k node.var m.in_range;
        high_is = m.hi_is.is;
        low_is = m.lo_is.is;
        is = cc;
        high_lacks = m.hi_below node.var m.in_range (omega arith);
        low_lacks = m.lo_below node.var m.in_range (omega arith);
        proper = n.1.proper;
      }

  -- a node's function lacks what stands above its variable
  lacks_above : (s : ℕ) (node : Node) (k : Kind) (f : ℕ → ValueOf k) → slots p s ≡ Some (Inner node) → content_of p s ≡ Some (function_of k f)
      → (u : ℕ) → IsVariable k (plain_view p) u → (IsVariable k (plain_view p) node.var → level_in p u < level_in p node.var) → Lacks k f u
  lacks_above s node k f word h u un above = elim (leaf_or_node p st.permanent st.canonical k s f h) [
    | inl l ↦ (let e = sym l.word ∙ word in cc)
    | inr n ↦ (
        let e : Some (Inner n.node) ≡ Some (Inner node) = sym n.word ∙ word in
        let same : n.node ≡ node = cc in
        let m = n.is_node.can_make in
        let v = n.node.var in
        let lt = subst (λ (x : Node). IsVariable k (plain_view p) x.var → level_in p u < level_in p x.var) (sym same) above m.in_range in
        let ne : u ≢ v = λ at. (let l = ap (level_in p) at in omega (arith, l, lt)) in
        subst (λ g. Lacks k g u) (sym n.is)
        (Lacks-joined k u v (values_at k (plain_view p) (plain n.node.hi)) (values_at k (plain_view p) n.node.lo) (Apart-variables k (plain_view p) u v un m.in_range ne)
        (m.hi_below u un (omega (arith, lt))) (m.lo_below u un (omega (arith, lt)))))
  ]

  pub settled_sound : IsSound (content_view p)
  settled_sound = record {
    variables = variables_ordered.order;
    elements = elements_ordered.order;
    few_variables = (let l = st.variables_stand.as_many in let f = st.few_variables in omega (arith, l, f));
    few_elements = (let l = st.elements_stand.as_many in let f = st.few_elements in omega (arith, l, f));
    within = λ s u. in_words p.words s u.0 u.1;
    few_slots = st.few_words;
    denotes = λ s u. used_denotes s u.0 u.1;
    used = word_there;
    constants = st.permanent.constants;
    logic_one = (permanent_is p st).one;
    empty_family = (permanent_is p st).empty;
    base_family = (permanent_is p st).base;
    projections = λ v lt. (5 + v, st.permanent.projections v (let l = st.variables_stand.as_many in omega (arith, lt, l)));
    nodes = node_sound;
    leaves = λ s x le is. (leaf_content p s x le is, st.canonical.leaves s x is);
    apart = st.canonical.apart;
    regular = λ s f h k each. true_on_ones (length p.variable_levels) f (λ v le. (slot_denotes Bdd s f h).beyond v le) (regular_slot p st.permanent st.canonical Bdd s f h) k
        (λ v lt. each v (let l = st.variables_stand.as_many in omega (arith, lt, l)));
    of_store = λ s k f h. (let d = slot_denotes k s f h in ((λ v b. d.beyond v (beyond_back p st.variables_stand.as_many st.elements_stand.as_many k v b)), d.fits));
    ordered = λ s node k f word h u un lt. inl (let vu = variable_back p st.variables_stand.as_many st.elements_stand.as_many k u un in lacks_above s node k f word h u vu (λ vn. let a = level_same k u vu in let b = level_same k node.var vn in omega (arith, a, b, lt)));
    few_counts = st.holds.few;
    uncounted = st.holds.uncounted;
    unpinned = st.holds.unpinned;
  }
