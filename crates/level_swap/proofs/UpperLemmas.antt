-- A node of the upper one of two neighbours: what its children may be cut by, and what may be added and put in its place.
use Rattle.std.proofs.Common.{◌≡◌, ◌≢◌, ℕ, ◌<◌, ◌≤◌, ◌⊎◌, inl, inr, Bool, true, false, not, ◌||◌, eq-eqb, length, Option, Some, None, refl, sym, ap, ◌∙◌, subst, arith, eqb-true}
use Rattle.std.proofs.lemmas.Bool.{cases_lt}
use Rattle.edge_bits.specs.Assignments.{bit, set_bit}
use Rattle.edge_bits.specs.Permanent.{true_slot}
use Rattle.edge_bits.specs.Reading.{plain}
use Rattle.edge_bits.specs.declared.edges.Edge.{Edge}
use Rattle.edge_bits.specs.declared.edges.Kind.{Kind}
use Rattle.edge_bits.specs.declared.edges.Kind.TheVariants.{Bdd, Add, Zdd}
use Rattle.edge_bits.specs.declared.words.Node.{Node}
use Rattle.edge_bits.specs.declared.words.Word.{Word}
use Rattle.edge_bits.specs.declared.words.Word.TheVariants.{Inner, Leaf}
use Rattle.edge_bits.proofs.AssignmentLemmas.{set_bit-own}
use Rattle.function_laws.specs.Values.{negation}
use Rattle.function_laws.specs.Kinds.{Denoted, BddFunction, AddFunction, ZddFamily, ValueOf, function_of, values_of, joined_at, Lacks, part_at, flipped, opposite}
use Rattle.node_store.specs.KindLaws.{Apart, values_of-function, Lacks-joined}
use Rattle.node_store.specs.Views.{IsVariable, IsProper, function_at, values_at, node_values}
use Rattle.node_store.specs.ViewLaws.{Apart-variables}
use Rattle.node_store.specs.Contents.{Content, Pair, IsSound, IsPermanent, IsUsed, level_of, view_of, is_node_of, constant_value, projection_node}
use Rattle.node_store.specs.Changes.{NextAbove, NoneOrHalf, CanAdd, CanRewrite}
use Rattle.function_laws.proofs.CoverLaws.{neither}
use Rattle.node_store.proofs.LeafLemmas.{leaf_lacks}
use Rattle.node_store.proofs.Parting.{depends}
use Rattle.node_store.proofs.Rewriting.{level_once}
use Rattle.node_store.proofs.SlotLists.{ones, bit-ones}
use Rattle.level_swap.specs.Swapping.{UpperNode, CanCut}
use Rattle.level_swap.proofs.PartFacts.{Lacks-part, Lacks-own_part, joined-parts, parts-proper, part-exchanged, then-joined, else-joined}
use Rattle.level_swap.proofs.SoundEdges.{turned, at_slot, Lacks-turned, Lacks-back, edge_is, edge_used, node_parts, node_depends}

upper_of : Option Pair → ℕ
upper_of None = 0
upper_of (Some p) = p.upper

lower_of : Option Pair → ℕ
lower_of None = 0
lower_of (Some p) = p.lower

half_upper : (w : Content) (upper lower : ℕ) → NoneOrHalf w upper lower → (p : Pair) → w.half ≡ Some p → upper ≡ p.upper
unfolding upper_of
half_upper w upper lower (inl none) p h = let e : None ≡ Some p = sym none ∙ h in cc
half_upper w upper lower (inr is) p h = ap upper_of (sym is ∙ h)

half_lower : (w : Content) (upper lower : ℕ) → NoneOrHalf w upper lower → (p : Pair) → w.half ≡ Some p → lower ≡ p.lower
unfolding lower_of
half_lower w upper lower (inl none) p h = let e : None ≡ Some p = sym none ∙ h in cc
half_lower w upper lower (inr is) p h = ap lower_of (sym is ∙ h)

hi_of : Option Word → ℕ
hi_of None = 0
hi_of (Some (Leaf x)) = 0
hi_of (Some (Inner node)) = node.hi

lo_of : Option Word → ℕ
lo_of None = 0
lo_of (Some (Leaf x)) = 0
lo_of (Some (Inner node)) = node.lo.index

same_hi : (m n : Node) → Some (Inner m) ≡ Some (Inner n) → m.hi ≡ n.hi
unfolding hi_of
same_hi m n e = ap hi_of e

same_lo : (m n : Node) → Some (Inner m) ≡ Some (Inner n) → m.lo.index ≡ n.lo.index
unfolding lo_of
same_lo m n e = ap lo_of e

pub node_test : (v : ℕ) (o : Option Word) → is_node_of v o ≡ true → (node : Node) × (o ≡ Some (Inner node)) × (node.var ≡ v)
node_test v None h = cc
node_test v (Some (Leaf x)) h = cc
node_test v (Some (Inner node)) h = (node, refl, eqb-true node.var v h)

-- a function or its opposite, as an edge has it
as_turned : (k : Kind) (o : Option Denoted) (f : ℕ → ValueOf k) → (o ≡ Some (function_of k f)) ⊎ (o ≡ Some (opposite (function_of k f))) → (c : Bool) × (o ≡ Some (function_of k (turned k c f)))
as_turned Bdd o f (inl h) = (false, h)
as_turned Bdd o f (inr h) = (true, h)
as_turned Add o f (inl h) = (false, h)
as_turned Add o f (inr h) = (false, h)
as_turned Zdd o f (inl h) = (false, h)
as_turned Zdd o f (inr h) = (false, h)

no_number : (o : Option Denoted) (f : ℕ → ValueOf Add) → flipped true o ≡ Some (AddFunction f) → ⊥
no_number None f h = cc
no_number (Some (BddFunction g)) f h = cc
no_number (Some (AddFunction g)) f h = cc
no_number (Some (ZddFamily g)) f h = cc

no_family : (o : Option Denoted) (f : ℕ → ValueOf Zdd) → flipped true o ≡ Some (ZddFamily f) → ⊥
no_family None f h = cc
no_family (Some (BddFunction g)) f h = cc
no_family (Some (AddFunction g)) f h = cc
no_family (Some (ZddFamily g)) f h = cc

-- no edge to the then part of a slot's function is complemented: both are true where all variables are
plain_then : (w : Content) → IsSound w → (s t v : ℕ) (k : Kind) (f : ℕ → ValueOf k) (c : Bool) → w.function s ≡ Some (function_of k f) → IsVariable k (view_of w) v
    → flipped c (w.function t) ≡ Some (function_of k (part_at k f v true)) → c ≡ false
plain_then w sound s t v k f false is range h = refl
plain_then w sound s t v Bdd f true is range h =
    let n = length w.orders.variables in
    let all : (u : ℕ) → u < n → bit (ones n) u ≡ true = λ u lt. bit-ones n u lt in
    let here = sound.regular s f is (ones n) all in
    let there = sound.regular t (negation (part_at Bdd f v true)) (at_slot Bdd true (w.function t) (part_at Bdd f v true) h) (ones n) all in
    let same : set_bit (ones n) v true ≡ ones n = ap (set_bit (ones n) v) (sym (all v range.1)) ∙ set_bit-own (ones n) v in
    let never : not true ≡ true = sym (ap not (ap f same ∙ here)) ∙ there in cc
plain_then w sound s t v Add f true is range h = absurd (no_number (w.function t) (part_at Add f v true) h)
plain_then w sound s t v Zdd f true is range h = absurd (no_family (w.function t) (part_at Zdd f v true) h)

module _ (k : Kind) (w : Content) (upper lower slot : ℕ) (high low : ℕ → ValueOf k) (un : UpperNode k w upper lower slot high low) where
  abbrev f : ℕ → ValueOf k
  f = joined_at k upper high low

  pub two : upper ≢ lower
  two e = let l = ap (level_of w.orders) e in let n = un.next in omega (arith, l, n)

  apart : Apart k upper lower
  apart = Apart-variables k (view_of w) upper lower un.upper_in un.lower_in two

  apart_back : Apart k lower upper
  apart_back = Apart-variables k (view_of w) lower upper un.lower_in un.upper_in (λ e. two (sym e))

  -- what lacks the upper variable and those above it
  abbrev Under : (ℕ → ValueOf k) → Type 0
  Under g = (u : ℕ) → IsVariable k (view_of w) u → level_of w.orders u ≤ level_of w.orders upper → Lacks k g u

  under : (g : ℕ → ValueOf k) → Lacks k g upper → ((u : ℕ) → IsVariable k (view_of w) u → level_of w.orders u < level_of w.orders upper → Lacks k g u) → Under g
  under g lacks above u hu le = elim (cases_lt (level_of w.orders u) (level_of w.orders upper)) [
    | inl lt ↦ above u hu lt
    | inr ge ↦ subst (Lacks k g) (sym (level_once w un.sound k u upper hu un.upper_in (omega (arith, le, ge)))) lacks
  ]

  above_lacks : (u : ℕ) → IsVariable k (view_of w) u → level_of w.orders u < level_of w.orders upper → Lacks k f u
  above_lacks u hu lt =
      let higher : level_of w.orders u < level_of w.orders un.node.var = subst (λ x. level_of w.orders u < level_of w.orders x) (sym un.var) lt in
      elim (un.sound.ordered slot un.node k f un.word un.function u hu higher) [
        | inl lacks ↦ lacks
        | inr half ↦ (let same = half_upper w upper lower un.half (record { upper = u; lower = un.node.var }) half in
            let l = ap (level_of w.orders) same in absurd (omega (arith, l, lt)))
      ]

  high_under : Under high
  high_under = under high un.high_lacks (λ u hu lt. subst (λ x. Lacks k x u) (then-joined k upper high low un.high_lacks un.low_lacks) (Lacks-part k f u upper true (above_lacks u hu lt)))

  low_under : Under low
  low_under = under low un.low_lacks (λ u hu lt. subst (λ x. Lacks k x u) (else-joined k upper high low un.high_lacks un.low_lacks) (Lacks-part k f u upper false (above_lacks u hu lt)))

  pub values_are : (e : Edge) (g : ℕ → ValueOf k) → function_at (view_of w) e ≡ Some (function_of k g) → values_at k (view_of w) e ≡ g
  values_are e g h = ap (values_of k) h ∙ values_of-function k g

  can_cut : (e : Edge) (g : ℕ → ValueOf k) → function_at (view_of w) e ≡ Some (function_of k g) → Under g → CanCut k w lower e
  can_cut e g h below = record {
    edge = edge_is w un.sound k e g h;
    in_range = un.lower_in;
    below = λ node word. elim (cases_lt (level_of w.orders node.var) (level_of w.orders lower)) [
      | inl lt ↦ (let o = at_slot k e.complement (w.function e.index) g h in
          let n = node_parts w un.sound k e.index node (turned k e.complement g) word o in
          let next = un.next in
          absurd (node_depends w un.sound k e.index node (turned k e.complement g) word o (Lacks-turned k e.complement g node.var (below node.var n.in_range (omega (arith, lt, next))))))
      | inr le ↦ le
    ];
    lower = λ p h e. two (half_upper w upper lower un.half p h ∙ e);
  }

  pub cut_high : (e : Edge) → function_at (view_of w) e ≡ Some (function_of k high) → CanCut k w lower e
  cut_high e h = can_cut e high h high_under

  pub cut_low : (e : Edge) → function_at (view_of w) e ≡ Some (function_of k low) → CanCut k w lower e
  cut_low e h = can_cut e low h low_under

  -- a function that depends on the upper variable, and neither on the lower nor on those above, is of no other variable's node
  alone : (g : ℕ → ValueOf k) → (Lacks k g upper → ⊥) → Lacks k g lower → ((u : ℕ) → IsVariable k (view_of w) u → level_of w.orders u < level_of w.orders upper → Lacks k g u)
      → (s : ℕ) (node : Node) → w.word s ≡ Some (Inner node) → w.function s ≡ Some (function_of k g) → node.var ≡ upper
  alone g depends on_lower above s node word is =
      let n = node_parts w un.sound k s node g word is in
      let never = node_depends w un.sound k s node g word is in
      elim (cases_lt (level_of w.orders node.var) (level_of w.orders upper)) [
        | inl lt ↦ absurd (never (above node.var n.in_range lt))
        | inr ge ↦ elim (cases_lt (level_of w.orders upper) (level_of w.orders node.var)) [
          | inl lt ↦ elim (un.sound.ordered s node k g word is upper un.upper_in lt) [
            | inl lacks ↦ absurd (depends lacks)
            | inr half ↦ absurd (never (subst (Lacks k g) (half_lower w upper lower un.half (record { upper = upper; lower = node.var }) half) on_lower))
          ]
          | inr le ↦ level_once w un.sound k node.var upper n.in_range un.upper_in (omega (arith, le, ge))
        ]
      ]

  module _ (a b : Edge) (on : Bool) (a_is : function_at (view_of w) a ≡ Some (function_of k (part_at k high lower on))) (b_is : function_at (view_of w) b ≡ Some (function_of k (part_at k low lower on))) where
    abbrev g : ℕ → ValueOf k
    g = joined_at k upper (part_at k high lower on) (part_at k low lower on)

    values_join : node_values k (view_of w) upper a b ≡ g
    values_join = ap (λ x. joined_at k upper x (values_at k (view_of w) b)) (values_are a (part_at k high lower on) a_is)
        ∙ ap (joined_at k upper (part_at k high lower on)) (values_are b (part_at k low lower on) b_is)

    pub node_value : node_values k (view_of w) upper a b ≡ part_at k f lower on
    node_value = values_join ∙ sym (part-exchanged k upper lower high low on apart apart_back)

    part_under : (h : ℕ → ValueOf k) → Under h → Under (part_at k h lower on)
    part_under h below u hu le = Lacks-part k h u lower on (below u hu le)

    above_g : (u : ℕ) → IsVariable k (view_of w) u → level_of w.orders u < level_of w.orders upper → Lacks k g u
    above_g u hu lt =
        Lacks-joined k u upper (part_at k high lower on) (part_at k low lower on) (Apart-variables k (view_of w) u upper hu un.upper_in (λ e. let l = ap (level_of w.orders) e in omega (arith, l, lt)))
        (part_under high high_under u hu (omega (arith, lt))) (part_under low low_under u hu (omega (arith, lt)))

    pub can_add : CanAdd k w upper a b
    can_add = record {
      can_make = record {
        in_range = un.upper_in;
        hi_is = edge_is w un.sound k a (part_at k high lower on) a_is;
        lo_is = edge_is w un.sound k b (part_at k low lower on) b_is;
        hi_below = λ u hu le. subst (λ x. Lacks k x u) (sym (values_are a (part_at k high lower on) a_is)) (part_under high high_under u hu le);
        lo_below = λ u hu le. subst (λ x. Lacks k x u) (sym (values_are b (part_at k low lower on) b_is)) (part_under low low_under u hu le);
      };
      alone = λ proper s node word way.
          let t = as_turned k (w.function s) g (subst (λ x. (w.function s ≡ Some (function_of k x)) ⊎ (w.function s ≡ Some (opposite (function_of k x)))) values_join way) in
          let proper_g = subst (λ x. IsProper k x (part_at k low lower on)) (values_are a (part_at k high lower on) a_is) (subst (IsProper k (values_at k (view_of w) a)) (values_are b (part_at k low lower on) b_is) proper) in
          alone (turned k t.0 g)
          (λ lacks. depends k upper (part_at k high lower on) (part_at k low lower on) (part_under high high_under upper un.upper_in (omega arith)) (part_under low low_under upper un.upper_in (omega arith)) proper_g (Lacks-back k t.0 g upper lacks))
          (Lacks-turned k t.0 g lower (Lacks-joined k lower upper (part_at k high lower on) (part_at k low lower on) apart_back (Lacks-own_part k high lower on) (Lacks-own_part k low lower on)))
          (λ u hu lt. Lacks-turned k t.0 g u (above_g u hu lt)) s node word t.1;
    }

  -- a child of the lower variable
  child_depends : (e : Edge) (g : ℕ → ValueOf k) → function_at (view_of w) e ≡ Some (function_of k g) → is_node_of lower (w.word e.index) ≡ true → Lacks k g lower → ⊥
  child_depends e g h stands lacks =
      let n = node_test lower (w.word e.index) stands in
      node_depends w un.sound k e.index n.0 (turned k e.complement g) n.1 (at_slot k e.complement (w.function e.index) g h)
      (subst (Lacks k (turned k e.complement g)) (sym n.2) (Lacks-turned k e.complement g lower lacks))

  pub depends_on : (hi lo : Edge) → function_at (view_of w) hi ≡ Some (function_of k high) → function_at (view_of w) lo ≡ Some (function_of k low)
      → (is_node_of lower (w.word hi.index) ≡ true) ⊎ (is_node_of lower (w.word lo.index) ≡ true) → Lacks k f lower → ⊥
  depends_on hi lo hi_is lo_is (inl stands) lacks =
      child_depends hi high hi_is stands (subst (λ x. Lacks k x lower) (then-joined k upper high low un.high_lacks un.low_lacks) (Lacks-part k f lower upper true lacks))
  depends_on hi lo hi_is lo_is (inr stands) lacks =
      child_depends lo low lo_is stands (subst (λ x. Lacks k x lower) (else-joined k upper high low un.high_lacks un.low_lacks) (Lacks-part k f lower upper false lacks))

  -- no child is of the lower variable
  pub lacks_lower : Lacks k high lower → Lacks k low lower → Lacks k f lower
  lacks_lower h l = Lacks-joined k lower upper high low apart_back h l

  pub can_rewrite : (a b : Edge) → function_at (view_of w) a ≡ Some (function_of k (part_at k f lower true)) → function_at (view_of w) b ≡ Some (function_of k (part_at k f lower false))
      → (Lacks k f lower → ⊥) → (IsPermanent w slot → ⊥) → CanRewrite k w slot lower a b
  can_rewrite a b a_is b_is depends spare =
      let va = values_are a (part_at k f lower true) a_is in
      let vb = values_are b (part_at k f lower false) b_is in
      record {
        node = un.node;
        was = un.word;
        spare = spare;
        in_range = un.lower_in;
        half = inl (subst (λ x. NextAbove w x lower × NoneOrHalf w x lower) (sym un.var) (un.next, un.half));
        hi_is = edge_is w un.sound k a (part_at k f lower true) a_is;
        lo_is = edge_is w un.sound k b (part_at k f lower false) b_is;
        plain = plain_then w un.sound slot a.index lower k f a.complement un.function un.lower_in a_is;
        hi_lacks = subst (λ x. Lacks k x lower) (sym va) (Lacks-own_part k f lower true);
        lo_lacks = subst (λ x. Lacks k x lower) (sym vb) (Lacks-own_part k f lower false);
        proper = subst (λ x. IsProper k x (values_at k (view_of w) b)) (sym va) (subst (IsProper k (part_at k f lower true)) (sym vb) (parts-proper k f lower depends));
        same = un.function ∙ ap (λ x. Some (function_of k x)) (sym (joined-parts k f lower) ∙ ap (λ x. joined_at k lower x (part_at k f lower false)) (sym va) ∙ ap (joined_at k lower (values_at k (view_of w) a)) (sym vb));
      }

-- A node with a child of some variable is not permanent.
pub not_permanent : (w x : Content) → IsSound w → IsSound x → (slot lower : ℕ) (node : Node) (hi lo : Edge) → x.word slot ≡ Some (Inner node) → (hi ≡ plain node.hi) × (lo ≡ node.lo)
    → (is_node_of lower (w.word hi.index) ≡ true) ⊎ (is_node_of lower (w.word lo.index) ≡ true) → IsPermanent x slot → ⊥
not_permanent w x sound_w sound_x slot lower node hi lo word children touches (inl lt) = let e : Some (Leaf (constant_value slot)) ≡ Some (Inner node) = sym (sound_x.constants slot lt) ∙ word in cc
not_permanent w x sound_w sound_x slot lower node hi lo word children touches (inr (v, lt, is)) = at touches
  where
    same : Some (Inner (projection_node v)) ≡ Some (Inner node)
    same = sym is ∙ word

    leaf : (t : ℕ) → t ≡ true_slot → is_node_of lower (w.word t) ≡ true → ⊥
    leaf t e h = let l : false ≡ true = sym (ap (λ o. is_node_of lower o) (ap w.word e ∙ sound_w.constants true_slot (omega arith))) ∙ h in cc

    at : (is_node_of lower (w.word hi.index) ≡ true) ⊎ (is_node_of lower (w.word lo.index) ≡ true) → ⊥
    at (inl h) = leaf hi.index (ap (λ (e : Edge). e.index) children.0 ∙ sym (same_hi (projection_node v) node same)) h
    at (inr h) = leaf lo.index (ap (λ (e : Edge). e.index) children.1 ∙ sym (same_lo (projection_node v) node same)) h

module _ (k : Kind) (w : Content) (upper lower slot : ℕ) (high low : ℕ → ValueOf k) (un : UpperNode k w upper lower slot high low) where
  -- a child that is no node of the lower variable lacks it
  child_lacks : (e : Edge) (g : ℕ → ValueOf k) → function_at (view_of w) e ≡ Some (function_of k g) → CanCut k w lower e → is_node_of lower (w.word e.index) ≡ false → Lacks k g lower
  child_lacks e g h can stands = by_word u.0 u.1
    where
      o : w.function e.index ≡ Some (function_of k (turned k e.complement g))
      o = at_slot k e.complement (w.function e.index) g h

      u : IsUsed w e.index
      u = edge_used w un.sound k e g h

      by_word : (word : Word) → w.word e.index ≡ Some word → Lacks k g lower
      by_word (Leaf z) word = Lacks-back k e.complement g lower (leaf_lacks w un.sound e.index z k (turned k e.complement g) lower word o)
      by_word (Inner node) word =
          let n = node_parts w un.sound k e.index node (turned k e.complement g) word o in
          let other : node.var ≡ lower → ⊥ = λ same. let never : true ≡ false = sym (ap (is_node_of lower) word ∙ eq-eqb node.var lower same) ∙ stands in cc in
          elim (cases_lt (level_of w.orders lower) (level_of w.orders node.var)) [
            | inl lt ↦ elim (un.sound.ordered e.index node k (turned k e.complement g) word o lower un.lower_in lt) [
              | inl lacks ↦ Lacks-back k e.complement g lower lacks
              | inr half ↦ absurd (can.lower (record { upper = lower; lower = node.var }) half refl)
            ]
            | inr ge ↦ (let le = can.below node word in absurd (other (level_once w un.sound k node.var lower n.in_range un.lower_in (omega (arith, le, ge)))))
          ]

  pub untouched : (hi lo : Edge) → function_at (view_of w) hi ≡ Some (function_of k high) → function_at (view_of w) lo ≡ Some (function_of k low)
      → (is_node_of lower (w.word hi.index) || is_node_of lower (w.word lo.index)) ≡ false → Lacks k (joined_at k upper high low) lower
  untouched hi lo hi_is lo_is none =
      let both = neither (is_node_of lower (w.word hi.index)) (is_node_of lower (w.word lo.index)) none in
      lacks_lower k w upper lower slot high low un (child_lacks hi high hi_is (cut_high k w upper lower slot high low un hi hi_is) both.0) (child_lacks lo low lo_is (cut_low k w upper lower slot high low un lo lo_is) both.1)
