-- A slot that is live is marked with its children, and one that isn't is passed over.
use Rattle.std.proofs.Common.{◌≡◌, ℕ, ◌+◌, ◌<◌, ◌⊎◌, inl, inr, Bool, true, false, ◌&&◌, ◌||◌, cond, length, Option, Some, None, eqb-true, eq-eqb, refl, sym, ap, ◌∙◌, subst, arith}
use Rattle.std.specs.Prelude.{nat_lt, ◌==◌}
use Rattle.std.proofs.lemmas.Bool.{or_cases}
use Rattle.edge_bits.specs.Reading.{plain}
use Rattle.edge_bits.specs.declared.edges.Edge.{Edge}
use Rattle.edge_bits.specs.declared.edges.Kind.{Kind}
use Rattle.edge_bits.specs.declared.edges.Kind.TheVariants.{Bdd, Add, Zdd}
use Rattle.edge_bits.specs.declared.words.Node.{Node}
use Rattle.edge_bits.specs.declared.words.Word.{Word}
use Rattle.edge_bits.specs.declared.words.Word.TheVariants.{Inner, Leaf}
use Rattle.function_laws.specs.Values.{constant}
use Rattle.function_laws.specs.Kinds.{BddFunction, ValueOf, function_of}
use Rattle.node_store.specs.Views.{IsVariable}
use Rattle.node_store.specs.Contents.{Content, IsSound, IsPermanent, projection_node, view_of}
use Rattle.node_store.specs.Changes.{After, put_at, with_mark}
use Rattle.edge_bits.specs.Reading.{itself, then_child, else_child}
use Rattle.node_store.specs.Sweeps.{IsReached}
use Rattle.node_store.proofs.Rewriting.{put_at-same}
use Rattle.dead_sweep.specs.Marks.{rank_of, IsDone, Marked, is_live, is_projection_of}
use Rattle.dead_sweep.proofs.DoneSlots.{IsReached-more, put_true, put_back, same_after, one_more, more, not_done}
use Rattle.dead_sweep.proofs.Ranks.{then_rank, else_rank}

false_left : (a b : Bool) → (a || b) ≡ false → a ≡ false
false_left true b h = h
false_left false b h = refl

false_right : (a b : Bool) → (a || b) ≡ false → b ≡ false
false_right true b h = cc
false_right false b h = h

never_bool : true ≡ false → ⊥
never_bool e = cc

same_node : (p q : Node) → Inner p ≡ Inner q → p ≡ q
same_node p q e = cc

leaf_is : Option Word → Bool
leaf_is None = false
leaf_is (Some (Leaf x)) = true
leaf_is (Some (Inner node)) = false

node_not_constant : (w : Content) → IsSound w → (s : ℕ) (node : Node) → w.word s ≡ Some (Inner node) → s < 5 → ⊥
unfolding leaf_is
node_not_constant w sound s node word lt = never_bool (ap leaf_is (sym (sound.constants s lt) ∙ word))

pub projection_test : (hi lo : Edge) → hi.index ≡ 0 → lo.index ≡ 0 → lo.complement ≡ true → is_projection_of hi lo ≡ true
projection_test hi lo h i c = rw (eq-eqb hi.index 0 h, eq-eqb lo.index 0 i, c) refl

and_both : (a b : Bool) → (a && b) ≡ true → (a ≡ true) × (b ≡ true)
and_both true b h = (refl, h)
and_both false b h = cc

pub projection_back : (hi lo : Edge) → is_projection_of hi lo ≡ true → (hi.index ≡ 0) × (lo.index ≡ 0) × (lo.complement ≡ true)
projection_back hi lo h =
    let a = and_both (hi.index == 0) ((lo.index == 0) && lo.complement) h in
    let b = and_both (lo.index == 0) lo.complement a.1 in (eqb-true hi.index 0 a.0, eqb-true lo.index 0 b.0, b.1)

edge_of : (e : Edge) → e ≡ record { index = e.index; complement = e.complement }
edge_of e = refl

-- a node with a projection's children is a variable's projection
pub projection_is : (w : Content) (sound : IsSound w) (s : ℕ) (node : Node) → w.word s ≡ Some (Inner node) → node.hi ≡ 0 → node.lo.index ≡ 0 → node.lo.complement ≡ true → IsPermanent w s
projection_is w sound s node word h i c =
    let d = sound.denotes s (Inner node, word) in
    let n = sound.nodes s node d.0 word d.1 in
    let one : Some (BddFunction (constant true)) ≡ Some (function_of n.kind n.high) = sym sound.logic_one ∙ ap w.function (sym h) ∙ n.high_is in
    let mk : ℕ → ℕ → ℕ → Bool → Node = λ v a b c. record { var = v; hi = a; lo = record { index = b; complement = c } } in
    let is : node ≡ projection_node node.var = ap (λ a. mk node.var a node.lo.index node.lo.complement) h ∙ ap (λ b. mk node.var 0 b node.lo.complement) i ∙ ap (mk node.var 0 0) c in
    inr (node.var, variable n.kind n.high one n.in_range, word ∙ ap (λ x. Some (Inner x)) is)
  where
    variable : (k : Kind) (high : ℕ → ValueOf k) → Some (BddFunction (constant true)) ≡ Some (function_of k high) → IsVariable k (view_of w) node.var → node.var < length w.orders.variables
    variable Bdd high e v = v.1
    variable Add high e v = cc
    variable Zdd high e v = cc

module _ (others : (ℕ → ℕ) → (ℕ → ℕ) → Type 0)
    (both : (a b c : ℕ → ℕ) → others a b → others b c → others a c)
    (zero_stays : (a b : ℕ → ℕ) → others a b → (s : ℕ) → a s ≡ 0 → b s ≡ 0)
    (start v0 : Content) (is_root : ℕ → Bool) (rank slot : ℕ) (node : Node) (word : start.word slot ≡ Some (Inner node)) (here : rank_of start.orders (Inner node) ≡ rank)
    (m : Marked others start v0 is_root rank slot)
    (v1 v2 : Content) (a1 : After others v0 v1) (a2 : After others v1 v2) (count : ℕ) (marked : Bool)
    (count_is : count ≡ v1.count slot + (cond (v1.pinned slot) 1 0)) (marked_is : marked ≡ v1.marked slot)
    (sound : IsSound start) (settled : start.half ≡ None) (hi lo : Edge) (hi_is : hi ≡ plain node.hi) (lo_is : lo ≡ node.lo) where
  abbrev new_roots : ℕ → Bool
  new_roots = put_at is_root slot (nat_lt 0 count)

  same2 : After others (record start { marked = v2.marked }) v2
  same2 = same_after others both zero_stays start v1 v2 (same_after others both zero_stays start v0 v1 m.same v0.marked a1) v1.marked a2

  kept2 : v2.marked ≡ v0.marked
  kept2 = a2.marked ∙ a1.marked

  permanent_live : IsPermanent start slot → is_projection_of hi lo ≡ true
  permanent_live (inl lt) = absurd (node_not_constant start sound slot node word lt)
  permanent_live (inr (v, lt, w)) =
      let c : Some (Inner node) ≡ Some (Inner (projection_node v)) = sym word ∙ w in
      let one : node ≡ projection_node v = cc in
      projection_test hi lo (ap (λ (e : Edge). e.index) hi_is ∙ ap (λ (n : Node). n.hi) one) (ap (λ (e : Edge). e.index) lo_is ∙ ap (λ (n : Node). n.lo.index) one)
      (ap (λ (e : Edge). e.complement) lo_is ∙ ap (λ (n : Node). n.lo.complement) one)

  pub skipped : is_live count marked hi lo ≡ false → Marked others start v2 new_roots rank (slot + 1)
  skipped dead =
      let no_count : nat_lt 0 count ≡ false = false_left (nat_lt 0 count) (marked || is_projection_of hi lo) dead in
      let rest : (marked || is_projection_of hi lo) ≡ false = false_right (nat_lt 0 count) (marked || is_projection_of hi lo) dead in
      let no_mark : marked ≡ false = false_left marked (is_projection_of hi lo) rest in
      let no_projection : is_projection_of hi lo ≡ false = false_right marked (is_projection_of hi lo) rest in
      let unmarked : v2.marked slot ≡ false = ap (λ (f : ℕ → Bool). f slot) a2.marked ∙ sym marked_is ∙ no_mark in
      one_more others both zero_stays start v0 is_root rank slot (Inner node) word here m v1 v2 a1 a2 count marked count_is marked_is v2 same2 a2.counts
      (λ s h. ap (λ (f : ℕ → Bool). f s) kept2 ∙ h)
      (λ s h. inl (sym (ap (λ (f : ℕ → Bool). f s) kept2) ∙ h))
      (λ _ _ h. absurd (never_bool (sym h ∙ unmarked)))
      (λ h. absurd (never_bool (sym h ∙ no_count)))
      (λ p. absurd (never_bool (sym (permanent_live p) ∙ no_projection)))
      (λ s other h d x. sym (ap (λ (f : ℕ → Bool). f s) kept2) ∙ x)

  module _ (v3 v4 v5 : Content) (a3 : After others (with_mark v2 slot true) v3) (a4 : After others (with_mark v3 hi.index true) v4) (a5 : After others (with_mark v4 lo.index true) v5) where
    marks : v5.marked ≡ put_at (put_at (put_at v0.marked slot true) node.hi true) node.lo.index true
    marks =
        a5.marked ∙ ap (λ f. put_at f lo.index true) (a4.marked ∙ ap (λ f. put_at f hi.index true) (a3.marked ∙ ap (λ f. put_at f slot true) kept2))
        ∙ ap (λ i. put_at (put_at (put_at v0.marked slot true) i true) lo.index true) (ap (λ (e : Edge). e.index) hi_is)
        ∙ ap (λ i. put_at (put_at (put_at v0.marked slot true) node.hi true) i true) (ap (λ (e : Edge). e.index) lo_is)

    -- a mark is old, or of the slot or a child of it
    mark_from : (s : ℕ) → v5.marked s ≡ true → ((s ≡ slot) ⊎ ((s ≡ node.hi) ⊎ (s ≡ node.lo.index))) ⊎ (v0.marked s ≡ true)
    mark_from s h = elim (put_back (put_at (put_at v0.marked slot true) node.hi true) node.lo.index s (sym (ap (λ (f : ℕ → Bool). f s) marks) ∙ h)) [
      | inl e ↦ inl (inr (inr e))
      | inr h ↦ elim (put_back (put_at v0.marked slot true) node.hi s h) [
        | inl e ↦ inl (inr (inl e))
        | inr h ↦ elim (put_back v0.marked slot s h) [ inl e ↦ inl (inl e) | inr h ↦ inr h ]
      ]
    ]

    slot_reached : is_live count marked hi lo ≡ true → IsReached start new_roots slot
    slot_reached live = elim (or_cases (nat_lt 0 count) (marked || is_projection_of hi lo) live) [
      | inl counted ↦ (slot, inr ((Inner node, word), put_at-same is_root slot (nat_lt 0 count) ∙ counted), itself)
      | inr rest ↦ elim (or_cases marked (is_projection_of hi lo) rest) [
        | inl is_marked ↦ IsReached-more start is_root new_roots (more others both zero_stays start v0 is_root rank slot (Inner node) word here m v1 v2 a1 a2 count marked count_is marked_is) slot
            (m.reached slot (ap (λ (f : ℕ → Bool). f slot) (sym a1.marked) ∙ sym marked_is ∙ is_marked))
        | inr p ↦ (
            let q = projection_back hi lo p in (
              slot,
              inl (projection_is start sound slot node word (sym (ap (λ (e : Edge). e.index) hi_is) ∙ q.0) (sym (ap (λ (e : Edge). e.index) lo_is) ∙ q.1)
                  (sym (ap (λ (e : Edge). e.complement) lo_is) ∙ q.2)),
              itself,
            ))
      ]
    ]

    -- a child is not done yet
    child_fresh : (s : ℕ) (y : Word) → start.word s ≡ Some y → IsDone start.orders rank slot s y → (s ≡ node.hi) ⊎ (s ≡ node.lo.index) → ⊥
    child_fresh s y h d way =
        let greater : rank_of start.orders (Inner node) < rank_of start.orders y = elim way [
          | inl e ↦ then_rank start sound settled slot node word y (ap start.word (sym e) ∙ h)
          | inr e ↦ else_rank start sound settled slot node word y (ap start.word (sym e) ∙ h)
        ] in
        elim d [ inl lt ↦ omega (arith, lt, greater, here) | inr (e, _) ↦ omega (arith, e, greater, here) ]

    pub marked_more : is_live count marked hi lo ≡ true → Marked others start v5 new_roots rank (slot + 1)
    marked_more live =
        let old : (s : ℕ) → v0.marked s ≡ true → v5.marked s ≡ true = λ s h.
        ap (λ (f : ℕ → Bool). f s) marks ∙ put_true (put_at (put_at v0.marked slot true) node.hi true) node.lo.index s (put_true (put_at v0.marked slot true) node.hi s (put_true v0.marked slot s h)) in
        let own : v5.marked slot ≡ true =
        ap (λ (f : ℕ → Bool). f slot) marks ∙ put_true (put_at (put_at v0.marked slot true) node.hi true) node.lo.index slot (put_true (put_at v0.marked slot true) node.hi slot (put_at-same v0.marked slot true)) in
        let high : v5.marked node.hi ≡ true = ap (λ (f : ℕ → Bool). f node.hi) marks ∙ put_true (put_at (put_at v0.marked slot true) node.hi true) node.lo.index node.hi (put_at-same (put_at v0.marked slot true) node.hi true) in
        let low : v5.marked node.lo.index ≡ true = ap (λ (f : ℕ → Bool). f node.lo.index) marks ∙ put_at-same (put_at (put_at v0.marked slot true) node.hi true) node.lo.index true in
        let same5 = same_after others both zero_stays start v4 v5 (same_after others both zero_stays start v3 v4 (same_after others both zero_stays start v2 v3 same2 (put_at v2.marked slot true) a3) (put_at v3.marked hi.index true) a4) (put_at v4.marked lo.index true) a5 in
        one_more others both zero_stays start v0 is_root rank slot (Inner node) word here m v1 v2 a1 a2 count marked count_is marked_is v5 same5
        (both v1.count v4.count v5.count (both v1.count v3.count v4.count (both v1.count v2.count v3.count a2.counts a3.counts) a4.counts) a5.counts)
        old
        (λ s h. elim (mark_from s h) [
          | inr h ↦ inl h
          | inl (inl e) ↦ inr (subst (IsReached start new_roots) (sym e) (slot_reached live))
          | inl (inr (inl e)) ↦ inr (subst (IsReached start new_roots) (sym e) (let r = slot_reached live in (r.0, r.1, then_child slot node r.2 word)))
          | inl (inr (inr e)) ↦ inr (subst (IsReached start new_roots) (sym e) (let r = slot_reached live in (r.0, r.1, else_child slot node r.2 word)))
        ])
        (λ other e _. let c : Inner node ≡ Inner other = e in subst (λ n. (v5.marked n.hi ≡ true) × (v5.marked n.lo.index ≡ true)) (same_node node other c) (high, low))
        (λ _. own)
        (λ _. own)
        (λ s other h d x. elim (mark_from s x) [
          | inr h ↦ h
          | inl (inl e) ↦ absurd (not_done others both zero_stays start v0 is_root rank slot (Inner node) word here m v1 v2 a1 a2 count marked count_is marked_is
              (subst (λ t. IsDone start.orders rank slot t (Inner node)) e (done_as s other h d e)))
          | inl (inr way) ↦ absurd (child_fresh s (Inner other) h d way)
        ])
      where
        done_as : (s : ℕ) (other : Node) → start.word s ≡ Some (Inner other) → IsDone start.orders rank slot s (Inner other) → s ≡ slot → IsDone start.orders rank slot s (Inner node)
        done_as s other h d e =
            let c : Some (Inner other) ≡ Some (Inner node) = sym h ∙ ap start.word e ∙ word in
            let one : other ≡ node = cc in
            subst (λ n. IsDone start.orders rank slot s (Inner n)) one d
