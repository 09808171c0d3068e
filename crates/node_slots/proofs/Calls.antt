-- What the calls of a store answer, from what its words are.
use Rattle.std.proofs.Common.{◌≡◌, ℕ, zero, suc, ◌+◌, ◌<◌, ◌≤◌, inl, inr, Bool, true, false, not, cond, length, Some, ℤ, pos, refl, ap, sym, ◌∙◌, subst, arith}
use Rattle.std.specs.Prelude.{if◌then◌else◌}
use Rattle.edge_bits.specs.declared.edges.Edge.{Edge}
use Rattle.edge_bits.specs.declared.edges.Kind.{Kind}
use Rattle.edge_bits.specs.declared.edges.Kind.TheVariants.{Bdd, Add, Zdd}
use Rattle.edge_bits.specs.declared.words.Node.{Node}
use Rattle.edge_bits.specs.declared.words.Word.{Word}
use Rattle.edge_bits.specs.declared.words.Word.TheVariants.{Inner, Leaf}
use Rattle.edge_bits.specs.Assignments.{bit}
use Rattle.edge_bits.specs.Permanent.{first_projection}
use Rattle.edge_bits.specs.Reading.{plain}
use Rattle.edge_bits.proofs.AssignmentLemmas.{bit-set_other}
use Rattle.function_laws.specs.Values.{constant, negation, choice, projection}
use Rattle.function_laws.proofs.ValueLemmas.{everywhere, place_one}
use Rattle.function_laws.specs.Kinds.{BddFunction, AddFunction, ValueOf, function_of, flipped}
use Rattle.node_store.specs.Edges.{flip_if}
use Rattle.node_store.specs.Views.{IsVariable, IsBelow, IsProper, IsInner, IsLeaf, IsLeafOf, logic_one, logic_zero, Opens, Splits, CanMake, Is, IsProjection, Permanent, function_at, values_at, node_values}
use Rattle.node_store.specs.ViewLaws.{values_at-is, Is-from, Denotes-flip}
use Rattle.node_slots.specs.Slots.{word_function, function_at_most}
use Rattle.node_store.specs.Contents.{projection_node}
use Rattle.node_slots.specs.Stores.{Plain, HasPermanent, longest, slots, level_in, content_of, top_in, plain_view, IsNode, IsStore}
use Rattle.node_store.specs.Contents.{opened_of}
use Rattle.node_slots.proofs.Reading.{at_word}
use Rattle.node_store.proofs.Parting.{same_values}
use Rattle.node_slots.proofs.Flips.{unflip, not-injective}
use Rattle.node_slots.proofs.Canonical.{inner_high, top_word, LeafSlot, leaf_or_node, regular_slot, lower_slot}

some_values : (k : Kind) (f g : ℕ → ValueOf k) → Some (function_of k f) ≡ Some (function_of k g) → f ≡ g
some_values k f g e = same_values k f g (let same : function_of k f ≡ function_of k g = cc in same)

-- a leaf denotes its value
pub leaf_content : (p : Plain) (s : ℕ) (x : ℤ) → 3 ≤ s → slots p s ≡ Some (Leaf x) → content_of p s ≡ Some (AddFunction (constant x))
leaf_content p s x le is = at_word (slots p) (longest p) s le ∙ ap (word_function (function_at_most (slots p) (longest p))) is

-- slot 0 is logic one
pub zero_at : (p : Plain) (m : ℕ) → 1 ≤ m → function_at_most (slots p) m 0 ≡ Some (BddFunction (constant true))
unfolding function_at_most
zero_at p zero le = absurd (omega arith)
zero_at p (suc m) le = refl

projection_is : (v : ℕ) → choice v (constant true) (negation (constant true)) ≡ projection v
projection_is v = everywhere (choice v (constant true) (negation (constant true))) (projection v) (λ k. by_bit (bit k v))
  where
    by_bit : (b : Bool) → cond b true false ≡ b
    by_bit true = refl
    by_bit false = refl

pub projection_content : (p : Plain) → HasPermanent p → (v : ℕ) → v < length p.variable_levels → content_of p (5 + v) ≡ Some (BddFunction (projection v))
projection_content p first v lt =
    let one = zero_at p (longest p) (omega arith) in
    at_word (slots p) (longest p) (5 + v) (omega arith) ∙ ap (word_function (function_at_most (slots p) (longest p))) (first.projections v lt)
    ∙ rw one (ap (λ f. Some (BddFunction f)) (projection_is v))

module _ (p : Plain) (st : IsStore p) where
  lower_edge : (k : Kind) (e : Edge) (f : ℕ → ValueOf k) → function_at (plain_view p) e ≡ Some (function_of k f)
      → (v : ℕ) → IsVariable k (plain_view p) v → IsBelow k (plain_view p) v f → level_in p v < top_in p e.index
  lower_edge k e f h v vn below =
      let u = unflip k e.complement (content_of p e.index) f h in
      lower_slot p st.permanent st.canonical st.ordered k e.index u.inner u.is v vn (λ x xn le. u.lacks x (below x xn le))

  -- a node as a store keeps it
  pub node_kept : (k : Kind) (node : Node) → CanMake k (plain_view p) node.var (plain node.hi) node.lo
      → IsProper k (values_at k (plain_view p) (plain node.hi)) (values_at k (plain_view p) node.lo) → IsNode k p node
  node_kept k node c proper = record {
    can_make = c;
    proper = proper;
    regular = regular_slot p st.permanent st.canonical k node.hi (values_at k (plain_view p) (plain node.hi)) c.hi_is.is;
  }

  -- opening
  below-not : (v : ℕ) (f : ℕ → Bool) → IsBelow Bdd (plain_view p) v f → IsBelow Bdd (plain_view p) v (negation f)
  below-not v f h u un le k b = ap not (h u un le k b)

  open_inner : (k : Kind) (e : Edge) (f : ℕ → ValueOf k) (v : ℕ) (hi lo : Edge) → Splits k (plain_view p) v f hi lo → IsProper k (values_at k (plain_view p) hi) (values_at k (plain_view p) lo)
      → IsVariable k (plain_view p) v → top_in p e.index ≡ level_in p v → IsInner k (plain_view p) e f v hi lo
  open_inner k e f v hi lo s proper vn here = record {
    in_range = vn;
    splits = s;
    proper = proper;
    here = here;
    within = st.ordered.within k v vn;
    alone = λ u un same. st.ordered.alone k u v un vn same;
    hi_top = lower_edge k hi (values_at k (plain_view p) hi) s.hi_is.is v vn s.hi_below;
    lo_top = lower_edge k lo (values_at k (plain_view p) lo) s.lo_is.is v vn s.lo_below;
  }

  opens_node : (k : Kind) (c : Bool) (i : ℕ) (node : Node) → IsNode k p node → top_in p i ≡ level_in p node.var → (f : ℕ → ValueOf k)
      → flipped c (Some (function_of k (node_values k (plain_view p) node.var (plain node.hi) node.lo))) ≡ Some (function_of k f)
      → IsInner k (plain_view p) (record { index = i; complement = c }) f node.var (flip_if c (plain node.hi)) (flip_if c node.lo)
  opens_node k false i node n here f is =
      let m = n.can_make in
      open_inner k (record { index = i; complement = false }) f node.var (plain node.hi) node.lo
      (record { hi_is = m.hi_is; lo_is = m.lo_is; is = sym (some_values k _ f is); hi_below = m.hi_below; lo_below = m.lo_below }) n.proper m.in_range here
  opens_node Add true i node n here f is = cc
  opens_node Zdd true i node n here f is = cc
  opens_node Bdd true i node n here f is =
      let m = n.can_make in let w = plain_view p in
      let high = values_at Bdd w (plain node.hi) in let low = values_at Bdd w node.lo in
      let dh = Denotes-flip m.hi_is in let dl = Denotes-flip m.lo_is in
      let eh : values_at Bdd w (flip_if true (plain node.hi)) ≡ negation high = values_at-is Bdd dh in
      let el : values_at Bdd w (flip_if true node.lo) ≡ negation low = values_at-is Bdd dl in
      let whole : f ≡ choice node.var (negation high) (negation low) = sym (some_values Bdd _ f is) ∙ place_one not high low node.var in
      open_inner Bdd (record { index = i; complement = true }) f node.var (flip_if true (plain node.hi)) (flip_if true node.lo)
      (record {
        hi_is = Is-from Bdd dh;
        lo_is = Is-from Bdd dl;
        is = rw (eh, el) whole;
        hi_below = rw eh (below-not node.var high m.hi_below);
        lo_below = rw el (below-not node.var low m.lo_below);
      })
      (rw (eh, el) (λ e. n.proper (everywhere high low (λ x. not-injective (high x) (low x) (ap (λ (g : ℕ → Bool). g x) e)))))
      m.in_range here

  opens_leaf : (k : Kind) (c : Bool) (i : ℕ) (f g : ℕ → ValueOf k) → (l : LeafSlot k p i g) → flipped c (Some (function_of k g)) ≡ Some (function_of k f)
      → IsLeaf k (plain_view p) (record { index = i; complement = c }) f (if c then pos 0 else l.value)
  opens_leaf k false i f g l is = record { leaf = subst (λ h. IsLeafOf k (plain i) h l.value) (some_values k g f is) l.leaf; here = l.top }
  opens_leaf Add true i f g l is = cc
  opens_leaf Zdd true i f g l is = cc
  opens_leaf Bdd true i f g l is = record { leaf = turned i f g l.value l.leaf (some_values Bdd (negation g) f is); here = l.top }
    where
      turned : (i : ℕ) (f g : ℕ → Bool) (x : ℤ) → IsLeafOf Bdd (plain i) g x → negation g ≡ f → IsLeafOf Bdd (record { index = i; complement = true }) f (pos 0)
      turned _ f _ _ logic_one e = subst (λ h. IsLeafOf Bdd (record { index = 0; complement = true }) h (pos 0)) e logic_zero

  -- what opening an edge answers
  pub opens_word : (k : Kind) (e : Edge) (word : Word) → Is k (plain_view p) e → slots p e.index ≡ Some word
      → Opens k (plain_view p) e (values_at k (plain_view p) e) (opened_of word e.complement)
  opens_word k e word d is =
      let f = values_at k (plain_view p) e in
      let u = unflip k e.complement (content_of p e.index) f d.is in
      let h = ap (flipped e.complement) (sym u.is) ∙ d.is in
      elim (leaf_or_node p st.permanent st.canonical k e.index u.inner u.is) [
        | inl l ↦ (
            let same : Some (Leaf l.value) ≡ Some word = sym l.word ∙ is in
            let w : Leaf l.value ≡ word = cc in
            subst (λ x. Opens k (plain_view p) e f (opened_of x e.complement)) w (opens_leaf k e.complement e.index f u.inner l h))
        | inr n ↦ (
            let same : Some (Inner n.node) ≡ Some word = sym n.word ∙ is in
            let w : Inner n.node ≡ word = cc in
            let high = inner_high p st.permanent e.index n.node n.word in
            subst (λ x. Opens k (plain_view p) e f (opened_of x e.complement)) w
            (opens_node k e.complement e.index n.node n.is_node (top_word p e.index (Some (Inner n.node)) (omega arith) n.word) f (subst (λ g. flipped e.complement (Some (function_of k g)) ≡ Some (function_of k f)) n.is h)))
      ]

  -- the permanent slots
  pub permanent_is : Permanent (plain_view p)
  unfolding function_at_most
  permanent_is = record {
    one = refl;
    empty = refl;
    base = refl;
    add_zero = leaf_content p 3 (pos 0) (omega arith) (st.permanent.constants 3 (omega arith));
    add_one = leaf_content p 4 (pos 1) (omega arith) (st.permanent.constants 4 (omega arith));
    one_top = refl;
    empty_top = refl;
    base_top = refl;
    add_zero_top = top_word p 3 (Some (Leaf (pos 0))) (omega arith) (st.permanent.constants 3 (omega arith));
    add_one_top = top_word p 4 (Some (Leaf (pos 1))) (omega arith) (st.permanent.constants 4 (omega arith));
  }

  pub projection_denotes : (v : ℕ) → IsVariable Bdd (plain_view p) v → IsProjection (plain_view p) v (plain (first_projection + v))
  projection_denotes v vn = record {
    denotes = record {
      is = projection_content p st.permanent v vn.1;
      beyond = λ u h k b. bit-set_other k u v b (λ same. omega (arith, h, vn.1, same));
      fits = tt;
    };
    top = top_word p (first_projection + v) (Some (Inner (projection_node v))) (omega arith) (st.permanent.projections v vn.1);
  }
