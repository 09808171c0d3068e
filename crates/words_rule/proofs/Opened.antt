-- What the words of a sound content open into, where no swap is half made.
use Rattle.std.proofs.Common.{◌≡◌, ℕ, zero, suc, ◌<◌, ◌≤◌, inl, inr, Bool, true, false, not, cond, length, Option, Some, None, ℤ, pos, refl, ap, sym, ◌∙◌, subst, arith}
use Rattle.std.specs.Prelude.{if◌then◌else◌}
use Rattle.std.proofs.lemmas.Bool.{cases_lt}
use Rattle.edge_bits.specs.declared.edges.Edge.{Edge}
use Rattle.edge_bits.specs.declared.edges.Kind.{Kind}
use Rattle.edge_bits.specs.declared.edges.Kind.TheVariants.{Bdd, Add, Zdd}
use Rattle.edge_bits.specs.declared.words.Node.{Node}
use Rattle.edge_bits.specs.declared.words.Word.{Word}
use Rattle.edge_bits.specs.declared.words.Word.TheVariants.{Inner, Leaf}
use Rattle.edge_bits.specs.Reading.{plain}
use Rattle.function_laws.specs.Values.{constant, negation, choice}
use Rattle.function_laws.specs.Families.{empty, base}
use Rattle.function_laws.proofs.ValueLemmas.{everywhere, place_one}
use Rattle.function_laws.specs.Kinds.{Denoted, BddFunction, AddFunction, ZddFamily, ValueOf, function_of, joined_at, Lacks, Fits, part_at, flipped}
use Rattle.function_laws.proofs.LackingParts.{Free, own, Free-Lacks, Lacks-Free, part-function, Free-more}
use Rattle.node_store.specs.Edges.{flip_if}
use Rattle.node_store.specs.KindLaws.{part-joined}
use Rattle.node_store.specs.Views.{View, levels, IsVariable, IsBeyond, IsBelow, IsProper, IsInner, IsLeaf, IsLeafOf, logic_one, logic_zero, number, no_member, only_base, Opens, Splits, CanMake, Denotes, Is, values_at, node_values}
use Rattle.node_store.specs.ViewLaws.{values_at-is, Is-from, Denotes-flip}
use Rattle.node_store.specs.Contents.{Content, Pair, IsSound, level_of, view_of, opened_of, top_of, top_of_word}
use Rattle.node_store.proofs.Ordering.{own-within, level-own}
use Rattle.node_store.proofs.Parting.{same_kind, same_values, lower}
use Rattle.node_store.proofs.Rewriting.{level_once}
use Rattle.node_slots.proofs.Flips.{unflip, not-injective}

some_values : (k : Kind) (f g : ℕ → ValueOf k) → Some (function_of k f) ≡ Some (function_of k g) → f ≡ g
some_values k f g e = same_values k f g (let same : function_of k f ≡ function_of k g = cc in same)

module _ (w : Content) (sound : IsSound w) where
  abbrev V : View
  V = view_of w

  turned : (k : Kind) (c : Bool) (s : ℕ) (f : ℕ → ValueOf k) → flipped c (w.function s) ≡ Some (function_of k f) → ((v : ℕ) → IsBeyond k V v → Lacks k f v) × Fits k f
  turned k false s f is = sound.of_store s k f is
  turned k true s f is = by k f (w.function s) refl is
    where
      by : (k : Kind) (f : ℕ → ValueOf k) (o : Option Denoted) → w.function s ≡ o → flipped true o ≡ Some (function_of k f) → ((v : ℕ) → IsBeyond k V v → Lacks k f v) × Fits k f
      by k f None at is = cc
      by k f (Some (AddFunction g)) at is = cc
      by k f (Some (ZddFamily g)) at is = cc
      by Add f (Some (BddFunction g)) at is = cc
      by Zdd f (Some (BddFunction g)) at is = cc
      by Bdd f (Some (BddFunction g)) at is = let e : negation g ≡ f = cc in (subst (λ (h : ℕ → Bool). (v : ℕ) → IsBeyond Bdd V v → Lacks Bdd h v) e (λ v h k b. ap not ((sound.of_store s Bdd g at).0 v h k b)), tt)

  -- what an edge denotes
  pub at_edge : (e : Edge) (k : Kind) (f : ℕ → ValueOf k) → flipped e.complement (w.function e.index) ≡ Some (function_of k f) → Denotes k V e f
  at_edge e k f is = let o = turned k e.complement e.index f is in record { is = is; beyond = o.0; fits = o.1 }

  pub top_word : (s : ℕ) (o : Option Word) → 3 ≤ s → w.word s ≡ o → top_of w s ≡ top_of_word w.orders o
  top_word zero o le is = absurd (omega arith)
  top_word (suc zero) o le is = absurd (omega arith)
  top_word (suc (suc zero)) o le is = absurd (omega arith)
  top_word (suc (suc (suc s))) o le is = ap (top_of_word w.orders) is

  pub inner_high : (s : ℕ) (node : Node) → w.word s ≡ Some (Inner node) → 5 ≤ s
  inner_high s node is = elim (cases_lt s 5) [
    | inl lt ↦ (let e = sym (sound.constants s lt) ∙ is in cc)
    | inr le ↦ le
  ]

  -- a leaf
  pub leaf_at : (s : ℕ) (x : ℤ) (k : Kind) (f : ℕ → ValueOf k) → w.word s ≡ Some (Leaf x) → w.function s ≡ Some (function_of k f) → IsLeafOf k (plain s) f x × (top_of w s ≡ levels k V)
  leaf_at zero x k f word is = by k f x (sym sound.logic_one ∙ is) (sym (sound.constants 0 (omega arith)) ∙ word)
    where
      by : (k : Kind) (f : ℕ → ValueOf k) (x : ℤ) → Some (BddFunction (constant true)) ≡ Some (function_of k f) → Some (Leaf (pos 1)) ≡ Some (Leaf x) → IsLeafOf k (plain 0) f x × (top_of w 0 ≡ levels k V)
      by Bdd f x e d = let a : constant true ≡ f = cc in let b : pos 1 ≡ x = cc in (subst (λ (y : (ℕ → Bool) × ℤ). IsLeafOf Bdd (plain 0) y.0 y.1) (λ i. (a i, b i)) logic_one, refl)
      by Add f x e d = cc
      by Zdd f x e d = cc
  leaf_at (suc zero) x k f word is = by k f x (sym sound.empty_family ∙ is) (sym (sound.constants 1 (omega arith)) ∙ word)
    where
      by : (k : Kind) (f : ℕ → ValueOf k) (x : ℤ) → Some (ZddFamily empty) ≡ Some (function_of k f) → Some (Leaf (pos 0)) ≡ Some (Leaf x) → IsLeafOf k (plain 1) f x × (top_of w 1 ≡ levels k V)
      by Bdd f x e d = cc
      by Add f x e d = cc
      by Zdd f x e d = let a : empty ≡ f = cc in let b : pos 0 ≡ x = cc in (subst (λ (y : (ℕ → Bool) × ℤ). IsLeafOf Zdd (plain 1) y.0 y.1) (λ i. (a i, b i)) no_member, refl)
  leaf_at (suc (suc zero)) x k f word is = by k f x (sym sound.base_family ∙ is) (sym (sound.constants 2 (omega arith)) ∙ word)
    where
      by : (k : Kind) (f : ℕ → ValueOf k) (x : ℤ) → Some (ZddFamily base) ≡ Some (function_of k f) → Some (Leaf (pos 1)) ≡ Some (Leaf x) → IsLeafOf k (plain 2) f x × (top_of w 2 ≡ levels k V)
      by Bdd f x e d = cc
      by Add f x e d = cc
      by Zdd f x e d = let a : base ≡ f = cc in let b : pos 1 ≡ x = cc in (subst (λ (y : (ℕ → Bool) × ℤ). IsLeafOf Zdd (plain 2) y.0 y.1) (λ i. (a i, b i)) only_base, refl)
  leaf_at (suc (suc (suc s))) x k f word is = by k f (sym (sound.leaves (suc (suc (suc s))) x (omega arith) word).0 ∙ is)
    where
      by : (k : Kind) (f : ℕ → ValueOf k) → Some (AddFunction (constant x)) ≡ Some (function_of k f) → IsLeafOf k (plain (suc (suc (suc s)))) f x × (top_of w (suc (suc (suc s))) ≡ levels k V)
      by Bdd f e = cc
      by Add f e = let a : constant x ≡ f = cc in (subst (λ (y : ℕ → ℤ). IsLeafOf Add (plain (suc (suc (suc s)))) y x) a (number (plain (suc (suc (suc s)))) x), ap (top_of_word w.orders) word)
      by Zdd f e = cc

  -- the level of a variable is below the number of levels
  pub within_levels : (k : Kind) (v : ℕ) → IsVariable k V v → V.level v < levels k V
  within_levels Bdd v vn = subst (λ (l : ℕ). l < length w.orders.variables) (sym (level-own Bdd w v vn)) (sound.variables.stands v vn.1)
  within_levels Add v vn = subst (λ (l : ℕ). l < length w.orders.variables) (sym (level-own Add w v vn)) (sound.variables.stands v vn.1)
  within_levels Zdd v vn = subst (λ (l : ℕ). l < length w.orders.elements) (sym (level-own Zdd w v vn)) (sound.elements.stands (own Zdd v) (own-within Zdd w v vn))

  pub opens_leaf : (k : Kind) (c : Bool) (i : ℕ) (f g : ℕ → ValueOf k) (x : ℤ) → IsLeafOf k (plain i) g x → top_of w i ≡ levels k V → flipped c (Some (function_of k g)) ≡ Some (function_of k f)
      → IsLeaf k V (record { index = i; complement = c }) f (if c then pos 0 else x)
  opens_leaf k false i f g x l top is = record { leaf = subst (λ h. IsLeafOf k (plain i) h x) (some_values k g f is) l; here = top }
  opens_leaf Add true i f g x l top is = cc
  opens_leaf Zdd true i f g x l top is = cc
  opens_leaf Bdd true i f g x l top is = record { leaf = by i f g x l (some_values Bdd (negation g) f is); here = top }
    where
      by : (i : ℕ) (f g : ℕ → Bool) (x : ℤ) → IsLeafOf Bdd (plain i) g x → negation g ≡ f → IsLeafOf Bdd (record { index = i; complement = true }) f (pos 0)
      by _ f _ _ logic_one e = subst (λ h. IsLeafOf Bdd (record { index = 0; complement = true }) h (pos 0)) e logic_zero

  module _ (settled : w.half ≡ None) where
    -- a node's children may make it
    pub record NodeOf (k : Kind) (node : Node) (f : Denoted) : Type 0 where
      pub can : CanMake k V node.var (plain node.hi) node.lo
      pub proper : IsProper k (values_at k V (plain node.hi)) (values_at k V node.lo)
      pub is : f ≡ function_of k (node_values k V node.var (plain node.hi) node.lo)

    part_below : (k : Kind) (f h l : ℕ → ValueOf k) (v u : ℕ) (b : Bool) → f ≡ joined_at k v h l → Lacks k h v → Lacks k l v → Lacks k f u → Lacks k (cond b h l) u
    part_below k f h l v u b is hl ll lacks =
        Lacks-Free k (cond b h l) u (subst (λ (x : Denoted). Free x (own k u))
        (part-function k f v b ∙ ap (λ (x : ℕ → ValueOf k). function_of k (part_at k x v b)) is ∙ ap (function_of k) (part-joined k v h l b hl ll))
        (Free-more (function_of k f) (own k u) (own k v) b (Free-Lacks k f u lacks)))

    pub node_made : (s : ℕ) (node : Node) (f : Denoted) → w.word s ≡ Some (Inner node) → w.function s ≡ Some f → (k : Kind) × NodeOf k node f
    node_made s node f word is =
        let n = sound.nodes s node f word is in
        let k : Kind = n.kind in
        let F : ℕ → ValueOf k = joined_at k node.var n.high n.low in
        let dh : Denotes k V (plain node.hi) n.high = at_edge (plain node.hi) k n.high n.high_is in
        let dl : Denotes k V node.lo n.low = at_edge node.lo k n.low n.low_is in
        let eh : values_at k V (plain node.hi) ≡ n.high = values_at-is k dh in
        let el : values_at k V node.lo ≡ n.low = values_at-is k dl in
        let below : (b : Bool) → Lacks k (cond b n.high n.low) node.var → IsBelow k V node.var (cond b n.high n.low) = λ b lacks u un le. elim (cases_lt (V.level u) (V.level node.var)) [
          | inl lt ↦ elim (sound.ordered s node k F word (is ∙ ap Some n.is) u un lt) [
            | inl free ↦ part_below k F n.high n.low node.var u b refl n.high_lacks n.low_lacks free
            | inr half ↦ (let e : ◌≡◌ {A = Option Pair} None (Some (record { upper = u; lower = node.var })) = sym settled ∙ half in cc)
          ]
          | inr ge ↦ subst (λ (x : ℕ). Lacks k (cond b n.high n.low) x) (sym (level_once w sound k u node.var un n.in_range (omega (arith, le, ge)))) lacks
        ] in (
          k,
          record {
            can = record {
              in_range = n.in_range;
              hi_is = Is-from k dh;
              lo_is = Is-from k dl;
              hi_below = subst (λ (x : ℕ → ValueOf k). IsBelow k V node.var x) (sym eh) (below true n.high_lacks);
              lo_below = subst (λ (x : ℕ → ValueOf k). IsBelow k V node.var x) (sym el) (below false n.low_lacks);
            };
            proper = subst (λ (y : (ℕ → ValueOf k) × (ℕ → ValueOf k)). IsProper k y.0 y.1) (λ i. (sym eh i, sym el i)) n.proper;
            is = n.is ∙ ap (λ (y : (ℕ → ValueOf k) × (ℕ → ValueOf k)). function_of k (joined_at k node.var y.0 y.1)) (λ i. (sym eh i, sym el i));
          },
        )

    pub node_at : (s : ℕ) (node : Node) (k : Kind) (f : ℕ → ValueOf k) → w.word s ≡ Some (Inner node) → w.function s ≡ Some (function_of k f) → NodeOf k node (function_of k f)
    node_at s node k f word is =
        let x = node_made s node (function_of k f) word is in
        subst (λ (j : Kind). NodeOf j node (function_of k f)) (sym (same_kind k x.0 f (node_values x.0 V node.var (plain node.hi) node.lo) x.1.is)) x.1

    pub lower_slot : (k : Kind) (s : ℕ) (f : ℕ → ValueOf k) → w.function s ≡ Some (function_of k f) → (v : ℕ) → IsVariable k V v → IsBelow k V v f → V.level v < top_of w s
    lower_slot k s f is v vn below = let u = sound.used s (function_of k f) is in by u.0 u.1
      where
        by : (word : Word) → w.word s ≡ Some word → V.level v < top_of w s
        by (Leaf x) word = let t = (leaf_at s x k f word is).1 in let i = within_levels k v vn in omega (arith, t, i)
        by (Inner node) word =
            let n = node_at s node k f word is in
            let c = n.can in
            let high = inner_high s node word in
            let t = top_word s (Some (Inner node)) (omega (arith, high)) word in
            let lt = lower k V (λ u v hu hv e. level_once w sound k u v hu hv e) node.var v (values_at k V (plain node.hi)) (values_at k V node.lo) c.in_range c.hi_below c.lo_below n.proper
            (subst (IsBelow k V v) (same_values k f (node_values k V node.var (plain node.hi) node.lo) n.is) below) in
            omega (arith, t, lt)

    lower_edge : (k : Kind) (e : Edge) (f : ℕ → ValueOf k) → flipped e.complement (w.function e.index) ≡ Some (function_of k f) → (v : ℕ) → IsVariable k V v → IsBelow k V v f → V.level v < top_of w e.index
    lower_edge k e f h v vn below =
        let u = unflip k e.complement (w.function e.index) f h in
        lower_slot k e.index u.inner u.is v vn (λ x xn le. u.lacks x (below x xn le))

    below-not : (v : ℕ) (f : ℕ → Bool) → IsBelow Bdd V v f → IsBelow Bdd V v (negation f)
    below-not v f h u un le k b = ap not (h u un le k b)

    open_inner : (k : Kind) (e : Edge) (f : ℕ → ValueOf k) (v : ℕ) (hi lo : Edge) → Splits k V v f hi lo → IsProper k (values_at k V hi) (values_at k V lo)
        → IsVariable k V v → top_of w e.index ≡ level_of w.orders v → IsInner k V e f v hi lo
    open_inner k e f v hi lo s proper vn here = record {
      in_range = vn;
      splits = s;
      proper = proper;
      here = here;
      within = within_levels k v vn;
      alone = λ u un same. level_once w sound k u v un vn same;
      hi_top = lower_edge k hi (values_at k V hi) s.hi_is.is v vn s.hi_below;
      lo_top = lower_edge k lo (values_at k V lo) s.lo_is.is v vn s.lo_below;
    }

    opens_node : (k : Kind) (c : Bool) (i : ℕ) (node : Node) (g : Denoted) → NodeOf k node g → top_of w i ≡ level_of w.orders node.var → (f : ℕ → ValueOf k)
        → flipped c (Some g) ≡ Some (function_of k f) → IsInner k V (record { index = i; complement = c }) f node.var (flip_if c (plain node.hi)) (flip_if c node.lo)
    opens_node k false i node g n here f turn =
        let m = n.can in
        open_inner k (record { index = i; complement = false }) f node.var (plain node.hi) node.lo
        (record { hi_is = m.hi_is; lo_is = m.lo_is; is = sym (some_values k _ f (sym (ap Some n.is) ∙ turn)); hi_below = m.hi_below; lo_below = m.lo_below }) n.proper m.in_range here
    opens_node Add true i node g n here f turn = let e = ap (λ (x : Denoted). flipped true (Some x)) (sym n.is) ∙ turn in cc
    opens_node Zdd true i node g n here f turn = let e = ap (λ (x : Denoted). flipped true (Some x)) (sym n.is) ∙ turn in cc
    opens_node Bdd true i node g n here f turn =
        let m = n.can in
        let high = values_at Bdd V (plain node.hi) in let low = values_at Bdd V node.lo in
        let dh = Denotes-flip m.hi_is in let dl = Denotes-flip m.lo_is in
        let eh : values_at Bdd V (flip_if true (plain node.hi)) ≡ negation high = values_at-is Bdd dh in
        let el : values_at Bdd V (flip_if true node.lo) ≡ negation low = values_at-is Bdd dl in
        let e : flipped true (Some (function_of Bdd (node_values Bdd V node.var (plain node.hi) node.lo))) ≡ Some (function_of Bdd f) = ap (λ (x : Denoted). flipped true (Some x)) (sym n.is) ∙ turn in
        let whole : f ≡ choice node.var (negation high) (negation low) = sym (some_values Bdd _ f e) ∙ place_one not high low node.var in
        open_inner Bdd (record { index = i; complement = true }) f node.var (flip_if true (plain node.hi)) (flip_if true node.lo)
        (record {
          hi_is = Is-from Bdd dh;
          lo_is = Is-from Bdd dl;
          is = rw (eh, el) whole;
          hi_below = rw eh (below-not node.var high m.hi_below);
          lo_below = rw el (below-not node.var low m.lo_below);
        })
        (rw (eh, el) (λ e. n.proper (everywhere high low (λ x. not-injective (high x) (low x) (ap (λ (g : ℕ → Bool). g x) e)))))
        m.in_range here

    -- what opening an edge answers
    pub opens_word : (k : Kind) (e : Edge) (word : Word) → Is k V e → w.word e.index ≡ Some word → Opens k V e (values_at k V e) (opened_of word e.complement)
    opens_word k e word d is = by word is
      where
        by : (word : Word) → w.word e.index ≡ Some word → Opens k V e (values_at k V e) (opened_of word e.complement)
        by (Leaf x) is =
            let f = values_at k V e in
            let u = unflip k e.complement (w.function e.index) f d.is in
            let l = leaf_at e.index x k u.inner is u.is in
            opens_leaf k e.complement e.index f u.inner x l.0 l.1 (ap (flipped e.complement) (sym u.is) ∙ d.is)
        by (Inner node) is =
            let f = values_at k V e in
            let u = unflip k e.complement (w.function e.index) f d.is in
            let high = inner_high e.index node is in
            opens_node k e.complement e.index node (function_of k u.inner) (node_at e.index node k u.inner is u.is) (top_word e.index (Some (Inner node)) (omega (arith, high)) is) f (ap (flipped e.complement) (sym u.is) ∙ d.is)
