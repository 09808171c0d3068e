-- A new node in a free slot leaves a sound store, in the middle of a swap too. Its then child is not complemented.
use Rattle.std.proofs.Common.{◌≡◌, ◌≢◌, ℕ, ◌<◌, ◌⊎◌, inl, inr, Bool, true, false, cond, length, Some, None, refl, sym, ap, ◌∙◌, subst, arith}
use Rattle.std.proofs.lemmas.Bool.{cases_eq}
use Rattle.edge_bits.specs.Assignments.{bit}
use Rattle.edge_bits.specs.declared.edges.Edge.{Edge}
use Rattle.edge_bits.specs.declared.edges.Kind.{Kind}
use Rattle.edge_bits.specs.declared.edges.Kind.TheVariants.{Bdd, Add, Zdd}
use Rattle.edge_bits.specs.declared.words.Node.{Node}
use Rattle.edge_bits.specs.declared.words.Word.{Word}
use Rattle.edge_bits.specs.declared.words.Word.TheVariants.{Inner, Leaf}
use Rattle.function_laws.specs.Values.{choice}
use Rattle.function_laws.specs.Kinds.{Denoted, BddFunction, AddFunction, ZddFamily, ValueOf, function_of, joined_at, Lacks, Fits, flipped}
use Rattle.node_store.specs.KindLaws.{Lacks-joined, Fits-joined, flipped-some}
use Rattle.node_store.specs.Views.{IsVariable, IsBeyond, IsProper, CanMake, values_at, node_values}
use Rattle.node_store.specs.ViewLaws.{Apart-variables, Apart-beyond}
use Rattle.node_store.specs.Contents.{Content, IsSound, IsNodeOf, level_of, view_of}
use Rattle.node_store.specs.Changes.{with_node}
use Rattle.node_store.proofs.Parting.{same_kind, same_values}
use Rattle.node_store.proofs.Rewriting.{put_at-same, put_at-other, IsVariable-same, IsBeyond-same, same_var}

module _ (w : Content) (sound : IsSound w) (k : Kind) (s v : ℕ) (hi lo : Edge) (can : CanMake k (view_of w) v hi lo) (plain : hi.complement ≡ false)
    (proper : IsProper k (values_at k (view_of w) hi) (values_at k (view_of w) lo)) (free : w.word s ≡ None) (within : s < w.limit)
    (fresh : (t : ℕ) → w.function t ≡ Some (function_of k (node_values k (view_of w) v hi lo)) → ⊥) where
  abbrev values : ℕ → ValueOf k
  values = node_values k (view_of w) v hi lo

  abbrev node : Node
  node = record { var = v; hi = hi.index; lo = lo }

  abbrev new : Content
  new = with_node w s node (function_of k values)

  no_function : (f : Denoted) → w.function s ≡ Some f → ⊥
  no_function f h = let u = sound.used s f h in let c : None ≡ Some u.0 = sym free ∙ u.1 in never u.0 c
    where
      never : (x : Word) → None ≡ Some x → ⊥
      never x c = cc

  word_here : new.word s ≡ Some (Inner node)
  word_here = put_at-same w.word s (Some (Inner node))

  word_other : (t : ℕ) → t ≢ s → new.word t ≡ w.word t
  word_other t ne = put_at-other w.word s t (Some (Inner node)) ne

  function_here : new.function s ≡ Some (function_of k values)
  function_here = put_at-same w.function s (Some (function_of k values))

  function_other : (t : ℕ) → t ≢ s → new.function t ≡ w.function t
  function_other t ne = put_at-other w.function s t (Some (function_of k values)) ne

  apart_used : (t : ℕ) (word : Word) → w.word t ≡ Some word → t ≢ s
  apart_used t word h e = let c : None ≡ Some word = sym free ∙ ap w.word (sym e) ∙ h in never c
    where
      never : None ≡ Some word → ⊥
      never c = cc

  apart_denoting : (t : ℕ) (f : Denoted) → w.function t ≡ Some f → t ≢ s
  apart_denoting t f h e = no_function f (ap w.function (sym e) ∙ h)

  kept : (t : ℕ) (f : Denoted) → w.function t ≡ Some f → new.function t ≡ Some f
  kept t f h = function_other t (apart_denoting t f h) ∙ h

  kept_word : (t : ℕ) (word : Word) → w.word t ≡ Some word → new.word t ≡ Some word
  kept_word t word h = word_other t (apart_used t word h) ∙ h

  -- a function of the new store is the new node's or an old one
  old_or_new : (t : ℕ) (f : Denoted) → new.function t ≡ Some f → ((t ≡ s) × (f ≡ function_of k values)) ⊎ (w.function t ≡ Some f)
  old_or_new t f h = elim (cases_eq t s) [
    | inl e ↦ inl (e, (let c : Some f ≡ Some (function_of k values) = sym h ∙ ap new.function e ∙ function_here in cc))
    | inr ne ↦ inr (sym (function_other t ne) ∙ h)
  ]

  high_is : w.function hi.index ≡ Some (function_of k (values_at k (view_of w) hi))
  high_is = subst (λ c. flipped c (w.function hi.index) ≡ Some (function_of k (values_at k (view_of w) hi))) plain can.hi_is.is

  own_node : IsNodeOf new node (function_of k values)
  own_node = record {
    kind = k;
    high = values_at k (view_of w) hi;
    low = values_at k (view_of w) lo;
    in_range = IsVariable-same k w new refl v can.in_range;
    high_is = kept hi.index (function_of k (values_at k (view_of w) hi)) high_is;
    low_is = (let o = flipped-some lo.complement (w.function lo.index) (function_of k (values_at k (view_of w) lo)) can.lo_is.is in
        ap (flipped lo.complement) (kept lo.index o.0 o.1 ∙ sym o.1) ∙ can.lo_is.is);
    is = refl;
    high_lacks = can.hi_below v can.in_range (omega arith);
    low_lacks = can.lo_below v can.in_range (omega arith);
    proper = proper;
  }

  node_same : (t : ℕ) (other : Node) (f : Denoted) → w.word t ≡ Some (Inner other) → w.function t ≡ Some f → IsNodeOf new other f
  node_same t other f word is = let n = sound.nodes t other f word is in record {
    kind = n.kind;
    high = n.high;
    low = n.low;
    in_range = IsVariable-same n.kind w new refl other.var n.in_range;
    high_is = kept other.hi (function_of n.kind n.high) n.high_is;
    low_is = (let o = flipped-some other.lo.complement (w.function other.lo.index) (function_of n.kind n.low) n.low_is in
        ap (flipped other.lo.complement) (kept other.lo.index o.0 o.1 ∙ sym o.1) ∙ n.low_is);
    is = n.is;
    high_lacks = n.high_lacks;
    low_lacks = n.low_lacks;
    proper = n.proper;
  }

  node_after : (t : ℕ) (other : Node) (f : Denoted) → new.word t ≡ Some (Inner other) → new.function t ≡ Some f → IsNodeOf new other f
  node_after t other f word is = elim (cases_eq t s) [
    | inl e ↦ (
        let same : Some (Inner node) ≡ Some (Inner other) = sym word_here ∙ ap new.word (sym e) ∙ word in
        let one : node ≡ other = cc in
        let fs : Some (function_of k values) ≡ Some f = sym function_here ∙ ap new.function (sym e) ∙ is in
        let same_f : function_of k values ≡ f = cc in
        subst (λ n. IsNodeOf new n f) one (subst (IsNodeOf new node) same_f own_node))
    | inr ne ↦ node_same t other f (sym (word_other t ne) ∙ word) (sym (function_other t ne) ∙ is)
  ]

  lacks_below : (u : ℕ) → IsVariable k (view_of w) u → level_of w.orders u < level_of w.orders v → Lacks k values u
  lacks_below u hu lt =
      Lacks-joined k u v (values_at k (view_of w) hi) (values_at k (view_of w) lo) (Apart-variables k (view_of w) u v hu can.in_range (λ e. let l = ap (level_of w.orders) e in omega (arith, l, lt)))
      (can.hi_below u hu (omega (arith, lt))) (can.lo_below u hu (omega (arith, lt)))

  lacks_beyond : (u : ℕ) → IsBeyond k (view_of w) u → Lacks k values u
  lacks_beyond u hu =
      Lacks-joined k u v (values_at k (view_of w) hi) (values_at k (view_of w) lo) (Apart-beyond k (view_of w) u v hu can.in_range) (can.hi_is.beyond u hu) (can.lo_is.beyond u hu)

  -- of the new node, whatever kind its function is said to be
  own_ordered : (j : Kind) (f : ℕ → ValueOf j) → function_of j f ≡ function_of k values → (u : ℕ) → IsVariable j (view_of w) u → level_of w.orders u < level_of w.orders v → Lacks j f u
  own_ordered j f e u hu lt = by_kind j (same_kind j k f values e) f e hu
    where
      by_kind : (j : Kind) → j ≡ k → (f : ℕ → ValueOf j) → function_of j f ≡ function_of k values → IsVariable j (view_of w) u → Lacks j f u
      by_kind j jk = subst (λ j. (f : ℕ → ValueOf j) → function_of j f ≡ function_of k values → IsVariable j (view_of w) u → Lacks j f u) (sym jk)
          (λ f e hu. subst (λ g. Lacks k g u) (sym (same_values k f values e)) (lacks_below u hu lt))

  own_within : (j : Kind) (f : ℕ → ValueOf j) → function_of j f ≡ function_of k values → ((u : ℕ) → IsBeyond j (view_of w) u → Lacks j f u) × Fits j f
  own_within j f e = by_kind j (same_kind j k f values e) f e
    where
      by_kind : (j : Kind) → j ≡ k → (f : ℕ → ValueOf j) → function_of j f ≡ function_of k values → ((u : ℕ) → IsBeyond j (view_of w) u → Lacks j f u) × Fits j f
      by_kind j jk = subst (λ j. (f : ℕ → ValueOf j) → function_of j f ≡ function_of k values → ((u : ℕ) → IsBeyond j (view_of w) u → Lacks j f u) × Fits j f) (sym jk)
          (λ f e. subst (λ g. ((u : ℕ) → IsBeyond k (view_of w) u → Lacks k g u) × Fits k g) (sym (same_values k f values e))
          (lacks_beyond, Fits-joined k v (values_at k (view_of w) hi) (values_at k (view_of w) lo) can.hi_is.fits can.lo_is.fits))

  -- true where all variables are, as its then child is
  own_regular : (j : Kind) (high low : ℕ → ValueOf j) → IsVariable j (view_of w) v → w.function hi.index ≡ Some (function_of j high) → (f : ℕ → Bool) → BddFunction f ≡ function_of j (joined_at j v high low)
      → (x : ℕ) → ((u : ℕ) → u < length w.orders.variables → bit x u ≡ true) → f x ≡ true
  own_regular Bdd high low vn h f e x all =
      let same : f ≡ choice v high low = cc in
      ap (λ (g : ℕ → Bool). g x) same ∙ ap (λ b. cond b (high x) (low x)) (all v vn.1) ∙ sound.regular hi.index high h x all
  own_regular Add high low vn h f e x all = cc
  own_regular Zdd high low vn h f e x all = cc

  pub added_sound : IsSound new
  added_sound = record {
    variables = sound.variables;
    elements = sound.elements;
    few_variables = sound.few_variables;
    few_elements = sound.few_elements;
    within = λ t u. elim (cases_eq t s) [
      | inl e ↦ subst (λ x. x < w.limit) (sym e) within
      | inr ne ↦ sound.within t (u.0, sym (word_other t ne) ∙ u.1)
    ];
    few_slots = sound.few_slots;
    denotes = λ t u. elim (cases_eq t s) [
      | inl e ↦ (function_of k values, ap new.function e ∙ function_here)
      | inr ne ↦ (let d = sound.denotes t (u.0, sym (word_other t ne) ∙ u.1) in (d.0, kept t d.0 d.1))
    ];
    used = λ t f h. elim (cases_eq t s) [
      | inl e ↦ (Inner node, ap new.word e ∙ word_here)
      | inr ne ↦ (let u = sound.used t f (sym (function_other t ne) ∙ h) in (u.0, kept_word t u.0 u.1))
    ];
    constants = λ t lt. kept_word t (Leaf _) (sound.constants t lt);
    logic_one = kept 0 (BddFunction (λ _. true)) sound.logic_one;
    empty_family = kept 1 (ZddFamily _) sound.empty_family;
    base_family = kept 2 (ZddFamily _) sound.base_family;
    projections = λ x lt. let p = sound.projections x lt in (p.0, kept_word p.0 (Inner _) p.1);
    nodes = node_after;
    leaves = λ t x le word. elim (cases_eq t s) [
      | inl e ↦ (let c : Some (Inner node) ≡ Some (Leaf x) = sym word_here ∙ ap new.word (sym e) ∙ word in cc)
      | inr ne ↦ (let h = sound.leaves t x le (sym (word_other t ne) ∙ word) in (kept t (AddFunction (λ _. x)) h.0, h.1))
    ];
    apart = λ t u f h i. elim (old_or_new t f h) [
      | inl (e, same) ↦ elim (old_or_new u f i) [
        | inl (d, _) ↦ e ∙ sym d
        | inr older ↦ absurd (fresh u (older ∙ ap Some same))
      ]
      | inr older ↦ elim (old_or_new u f i) [
        | inl (d, same) ↦ absurd (fresh t (older ∙ ap Some same))
        | inr other ↦ sound.apart t u f older other
      ]
    ];
    regular = λ t f h x all. elim (old_or_new t (BddFunction f) h) [
      | inl (e, same) ↦ own_regular k (values_at k (view_of w) hi) (values_at k (view_of w) lo) can.in_range high_is f same x all
      | inr older ↦ sound.regular t f older x all
    ];
    of_store = λ t j f h. elim (old_or_new t (function_of j f) h) [
      | inl (e, same) ↦ (let o = own_within j f same in ((λ u b. o.0 u (IsBeyond-same j w new refl u b)), o.1))
      | inr older ↦ (let o = sound.of_store t j f older in ((λ u b. o.0 u (IsBeyond-same j w new refl u b)), o.1))
    ];
    ordered = λ t other j f word h u hu lt. elim (old_or_new t (function_of j f) h) [
      | inl (e, same) ↦ (
          let words : Some (Inner node) ≡ Some (Inner other) = sym word_here ∙ ap new.word (sym e) ∙ word in
          let one : v ≡ other.var = same_var node other words in
          inl (own_ordered j f same u (IsVariable-same j new w refl u hu) (subst (λ x. level_of w.orders u < level_of w.orders x) (sym one) lt)))
      | inr older ↦ sound.ordered t other j f (sym (word_other t (apart_denoting t (function_of j f) older)) ∙ word) older u (IsVariable-same j new w refl u hu) lt
    ];
    few_counts = sound.few_counts;
    uncounted = λ t none. sound.uncounted t (free_before t none);
    unpinned = λ t none. sound.unpinned t (free_before t none);
  }
    where
      free_before : (t : ℕ) → new.word t ≡ None → w.word t ≡ None
      free_before t none = elim (cases_eq t s) [
        | inl e ↦ ap w.word e ∙ free
        | inr ne ↦ sym (word_other t ne) ∙ none
      ]
