-- What the edges of a sound store denote, in the middle of a swap too.
use Rattle.std.proofs.Common.{◌≡◌, ℕ, Bool, true, false, not, Option, Some, None, refl, sym, ap, ◌∙◌, subst}
use Rattle.edge_bits.specs.Reading.{plain}
use Rattle.edge_bits.specs.declared.edges.Edge.{Edge}
use Rattle.edge_bits.specs.declared.edges.Kind.{Kind}
use Rattle.edge_bits.specs.declared.edges.Kind.TheVariants.{Bdd, Add, Zdd}
use Rattle.edge_bits.specs.declared.words.Node.{Node}
use Rattle.edge_bits.specs.declared.words.Word.TheVariants.{Inner}
use Rattle.function_laws.specs.Values.{negation}
use Rattle.function_laws.specs.Kinds.{Denoted, BddFunction, AddFunction, ZddFamily, ValueOf, function_of, joined_at, Lacks, Fits, part_at, flipped}
use Rattle.function_laws.proofs.SupportLemmas.{not_not}
use Rattle.function_laws.proofs.ValueLemmas.{everywhere}
use Rattle.node_store.specs.Edges.{flip_if, xor}
use Rattle.node_store.specs.KindLaws.{part-joined}
use Rattle.node_store.specs.Views.{Denotes, Is, IsVariable, IsProper, function_at}
use Rattle.node_store.specs.ViewLaws.{Is-from, flipped-not}
use Rattle.node_store.specs.Contents.{Content, IsSound, IsUsed, view_of}
use Rattle.node_store.proofs.Parting.{depends, same_kind, same_values}

-- a BDD's values, turned where an edge complements
abbrev pub turned : (k : Kind) → Bool → (ℕ → ValueOf k) → ℕ → ValueOf k
turned Bdd true f = negation f
turned Bdd false f = f
turned Add c f = f
turned Zdd c f = f

pub turned-turned : (k : Kind) (c : Bool) (f : ℕ → ValueOf k) → turned k c (turned k c f) ≡ f
turned-turned Bdd true f = everywhere (negation (negation f)) f (λ k. not_not (f k))
turned-turned Bdd false f = refl
turned-turned Add c f = refl
turned-turned Zdd c f = refl

-- what stands in the slot of an edge
pub at_slot : (k : Kind) (c : Bool) (o : Option Denoted) (f : ℕ → ValueOf k) → flipped c o ≡ Some (function_of k f) → o ≡ Some (function_of k (turned k c f))
at_slot Bdd true o f h = flipped-not true o f h
at_slot Bdd false o f h = h
at_slot Add false o f h = h
at_slot Zdd false o f h = h
at_slot Add true None f h = cc
at_slot Add true (Some (BddFunction g)) f h = cc
at_slot Add true (Some (AddFunction g)) f h = cc
at_slot Add true (Some (ZddFamily g)) f h = cc
at_slot Zdd true None f h = cc
at_slot Zdd true (Some (BddFunction g)) f h = cc
at_slot Zdd true (Some (AddFunction g)) f h = cc
at_slot Zdd true (Some (ZddFamily g)) f h = cc

pub Lacks-turned : (k : Kind) (c : Bool) (f : ℕ → ValueOf k) (v : ℕ) → Lacks k f v → Lacks k (turned k c f) v
Lacks-turned Bdd true f v h = λ k b. ap not (h k b)
Lacks-turned Bdd false f v h = h
Lacks-turned Add c f v h = h
Lacks-turned Zdd c f v h = h

pub Lacks-back : (k : Kind) (c : Bool) (f : ℕ → ValueOf k) (v : ℕ) → Lacks k (turned k c f) v → Lacks k f v
Lacks-back k c f v h = subst (λ g. Lacks k g v) (turned-turned k c f) (Lacks-turned k c (turned k c f) v h)

Fits-back : (k : Kind) (c : Bool) (f : ℕ → ValueOf k) → Fits k (turned k c f) → Fits k f
Fits-back Bdd c f h = tt
Fits-back Add c f h = h
Fits-back Zdd c f h = tt

turned-part : (k : Kind) (c : Bool) (f : ℕ → ValueOf k) (v : ℕ) (b : Bool) → turned k c (part_at k f v b) ≡ part_at k (turned k c f) v b
turned-part Bdd true f v b = refl
turned-part Bdd false f v b = refl
turned-part Add c f v b = refl
turned-part Zdd c f v b = refl

-- an edge with the complement of another one, where that one denotes a function of the kind
flip_to : (k : Kind) (c : Bool) (d : Bool) (o p : Option Denoted) (f g : ℕ → ValueOf k) → flipped c o ≡ Some (function_of k f) → flipped d p ≡ Some (function_of k g)
    → flipped (xor c d) p ≡ Some (function_of k (turned k c g))
flip_to Bdd true d o p f g h i = flipped-not d p g i
flip_to Bdd false d o p f g h i = i
flip_to Add false d o p f g h i = i
flip_to Zdd false d o p f g h i = i
flip_to Add true d None p f g h i = cc
flip_to Add true d (Some (BddFunction x)) p f g h i = cc
flip_to Add true d (Some (AddFunction x)) p f g h i = cc
flip_to Add true d (Some (ZddFamily x)) p f g h i = cc
flip_to Zdd true d None p f g h i = cc
flip_to Zdd true d (Some (BddFunction x)) p f g h i = cc
flip_to Zdd true d (Some (AddFunction x)) p f g h i = cc
flip_to Zdd true d (Some (ZddFamily x)) p f g h i = cc

module _ (w : Content) (sound : IsSound w) where
  pub edge_denotes : (k : Kind) (e : Edge) (f : ℕ → ValueOf k) → function_at (view_of w) e ≡ Some (function_of k f) → Denotes k (view_of w) e f
  edge_denotes k e f h =
      let s = sound.of_store e.index k (turned k e.complement f) (at_slot k e.complement (w.function e.index) f h) in
      record { is = h; beyond = λ v b. Lacks-back k e.complement f v (s.0 v b); fits = Fits-back k e.complement f s.1 }

  pub edge_is : (k : Kind) (e : Edge) (f : ℕ → ValueOf k) → function_at (view_of w) e ≡ Some (function_of k f) → Is k (view_of w) e
  edge_is k e f h = Is-from k {a = view_of w} {e = e} {f = f} (edge_denotes k e f h)

  -- an edge that denotes a function has a word
  pub edge_used : (k : Kind) (e : Edge) (f : ℕ → ValueOf k) → function_at (view_of w) e ≡ Some (function_of k f) → IsUsed w e.index
  edge_used k e f h = sound.used e.index (function_of k (turned k e.complement f)) (at_slot k e.complement (w.function e.index) f h)

  -- a node's function, by the kind that it is said to be of
  pub record NodeParts (k : Kind) (node : Node) (g : ℕ → ValueOf k) : Type 0 where
    pub high : ℕ → ValueOf k
    pub low : ℕ → ValueOf k
    pub in_range : IsVariable k (view_of w) node.var
    pub high_is : w.function node.hi ≡ Some (function_of k high)
    pub low_is : flipped node.lo.complement (w.function node.lo.index) ≡ Some (function_of k low)
    pub is : g ≡ joined_at k node.var high low
    pub high_lacks : Lacks k high node.var
    pub low_lacks : Lacks k low node.var
    pub proper : IsProper k high low

  pub node_parts : (k : Kind) (s : ℕ) (node : Node) (g : ℕ → ValueOf k) → w.word s ≡ Some (Inner node) → w.function s ≡ Some (function_of k g) → NodeParts k node g
  node_parts k s node g word is =
      let n = sound.nodes s node (function_of k g) word is in
      at n.kind (same_kind n.kind k (joined_at n.kind node.var n.high n.low) g (sym n.is)) n.high n.low n.in_range n.high_is n.low_is n.is n.high_lacks n.low_lacks n.proper
    where
      at : (j : Kind) → j ≡ k → (high low : ℕ → ValueOf j) → IsVariable j (view_of w) node.var → w.function node.hi ≡ Some (function_of j high)
          → flipped node.lo.complement (w.function node.lo.index) ≡ Some (function_of j low) → function_of k g ≡ function_of j (joined_at j node.var high low)
          → Lacks j high node.var → Lacks j low node.var → IsProper j high low → NodeParts k node g
      at j jk = subst (λ j. (high low : ℕ → ValueOf j) → IsVariable j (view_of w) node.var → w.function node.hi ≡ Some (function_of j high)
          → flipped node.lo.complement (w.function node.lo.index) ≡ Some (function_of j low) → function_of k g ≡ function_of j (joined_at j node.var high low)
          → Lacks j high node.var → Lacks j low node.var → IsProper j high low → NodeParts k node g) (sym jk)
          (λ high low range hi lo e hl ll proper. record { high = high; low = low; in_range = range; high_is = hi; low_is = lo; is = same_values k g (joined_at k node.var high low) e; high_lacks = hl; low_lacks = ll; proper = proper })

  -- a node's function depends on its variable
  pub node_depends : (k : Kind) (s : ℕ) (node : Node) (g : ℕ → ValueOf k) → w.word s ≡ Some (Inner node) → w.function s ≡ Some (function_of k g) → Lacks k g node.var → ⊥
  node_depends k s node g word is lacks =
      let n = node_parts k s node g word is in
      depends k node.var n.high n.low n.high_lacks n.low_lacks n.proper (subst (λ x. Lacks k x node.var) n.is lacks)

  -- both parts of an edge's function by its node's variable
  pub edge_parts : (k : Kind) (e : Edge) (f : ℕ → ValueOf k) (node : Node) → function_at (view_of w) e ≡ Some (function_of k f) → w.word e.index ≡ Some (Inner node)
      → (function_at (view_of w) (flip_if e.complement (plain node.hi)) ≡ Some (function_of k (part_at k f node.var true)))
      × (function_at (view_of w) (flip_if e.complement node.lo) ≡ Some (function_of k (part_at k f node.var false)))
  edge_parts k e f node h word =
      let c = e.complement in
      let o = at_slot k c (w.function e.index) f h in
      let n = node_parts k e.index node (turned k c f) word o in
      let high : turned k c n.high ≡ part_at k f node.var true =
      ap (turned k c) (sym (part-joined k node.var n.high n.low true n.high_lacks n.low_lacks) ∙ ap (λ x. part_at k x node.var true) (sym n.is))
      ∙ turned-part k c (turned k c f) node.var true ∙ ap (λ x. part_at k x node.var true) (turned-turned k c f) in
      let low : turned k c n.low ≡ part_at k f node.var false =
      ap (turned k c) (sym (part-joined k node.var n.high n.low false n.high_lacks n.low_lacks) ∙ ap (λ x. part_at k x node.var false) (sym n.is))
      ∙ turned-part k c (turned k c f) node.var false ∙ ap (λ x. part_at k x node.var false) (turned-turned k c f) in (
        flip_to k c false (w.function e.index) (w.function node.hi) f n.high h n.high_is ∙ ap (λ x. Some (function_of k x)) high,
        flip_to k c node.lo.complement (w.function e.index) (w.function node.lo.index) f n.low h n.low_is ∙ ap (λ x. Some (function_of k x)) low,
      )
