-- Both parts of what an edge denotes, and whether its node is of a variable.
use Rattle.std.proofs.Common.{◌≡◌, ℕ, ◌<◌, ◌≤◌, inl, inr, Bool, true, false, Option, Some, ℤ, refl, sym, ap, ◌∙◌, subst, arith}
use Rattle.std.specs.Prelude.{◌==◌}
use Rattle.std.proofs.lemmas.Bool.{cases_lt}
use Rattle.edge_bits.specs.Permanent.{empty_edge, first_element}
use Rattle.edge_bits.specs.Reading.{plain}
use Rattle.edge_bits.specs.declared.edges.Edge.{Edge}
use Rattle.edge_bits.specs.declared.edges.Kind.{Kind}
use Rattle.edge_bits.specs.declared.edges.Kind.TheVariants.{Bdd, Add, Zdd}
use Rattle.edge_bits.specs.declared.words.Node.{Node}
use Rattle.edge_bits.specs.declared.words.Word.{Word}
use Rattle.edge_bits.specs.declared.words.Word.TheVariants.{Inner, Leaf}
use Rattle.function_laws.specs.Kinds.{Denoted, ValueOf, function_of, Lacks, part_at, flipped}
use Rattle.node_store.specs.Edges.{flip_if}
use Rattle.node_store.specs.declared.grow.Opened.{Opened}
use Rattle.node_store.specs.declared.grow.Opened.TheVariants as opened
use Rattle.node_store.specs.Views.{Is, IsVariable, function_at, values_at}
use Rattle.node_store.specs.Contents.{Content, IsUsed, level_of, is_node_of, opened_of, view_of}
use Rattle.node_store.specs.Changes.{After}
use Rattle.node_store.proofs.LeafLemmas.{leaf_lacks}
use Rattle.node_store.proofs.Parting.{part-lacking}
use Rattle.node_store.proofs.Rewriting.{level_once, IsVariable-same}
use Rattle.level_swap.specs.Swapping.{CanCut, IsCut}
use Rattle.level_swap.proofs.SoundEdges.{turned, at_slot, Lacks-back, edge_used, edge_parts, node_parts}

abbrev stands_at : ℕ → Opened → Bool
stands_at x (opened.Inner v hi lo) = v == x
stands_at x (opened.Leaf y) = false

opened_stands : (word : Word) (c : Bool) (x : ℕ) → stands_at x (opened_of word c) ≡ is_node_of x (Some word)
opened_stands (Inner node) c x = refl
opened_stands (Leaf y) c x = refl

opened_var : (node : Node) (c : Bool) (x : ℕ) (hi lo : Edge) → opened.Inner x hi lo ≡ opened_of (Inner node) c → (x ≡ node.var) × (hi ≡ flip_if c (plain node.hi)) × (lo ≡ flip_if c node.lo)
opened_var node c x hi lo e = (first e, second e, third e)
  where
    first : opened.Inner x hi lo ≡ opened.Inner node.var (flip_if c (plain node.hi)) (flip_if c node.lo) → x ≡ node.var
    first e = cc

    second : opened.Inner x hi lo ≡ opened.Inner node.var (flip_if c (plain node.hi)) (flip_if c node.lo) → hi ≡ flip_if c (plain node.hi)
    second e = cc

    third : opened.Inner x hi lo ≡ opened.Inner node.var (flip_if c (plain node.hi)) (flip_if c node.lo) → lo ≡ flip_if c node.lo
    third e = cc

no_leaf : (y : ℤ) (c : Bool) (x : ℕ) (hi lo : Edge) → opened.Inner x hi lo ≡ opened_of (Leaf y) c → ⊥
no_leaf y c x hi lo e = never _ e
  where
    never : (z : ℤ) → opened.Inner x hi lo ≡ opened.Leaf z → ⊥
    never z e = cc

module _ (others : (ℕ → ℕ) → (ℕ → ℕ) → Type 0) (w x : Content) (a : After others w x) where
  function_same : (e : Edge) → function_at (view_of x) e ≡ function_at (view_of w) e
  function_same e = ap (λ (h : ℕ → Option Denoted). flipped e.complement (h e.index)) a.function

  word_same : (s : ℕ) → x.word s ≡ w.word s
  word_same s = ap (λ (h : ℕ → Option Word). h s) a.word

  -- whether the opened node is of a variable
  pub stands_is : (k : Kind) (e : Edge) → Is k (view_of w) e → (r : Opened) → ((word : Word) → w.word e.index ≡ Some word → r ≡ opened_of word e.complement)
      → (v : ℕ) → stands_at v r ≡ is_node_of v (w.word e.index)
  stands_is k e is r opens v =
      let u = edge_used x a.sound k e (values_at k (view_of w) e) (function_same e ∙ is.is) in
      let h : w.word e.index ≡ Some u.0 = sym (word_same e.index) ∙ u.1 in
      ap (stands_at v) (opens u.0 h) ∙ opened_stands u.0 e.complement v ∙ ap (is_node_of v) (sym h)

  module _ (k : Kind) (v : ℕ) (e : Edge) (can : CanCut k w v e) where
    abbrev f : ℕ → ValueOf k
    f = values_at k (view_of w) e

    here : function_at (view_of x) e ≡ Some (function_of k f)
    here = function_same e ∙ can.edge.is

    -- the node is of the variable: its children are the parts
    pub cut_here : (r : Opened) → ((word : Word) → w.word e.index ≡ Some word → r ≡ opened_of word e.complement) → (y : ℕ) (hi lo : Edge) → r ≡ opened.Inner y hi lo → y ≡ v → IsCut k w v e hi lo
    cut_here r opens y hi lo arm same = by_word u.0 u.1
      where
        u : IsUsed x e.index
        u = edge_used x a.sound k e f here

        by_word : (word : Word) → x.word e.index ≡ Some word → IsCut k w v e hi lo
        by_word (Leaf z) h = absurd (no_leaf z e.complement y hi lo (sym arm ∙ opens (Leaf z) (sym (word_same e.index) ∙ h)))
        by_word (Inner node) h =
            let o = opened_var node e.complement y hi lo (sym arm ∙ opens (Inner node) (sym (word_same e.index) ∙ h)) in
            let parts = edge_parts x a.sound k e f node here h in
            let var : node.var ≡ v = sym o.0 ∙ same in (
              sym (function_same hi) ∙ ap (function_at (view_of x)) o.1 ∙ parts.0 ∙ ap (λ z. Some (function_of k (part_at k f z true))) var,
              sym (function_same lo) ∙ ap (function_at (view_of x)) o.2 ∙ parts.1 ∙ ap (λ z. Some (function_of k (part_at k f z false))) var,
            )

    -- else its function lacks it
    pub cut_lacks : (r : Opened) → ((word : Word) → w.word e.index ≡ Some word → r ≡ opened_of word e.complement) → ((y : ℕ) (hi lo : Edge) → r ≡ opened.Inner y hi lo → y ≡ v → ⊥) → Lacks k f v
    cut_lacks r opens other = by_word u.0 u.1
      where
        u : IsUsed x e.index
        u = edge_used x a.sound k e f here

        o : x.function e.index ≡ Some (function_of k (turned k e.complement f))
        o = at_slot k e.complement (x.function e.index) f here

        range : IsVariable k (view_of x) v
        range = IsVariable-same k w x a.orders v can.in_range

        by_word : (word : Word) → x.word e.index ≡ Some word → Lacks k f v
        by_word (Leaf z) h = Lacks-back k e.complement f v (leaf_lacks x a.sound e.index z k (turned k e.complement f) v h o)
        by_word (Inner node) h =
            let before : w.word e.index ≡ Some (Inner node) = sym (word_same e.index) ∙ h in
            let n = node_parts x a.sound k e.index node (turned k e.complement f) h o in
            let le : level_of x.orders v ≤ level_of x.orders node.var = subst (λ q. level_of q v ≤ level_of q node.var) (sym a.orders) (can.below node before) in
            elim (cases_lt (level_of x.orders v) (level_of x.orders node.var)) [
              | inl lt ↦ elim (a.sound.ordered e.index node k (turned k e.complement f) h o v range lt) [
                | inl lacks ↦ Lacks-back k e.complement f v lacks
                | inr half ↦ absurd (can.lower (record { upper = v; lower = node.var }) (sym a.half ∙ half) refl)
              ]
              | inr ge ↦ absurd (other node.var (flip_if e.complement (plain node.hi)) (flip_if e.complement node.lo) (opens (Inner node) before) (level_once x a.sound k node.var v n.in_range range (omega (arith, le, ge))))
            ]

    -- both parts of what lacks a variable, and of what lacks an element
    pub cut_variable : v < first_element → Lacks k f v → IsCut k w v e e e
    cut_variable lt lacks = by_kind k can lacks
      where
        by_kind : (k : Kind) (can : CanCut k w v e) → Lacks k (values_at k (view_of w) e) v → IsCut k w v e e e
        by_kind Bdd can lacks = (can.edge.is ∙ ap (λ z. Some (function_of Bdd z)) (sym (part-lacking Bdd v (values_at Bdd (view_of w) e) lacks).0), can.edge.is ∙ ap (λ z. Some (function_of Bdd z)) (sym (part-lacking Bdd v (values_at Bdd (view_of w) e) lacks).1))
        by_kind Add can lacks = (can.edge.is ∙ ap (λ z. Some (function_of Add z)) (sym (part-lacking Add v (values_at Add (view_of w) e) lacks).0), can.edge.is ∙ ap (λ z. Some (function_of Add z)) (sym (part-lacking Add v (values_at Add (view_of w) e) lacks).1))
        by_kind Zdd can lacks = let le = can.in_range.0 in absurd (omega (arith, le, lt))

    pub cut_element : (v < first_element → ⊥) → Lacks k f v → IsCut k w v e empty_edge e
    cut_element ge lacks = by_kind k can lacks
      where
        by_kind : (k : Kind) (can : CanCut k w v e) → Lacks k (values_at k (view_of w) e) v → IsCut k w v e empty_edge e
        by_kind Bdd can lacks = absurd (ge can.in_range.0)
        by_kind Add can lacks = absurd (ge can.in_range.0)
        by_kind Zdd can lacks = (
          sym (function_same empty_edge) ∙ a.sound.empty_family ∙ ap (λ z. Some (function_of Zdd z)) (sym (part-lacking Zdd v (values_at Zdd (view_of w) e) lacks).0),
          can.edge.is ∙ ap (λ z. Some (function_of Zdd z)) (sym (part-lacking Zdd v (values_at Zdd (view_of w) e) lacks).1),
        )

-- the variable of what was opened
pub same_at : (r : Opened) (x y : ℕ) (hi lo h l : Edge) → r ≡ opened.Inner x hi lo → r ≡ opened.Inner y h l → x ≡ y
same_at r x y hi lo h l a b = cc
