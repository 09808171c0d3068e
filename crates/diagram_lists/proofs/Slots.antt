-- What a store says of the nodes of its BDDs.
use Rattle.std.proofs.Common.{◌≡◌, ◌⊎◌, inl, inr, ℕ, ◌<◌, Bool, length, Some, ℤ, refl, arith}
use Rattle.edge_bits.specs.declared.edges.Edge.{Edge}
use Rattle.edge_bits.specs.declared.edges.Kind.TheVariants.{Bdd}
use Rattle.edge_bits.specs.declared.words.Node.{Node}
use Rattle.edge_bits.specs.declared.words.Word.TheVariants.{Inner}
use Rattle.edge_bits.specs.Reading.{plain}
use Rattle.node_store.specs.ViewLaws.{Is-from}
use Rattle.node_store.specs.Views.{Is, IsInner, IsLeafOf, logic_one, logic_zero, values_at}
use Rattle.node_slots.specs.Stores.{IsStore, Plain, content_of, level_in, plain_view, slots, top_in}
use Rattle.node_slots.proofs.Answering.{edge_word}
use Rattle.node_slots.proofs.Calls.{opens_word}
use Rattle.node_slots.proofs.Canonical.{leaf_or_node}
use Rattle.node_slots.proofs.Flips.{unflip}
use Rattle.node_slots.proofs.Reading.{in_words}
use Rattle.node_slots.proofs.Settling.{slot_denotes}

leaf_slot : (e : Edge) (f : ℕ → Bool) (x : ℤ) → IsLeafOf Bdd e f x → e.index ≡ 0
leaf_slot _ _ _ logic_one = refl
leaf_slot _ _ _ logic_zero = refl

-- an open node's levels, and its children
pub record Stands (p : Plain) (s : ℕ) (node : Node) : Type 0 where
  pub inner : IsInner Bdd (plain_view p) (plain s) (values_at Bdd (plain_view p) (plain s)) node.var (plain node.hi) node.lo
  pub level : top_in p s ≡ level_in p node.var
  pub within : top_in p s < length p.variable_levels
  pub hi_lower : top_in p s < top_in p node.hi
  pub lo_lower : top_in p s < top_in p node.lo.index
  pub hi_is : Is Bdd (plain_view p) (plain node.hi)
  pub lo_is : Is Bdd (plain_view p) (plain node.lo.index)

module _ (p : Plain) (st : IsStore p) where
  -- the slot of a BDD is one of the words
  pub inside : (s : ℕ) → Is Bdd (plain_view p) (plain s) → s < length p.words
  inside s d = let w = edge_word p p refl st Bdd (plain s) d in in_words p.words s w.0 w.1

  -- it is the constant, or has a node
  pub one_or_node : (s : ℕ) → Is Bdd (plain_view p) (plain s) → (s ≡ 0) ⊎ ((node : Node) × (slots p s ≡ Some (Inner node)))
  one_or_node s d = elim (leaf_or_node p st.permanent st.canonical Bdd s (values_at Bdd (plain_view p) (plain s)) d.is) [
    | inl l ↦ inl (leaf_slot (plain s) _ l.value l.leaf)
    | inr n ↦ inr (n.node, n.word)
  ]

  -- an edge's function is its slot's, or the complement
  pub regular_is : (e : Edge) → Is Bdd (plain_view p) e → Is Bdd (plain_view p) (plain e.index)
  regular_is e d =
      let u = unflip Bdd e.complement (content_of p e.index) (values_at Bdd (plain_view p) e) d.is in
      Is-from Bdd (slot_denotes p st Bdd e.index u.inner u.is)

  pub stands : (s : ℕ) (node : Node) → slots p s ≡ Some (Inner node) → Is Bdd (plain_view p) (plain s) → Stands p s node
  stands s node word d =
      let i = opens_word p st Bdd (plain s) (Inner node) d word in
      let here = i.here in let within = i.within in let hi = i.hi_top in let lo = i.lo_top in
      record {
        inner = i;
        level = here;
        within = omega arith;
        hi_lower = omega arith;
        lo_lower = omega arith;
        hi_is = i.splits.hi_is;
        lo_is = regular_is node.lo i.splits.lo_is;
      }
