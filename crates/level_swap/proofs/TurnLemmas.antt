-- The calls that turn a node of the upper variable: what each asks, and what the last one leaves.
use Rattle.std.proofs.Common.{◌≡◌, ℕ, ◌+◌, ◌⊎◌, inl, inr, true, false, Option, Some, None, refl, sym, ap, ◌∙◌}
use Rattle.edge_bits.specs.Reading.{plain}
use Rattle.edge_bits.specs.declared.edges.Edge.{Edge}
use Rattle.edge_bits.specs.declared.edges.Kind.{Kind}
use Rattle.edge_bits.specs.declared.words.Word.TheVariants.{Inner}
use Rattle.edge_bits.specs.declared.words.Word.{Word}
use Rattle.function_laws.specs.declared.orders.Order.{Order}
use Rattle.function_laws.specs.Kinds.{ValueOf, function_of, joined_at, Lacks, part_at}
use Rattle.node_store.specs.Views.{function_at}
use Rattle.node_store.specs.Contents.{Content, IsUsed, is_node_of, view_of}
use Rattle.node_store.specs.Changes.{After, Added, CanAdd, CanRewrite, HasRoomFor, rewritten}
use Rattle.level_swap.specs.Swapping.{Swapping, SwapsSlot, UpperNode, TurnsNode, CanCut, IsCut}
use Rattle.level_swap.proofs.PartFacts.{Lacks-own_part}
use Rattle.level_swap.proofs.Turning.{Turning, edge_same, cut_at, upper_after, turning_begins, turning_after, turning_edge, adds, add_asks, added_is, turning_added, edge_grown, turned_done, came}
use Rattle.level_swap.proofs.UpperLemmas.{cut_high, cut_low, depends_on, can_rewrite, not_permanent}

-- the parts of both children, from the store before them
pub record Quarters (k : Kind) (v : Content) (lower : ℕ) (high low : ℕ → ValueOf k) (hh hl lh ll : Edge) : Type 0 where
  pub hh_is : function_at (view_of v) hh ≡ Some (function_of k (part_at k high lower true))
  pub hl_is : function_at (view_of v) hl ≡ Some (function_of k (part_at k high lower false))
  pub lh_is : function_at (view_of v) lh ≡ Some (function_of k (part_at k low lower true))
  pub ll_is : function_at (view_of v) ll ≡ Some (function_of k (part_at k low lower false))

module _ (others : (ℕ → ℕ) → (ℕ → ℕ) → Type 0) (both : (a b c : ℕ → ℕ) → others a b → others b c → others a c) (order : Order) (level : ℕ) (start v v1 : Content) (upper lower slot : ℕ) (hi lo : Edge)
    (t : TurnsNode others order level start v upper lower slot hi lo) (a : After others v v1) where
  pub asks_high : CanCut t.kind v lower hi
  asks_high = cut_high t.kind v upper lower slot t.high t.low t.upper_node hi t.hi_is

  un1 : UpperNode t.kind v1 upper lower slot t.high t.low
  un1 = upper_after others both t.kind upper lower slot t.high t.low v v1 order a t.upper_node

  low1 : function_at (view_of v1) lo ≡ Some (function_of t.kind t.low)
  low1 = edge_same others v v1 a lo ∙ t.lo_is

  pub asks_low : CanCut t.kind v1 lower lo
  asks_low = cut_low t.kind v1 upper lower slot t.high t.low un1 lo low1

  pub depends_here : Lacks t.kind (joined_at t.kind upper t.high t.low) lower → ⊥
  depends_here = depends_on t.kind v upper lower slot t.high t.low t.upper_node hi lo t.hi_is t.lo_is t.touches

  pub quarters : (hh hl lh ll : Edge) → IsCut t.kind v lower hi hh hl → IsCut t.kind v1 lower lo lh ll → Quarters t.kind v lower t.high t.low hh hl lh ll
  quarters hh hl lh ll first second =
      let his = cut_at v t.kind lower hi hh hl t.high t.hi_is upper slot t.high t.low t.upper_node first in
      let los = cut_at v1 t.kind lower lo lh ll t.low low1 upper slot t.high t.low un1 second in
      record { hh_is = his.0; hl_is = his.1; lh_is = sym (edge_same others v v1 a lh) ∙ los.0; ll_is = sym (edge_same others v v1 a ll) ∙ los.1 }

-- The additions and the rewriting, under whatever start they are seen.
module _ (others : (ℕ → ℕ) → (ℕ → ℕ) → Type 0) (both : (a b c : ℕ → ℕ) → others a b → others b c → others a c) (k : Kind) (upper lower slot : ℕ) (high low : ℕ → ValueOf k)
    (order : Order) (level : ℕ) (start v v1 v2 : Content) (ready : SwapsSlot others order level start v upper lower slot) (un : UpperNode k v upper lower slot high low)
    (a1 : After others v v1) (a2 : After others v1 v2) (depends : Lacks k (joined_at k upper high low) lower → ⊥) (hh hl lh ll : Edge) (q : Quarters k v lower high low hh hl lh ll) where
  s2 : Turning others both k upper lower slot high low order level v v2 0
  s2 = turning_after others both k upper lower slot high low order level v v1 0 (turning_begins others both k upper lower slot high low order level start v v1 ready un a1) v2 a2

  hh2 : function_at (view_of v2) hh ≡ Some (function_of k (part_at k high lower true))
  hh2 = turning_edge others both k upper lower slot high low order level v v2 0 s2 hh _ q.hh_is

  lh2 : function_at (view_of v2) lh ≡ Some (function_of k (part_at k low lower true))
  lh2 = turning_edge others both k upper lower slot high low order level v v2 0 s2 lh _ q.lh_is

  pub asks_above : (j : Kind) × CanAdd j v2 upper hh lh × HasRoomFor j v2 upper hh lh
  asks_above = add_asks others both k upper lower slot high low order level v v2 0 s2 depends hh lh true hh2 lh2

  module _ (v3 : Content) (above : Edge) (first : (j : Kind) → CanAdd j v2 upper hh lh → Added others j v2 v3 upper hh lh above) where
    added3 : Added others k v2 v3 upper hh lh above
    added3 = first k (adds others both k upper lower slot high low order level v v2 0 s2 depends hh lh true hh2 lh2)

    s3 : Turning others both k upper lower slot high low order level v v3 1
    s3 = turning_added others both k upper lower slot high low order level v v2 0 s2 depends hh lh true hh2 lh2 v3 above added3

    above3 : function_at (view_of v3) above ≡ Some (function_of k (part_at k (joined_at k upper high low) lower true))
    above3 = added_is others both k upper lower slot high low order level v v2 0 s2 depends hh lh true hh2 lh2 v3 above added3

    hl3 : function_at (view_of v3) hl ≡ Some (function_of k (part_at k high lower false))
    hl3 = turning_edge others both k upper lower slot high low order level v v3 1 s3 hl _ q.hl_is

    ll3 : function_at (view_of v3) ll ≡ Some (function_of k (part_at k low lower false))
    ll3 = turning_edge others both k upper lower slot high low order level v v3 1 s3 ll _ q.ll_is

    pub asks_below : (j : Kind) × CanAdd j v3 upper hl ll × HasRoomFor j v3 upper hl ll
    asks_below = add_asks others both k upper lower slot high low order level v v3 1 s3 depends hl ll false hl3 ll3

    module _ (v4 : Content) (below : Edge) (second : (j : Kind) → CanAdd j v3 upper hl ll → Added others j v3 v4 upper hl ll below) where
      added4 : Added others k v3 v4 upper hl ll below
      added4 = second k (adds others both k upper lower slot high low order level v v3 1 s3 depends hl ll false hl3 ll3)

      s4 : Turning others both k upper lower slot high low order level v v4 2
      s4 = turning_added others both k upper lower slot high low order level v v3 1 s3 depends hl ll false hl3 ll3 v4 below added4

      below4 : function_at (view_of v4) below ≡ Some (function_of k (part_at k (joined_at k upper high low) lower false))
      below4 = added_is others both k upper lower slot high low order level v v3 1 s3 depends hl ll false hl3 ll3 v4 below added4

      above4 : function_at (view_of v4) above ≡ Some (function_of k (part_at k (joined_at k upper high low) lower true))
      above4 = edge_grown others both k upper lower slot high low v3 v4 order below _ (Lacks-own_part k _ lower false) below4 s3.un.sound added4.way above _ above3

      pub asks_rewrite : (hi lo : Edge) → (hi ≡ plain un.node.hi) × (lo ≡ un.node.lo) → (is_node_of lower (v.word hi.index) ≡ true) ⊎ (is_node_of lower (v.word lo.index) ≡ true)
          → (j : Kind) × CanRewrite j v4 slot lower above below
      asks_rewrite hi lo children touches = (
        k,
        can_rewrite k v4 upper lower slot high low s4.un above below above4 below4 depends
            (not_permanent v v4 un.sound s4.un.sound slot lower un.node hi lo (s4.ext.word slot (Inner un.node) un.word) children touches),
      )

      pub turned : (v5 : Content) → After others (rewritten v4 slot lower above below) v5 → Swapping others order level start v5 (slot + 1)
      turned v5 after = turned_done others both k upper lower slot high low order level start v v4 v5 ready un s4 depends above below only after
        where
          only : (r : ℕ) → v.word r ≡ None → IsUsed v4 r → (above.index ≡ r) ⊎ (below.index ≡ r)
          only r none u = by_word (v3.word r) refl
            where
              by_word : (o : Option Word) → v3.word r ≡ o → (above.index ≡ r) ⊎ (below.index ≡ r)
              by_word None gone = inr (came others v3 v4 upper below added4.way r gone u)
              by_word (Some word) is = inl (came others v2 v3 upper above added3.way r (ap (λ (h : ℕ → Option Word). h r) a2.word ∙ ap (λ (h : ℕ → Option Word). h r) a1.word ∙ none) (word, is))
