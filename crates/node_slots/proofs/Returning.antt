-- A sound whole store whose swaps are done is canonical, and its words stand in its orders.
use Rattle.std.proofs.Common.{◌≡◌, ℕ, ◌<◌, inl, inr, Bool, true, false, not, cond, ℤ, List, length, Option, Some, None, refl, ap, sym, ◌∙◌, subst, arith}
use Rattle.std.specs.Prelude.{slice_index}
use Rattle.std.proofs.lemmas.Bool.{lt-ltb, le-ltb, cases_eq, cases_lt}
use Rattle.edge_bits.specs.declared.edges.Kind.{Kind}
use Rattle.edge_bits.specs.declared.edges.Kind.TheVariants.{Bdd, Add, Zdd}
use Rattle.edge_bits.specs.declared.words.Node.{Node}
use Rattle.edge_bits.specs.declared.words.Word.TheVariants.{Inner, Leaf}
use Rattle.edge_bits.specs.Reading.{element_of, plain}
use Rattle.edge_bits.specs.Permanent.{first_element}
use Rattle.function_laws.specs.Values.{negation}
use Rattle.function_laws.specs.Numbers.{is_value}
use Rattle.function_laws.specs.SiftedOrders.{place_of}
use Rattle.function_laws.specs.Kinds.{Denoted, BddFunction, AddFunction, ZddFamily, ValueOf, Fits, Lacks, flipped, function_of, joined_at}
use Rattle.node_store.specs.Views.{View, Denotes, IsBelow, IsBeyond, IsVariable, levels}
use Rattle.node_store.specs.ViewLaws.{Is-from, values_at-is}
use Rattle.node_store.specs.Contents.{IsNodeOf, IsOrder, IsSound, constant_value, level_of, view_of}
use Rattle.node_store.proofs.Rewriting.{level_once}
use Rattle.node_slots.specs.Stores.{Plain, slots, level_in, content_of, plain_view, ones, AreInverse, HasPermanent, IsCanonical, IsNode, IsOrdered, IsRegular}
use Rattle.node_slots.specs.Wholes.{content_view}
use Rattle.node_slots.proofs.Bridge.{child-lacks}
use Rattle.node_slots.proofs.Flips.{bit-ones}
use Rattle.node_slots.proofs.Settling.{beyond_on, variable_back, variable_on}
use Rattle.node_slots.proofs.Opening.{small_constant}

-- an edge denotes a function of the store if its slot does
edge_denotes : (w : View) (k : Kind) (i : ℕ) (c : Bool) (f : ℕ → ValueOf k) → flipped c (w.content i) ≡ Some (function_of k f)
    → ((g : ℕ → ValueOf k) → w.content i ≡ Some (function_of k g) → ((v : ℕ) → IsBeyond k w v → Lacks k g v) × Fits k g)
    → Denotes k w (record { index = i; complement = c }) f
edge_denotes w k i false f h of_slot = record { is = h; beyond = (of_slot f h).0; fits = (of_slot f h).1 }
edge_denotes w k i true f h of_slot = turned k f (w.content i) refl h of_slot
  where
    turned : (k : Kind) (f : ℕ → ValueOf k) (o : Option Denoted) → w.content i ≡ o → flipped true o ≡ Some (function_of k f)
        → ((g : ℕ → ValueOf k) → w.content i ≡ Some (function_of k g) → ((v : ℕ) → IsBeyond k w v → Lacks k g v) × Fits k g)
        → Denotes k w (record { index = i; complement = true }) f
    turned k f None is h of_slot = cc
    turned k f (Some (AddFunction g)) is h of_slot = cc
    turned k f (Some (ZddFamily g)) is h of_slot = cc
    turned Add f (Some (BddFunction g)) is h of_slot = cc
    turned Zdd f (Some (BddFunction g)) is h of_slot = cc
    turned Bdd f (Some (BddFunction g)) is h of_slot =
        let same : negation g ≡ f = cc in
        record {
          is = ap (flipped true) is ∙ h;
          beyond = λ v b. subst (λ x. Lacks Bdd x v) same (λ k d. ap not ((of_slot g is).0 v b k d));
          fits = tt;
        }

-- the level of what stands in an order
pub level_is : (levels at : List ℕ) → AreInverse levels at → IsOrder at → (v : ℕ) → v < length levels → slice_index levels v ≡ place_of v at
level_is levels at inverse order v lt =
    let long = inverse.as_many in
    let stands = order.stands v (omega (arith, lt, long)) in
    ap (slice_index levels) (sym (order.there v (omega (arith, lt, long)))) ∙ (inverse.each (place_of v at) stands).1

module _ (p : Plain) (variables : AreInverse p.variable_levels p.variables_at) (elements : AreInverse p.element_levels p.elements_at)
    (first : HasPermanent p) (sound : IsSound (content_view p)) where
  level_known : (k : Kind) (v : ℕ) → IsVariable k (plain_view p) v → level_in p v ≡ level_of (content_view p).orders v
  level_known Bdd v h = rw (lt-ltb v first_element h.0) (level_is p.variable_levels p.variables_at variables sound.variables v h.1)
  level_known Add v h = rw (lt-ltb v first_element h.0) (level_is p.variable_levels p.variables_at variables sound.variables v h.1)
  level_known Zdd v h = rw (le-ltb v first_element h.0) (level_is p.element_levels p.elements_at elements sound.elements (element_of v) (let a = h.0 in let b = h.1 in omega arith))

  on : (k : Kind) (v : ℕ) → IsVariable k (plain_view p) v → IsVariable k (view_of (content_view p)) v
  on = variable_on p variables.as_many elements.as_many

  level_within : (k : Kind) (v : ℕ) → IsVariable k (plain_view p) v → level_in p v < levels k (plain_view p)
  level_within Bdd v h = let e = level_is p.variable_levels p.variables_at variables sound.variables v h.1 in let long = variables.as_many in
      let s = sound.variables.stands v (omega (arith, h.1, long)) in rw (lt-ltb v first_element h.0) (omega (arith, e, s, long))
  level_within Add v h = let e = level_is p.variable_levels p.variables_at variables sound.variables v h.1 in let long = variables.as_many in
      let s = sound.variables.stands v (omega (arith, h.1, long)) in rw (lt-ltb v first_element h.0) (omega (arith, e, s, long))
  level_within Zdd v h =
      let a = h.0 in let b = h.1 in
      let e = level_is p.element_levels p.elements_at elements sound.elements (element_of v) (omega arith) in let long = elements.as_many in
      let s = sound.elements.stands (element_of v) (omega (arith, a, b, long)) in rw (le-ltb v first_element h.0) (omega (arith, e, s, long))

  level_alone : (k : Kind) (u v : ℕ) → IsVariable k (plain_view p) u → IsVariable k (plain_view p) v → level_in p u ≡ level_in p v → u ≡ v
  level_alone k u v hu hv e = level_once (content_view p) sound k u v (on k u hu) (on k v hv) (sym (level_known k u hu) ∙ e ∙ level_known k v hv)

  pub sound_ordered : IsOrdered p
  sound_ordered = record { within = level_within; alone = level_alone }

  slot_of_store : (k : Kind) (s : ℕ) (g : ℕ → ValueOf k) → content_of p s ≡ Some (function_of k g) → ((v : ℕ) → IsBeyond k (plain_view p) v → Lacks k g v) × Fits k g
  slot_of_store k s g h = let o = sound.of_store s k g h in ((λ v b. o.0 v (beyond_on p variables.as_many elements.as_many k v b)), o.1)

  -- a child lacks all variables down to its node's
  child_below : (s : ℕ) (node : Node) (f : Denoted) (b : Bool) → slots p s ≡ Some (Inner node) → content_of p s ≡ Some f → (n : IsNodeOf (content_view p) node f)
      → IsVariable n.kind (plain_view p) node.var → Lacks n.kind (cond b n.high n.low) node.var → IsBelow n.kind (plain_view p) node.var (cond b n.high n.low)
  child_below s node f b word h n vn own u un le = elim (cases_eq u node.var) [
    | inl e ↦ subst (Lacks n.kind (cond b n.high n.low)) (sym e) own
    | inr ne ↦ elim (cases_lt (level_in p u) (level_in p node.var)) [
      | inr ge ↦ absurd (ne (level_alone n.kind u node.var un vn (omega (arith, le, ge))))
      | inl lt ↦ elim (sound.ordered s node n.kind (joined_at n.kind node.var n.high n.low) word (h ∙ ap Some n.is) u (on n.kind u un)
          (let a = level_known n.kind u un in let c = level_known n.kind node.var vn in omega (arith, a, c, lt))) [
            | inl lacks ↦ child-lacks n.kind u node.var b n.high n.low n.high_lacks n.low_lacks lacks
            | inr half ↦ cc
          ]
    ]
  ]

  regular_known : (k : Kind) (s : ℕ) (f : ℕ → ValueOf k) → content_of p s ≡ Some (function_of k f) → IsRegular k (length p.variable_levels) f
  regular_known Bdd s f h = sound.regular s f h (ones (length p.variable_levels)) (λ v lt. bit-ones (length p.variable_levels) v (let l = variables.as_many in omega (arith, lt, l)))
  regular_known Add s f h = tt
  regular_known Zdd s f h = tt

  variable_known : (k : Kind) (v : ℕ) → IsVariable k (view_of (content_view p)) v → IsVariable k (plain_view p) v
  variable_known = variable_back p variables.as_many elements.as_many

  node_known : (s : ℕ) (node : Node) (f : Denoted) → slots p s ≡ Some (Inner node) → content_of p s ≡ Some f → (n : IsNodeOf (content_view p) node f) → IsNode n.kind p node
  node_known s node f word h n =
      let k = n.kind in
      let w = plain_view p in
      let vn = variable_known k node.var n.in_range in
      let dh : Denotes k w (plain node.hi) n.high = edge_denotes w k node.hi false n.high n.high_is (λ g. slot_of_store k node.hi g) in
      let dl : Denotes k w node.lo n.low = edge_denotes w k node.lo.index node.lo.complement n.low n.low_is (λ g. slot_of_store k node.lo.index g) in
      let eh = values_at-is k dh in
      let el = values_at-is k dl in
      record {
        can_make = record {
          in_range = vn;
          hi_is = Is-from k dh;
          lo_is = Is-from k dl;
          hi_below = subst (IsBelow k w node.var) (sym eh) (child_below s node f true word h n vn n.high_lacks);
          lo_below = subst (IsBelow k w node.var) (sym el) (child_below s node f false word h n vn n.low_lacks);
        };
        proper = rw (eh, el) n.proper;
        regular = rw eh (regular_known k node.hi n.high n.high_is);
      }

  leaf_known : (s : ℕ) (x : ℤ) → slots p s ≡ Some (Leaf x) → is_value x ≡ true
  leaf_known s x is = elim (cases_lt s 3) [
    | inr le ↦ (sound.leaves s x le is).1
    | inl lt ↦ (
        let e : Some (Leaf (constant_value s)) ≡ Some (Leaf x) = sym (first.constants s (omega arith)) ∙ is in
        subst (λ y. is_value y ≡ true) (let same : constant_value s ≡ x = cc in same) (small_constant s))
  ]

  pub sound_settled : IsCanonical p
  sound_settled = record {
    nodes = λ s node word. (
        let d = sound.denotes s (Inner node, word) in
        let n = sound.nodes s node d.0 word d.1 in
        (n.kind, node_known s node d.0 word d.1 n));
    leaves = leaf_known;
    apart = sound.apart;
  }
