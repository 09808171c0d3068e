-- A node slot by its function: the variable on which it depends, of all those above it it is free, and its children are its parts.
use Rattle.std.proofs.Common.{◌≡◌, ℕ, ◌<◌, ◌⊎◌, inl, inr, Bool, true, false, length, Option, Some, None, refl, sym, ap, ◌∙◌, subst, arith}
use Rattle.std.specs.Prelude.{slice_index}
use Rattle.edge_bits.specs.declared.edges.Kind.{Kind}
use Rattle.edge_bits.specs.declared.edges.Kind.TheVariants.{Bdd, Add, Zdd}
use Rattle.edge_bits.specs.declared.words.Node.{Node}
use Rattle.edge_bits.specs.declared.words.Word.TheVariants.{Inner}
use Rattle.function_laws.specs.Kinds.{Denoted, BddFunction, AddFunction, ZddFamily, ValueOf, function_of, joined_at, flipped, opposite}
use Rattle.node_store.specs.KindLaws.{part-joined}
use Rattle.node_store.specs.Views.{IsVariable}
use Rattle.node_store.specs.ViewLaws.{flipped-not}
use Rattle.function_laws.specs.Sizes.{order_of, in_order, part_of}
use Rattle.function_laws.specs.SiftedOrders.{place_of}
use Rattle.function_laws.proofs.DistinctLemmas.{In}
use Rattle.function_laws.proofs.LackingParts.{Free, own, Free-Lacks, Lacks-Free, part-function}
use Rattle.node_store.specs.Contents.{Content, IsSound, level_of, number_of, view_of}
use Rattle.node_store.proofs.Parting.{depends}
use Rattle.node_store.proofs.Tops.{which_of, other}
use Rattle.node_store.proofs.Ordering.{order_at, name_of, own-name, order_of-kind, level-own, own-within, orders_are, IsVariable-name, level-name, In-order}

-- a slot denotes the function or its opposite
abbrev pub UpTo : Content → ℕ → Denoted → Type 0
UpTo w s f = (w.function s ≡ Some f) ⊎ (w.function s ≡ Some (opposite f))

pub record Stands (w : Content) (node : Node) (f : Denoted) : Type 0 where
  pub var : ℕ
  -- its number in words is that of its order, and none of the other order's
  pub numbered : number_of (which_of f) var ≡ node.var
  pub not_other : (v : ℕ) → v < length (in_order w.orders (other (which_of f))) → node.var ≡ number_of (other (which_of f)) v → ⊥
  pub there : In var (order_of w.orders f)
  pub within : var < length (order_of w.orders f)
  pub depends_on : Free f var → ⊥
  pub above : (j : ℕ) → j < place_of var (order_of w.orders f) → Free f (slice_index (order_of w.orders f) j)
  pub then_is : w.function node.hi ≡ Some (part_of f var true)
  pub else_is : UpTo w node.lo.index (part_of f var false)

pub flipped_up_to : (k : Kind) (c : Bool) (o : Option Denoted) (f : ℕ → ValueOf k) → flipped c o ≡ Some (function_of k f) → (o ≡ Some (function_of k f)) ⊎ (o ≡ Some (opposite (function_of k f)))
flipped_up_to k false o f h = inl h
flipped_up_to Bdd true o f h = inr (flipped-not true o f h)
flipped_up_to Add true None f h = cc
flipped_up_to Add true (Some (BddFunction g)) f h = cc
flipped_up_to Add true (Some (AddFunction g)) f h = cc
flipped_up_to Add true (Some (ZddFamily g)) f h = cc
flipped_up_to Zdd true None f h = cc
flipped_up_to Zdd true (Some (BddFunction g)) f h = cc
flipped_up_to Zdd true (Some (AddFunction g)) f h = cc
flipped_up_to Zdd true (Some (ZddFamily g)) f h = cc

module _ (w : Content) (sound : IsSound w) (settled : w.half ≡ None) where
  -- a node's number in the words of its order
  numbered_by : (k : Kind) (f : ℕ → ValueOf k) (u : ℕ) → IsVariable k (view_of w) u → number_of (which_of (function_of k f)) (own k u) ≡ u
  numbered_by Bdd f u h = refl
  numbered_by Add f u h = refl
  numbered_by Zdd f u h = let a = h.0 in omega arith

  not_numbered : (k : Kind) (f : ℕ → ValueOf k) (u : ℕ) → IsVariable k (view_of w) u → (v : ℕ) → v < length (in_order w.orders (other (which_of (function_of k f)))) → u ≡ number_of (other (which_of (function_of k f))) v → ⊥
  not_numbered Bdd f u h v lt e = let a = h.0 in omega (arith, e)
  not_numbered Add f u h v lt e = let a = h.0 in omega (arith, e)
  not_numbered Zdd f u h v lt e = let a = h.0 in let b = sound.few_variables in omega (arith, e)

  by_kind : (s : ℕ) (node : Node) (k : Kind) (f high low : ℕ → ValueOf k) → w.word s ≡ Some (Inner node) → w.function s ≡ Some (function_of k f)
      → IsVariable k (view_of w) node.var → (Free (function_of k f) (own k node.var) → ⊥)
      → w.function node.hi ≡ Some (part_of (function_of k f) (own k node.var) true) → UpTo w node.lo.index (part_of (function_of k f) (own k node.var) false)
      → Stands w node (function_of k f)
  by_kind s node k f high low word is vn dep hi lo =
      let order = order_of-kind w.orders k f in
      let o = orders_are w sound k in
      let inside = own-within k w node.var vn in
      let place = o.stands (own k node.var) inside in
      record {
        var = own k node.var;
        numbered = numbered_by k f node.var vn;
        not_other = not_numbered k f node.var vn;
        there = subst (In (own k node.var)) (sym order) (In-order (order_at k w.orders) o (own k node.var) inside);
        within = subst (λ x. own k node.var < length x) (sym order) inside;
        depends_on = dep;
        above = subst (λ x. (j : ℕ) → j < place_of (own k node.var) x → Free (function_of k f) (slice_index x j)) (sym order) (λ j lt.
            let u = slice_index (order_at k w.orders) j in
            let below = o.below j (omega (arith, lt, place)) in
            let at : place_of u (order_at k w.orders) ≡ j = o.once j (omega (arith, lt, place)) in
            let vu = IsVariable-name w sound k u below in
            let higher : level_of w.orders (name_of k u) < level_of w.orders node.var =
            (let a = level-name w sound k u below in let b = level-own k w node.var vn in omega (arith, a, b, at, lt)) in
            elim (sound.ordered s node k f word is (name_of k u) vu higher) [
              | inl lacks ↦ subst (Free (function_of k f)) (own-name k u) (Free-Lacks k f (name_of k u) lacks)
              | inr half ↦ (let e : None ≡ Some (record { upper = name_of k u; lower = node.var }) = sym settled ∙ half in cc)
            ]);
        then_is = hi;
        else_is = lo;
      }

  pub stands : (s : ℕ) (node : Node) (f : Denoted) → w.word s ≡ Some (Inner node) → w.function s ≡ Some f → Stands w node f
  stands s node f word is =
      let n = sound.nodes s node f word is in
      let g = joined_at n.kind node.var n.high n.low in
      subst (Stands w node) (sym n.is)
      (by_kind s node n.kind g n.high n.low word (is ∙ ap Some n.is) n.in_range
      (λ free. depends n.kind node.var n.high n.low n.high_lacks n.low_lacks n.proper (Lacks-Free n.kind g node.var free))
      (n.high_is ∙ ap (λ x. Some (function_of n.kind x)) (sym (part-joined n.kind node.var n.high n.low true n.high_lacks n.low_lacks))
      ∙ ap Some (sym (part-function n.kind g node.var true)))
      (subst (UpTo w node.lo.index)
      (ap (function_of n.kind) (sym (part-joined n.kind node.var n.high n.low false n.high_lacks n.low_lacks)) ∙ sym (part-function n.kind g node.var false))
      (flipped_up_to n.kind node.lo.complement (w.function node.lo.index) n.low n.low_is)))
