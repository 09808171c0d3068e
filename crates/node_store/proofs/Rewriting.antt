-- A node put in the place of another of the same function leaves a sound store, in the middle of a swap too.
use Rattle.std.proofs.Common.{◌≡◌, ◌≢◌, ℕ, ◌+◌, ◌<◌, ◌≤◌, ◌⊎◌, inl, inr, Bool, true, false, cond, Option, Some, None, eqb, eq-eqb, eqb-true, refl, sym, ap, ◌∙◌, subst, arith}
use Rattle.std.specs.Prelude.{slice_index}
use Rattle.std.proofs.lemmas.Bool.{cases_lt, cases_eq}
use Rattle.edge_bits.specs.declared.edges.Edge.{Edge}
use Rattle.edge_bits.specs.declared.edges.Kind.{Kind}
use Rattle.edge_bits.specs.declared.edges.Kind.TheVariants.{Bdd, Add, Zdd}
use Rattle.edge_bits.specs.declared.words.Node.{Node}
use Rattle.edge_bits.specs.declared.words.Word.{Word}
use Rattle.edge_bits.specs.declared.words.Word.TheVariants.{Inner, Leaf}
use Rattle.function_laws.specs.Kinds.{Denoted, ValueOf, function_of, joined_at, Lacks, flipped}
use Rattle.node_store.specs.Views.{IsVariable, IsBeyond, values_at, node_values}
use Rattle.function_laws.specs.SiftedOrders.{place_of}
use Rattle.function_laws.proofs.LackingParts.{own}
use Rattle.node_store.specs.Contents.{Content, Pair, IsSound, IsNodeOf, IsUsed, IsHalf, projection_node, level_of, view_of}
use Rattle.node_store.specs.Changes.{put_at, CanRewrite, NextAbove, NoneOrHalf, pair_of, var_of, rewritten}
use Rattle.node_store.proofs.Parting.{same_kind}
use Rattle.node_store.proofs.Ordering.{order_at, level-own, own-within, orders_are}

pub put_at-same : {A : Type 0} (f : ℕ → A) (s : ℕ) (x : A) → put_at f s x s ≡ x
put_at-same f s x = ap (λ b. cond b x (f s)) (eq-eqb s s refl)

pub put_at-other : {A : Type 0} (f : ℕ → A) (s t : ℕ) (x : A) → t ≢ s → put_at f s x t ≡ f t
put_at-other f s t x ne = at (eqb t s) refl
  where
    at : (b : Bool) → eqb t s ≡ b → cond (eqb t s) x (f t) ≡ f t
    at true e = absurd (ne (eqb-true t s e))
    at false e = ap (λ b. cond b x (f t)) e

-- what a store's variables are hangs on its orders' lengths alone
pub IsVariable-same : (k : Kind) (w n : Content) → n.orders ≡ w.orders → (v : ℕ) → IsVariable k (view_of w) v → IsVariable k (view_of n) v
IsVariable-same Bdd w n e v h = rw e h
IsVariable-same Add w n e v h = rw e h
IsVariable-same Zdd w n e v h = rw e h

pub IsBeyond-same : (k : Kind) (w n : Content) → n.orders ≡ w.orders → (v : ℕ) → IsBeyond k (view_of n) v → IsBeyond k (view_of w) v
IsBeyond-same Bdd w n e v h = rw (sym e) h
IsBeyond-same Add w n e v h = rw (sym e) h
IsBeyond-same Zdd w n e v h = rw (sym e) h

own_injective : (k : Kind) (w : Content) (u v : ℕ) → IsVariable k (view_of w) u → IsVariable k (view_of w) v → own k u ≡ own k v → u ≡ v
own_injective Bdd w u v hu hv e = e
own_injective Add w u v hu hv e = e
own_injective Zdd w u v hu hv e = let a = hu.0 in let b = hv.0 in omega (arith, e, a, b)

-- a level holds one variable
pub level_once : (w : Content) → IsSound w → (k : Kind) (u v : ℕ) → IsVariable k (view_of w) u → IsVariable k (view_of w) v → level_of w.orders u ≡ level_of w.orders v → u ≡ v
level_once w sound k u v hu hv e =
    let o = orders_are w sound k in
    let order = order_at k w.orders in
    let places : place_of (own k u) order ≡ place_of (own k v) order = sym (level-own k w u hu) ∙ e ∙ level-own k w v hv in
    own_injective k w u v hu hv (sym (o.there (own k u) (own-within k w u hu)) ∙ ap (slice_index order) places ∙ o.there (own k v) (own-within k w v hv))

-- the node with its children under another content that has the same functions and orders
pub node_same : (w n : Content) (node : Node) (f : Denoted) → n.orders ≡ w.orders → n.function ≡ w.function → IsNodeOf w node f → IsNodeOf n node f
node_same w n node f eo ef h = record {
  kind = h.kind;
  high = h.high;
  low = h.low;
  in_range = IsVariable-same h.kind w n eo node.var h.in_range;
  high_is = rw ef h.high_is;
  low_is = rw ef h.low_is;
  is = h.is;
  high_lacks = h.high_lacks;
  low_lacks = h.low_lacks;
  proper = h.proper;
}

-- the upper and the lower of the two variables
pair_down : (w : Content) (u v : ℕ) → NextAbove w u v → pair_of w u v ≡ record { upper = u; lower = v }
pair_down w u v next =
    let e : level_of w.orders u + 1 ≡ level_of w.orders v = omega (arith, next) in
    ap (λ b. cond b (record { upper = u; lower = v }) (record { upper = v; lower = u })) (eq-eqb (level_of w.orders u + 1) (level_of w.orders v) e)

pair_up : (w : Content) (u v : ℕ) → NextAbove w v u → pair_of w u v ≡ record { upper = v; lower = u }
pair_up w u v next = at (eqb (level_of w.orders u + 1) (level_of w.orders v)) refl
  where
    at : (b : Bool) → eqb (level_of w.orders u + 1) (level_of w.orders v) ≡ b → pair_of w u v ≡ record { upper = v; lower = u }
    at true e = let x = eqb-true (level_of w.orders u + 1) (level_of w.orders v) e in absurd (omega (arith, x, next))
    at false e = ap (λ b. cond b (record { upper = u; lower = v }) (record { upper = v; lower = u })) e

upper_of : Option Pair → ℕ
upper_of None = 0
upper_of (Some p) = p.upper

same_upper : (p q : Pair) → Some p ≡ Some q → p.upper ≡ q.upper
unfolding upper_of
same_upper p q e = ap upper_of e

pub node_var : Option Word → ℕ
node_var None = 0
node_var (Some (Leaf x)) = 0
node_var (Some (Inner node)) = node.var

pub same_var : (m n : Node) → Some (Inner m) ≡ Some (Inner n) → m.var ≡ n.var
unfolding node_var
same_var m n e = ap node_var e

module _ (w : Content) (sound : IsSound w) (k : Kind) (s v : ℕ) (hi lo : Edge) (can : CanRewrite k w s v hi lo) where
  abbrev new : Content
  new = rewritten w s v hi lo

  abbrev put_node : Node
  put_node = record { var = v; hi = hi.index; lo = lo }

  word_here : new.word s ≡ Some (Inner put_node)
  word_here = put_at-same w.word s (Some (Inner put_node))

  word_other : (t : ℕ) → t ≢ s → new.word t ≡ w.word t
  word_other t ne = put_at-other w.word s t (Some (Inner put_node)) ne

  half_pair : new.half ≡ Some (pair_of w can.node.var v)
  half_pair = ap (λ o. Some (pair_of w (var_of o) v)) can.was

  used_before : (t : ℕ) → IsUsed new t → IsUsed w t
  used_before t u = elim (cases_eq t s) [
    | inl e ↦ (Inner can.node, ap w.word e ∙ can.was)
    | inr ne ↦ (u.0, sym (word_other t ne) ∙ u.1)
  ]

  used_after : (t : ℕ) → IsUsed w t → IsUsed new t
  used_after t u = elim (cases_eq t s) [
    | inl e ↦ (Inner put_node, ap new.word e ∙ word_here)
    | inr ne ↦ (u.0, word_other t ne ∙ u.1)
  ]

  high_s : 5 ≤ s
  high_s = elim (cases_lt s 5) [ inl lt ↦ absurd (can.spare (inl lt)) | inr le ↦ le ]

  own_node : (f : Denoted) → w.function s ≡ Some f → IsNodeOf new put_node f
  own_node f e = record {
    kind = k;
    high = values_at k (view_of w) hi;
    low = values_at k (view_of w) lo;
    in_range = IsVariable-same k w new refl v can.in_range;
    high_is = subst (λ c. flipped c (w.function hi.index) ≡ Some (function_of k (values_at k (view_of w) hi))) can.plain can.hi_is.is;
    low_is = can.lo_is.is;
    is = (let same : Some f ≡ Some (function_of k (node_values k (view_of w) v hi lo)) = sym e ∙ can.same in cc);
    high_lacks = can.hi_lacks;
    low_lacks = can.lo_lacks;
    proper = can.proper;
  }

  node_after : (t : ℕ) (node : Node) (f : Denoted) → new.word t ≡ Some (Inner node) → w.function t ≡ Some f → IsNodeOf new node f
  node_after t node f word is = elim (cases_eq t s) [
    | inl e ↦ (
        let same : Some (Inner put_node) ≡ Some (Inner node) = sym word_here ∙ ap new.word (sym e) ∙ word in
        let one : put_node ≡ node = cc in
        subst (λ x. IsNodeOf new x f) one (own_node f (ap w.function (sym e) ∙ is)))
    | inr ne ↦ node_same w new node f refl refl (sound.nodes t node f (sym (word_other t ne) ∙ word) is)
  ]

  half_before : (u x : ℕ) → IsHalf w u x → IsHalf new u x
  half_before u x h = elim can.half [
    | inl (next, state) ↦ elim state [
      | inl none ↦ (let c : ◌≡◌ {A = Option Pair} None (Some (record { upper = u; lower = x })) = sym none ∙ h in cc)
      | inr same ↦ half_pair ∙ ap Some (pair_down w can.node.var v next) ∙ sym same ∙ h
    ]
    | inr (next, state) ↦ elim state [
      | inl none ↦ (let c : ◌≡◌ {A = Option Pair} None (Some (record { upper = u; lower = x })) = sym none ∙ h in cc)
      | inr same ↦ half_pair ∙ ap Some (pair_up w can.node.var v next) ∙ sym same ∙ h
    ]
  ]

  -- of the rewritten node: the old variable is the only one above the new one on which its function may depend
  ordered_here : (j : Kind) (f : ℕ → ValueOf j) → w.function s ≡ Some (function_of j f) → (u : ℕ) → IsVariable j (view_of w) u → IsVariable j (view_of w) can.node.var
      → level_of w.orders u < level_of w.orders v → Lacks j f u ⊎ IsHalf new u v
  ordered_here j f is u hu hn lt = elim can.half [
    | inl (next, state) ↦ elim (cases_eq u can.node.var) [
      | inl e ↦ inr (half_pair ∙ ap Some (pair_down w can.node.var v next) ∙ ap (λ x. Some (record { upper = x; lower = v })) (sym e))
      | inr ne ↦ (
          let apart : level_of w.orders u ≢ level_of w.orders can.node.var = λ same. ne (level_once w sound j u can.node.var hu hn same) in
          older (omega (arith, next, apart)) state)
    ]
    | inr (next, state) ↦ above (omega (arith, next)) next state
  ]
    where
      older : level_of w.orders u < level_of w.orders can.node.var → NoneOrHalf w can.node.var v → Lacks j f u ⊎ IsHalf new u v
      older less state = elim (sound.ordered s can.node j f can.was is u hu less) [
        | inl lacks ↦ inl lacks
        | inr h ↦ elim state [
          | inl none ↦ (let c : ◌≡◌ {A = Option Pair} None (Some (record { upper = u; lower = can.node.var })) = sym none ∙ h in cc)
          | inr same ↦ (
              let c : ◌≡◌ {A = Option Pair} (Some (record { upper = can.node.var; lower = v })) (Some (record { upper = u; lower = can.node.var })) = sym same ∙ h in
              let e : can.node.var ≡ u = same_upper (record { upper = can.node.var; lower = v }) (record { upper = u; lower = can.node.var }) c in
              let l = ap (level_of w.orders) e in absurd (omega (arith, l, less)))
        ]
      ]

      above : level_of w.orders u < level_of w.orders can.node.var → NextAbove w v can.node.var → NoneOrHalf w v can.node.var → Lacks j f u ⊎ IsHalf new u v
      above less next state = elim (sound.ordered s can.node j f can.was is u hu less) [
        | inl lacks ↦ inl lacks
        | inr h ↦ elim state [
          | inl none ↦ (let c : ◌≡◌ {A = Option Pair} None (Some (record { upper = u; lower = can.node.var })) = sym none ∙ h in cc)
          | inr same ↦ (
              let c : ◌≡◌ {A = Option Pair} (Some (record { upper = v; lower = can.node.var })) (Some (record { upper = u; lower = can.node.var })) = sym same ∙ h in
              let e : v ≡ u = same_upper (record { upper = v; lower = can.node.var }) (record { upper = u; lower = can.node.var }) c in
              let l = ap (level_of w.orders) e in absurd (omega (arith, l, lt)))
        ]
      ]

  node_kind : (j : Kind) (f : ℕ → ValueOf j) → w.function s ≡ Some (function_of j f) → IsVariable j (view_of w) can.node.var
  node_kind j f is =
      let n = sound.nodes s can.node (function_of j f) can.was is in
      subst (λ x. IsVariable x (view_of w) can.node.var) (sym (same_kind j n.kind f (joined_at n.kind can.node.var n.high n.low) n.is)) n.in_range

  ordered_after : (t : ℕ) (node : Node) (j : Kind) (f : ℕ → ValueOf j) → new.word t ≡ Some (Inner node) → w.function t ≡ Some (function_of j f)
      → (u : ℕ) → IsVariable j (view_of w) u → level_of w.orders u < level_of w.orders node.var → Lacks j f u ⊎ IsHalf new u node.var
  ordered_after t node j f word is u hu lt = elim (cases_eq t s) [
    | inl e ↦ (
        let same : Some (Inner put_node) ≡ Some (Inner node) = sym word_here ∙ ap new.word (sym e) ∙ word in
        let one : v ≡ node.var = same_var put_node node same in
        let here = ap w.function (sym e) ∙ is in
        subst (λ x. Lacks j f u ⊎ IsHalf new u x) one (ordered_here j f here u hu (node_kind j f here) (subst (λ x. level_of w.orders u < level_of w.orders x) (sym one) lt)))
    | inr ne ↦ elim (sound.ordered t node j f (sym (word_other t ne) ∙ word) is u hu lt) [
      | inl lacks ↦ inl lacks
      | inr h ↦ inr (half_before u node.var h)
    ]
  ]

  pub rewritten_sound : IsSound new
  rewritten_sound = record {
    variables = sound.variables;
    elements = sound.elements;
    few_variables = sound.few_variables;
    few_elements = sound.few_elements;
    within = λ t u. sound.within t (used_before t u);
    few_slots = sound.few_slots;
    denotes = λ t u. sound.denotes t (used_before t u);
    used = λ t f e. used_after t (sound.used t f e);
    constants = λ t lt. word_other t (λ e. let h = high_s in omega (arith, e, h, lt)) ∙ sound.constants t lt;
    logic_one = sound.logic_one;
    empty_family = sound.empty_family;
    base_family = sound.base_family;
    projections = λ x lt.
        let p = sound.projections x lt in
        (p.0, word_other p.0 (λ e. can.spare (inr (x, lt, subst (λ t. w.word t ≡ Some (Inner (projection_node x))) e p.1))) ∙ p.1);
    nodes = node_after;
    leaves = λ t x le word. sound.leaves t x le (elim (cases_eq t s) [
      | inl e ↦ (let c : Some (Inner put_node) ≡ Some (Leaf x) = sym word_here ∙ ap new.word (sym e) ∙ word in cc)
      | inr ne ↦ sym (word_other t ne) ∙ word
    ]);
    apart = sound.apart;
    regular = sound.regular;
    of_store = λ t j f is. let o = sound.of_store t j f is in ((λ x b. o.0 x (IsBeyond-same j w new refl x b)), o.1);
    ordered = λ t node j f word is u hu lt. ordered_after t node j f word is u (IsVariable-same j new w refl u hu) lt;
    few_counts = sound.few_counts;
    uncounted = λ t none. sound.uncounted t (free_before t none);
    unpinned = λ t none. sound.unpinned t (free_before t none);
  }
    where
      free_before : (t : ℕ) → new.word t ≡ None → w.word t ≡ None
      free_before t none = elim (cases_eq t s) [
        | inl e ↦ (let c : Some (Inner put_node) ≡ None = sym word_here ∙ ap new.word (sym e) ∙ none in cc)
        | inr ne ↦ sym (word_other t ne) ∙ none
      ]
