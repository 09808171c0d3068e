-- A child's rank is greater than its node's.
use Rattle.std.proofs.Common.{◌≡◌, ℕ, ◌+◌, ◌<◌, ◌≤◌, ◌⊎◌, inl, inr, Bool, true, false, length, Some, None, refl, sym, ap, ◌∙◌, subst, arith}
use Rattle.std.specs.Prelude.{slice_index}
use Rattle.std.proofs.lemmas.Bool.{cases_lt, cases_eq, lt-ltb, le-ltb}
use Rattle.edge_bits.specs.Reading.{element_of}
use Rattle.edge_bits.specs.declared.words.Node.{Node}
use Rattle.edge_bits.specs.declared.words.Word.{Word}
use Rattle.edge_bits.specs.declared.words.Word.TheVariants.{Inner, Leaf}
use Rattle.edge_bits.specs.Permanent.{first_element}
use Rattle.function_laws.specs.Kinds.{Denoted, BddFunction, AddFunction, ZddFamily, opposite}
use Rattle.function_laws.specs.declared.orders.Order.{Order}
use Rattle.function_laws.specs.declared.orders.Order.TheVariants.{Variables, Elements}
use Rattle.function_laws.specs.Sizes.{order_of, in_order, part_of}
use Rattle.function_laws.specs.SiftedOrders.{place_of}
use Rattle.function_laws.proofs.LackingParts.{Free, Free-part, Free-more, Free-opposite, order_of-part}
use Rattle.node_store.specs.Contents.{Content, IsSound, IsOrder, IsUsed, number_of}
use Rattle.node_store.proofs.Standing.{UpTo, Stands, stands}
use Rattle.node_store.proofs.SweptSize.{order_is, injective}
use Rattle.node_store.proofs.Tops.{which_of, order_of-which}
use Rattle.dead_sweep.specs.Marks.{rank_of, rank_at}

module _ (w : Content) (sound : IsSound w) (settled : w.half ≡ None) where
  number_rank : (which : Order) (v : ℕ) (node : Node) → v < length (in_order w.orders which) → number_of which v ≡ node.var → rank_of w.orders (Inner node) ≡ rank_at w.orders which (place_of v (in_order w.orders which))
  number_rank Variables v node lt e =
      let f = sound.few_variables in
      let small : node.var < first_element = omega (arith, e, lt, f) in
      rw (lt-ltb node.var first_element small) (ap (λ x. place_of x w.orders.variables) (sym e))
  number_rank Elements v node lt e =
      let large : first_element ≤ node.var = omega (arith, e) in
      let own : element_of node.var ≡ v = omega (arith, e) in
      rw (le-ltb node.var first_element large) (ap (λ x. length w.orders.variables + place_of x w.orders.elements) own)

  pub rank_is : (node : Node) (f : Denoted) → (st : Stands w node f) → rank_of w.orders (Inner node) ≡ rank_at w.orders (which_of f) (place_of st.var (order_of w.orders f))
  rank_is node f st =
      number_rank (which_of f) st.var node (subst (λ x. st.var < length x) (sym (order_of-which w.orders f)) st.within) st.numbered
      ∙ ap (λ x. rank_at w.orders (which_of f) (place_of st.var x)) (order_of-which w.orders f)

  pub rank_below : (which : Order) (p : ℕ) → p < length (in_order w.orders which) → rank_at w.orders which p < length w.orders.variables + length w.orders.elements
  rank_below Variables p lt = omega arith
  rank_below Elements p lt = omega arith

  rank_less : (which : Order) (p q : ℕ) → p < q → rank_at w.orders which p < rank_at w.orders which q
  rank_less Variables p q lt = lt
  rank_less Elements p q lt = omega arith

  which_of-part : (f : Denoted) (v : ℕ) (b : Bool) → which_of (part_of f v b) ≡ which_of f
  which_of-part (BddFunction f) v b = refl
  which_of-part (AddFunction f) v b = refl
  which_of-part (ZddFamily f) v true = refl
  which_of-part (ZddFamily f) v false = refl

  which_of-opposite : (f : Denoted) → which_of (opposite f) ≡ which_of f
  which_of-opposite (BddFunction f) = refl
  which_of-opposite (AddFunction f) = refl
  which_of-opposite (ZddFamily f) = refl

  order_of-opposite : (f : Denoted) → order_of w.orders (opposite f) ≡ order_of w.orders f
  order_of-opposite (BddFunction f) = refl
  order_of-opposite (AddFunction f) = refl
  order_of-opposite (ZddFamily f) = refl

  -- of a child that is a node, by its function, which is a part of the node's or the opposite
  node_child : (node : Node) (f : Denoted) (st : Stands w node f) (b : Bool) (child : Node) (g : Denoted) (sc : Stands w child g) → (g ≡ part_of f st.var b) ⊎ (g ≡ opposite (part_of f st.var b))
      → rank_of w.orders (Inner node) < rank_of w.orders (Inner child)
  node_child node f st b child g sc way =
      let free_g : (u : ℕ) → Free f u → Free g u = λ u free. elim way [
        | inl e ↦ subst (λ h. Free h u) (sym e) (Free-more f u st.var b free)
        | inr e ↦ subst (λ h. Free h u) (sym e) (Free-opposite (part_of f st.var b) u (Free-more f u st.var b free))
      ] in
      let free_own : Free g st.var = elim way [
        | inl e ↦ subst (λ h. Free h st.var) (sym e) (Free-part f st.var b)
        | inr e ↦ subst (λ h. Free h st.var) (sym e) (Free-opposite (part_of f st.var b) st.var (Free-part f st.var b))
      ] in
      let order : order_of w.orders g ≡ order_of w.orders f = elim way [
        | inl e ↦ ap (order_of w.orders) e ∙ order_of-part w.orders f st.var b
        | inr e ↦ ap (order_of w.orders) e ∙ order_of-opposite (part_of f st.var b) ∙ order_of-part w.orders f st.var b
      ] in
      let which : which_of g ≡ which_of f = elim way [
        | inl e ↦ ap which_of e ∙ which_of-part f st.var b
        | inr e ↦ ap which_of e ∙ which_of-opposite (part_of f st.var b) ∙ which_of-part f st.var b
      ] in
      let o = order_is w sound settled f in
      let p = place_of st.var (order_of w.orders f) in
      let q = place_of sc.var (order_of w.orders f) in
      let child_in : sc.var < length (order_of w.orders f) = subst (λ x. sc.var < length x) order sc.within in
      let at_q : slice_index (order_of w.orders f) q ≡ sc.var = o.there sc.var child_in in
      let less : p < q = elim (cases_lt p q) [
        | inl lt ↦ lt
        | inr le ↦ absurd (sc.depends_on (elim (cases_eq q p) [
          | inl same ↦ subst (Free g) (sym (o.there st.var st.within) ∙ ap (slice_index (order_of w.orders f)) (sym same) ∙ at_q) free_own
          | inr ne ↦ free_g sc.var (subst (Free f) at_q (st.above q (omega (arith, le, ne))))
        ]))
      ] in
      let a = rank_is node f st in
      let c : rank_of w.orders (Inner child) ≡ rank_at w.orders (which_of f) q = rank_is child g sc ∙ ap (λ x. rank_at w.orders x (place_of sc.var (order_of w.orders g))) which ∙ ap (λ x. rank_at w.orders (which_of f) (place_of sc.var x)) order in
      let r = rank_less (which_of f) p q less in
      omega (arith, a, c, r)

  child_rank : (node : Node) (f : Denoted) (st : Stands w node f) (b : Bool) (t : ℕ) (y : Word) → w.word t ≡ Some y → UpTo w t (part_of f st.var b) → rank_of w.orders (Inner node) < rank_of w.orders y
  child_rank node f st b t (Leaf x) at up =
      let place = (order_is w sound settled f).stands st.var st.within in
      let inside : place_of st.var (order_of w.orders f) < length (in_order w.orders (which_of f)) = subst (λ x. place_of st.var (order_of w.orders f) < length x) (sym (order_of-which w.orders f)) place in
      let a = rank_is node f st in
      let r = rank_below (which_of f) (place_of st.var (order_of w.orders f)) inside in
      omega (arith, a, r)
  child_rank node f st b t (Inner child) at up =
      let d = sound.denotes t (Inner child, at) in
      let sc = stands w sound settled t child d.0 at d.1 in
      node_child node f st b child d.0 sc (elim up [
        | inl e ↦ inl (injective w sound settled d.0 (part_of f st.var b) (sym d.1 ∙ e))
        | inr e ↦ inr (injective w sound settled d.0 (opposite (part_of f st.var b)) (sym d.1 ∙ e))
      ])

  pub then_rank : (s : ℕ) (node : Node) → w.word s ≡ Some (Inner node) → (y : Word) → w.word node.hi ≡ Some y → rank_of w.orders (Inner node) < rank_of w.orders y
  then_rank s node word y at =
      let d = sound.denotes s (Inner node, word) in
      let st = stands w sound settled s node d.0 word d.1 in
      child_rank node d.0 st true node.hi y at (inl st.then_is)

  pub else_rank : (s : ℕ) (node : Node) → w.word s ≡ Some (Inner node) → (y : Word) → w.word node.lo.index ≡ Some y → rank_of w.orders (Inner node) < rank_of w.orders y
  else_rank s node word y at =
      let d = sound.denotes s (Inner node, word) in
      let st = stands w sound settled s node d.0 word d.1 in
      child_rank node d.0 st false node.lo.index y at st.else_is

  -- a node with a projection's children is the projection's
  pub children_used : (s : ℕ) (node : Node) → w.word s ≡ Some (Inner node) → (IsUsed w node.hi) × IsUsed w node.lo.index
  children_used s node word =
      let d = sound.denotes s (Inner node, word) in
      let st = stands w sound settled s node d.0 word d.1 in (
        sound.used node.hi (part_of d.0 st.var true) st.then_is,
        elim st.else_is [
          | inl e ↦ sound.used node.lo.index (part_of d.0 st.var false) e
          | inr e ↦ sound.used node.lo.index (opposite (part_of d.0 st.var false)) e
        ],
      )

  order_at_is : (which : Order) → IsOrder (in_order w.orders which)
  order_at_is Variables = sound.variables
  order_at_is Elements = sound.elements

  -- a node of a level's variable has the level's rank
  pub node_rank : (which : Order) (level : ℕ) (node : Node) → level < length (in_order w.orders which) → node.var ≡ number_of which (slice_index (in_order w.orders which) level)
      → rank_of w.orders (Inner node) ≡ rank_at w.orders which level
  node_rank which level node lt e =
      let o = order_at_is which in
      number_rank which (slice_index (in_order w.orders which) level) node (o.below level lt) (sym e) ∙ ap (rank_at w.orders which) (o.once level lt)
