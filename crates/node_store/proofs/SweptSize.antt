-- After a sweep there are as many slots in use as the size of the roots' functions with the permanent ones.
use Rattle.std.proofs.Common.{◌≡◌, ℕ, zero, suc, ◌+◌, ◌<◌, ◌⊎◌, inl, inr, Bool, true, false, cond, List, [], ◌∷◌, ◌++◌, length, map, Option, Some, None, pos, refl, sym, ap, ◌∙◌, subst, arith}
use Rattle.std.specs.Prelude.{slice_index}
use Rattle.std.specs.List.{filter, range_with_len}
use Rattle.std.proofs.lemmas.Bool.{cases_lt}
use Rattle.edge_bits.specs.Assignments.{bit}
use Rattle.edge_bits.specs.declared.edges.Kind.{Kind}
use Rattle.edge_bits.specs.declared.edges.Kind.TheVariants.{Bdd, Add, Zdd}
use Rattle.edge_bits.specs.declared.words.Node.{Node}
use Rattle.edge_bits.specs.declared.words.Word.{Word}
use Rattle.edge_bits.specs.declared.words.Word.TheVariants.{Inner, Leaf}
use Rattle.function_laws.specs.Values.{constant, projection, negation}
use Rattle.function_laws.specs.Families.{empty, base}
use Rattle.function_laws.proofs.ValueLemmas.{everywhere}
use Rattle.function_laws.specs.Kinds.{Denoted, BddFunction, AddFunction, ZddFamily, ValueOf, function_of, joined_at, flipped, opposite}
use Rattle.function_laws.specs.Sizes.{Orders, order_of, part_of, parts, all_parts, is_one, permanent}
use Rattle.function_laws.specs.SiftedOrders.{place_of}
use Rattle.function_laws.proofs.DistinctLemmas.{In, In-left, In-right, In-append, counted}
use Rattle.function_laws.proofs.PartLaws.{whole_part}
use Rattle.function_laws.proofs.OneFunctions.{is_one-refl, is_one-sym, is_one-trans, is_one-opposite}
use Rattle.function_laws.proofs.LackingParts.{Free, part-opposite, opposite-opposite, Free-opposite, Free-part, Free-more, part_of_free, then_part_free, order_of-part, order_of-parts, part_there}
use Rattle.node_store.specs.Contents.{Content, IsSound, IsUsed, IsPermanent, IsOrder, projection_node, used_slots}
use Rattle.edge_bits.specs.Reading.{IsReached as LeadsTo, itself, then_child, else_child}
use Rattle.node_store.specs.Sweeps.{IsStart, IsReached, functions_of, root_functions, full_size}
use Rattle.node_store.proofs.SlotLists.{In-functions, functions-In, In-range, range-In, slots_apart, slots_counted}
use Rattle.node_store.proofs.Ordering.{above_from}
use Rattle.node_store.proofs.LeafLemmas.{leaf_free}
use Rattle.node_store.proofs.Standing.{UpTo, Stands, stands}

-- parts of several functions
pub In-all_parts : (o : Orders) (g h : Denoted) (fs : List Denoted) → In h fs → In g (parts (order_of o h) h) → In g (all_parts o fs)
unfolding all_parts
In-all_parts o g h [] i j = absurd i
In-all_parts o g h (f ∷ fs) (inl e) j = In-left g (parts (order_of o f) f) (all_parts o fs) (subst (λ x. In g (parts (order_of o x) x)) e j)
In-all_parts o g h (f ∷ fs) (inr i) j = In-right g (parts (order_of o f) f) (all_parts o fs) (In-all_parts o g h fs i j)

pub all_parts-In : (o : Orders) (g : Denoted) (fs : List Denoted) → In g (all_parts o fs) → (h : Denoted) × In h fs × In g (parts (order_of o h) h)
unfolding all_parts
all_parts-In o g [] i = absurd i
all_parts-In o g (f ∷ fs) i = elim (In-append g (parts (order_of o f) f) (all_parts o fs) i) [
  | inl j ↦ (f, inl refl, j)
  | inr j ↦ (let r = all_parts-In o g fs j in (r.0, inr r.1, r.2))
]

In-map : {X : Type 0} (g : ℕ → X) (x : X) (ss : List ℕ) → In x (map g ss) → (s : ℕ) × In s ss × (x ≡ g s)
In-map g x [] i = absurd i
In-map g x (s ∷ ss) (inl e) = (s, inl refl, e)
In-map g x (s ∷ ss) (inr i) = let r = In-map g x ss i in (r.0, inr r.1, r.2)

map-In : {X : Type 0} (g : ℕ → X) (s : ℕ) (ss : List ℕ) → In s ss → In (g s) (map g ss)
map-In g s [] i = absurd i
map-In g s (t ∷ ts) (inl e) = inl (ap g e)
map-In g s (t ∷ ts) (inr i) = inr (map-In g s ts i)

In-filter : (test : ℕ → Bool) (s : ℕ) (ss : List ℕ) → In s ss → test s ≡ true → In s (filter test ss)
In-filter test s [] i h = absurd i
In-filter test s (t ∷ ts) i h = at (test t) refl i (λ j. In-filter test s ts j h)
  where
    at : (b : Bool) → test t ≡ b → (s ≡ t) ⊎ In s ts → (In s ts → In s (filter test ts)) → In s (cond b (t ∷ filter test ts) (filter test ts))
    at true e (inl same) rest = inl same
    at true e (inr j) rest = inr (rest j)
    at false e (inl same) rest = let c : true ≡ false = sym h ∙ ap test same ∙ e in cc
    at false e (inr j) rest = rest j

filter-In : (test : ℕ → Bool) (s : ℕ) (ss : List ℕ) → In s (filter test ss) → test s ≡ true
filter-In test s [] i = absurd i
filter-In test s (t ∷ ts) i = at (test t) refl i (λ j. filter-In test s ts j)
  where
    at : (b : Bool) → test t ≡ b → In s (cond b (t ∷ filter test ts) (filter test ts)) → (In s (filter test ts) → test s ≡ true) → test s ≡ true
    at true e (inl same) rest = ap test same ∙ e
    at true e (inr j) rest = rest j
    at false e j rest = rest j

pub order_of-opposite : (o : Orders) (f : Denoted) → order_of o (opposite f) ≡ order_of o f
order_of-opposite o (BddFunction f) = refl
order_of-opposite o (AddFunction f) = refl
order_of-opposite o (ZddFamily f) = refl

module _ (w : Content) (sound : IsSound w) (settled : w.half ≡ None) where
  -- what the constants denote
  pub constant_function : ℕ → Denoted
  constant_function zero = BddFunction (constant true)
  constant_function (suc zero) = ZddFamily empty
  constant_function (suc (suc zero)) = ZddFamily base
  constant_function (suc (suc (suc zero))) = AddFunction (constant (pos 0))
  constant_function (suc (suc (suc (suc s)))) = AddFunction (constant (pos 1))

  constants_denote : (s : ℕ) → s < 5 → w.function s ≡ Some (constant_function s)
  unfolding constant_function
  constants_denote zero lt = sound.logic_one
  constants_denote (suc zero) lt = sound.empty_family
  constants_denote (suc (suc zero)) lt = sound.base_family
  constants_denote (suc (suc (suc zero))) lt = (sound.leaves 3 (pos 0) (omega arith) (sound.constants 3 (omega arith))).0
  constants_denote (suc (suc (suc (suc zero)))) lt = (sound.leaves 4 (pos 1) (omega arith) (sound.constants 4 (omega arith))).0
  constants_denote (suc (suc (suc (suc (suc s))))) lt = absurd (omega arith)

  projected : (v : ℕ) (k : Kind) (high low : ℕ → ValueOf k) → Some (BddFunction (constant true)) ≡ Some (function_of k high)
      → flipped true (Some (BddFunction (constant true))) ≡ Some (function_of k low) → function_of k (joined_at k v high low) ≡ BddFunction (projection v)
  projected v Bdd high low h l =
      let high_is : constant true ≡ high = cc in
      let low_is : negation (constant true) ≡ low = cc in
      ap BddFunction (everywhere (joined_at Bdd v high low) (projection v) (λ k. rw (sym high_is, sym low_is) (at (bit k v))))
    where
      at : (b : Bool) → cond b true false ≡ b
      at true = refl
      at false = refl
  projected v Add high low h l = cc
  projected v Zdd high low h l = cc

  pub projection_denotes : (s v : ℕ) → w.word s ≡ Some (Inner (projection_node v)) → w.function s ≡ Some (BddFunction (projection v))
  projection_denotes s v word =
      let d = sound.denotes s (Inner (projection_node v), word) in
      let n = sound.nodes s (projection_node v) d.0 word d.1 in
      d.1 ∙ ap Some (n.is ∙ projected v n.kind n.high n.low (sym sound.logic_one ∙ n.high_is) (ap (flipped true) (sym sound.logic_one) ∙ n.low_is))

  -- the function, or its opposite, is a part of one of these
  record Shown (fs : List Denoted) (f : Denoted) : Type 0 where
    root : Denoted
    asked : In root fs
    part : In f (parts (order_of w.orders root) root) ⊎ In (opposite f) (parts (order_of w.orders root) root)

  shown_root : (fs : List Denoted) (f : Denoted) → In f fs → Shown fs f
  shown_root fs f i = record { root = f; asked = i; part = inl (whole_part (order_of w.orders f) f) }

  shown_opposite : (fs : List Denoted) (f : Denoted) → Shown fs f → Shown fs (opposite f)
  shown_opposite fs f h = record {
    root = h.root;
    asked = h.asked;
    part = elim h.part [
      | inl i ↦ inr (subst (λ x. In x (parts (order_of w.orders h.root) h.root)) (sym (opposite-opposite f)) i)
      | inr i ↦ inl i
    ];
  }

  free_back : (f : Denoted) (v : ℕ) → Free (opposite f) v → Free f v
  free_back f v h = subst (λ x. Free x v) (opposite-opposite f) (Free-opposite (opposite f) v h)

  shown_part : (fs : List Denoted) (node : Node) (f : Denoted) (b : Bool) (st : Stands w node f) → Shown fs f → Shown fs (part_of f st.var b)
  shown_part fs node f b st h = record {
    root = h.root;
    asked = h.asked;
    part = elim h.part [
      | inl i ↦ (
          let order = order_of-parts w.orders (order_of w.orders h.root) h.root f i in
          inl (part_there (order_of w.orders h.root) h.root f st.var b (subst (In st.var) order st.there) i st.depends_on
          (above_from st.var f (order_of w.orders h.root) (subst (λ x. (j : ℕ) → j < place_of st.var x → Free f (slice_index x j)) order st.above))))
      | inr i ↦ (
          let order = sym (order_of-opposite w.orders f) ∙ order_of-parts w.orders (order_of w.orders h.root) h.root (opposite f) i in
          let p = part_there (order_of w.orders h.root) h.root (opposite f) st.var b (subst (In st.var) order st.there) i (λ x. st.depends_on (free_back f st.var x))
          (above_from st.var (opposite f) (order_of w.orders h.root)
          (subst (λ x. (j : ℕ) → j < place_of st.var x → Free (opposite f) (slice_index x j)) order (λ j lt. Free-opposite f (slice_index (order_of w.orders f) j) (st.above j lt)))) in
          inr (subst (λ x. In x (parts (order_of w.orders h.root) h.root)) (part-opposite f st.var b) p))
    ];
  }

  pub injective : (f g : Denoted) → Some f ≡ Some g → f ≡ g
  injective f g e = cc

  constant_in : (n s : ℕ) → s < 5 → In (constant_function s) (permanent n)
  unfolding constant_function
  constant_in n zero lt = inl refl
  constant_in n (suc zero) lt = inr (inl refl)
  constant_in n (suc (suc zero)) lt = inr (inr (inl refl))
  constant_in n (suc (suc (suc zero))) lt = inr (inr (inr (inl refl)))
  constant_in n (suc (suc (suc (suc zero)))) lt = inr (inr (inr (inr (inl refl))))
  constant_in n (suc (suc (suc (suc (suc s))))) lt = absurd (omega arith)

  projection_in : (n v : ℕ) → v < n → In (BddFunction (projection v)) (permanent n)
  projection_in n v lt = inr (inr (inr (inr (inr (map-In (λ v. BddFunction (projection v)) v (range_with_len 0 n) (range-In v 0 n (omega arith) (omega arith)))))))

  shown_up_to : (fs : List Denoted) (f g : Denoted) (s : ℕ) → Shown fs f → UpTo w s f → w.function s ≡ Some g → Shown fs g
  shown_up_to fs f g s h u e = elim u [
    | inl a ↦ (let same : Some f ≡ Some g = sym a ∙ e in subst (Shown fs) (injective f g same) h)
    | inr a ↦ (let same : Some (opposite f) ≡ Some g = sym a ∙ e in subst (Shown fs) (injective (opposite f) g same) (shown_opposite fs f h))
  ]

  module _ (is_root : ℕ → Bool) (fs : List Denoted)
      (has_permanent : (f : Denoted) → In f (permanent (length w.orders.variables)) → In f fs)
      (has_roots : (s : ℕ) (f : Denoted) → is_root s ≡ true → w.function s ≡ Some f → In f fs) where
    permanent_in : (s : ℕ) (f : Denoted) → IsPermanent w s → w.function s ≡ Some f → In f fs
    permanent_in s f (inl lt) e =
        let same : Some (constant_function s) ≡ Some f = sym (constants_denote s lt) ∙ e in
        has_permanent f (subst (λ x. In x (permanent (length w.orders.variables))) (injective (constant_function s) f same) (constant_in (length w.orders.variables) s lt))
    permanent_in s f (inr (v, lt, word)) e =
        let same : Some (BddFunction (projection v)) ≡ Some f = sym (projection_denotes s v word) ∙ e in
        has_permanent f (subst (λ x. In x (permanent (length w.orders.variables))) (injective (BddFunction (projection v)) f same) (projection_in (length w.orders.variables) v lt))

    start_shown : (s : ℕ) → IsStart w is_root s → (f : Denoted) → w.function s ≡ Some f → Shown fs f
    start_shown s (inl p) f e = shown_root fs f (permanent_in s f p e)
    start_shown s (inr (u, r)) f e = shown_root fs f (has_roots s f r e)

    leads_shown : (from : ℕ) → IsStart w is_root from → (s : ℕ) → LeadsTo w.word from s → (f : Denoted) → w.function s ≡ Some f → Shown fs f
    leads_shown from start _ itself f e = start_shown from start f e
    leads_shown from start _ (then_child s node r word) f e =
        let d = sound.denotes s (Inner node, word) in
        let st = stands w sound settled s node d.0 word d.1 in
        shown_up_to fs (part_of d.0 st.var true) f node.hi (shown_part fs node d.0 true st (leads_shown from start s r d.0 d.1)) (inl st.then_is) e
    leads_shown from start _ (else_child s node r word) f e =
        let d = sound.denotes s (Inner node, word) in
        let st = stands w sound settled s node d.0 word d.1 in
        shown_up_to fs (part_of d.0 st.var false) f node.lo.index (shown_part fs node d.0 false st (leads_shown from start s r d.0 d.1)) st.else_is e

    reached_shown : (s : ℕ) → IsReached w is_root s → (f : Denoted) → w.function s ≡ Some f → Shown fs f
    reached_shown s (from, start, arcs) f e = leads_shown from start s arcs f e

  -- some slot denotes the function or its opposite
  abbrev pub Known : Denoted → Type 0
  Known f = (s : ℕ) × UpTo w s f

  pub known_opposite : (f : Denoted) → Known f → Known (opposite f)
  known_opposite f (s, inl e) = (s, inr (e ∙ ap Some (sym (opposite-opposite f))))
  known_opposite f (s, inr e) = (s, inl e)

  pub known_back : (f : Denoted) → Known (opposite f) → Known f
  known_back f h = subst Known (opposite-opposite f) (known_opposite (opposite f) h)

  -- by a variable of which it is free
  known_free : (f : Denoted) (v : ℕ) (b : Bool) → Known f → Free f v → Known (part_of f v b)
  known_free f v false k free = subst Known (sym (part_of_free f v free)) k
  known_free f v true k free = elim (then_part_free f v free) [
    | inl e ↦ subst Known (sym e) k
    | inr e ↦ subst Known (sym e) (1, inl sound.empty_family)
  ]

  -- the order of a function
  pub order_is : (f : Denoted) → IsOrder (order_of w.orders f)
  order_is (BddFunction f) = sound.variables
  order_is (AddFunction f) = sound.variables
  order_is (ZddFamily f) = sound.elements

  known_at : (node : Node) (f : Denoted) (s i v : ℕ) (b : Bool) → Stands w node f → w.function s ≡ Some f → slice_index (order_of w.orders f) i ≡ v → i < length (order_of w.orders f)
      → ((j : ℕ) → j < i → Free f (slice_index (order_of w.orders f) j)) → Known (part_of f v b)
  known_at node f s i v b st is at lt before =
      let o = order_is f in
      let p = place_of st.var (order_of w.orders f) in
      let there : slice_index (order_of w.orders f) p ≡ st.var = o.there st.var st.within in
      elim (cases_lt p i) [
        | inl early ↦ absurd (st.depends_on (subst (Free f) there (before p early)))
        | inr from ↦ elim (cases_lt i p) [
          | inl late ↦ known_free f v b (s, inl is) (subst (Free f) at (st.above i late))
          | inr le ↦ (
              let same : p ≡ i = omega arith in
              let var : st.var ≡ v = sym there ∙ ap (slice_index (order_of w.orders f)) same ∙ at in
              subst (λ x. Known (part_of f x b)) var (child b))
        ]
      ]
    where
      child : (b : Bool) → Known (part_of f st.var b)
      child true = (node.hi, inl st.then_is)
      child false = (node.lo.index, st.else_is)

  known_by_word : (o : Option Word) (f : Denoted) (s i v : ℕ) (b : Bool) → w.word s ≡ o → w.function s ≡ Some f → slice_index (order_of w.orders f) i ≡ v → i < length (order_of w.orders f)
      → ((j : ℕ) → j < i → Free f (slice_index (order_of w.orders f) j)) → Known (part_of f v b)
  known_by_word None f s i v b word is at lt before = let u = sound.used s f is in let c : None ≡ Some u.0 = sym word ∙ u.1 in cc
  known_by_word (Some (Leaf x)) f s i v b word is at lt before = known_free f v b (s, inl is) (leaf_free w sound s x f word is v)
  known_by_word (Some (Inner node)) f s i v b word is at lt before = known_at node f s i v b (stands w sound settled s node f word is) is at lt before

  pub known_part : (f : Denoted) (i v : ℕ) (b : Bool) → Known f → slice_index (order_of w.orders f) i ≡ v → i < length (order_of w.orders f)
      → ((j : ℕ) → j < i → Free f (slice_index (order_of w.orders f) j)) → Known (part_of f v b)
  known_part f i v b (s, inl e) at lt before = known_by_word (w.word s) f s i v b refl e at lt before
  known_part f i v b (s, inr e) at lt before =
      let order = sym (order_of-opposite w.orders f) in
      known_back (part_of f v b) (subst Known (part-opposite f v b)
      (known_by_word (w.word s) (opposite f) s i v b refl e (subst (λ x. slice_index x i ≡ v) order at) (subst (λ x. i < length x) order lt)
      (subst (λ x. (j : ℕ) → j < i → Free (opposite f) (slice_index x j)) order (λ j jt. Free-opposite f (slice_index (order_of w.orders f) j) (before j jt)))))

  known_parts : (vs : List ℕ) (f : Denoted) (i : ℕ) → i + length vs ≡ length (order_of w.orders f) → ((j : ℕ) → slice_index vs j ≡ slice_index (order_of w.orders f) (i + j))
      → ((j : ℕ) → j < i → Free f (slice_index (order_of w.orders f) j)) → Known f → (g : Denoted) → In g (parts vs f) → Known g
  unfolding parts
  known_parts [] f i long at before k g (inl e) = subst Known (sym e) k
  known_parts [] f i long at before k g (inr j) = absurd j
  known_parts (v ∷ vs) f i long at before k g (inl e) = subst Known (sym e) k
  known_parts (v ∷ vs) f i long at before k g (inr h) =
      let here : slice_index (order_of w.orders f) i ≡ v = sym (at 0 ∙ ap (slice_index (order_of w.orders f)) (omega arith)) in
      let next : (b : Bool) → In g (parts vs (part_of f v b)) → Known g = λ b h.
      let order = order_of-part w.orders f v b in
      known_parts vs (part_of f v b) (suc i)
      (subst (λ x. suc i + length vs ≡ length x) (sym order) (omega (arith, long)))
      (subst (λ x. (j : ℕ) → slice_index vs j ≡ slice_index x (suc i + j)) (sym order)
      (λ j. at (suc j) ∙ ap (slice_index (order_of w.orders f)) (omega arith)))
      (subst (λ x. (j : ℕ) → j < suc i → Free (part_of f v b) (slice_index x j)) (sym order)
      (λ j lt. elim (cases_lt j i) [
        | inl less ↦ Free-more f (slice_index (order_of w.orders f) j) v b (before j less)
        | inr le ↦ (let same : i ≡ j = omega arith in subst (Free (part_of f v b)) (sym here ∙ ap (slice_index (order_of w.orders f)) same) (Free-part f v b))
      ]))
      (known_part f i v b k here (omega arith) before) g h
      in
      elim (In-append g (parts vs (part_of f v true)) (parts vs (part_of f v false)) h) [ inl x ↦ next true x | inr x ↦ next false x ]

  all_known : (fs : List Denoted) → ((h : Denoted) → In h fs → Known h) → (g : Denoted) → In g (all_parts w.orders fs) → Known g
  all_known fs each g i =
      let r = all_parts-In w.orders g fs i in
      known_parts (order_of w.orders r.0) r.0 0 (omega arith) (λ j. ap (slice_index (order_of w.orders r.0)) (omega arith)) (λ j lt. absurd (omega arith)) (each r.0 r.1) g r.2

  permanent_known : (h : Denoted) → In h (permanent (length w.orders.variables)) → Known h
  unfolding constant_function
  permanent_known h (inl e) = (0, inl (sound.logic_one ∙ ap Some (sym e)))
  permanent_known h (inr (inl e)) = (1, inl (sound.empty_family ∙ ap Some (sym e)))
  permanent_known h (inr (inr (inl e))) = (2, inl (sound.base_family ∙ ap Some (sym e)))
  permanent_known h (inr (inr (inr (inl e)))) = (3, inl (constants_denote 3 (omega arith) ∙ ap Some (sym e)))
  permanent_known h (inr (inr (inr (inr (inl e))))) = (4, inl (constants_denote 4 (omega arith) ∙ ap Some (sym e)))
  permanent_known h (inr (inr (inr (inr (inr i))))) =
      let m = In-map (λ v. BddFunction (projection v)) h (range_with_len 0 (length w.orders.variables)) i in
      let r = In-range m.0 0 (length w.orders.variables) m.1 in
      let p = sound.projections m.0 (omega (arith, r.1)) in
      (p.0, inl (projection_denotes p.0 m.0 p.1 ∙ ap Some (sym m.2)))

  root_known : (is_root : ℕ → Bool) (h : Denoted) → In h (root_functions w is_root) → Known h
  root_known is_root h i = let x = In-functions w.function h (filter is_root (range_with_len 0 w.limit)) i in (x.0, inl x.2)

  root_in : (is_root : ℕ → Bool) (s : ℕ) (f : Denoted) → is_root s ≡ true → w.function s ≡ Some f → In f (root_functions w is_root)
  root_in is_root s f r e =
      let inside = sound.within s (sound.used s f e) in
      functions-In w.function f s (filter is_root (range_with_len 0 w.limit)) (In-filter is_root s (range_with_len 0 w.limit) (range-In s 0 w.limit (omega arith) (omega arith)) r) e

  module _ (is_root : ℕ → Bool) (reached : (s : ℕ) → IsUsed w s → IsReached w is_root s) where
    unfoldable pub swept_functions : List Denoted
    swept_functions = permanent (length w.orders.variables) ++ root_functions w is_root

    -- each slot's function, or its opposite, is a part, and each part or its opposite is a slot's function
    pub slot_part : (s : ℕ) (f : Denoted) → w.function s ≡ Some f → (g : Denoted) × In g (all_parts w.orders swept_functions) × ((g ≡ f) ⊎ (g ≡ opposite f))
    unfolding swept_functions
    slot_part s f e =
        let fs = permanent (length w.orders.variables) ++ root_functions w is_root in
        let h = reached_shown is_root fs (λ g j. In-left g (permanent (length w.orders.variables)) (root_functions w is_root) j)
        (λ t g r e. In-right g (permanent (length w.orders.variables)) (root_functions w is_root) (root_in is_root t g r e)) s (reached s (sound.used s f e)) f e in
        elim h.part [
          | inl p ↦ (f, In-all_parts w.orders f h.root fs h.asked p, inl refl)
          | inr p ↦ (opposite f, In-all_parts w.orders (opposite f) h.root fs h.asked p, inr refl)
        ]

    pub part_slot : (g : Denoted) → In g (all_parts w.orders swept_functions) → (s : ℕ) × (f : Denoted) × (w.function s ≡ Some f) × ((f ≡ g) ⊎ (f ≡ opposite g))
    unfolding swept_functions
    part_slot g i =
        let fs = permanent (length w.orders.variables) ++ root_functions w is_root in
        let k = all_known fs (λ h j. elim (In-append h (permanent (length w.orders.variables)) (root_functions w is_root) j) [
          | inl p ↦ permanent_known h p
          | inr p ↦ root_known is_root h p
        ]) g i in
        elim k.1 [ inl a ↦ (k.0, g, a, inl refl) | inr a ↦ (k.0, opposite g, a, inr refl) ]

    pub slot_in : (s : ℕ) (f : Denoted) → w.function s ≡ Some f → In s (range_with_len 0 w.limit)
    slot_in s f e = let inside = sound.within s (sound.used s f e) in range-In s 0 w.limit (omega arith) (omega arith)

    pub one_of : (f g : Denoted) → (g ≡ f) ⊎ (g ≡ opposite f) → is_one w.orders f g ≡ true
    one_of f g (inl e) = subst (λ x. is_one w.orders f x ≡ true) (sym e) (is_one-refl w.orders f)
    one_of f g (inr e) = subst (λ x. is_one w.orders f x ≡ true) (sym e) (is_one-opposite w.orders f)

    -- Where every slot in use is reached from the permanent ones and the roots, as many are in use as the size of what these denote.
    pub swept_size : used_slots w ≡ full_size w.orders (root_functions w is_root)
    unfolding swept_functions
    swept_size =
        let slots = range_with_len 0 w.limit in
        sym (slots_counted w sound 0 w.limit)
        ∙ counted (is_one w.orders) (is_one-refl w.orders) (is_one-sym w.orders) (is_one-trans w.orders) (functions_of w.function slots) (all_parts w.orders swept_functions)
        (slots_apart w sound 0 w.limit)
        (λ f i. let x = In-functions w.function f slots i in let g = slot_part x.0 f x.2 in (g.0, g.1, one_of f g.0 g.2))
        (λ g i. let x = part_slot g i in (x.1, functions-In w.function x.1 x.0 slots (slot_in x.0 x.1 x.2) x.2, one_of g x.1 x.3))
