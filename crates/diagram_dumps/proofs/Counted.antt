-- The lines and the constant are one of each class of the roots' cofactors.
use Rattle.std.proofs.Common.{◌≡◌, ◌≢◌, ℕ, zero, suc, ◌+◌, ◌<◌, ◌≤◌, ◌⊎◌, inl, inr, Bool, true, false, not, cond, ℤ, List, [], ◌∷◌, ◌++◌, Some, length, map, nat_abs, slice_get, eqb, refl, sym, ap, ◌∙◌, subst, arith, append-nil, append_assoc, ne_eqb}
use Rattle.std.specs.Prelude.{◌==◌}
use Rattle.std.specs.List.{range_with_len}
use Rattle.std.proofs.lemmas.Bool.{cases_eq}
use Rattle.std.proofs.lemmas.Bool.Decides.{nat_tests}
use Rattle.std.proofs.lemmas.List.FromFn.{length-map-range_with_len}
use Rattle.edge_bits.specs.declared.edges.Line.{Line}
use Rattle.diagram_dumps.specs.declared.dump.Dump.{Dump}
use Rattle.diagram_dumps.specs.Dumps.{line_value, root_value}
use Rattle.diagram_dumps.specs.WellMade.{IsWellMade}
use Rattle.diagram_dumps.proofs.Walks.{AreLines, are_lines}
use Rattle.function_laws.specs.Kinds.{Denoted, BddFunction, opposite}
use Rattle.function_laws.specs.Sizes.{Orders, all_parts, distinct, is_one, order_of, part_of, parts, size}
use Rattle.function_laws.specs.SiftedOrders.{place_of}
use Rattle.function_laws.specs.Values.{IsFree}
use Rattle.function_laws.proofs.DistinctLemmas.{Apart, In, In-append, counted}
use Rattle.function_laws.proofs.OneFunctions.{is_one-opposite, is_one-refl, is_one-sym, is_one-trans, same_or_opposite}
use Rattle.function_laws.proofs.PartLaws.{half_part}
use Rattle.function_laws.proofs.LackingParts.{Free, Free-more, Free-part}
use Rattle.function_laws.proofs.ValueLemmas.{cofactor-free}
use Rattle.diagram_dumps.specs.Under.{IsUnder, functions_of}
use Rattle.diagram_dumps.proofs.Lines.{Indexed, at_line, at_one, earlier, indexed, one_is, within}
use Rattle.diagram_dumps.proofs.Standing.{depends, free_before, of_order, one_free, there}
use Rattle.diagram_dumps.proofs.Shown.{Contains-In, In-all_parts, IsUpTo, all_parts-In, all_shown, at_index, else_up_to, free_up_to, part_up_to, signed_up_to, then_up_to, up_to_twice}

own : (x : ℕ) → eqb x x ≡ true
own x = grind (arith, nat_tests)

-- what is not among the first ones stands behind the next
place_before : (us : List ℕ) (v : ℕ) (vs : List ℕ) (w : ℕ) → (In w us → ⊥) → w ≢ v → place_of v (us ++ v ∷ vs) < place_of w (us ++ v ∷ vs)
place_before [] v vs w absent ne =
    let first : place_of v (v ∷ vs) ≡ 0 = ap (λ b. cond b 0 (suc (place_of v vs))) (own v) in
    let later : place_of w (v ∷ vs) ≡ suc (place_of w vs) = ap (λ b. cond b 0 (suc (place_of w vs))) (ne_eqb v w (λ e. ne (sym e))) in
    omega (arith, first, later)
place_before (u ∷ us) v vs w absent ne =
    let later : place_of w ((u ∷ us) ++ v ∷ vs) ≡ suc (place_of w (us ++ v ∷ vs)) =
    ap (λ b. cond b 0 (suc (place_of w (us ++ v ∷ vs)))) (ne_eqb u w (λ e. absent (inl (sym e)))) in
    by_head (eqb u v) refl later (place_before us v vs w (λ i. absent (inr i)) ne)
  where
    by_head : (b : Bool) → (u == v) ≡ b → place_of w ((u ∷ us) ++ v ∷ vs) ≡ suc (place_of w (us ++ v ∷ vs)) → place_of v (us ++ v ∷ vs) < place_of w (us ++ v ∷ vs)
        → place_of v ((u ∷ us) ++ v ∷ vs) < place_of w ((u ∷ us) ++ v ∷ vs)
    by_head true e later before =
        let first : place_of v ((u ∷ us) ++ v ∷ vs) ≡ 0 = ap (λ b. cond b 0 (suc (place_of v (us ++ v ∷ vs)))) e in omega (arith, first, later)
    by_head false e later before =
        let next : place_of v ((u ∷ us) ++ v ∷ vs) ≡ suc (place_of v (us ++ v ∷ vs)) = ap (λ b. cond b 0 (suc (place_of v (us ++ v ∷ vs)))) e in omega (arith, next, later, before)

In-map : {X : Type 0} (g : ℕ → X) (x : X) (ss : List ℕ) → In x (map g ss) → (s : ℕ) × In s ss × (x ≡ g s)
In-map g x [] i = absurd i
In-map g x (s ∷ ss) (inl e) = (s, inl refl, e)
In-map g x (s ∷ ss) (inr i) = let r = In-map g x ss i in (r.0, inr r.1, r.2)

map-In : {X : Type 0} (g : ℕ → X) (s : ℕ) (ss : List ℕ) → In s ss → In (g s) (map g ss)
map-In g s [] i = absurd i
map-In g s (t ∷ ts) (inl e) = inl (ap g e)
map-In g s (t ∷ ts) (inr i) = inr (map-In g s ts i)

In-range : (s from count : ℕ) → In s (range_with_len from count) → (from ≤ s) × (s < from + count)
In-range s from zero i = absurd i
In-range s from (suc count) (inl e) = (omega (arith, e), omega (arith, e))
In-range s from (suc count) (inr i) = let r = In-range s (from + 1) count i in (omega (arith, r.0), omega (arith, r.1))

range-In : (s from count : ℕ) → from ≤ s → s < from + count → In s (range_with_len from count)
range-In s from zero low high = absurd (omega arith)
range-In s from (suc count) low high = elim (cases_eq s from) [
  | inl e ↦ inl e
  | inr ne ↦ inr (range-In s (from + 1) count (omega (arith, ne)) (omega arith))
]

module _ (dump : Dump) (well : IsWellMade dump) (orders : Orders) (under : IsUnder orders.variables dump) where
  -- the function of some index, or its complement
  record Known (f : Denoted) : Type 0 where
    index : ℕ
    low : 1 ≤ index
    high : index < 2 + length dump.nodes
    is : IsUpTo f (at_index dump index)

  -- free of the variables of a list
  abbrev Lacks : List ℕ → Denoted → Type 0
  Lacks us f = (u : ℕ) → In u us → Free f u

  known_child : (f : Denoted) (place : ℕ) (line : Line) (at : slice_get dump.nodes place ≡ Some line) (b : Bool) → IsUpTo f (at_index dump (place + 2)) → Known (part_of f line.var b)
  known_child f place line at true is =
      let e = earlier dump well place line at in
      let fits = within dump place line at in
      record {
        index = line.hi;
        low = e.0;
        high = omega (arith, e.1);
        is = up_to_twice (part_of f line.var true) (part_of (at_index dump (place + 2)) line.var true) (at_index dump line.hi)
            (part_up_to f (at_index dump (place + 2)) (part_of (at_index dump (place + 2)) line.var true) line.var true is refl) (then_up_to dump well orders under place line at);
      }
  known_child f place line at false is =
      let e = earlier dump well place line at in
      let fits = within dump place line at in
      record {
        index = nat_abs line.lo;
        low = e.2;
        high = omega (arith, e.3);
        is = up_to_twice (part_of f line.var false) (part_of (at_index dump (place + 2)) line.var false) (at_index dump (nat_abs line.lo))
            (part_up_to f (at_index dump (place + 2)) (part_of (at_index dump (place + 2)) line.var false) line.var false is refl) (else_up_to dump well orders under place line at);
      }

  -- by a variable of which it is free
  known_free : (f : Denoted) (index v : ℕ) (b : Bool) → 1 ≤ index → index < 2 + length dump.nodes → IsFree (line_value dump index) v
      → IsUpTo f (at_index dump index) → Known (part_of f v b)
  known_free f index v b low high free is = record {
    index = index;
    low = low;
    high = high;
    is = part_up_to f (at_index dump index) (at_index dump index) v b is (ap BddFunction (cofactor-free (line_value dump index) v b free));
  }

  -- the parts by the next variable of the order
  known_next : (us : List ℕ) (v : ℕ) (vs : List ℕ) (f : Denoted) (b : Bool) → orders.variables ≡ us ++ v ∷ vs → Lacks us f
      → (index : ℕ) → Indexed dump index → IsUpTo f (at_index dump index) → Known (part_of f v b)
  known_next us v vs f b split lacks _ at_one is = known_free f 1 v b (omega arith) (omega arith) (one_free dump well v) is
  known_next us v vs f b split lacks _ (at_line place line at) is = elim (cases_eq line.var v) [
    | inl e ↦ subst (λ x. Known (part_of f x b)) e (known_child f place line at b is)
    | inr ne ↦ (
        let fits = within dump place line at in
        let absent : In line.var us → ⊥ = λ i.
        depends dump well orders.variables under place line at (free_up_to f (at_index dump (place + 2)) line.var is (lacks line.var i)) in
        let before : place_of v orders.variables < place_of line.var orders.variables =
        subst (λ (o : List ℕ). place_of v o < place_of line.var o) (sym split) (place_before us v vs line.var absent ne) in
        known_free f (place + 2) v b (omega arith) (omega arith) (free_before dump well orders.variables under v place line at before) is)
  ]

  lacks_next : (us : List ℕ) (v : ℕ) (f : Denoted) (b : Bool) → Lacks us f → Lacks (us ++ v ∷ []) (part_of f v b)
  lacks_next us v f b lacks u i = elim (In-append u us (v ∷ []) i) [
    | inl early ↦ Free-more f u v b (lacks u early)
    | inr last ↦ elim last [
      | inl e ↦ subst (λ x. Free (part_of f v b) x) (sym e) (Free-part f v b)
      | inr none ↦ absurd none
    ]
  ]

  next : (us : List ℕ) (v : ℕ) (vs : List ℕ) (f : Denoted) (b : Bool) → orders.variables ≡ us ++ v ∷ vs → Lacks us f → Known f → Known (part_of f v b)
  next us v vs f b split lacks k = known_next us v vs f b split lacks k.index (indexed dump k.index k.low k.high) k.is

  further : (us : List ℕ) (v : ℕ) (vs : List ℕ) → orders.variables ≡ us ++ v ∷ vs → orders.variables ≡ (us ++ v ∷ []) ++ vs
  further us v vs split = split ∙ sym (append_assoc us (v ∷ []) vs)

  -- each part is the function of an index, or its complement
  known_parts : (vs us : List ℕ) (f : Denoted) → orders.variables ≡ us ++ vs → Lacks us f → Known f → (g : Denoted) → In g (parts vs f) → Known g
  unfolding parts
  known_parts [] us f split lacks k g (inl e) = subst Known (sym e) k
  known_parts [] us f split lacks k g (inr i) = absurd i
  known_parts (v ∷ vs) us f split lacks k g (inl e) = subst Known (sym e) k
  known_parts (v ∷ vs) us f split lacks k g (inr i) = elim (In-append g (parts vs (part_of f v true)) (parts vs (part_of f v false)) i) [
    | inl h ↦ known_parts vs (us ++ v ∷ []) (part_of f v true) (further us v vs split) (lacks_next us v f true lacks) (next us v vs f true split lacks k) g h
    | inr h ↦ known_parts vs (us ++ v ∷ []) (part_of f v false) (further us v vs split) (lacks_next us v f false lacks) (next us v vs f false split lacks k) g h
  ]

  -- what is free of all variables is the constant, or its complement
  last_is : (us : List ℕ) (f : Denoted) → orders.variables ≡ us → Lacks us f → (index : ℕ) → Indexed dump index → IsUpTo f (at_index dump index) → IsUpTo f (at_index dump 1)
  last_is us f split lacks _ at_one is = is
  last_is us f split lacks _ (at_line place line at) is =
      let among : In line.var us = subst (In line.var) split (Contains-In line.var orders.variables (there dump well orders.variables under place line at)) in
      absurd (depends dump well orders.variables under place line at (free_up_to f (at_index dump (place + 2)) line.var is (lacks line.var among)))

  -- and some part is
  reaches_one : (vs us : List ℕ) (f : Denoted) → orders.variables ≡ us ++ vs → Lacks us f → Known f → (g : Denoted) × In g (parts vs f) × IsUpTo g (at_index dump 1)
  unfolding parts
  reaches_one [] us f split lacks k = (f, inl refl, last_is us f (split ∙ append-nil us) lacks k.index (indexed dump k.index k.low k.high) k.is)
  reaches_one (v ∷ vs) us f split lacks k =
      let r = reaches_one vs (us ++ v ∷ []) (part_of f v true) (further us v vs split) (lacks_next us v f true lacks) (next us v vs f true split lacks k) in
      (r.0, half_part v vs f r.0 true r.1, r.2)

  abbrev root_function : ℤ → Denoted
  root_function root = BddFunction (root_value dump root)

  known_roots : (roots : List ℤ) (after : ℕ) → AreLines roots after → after ≤ 2 + length dump.nodes → (f : Denoted) → In f (map root_function roots) → (g : ℕ → Bool) × (f ≡ BddFunction g) × Known f
  known_roots [] after are most f i = absurd i
  known_roots (root ∷ roots) after are most f (inl e) =
      (root_value dump root, e, subst Known (sym e) (record { index = nat_abs root; low = are.0; high = omega (arith, are.1); is = signed_up_to dump root }))
  known_roots (root ∷ roots) after are most f (inr i) = known_roots roots after are.2 most f i

  known_root : (f : Denoted) → In f (functions_of dump) → (g : ℕ → Bool) × (f ≡ BddFunction g) × Known f
  known_root f i = known_roots dump.roots (2 + length dump.nodes) (are_lines dump well) (omega arith) f i

  all_known : (g : Denoted) → In g (all_parts orders (functions_of dump)) → Known g
  all_known g i =
      let r = all_parts-In orders g (functions_of dump) i in
      let k = known_root r.0 r.1 in
      by_root k.0 r.0 k.1 k.2 r.2
    where
      by_root : (h : ℕ → Bool) (f : Denoted) → f ≡ BddFunction h → Known f → In g (parts (order_of orders f) f) → Known g
      by_root h f e k i = known_parts orders.variables [] (BddFunction h) refl (λ u none. absurd none) (subst Known e k) g (subst (λ x. In g (parts (order_of orders x) x)) e i)

  one_of : (f g : Denoted) → IsUpTo f g → is_one orders g f ≡ true
  one_of f g (inl e) = subst (λ x. is_one orders g x ≡ true) (sym e) (is_one-refl orders g)
  one_of f g (inr e) = subst (λ x. is_one orders g x ≡ true) (sym e) (is_one-opposite orders g)

  same_values : (f g : ℕ → Bool) → BddFunction f ≡ BddFunction g → (k : ℕ) → f k ≡ g k
  same_values f g e k = ap (λ (h : ℕ → Bool). h k) (inside e)
    where
      inside : BddFunction f ≡ BddFunction g → f ≡ g
      inside e = cc

  -- the constant is no line's function, nor is its complement
  one_apart : (place : ℕ) → place < length dump.nodes → (at_index dump 1 ≡ at_index dump (place + 2)) ⊎ (opposite (at_index dump 1) ≡ at_index dump (place + 2)) → ⊥
  one_apart place inside (inl e) =
      well.proper place true inside (λ k. sym (same_values (line_value dump 1) (line_value dump (place + 2)) e k) ∙ ap (λ (f : ℕ → Bool). f k) (one_is dump well))
  one_apart place inside (inr e) =
      well.proper place false inside (λ k. sym (same_values (λ k. not (line_value dump 1 k)) (line_value dump (place + 2)) e k) ∙ ap (λ (f : ℕ → Bool). not (f k)) (one_is dump well))

  not_not : (b : Bool) → not (not b) ≡ b
  not_not true = refl
  not_not false = refl

  lines_apart : (i j : ℕ) → i < j → j < length dump.nodes
      → (at_index dump (i + 2) ≡ at_index dump (j + 2)) ⊎ (opposite (at_index dump (i + 2)) ≡ at_index dump (j + 2)) → ⊥
  lines_apart i j lower inside (inl e) = well.distinct i j false lower inside (λ k. same_values (line_value dump (i + 2)) (line_value dump (j + 2)) e k)
  lines_apart i j lower inside (inr e) =
      well.distinct i j true lower inside (λ k.
      sym (not_not (line_value dump (i + 2) k)) ∙ ap not (same_values (λ k. not (line_value dump (i + 2) k)) (line_value dump (j + 2)) e k))

  pub both_apart : (i j : ℕ) → Indexed dump i → Indexed dump j → i < j → (at_index dump i ≡ at_index dump j) ⊎ (opposite (at_index dump i) ≡ at_index dump j) → ⊥
  both_apart _ _ at_one at_one lower e = omega arith
  both_apart _ _ at_one (at_line place line at) lower e = one_apart place (within dump place line at) e
  both_apart _ _ (at_line place line at) at_one lower e = omega arith
  both_apart _ _ (at_line place line at) (at_line other child here) lower e = lines_apart place other (omega arith) (within dump other child here) e

  -- no two of the indices have one function
  apart : (i j : ℕ) → 1 ≤ i → i < j → j < 2 + length dump.nodes → is_one orders (at_index dump i) (at_index dump j) ≡ true → ⊥
  apart i j low lower high one =
      let first = indexed dump i low (omega arith) in
      let second = indexed dump j (omega arith) high in
      both_apart i j first second lower
      (same_or_opposite orders (at_index dump i) (at_index dump j) (of_order dump well orders.variables under i first) (of_order dump well orders.variables under j second) one)

  apart_from : (from count : ℕ) → 1 ≤ from → from + count ≤ 2 + length dump.nodes → Apart (is_one orders) (map (at_index dump) (range_with_len from count))
  apart_from from zero low high = tt
  apart_from from (suc count) low high = (
    (λ f i one.
        let m = In-map (at_index dump) f (range_with_len (from + 1) count) i in
        let r = In-range m.0 (from + 1) count m.1 in
        apart from m.0 low (omega (arith, r.0)) (omega (arith, r.1)) (subst (λ x. is_one orders (at_index dump from) x ≡ true) m.2 one)),
    apart_from (from + 1) count (omega arith) (omega arith),
  )

  abbrev listed : List Denoted
  listed = map (at_index dump) (range_with_len 1 (length dump.nodes + 1))

  -- an index is one of the parts, where there is a root
  index_part : (first : Denoted) → In first (functions_of dump) → (j : ℕ) → 1 ≤ j → j < 2 + length dump.nodes
      → (g : Denoted) × In g (all_parts orders (functions_of dump)) × (is_one orders (at_index dump j) g ≡ true)
  index_part first asked j low high = elim (cases_eq j 1) [
    | inl e ↦ (
        let k = known_root first asked in
        let r = reaches_one orders.variables [] (BddFunction k.0) refl (λ u none. absurd none) (subst Known k.1 k.2) in (
          r.0,
          In-all_parts orders r.0 (BddFunction k.0) (functions_of dump) (subst (λ x. In x (functions_of dump)) k.1 asked) r.1,
          subst (λ i. is_one orders (at_index dump i) r.0 ≡ true) (sym e) (one_of r.0 (at_index dump 1) r.2),
        ))
    | inr ne ↦ (
        let s = all_shown dump well orders under j (omega (arith, ne)) high in
        (s.part, In-all_parts orders s.part (BddFunction s.root) (functions_of dump) s.asked s.among, one_of s.part (at_index dump j) s.is))
  ]

  with_root : (first : Denoted) → In first (functions_of dump) → length dump.nodes + 1 ≡ size orders (functions_of dump)
  with_root first asked =
      sym (length-map-range_with_len (at_index dump) 1 (length dump.nodes + 1))
      ∙ counted (is_one orders) (is_one-refl orders) (is_one-sym orders) (is_one-trans orders) listed (all_parts orders (functions_of dump))
      (apart_from 1 (length dump.nodes + 1) (omega arith) (omega arith))
      (λ f i.
      let m = In-map (at_index dump) f (range_with_len 1 (length dump.nodes + 1)) i in
      let r = In-range m.0 1 (length dump.nodes + 1) m.1 in
      let p = index_part first asked m.0 r.0 (omega (arith, r.1)) in
      (p.0, p.1, subst (λ x. is_one orders x p.0 ≡ true) (sym m.2) p.2))
      (λ g i.
      let k = all_known g i in (
        at_index dump k.index,
        map-In (at_index dump) k.index (range_with_len 1 (length dump.nodes + 1)) (range-In k.index 1 (length dump.nodes + 1) k.low (omega (arith, k.high))),
        is_one-sym orders (at_index dump k.index) g (one_of g (at_index dump k.index) k.is),
      ))

  by_roots : (roots : List ℤ) → dump.roots ≡ roots → (dump.roots ≡ [] → ⊥) → length dump.nodes + 1 ≡ size orders (functions_of dump)
  by_roots [] e some = absurd (some e)
  by_roots (root ∷ roots) e some =
      with_root (root_function root) (subst (λ (rs : List ℤ). In (root_function root) (map root_function rs)) (sym e) (inl refl))

  -- one for each line and the constant, where there is a root
  pub lines_counted : (dump.roots ≡ [] → ⊥) → length dump.nodes + 1 ≡ size orders (functions_of dump)
  lines_counted some = by_roots dump.roots refl some

-- without roots there is nothing
pub none_counted : (dump : Dump) (orders : Orders) → dump.roots ≡ [] → 0 ≡ size orders (functions_of dump)
unfolding all_parts distinct
none_counted dump orders e =
    subst (λ (rs : List ℤ). 0 ≡ size orders (map (λ root. BddFunction (root_value dump root)) rs)) (sym e) refl
