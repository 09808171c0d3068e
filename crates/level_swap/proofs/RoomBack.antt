-- A swap back has room where the order that it restores had room for its lower nodes.
use Rattle.std.proofs.Common.{◌≡◌, ◌≢◌, ℕ, suc, ◌+◌, ◌<◌, ◌≤◌, ◌⊎◌, inl, inr, Bool, true, false, List, [], ◌∷◌, ◌++◌, length, Some, None, refl, sym, ap, ◌∙◌, subst, arith, eq-eqb}
use Rattle.std.specs.Prelude.{slice_index}
use Rattle.std.specs.List.{filter}
use Rattle.std.proofs.lemmas.Bool.{cases_lt}
use Rattle.edge_bits.specs.declared.edges.Kind.{Kind}
use Rattle.edge_bits.specs.declared.edges.Kind.TheVariants.{Bdd, Add, Zdd}
use Rattle.edge_bits.specs.declared.words.Node.{Node}
use Rattle.edge_bits.specs.declared.words.Word.TheVariants.{Inner}
use Rattle.function_laws.specs.Kinds.{Denoted, BddFunction, AddFunction, ZddFamily, ValueOf, function_of, part_at, opposite, flipped}
use Rattle.function_laws.specs.declared.orders.Order.{Order}
use Rattle.function_laws.specs.declared.orders.Order.TheVariants.{Variables, Elements}
use Rattle.function_laws.specs.Sizes.{Orders, order_of, in_order, part_of, parts, all_parts, is_one, distinct, topmost, is_variable, depends_on, width}
use Rattle.function_laws.specs.SiftedOrders.{place_of, with_order}
use Rattle.function_laws.proofs.DistinctLemmas.{In, In-right, In-list_any, In-distinct, Matched-distinct}
use Rattle.function_laws.proofs.PartLaws.{whole_part, each_part, Above}
use Rattle.function_laws.proofs.OneFunctions.{IsWithin, same_or_opposite, is_one-refl, is_one-trans, is_one-opposite}
use Rattle.function_laws.proofs.LackingParts.{Free, own, Free-opposite, Free-part, Free-more, part_of_free, part-function, part-opposite, Lacks-Free, order_of-part, opposite-opposite}
use Rattle.node_store.specs.Contents.{Content, IsSound, IsUsed, IsOrder, number_of, var_at, used_slots}
use Rattle.node_store.specs.Sweeps.{IsReached}
use Rattle.level_swap.specs.Swaps.{HasEdge, HasOneOf, HasRoomBack}
use Rattle.node_store.proofs.SlotLists.{within_orders}
use Rattle.node_store.proofs.Standing.{Stands, stands}
use Rattle.node_store.proofs.SweptSize.{swept_functions, slot_part, part_slot, all_parts-In, In-all_parts, Known, known_part}
use Rattle.node_store.proofs.Tops.{which_of, other, order_of-which, depends-free, topmost_is, topmost_opposite}
use Rattle.node_store.proofs.Widths.{In-filter, other_word, number_once}
use Rattle.level_swap.proofs.Withins.{IsWithin-part, IsWithin-opposite}
use Rattle.level_swap.proofs.Returning.{parts-commute, part_returned}

pub which_of-part : (f : Denoted) (v : ℕ) (b : Bool) → which_of (part_of f v b) ≡ which_of f
which_of-part (BddFunction f) v b = refl
which_of-part (AddFunction f) v b = refl
which_of-part (ZddFamily f) v true = refl
which_of-part (ZddFamily f) v false = refl

pub which_of-opposite : (f : Denoted) → which_of (opposite f) ≡ which_of f
which_of-opposite (BddFunction f) = refl
which_of-opposite (AddFunction f) = refl
which_of-opposite (ZddFamily f) = refl

which_of-parts : (order : List ℕ) (f g : Denoted) → In g (parts order f) → which_of g ≡ which_of f
which_of-parts order f g i = each_part (λ h. which_of h ≡ which_of f) order f (λ h v b j e. which_of-part h v b ∙ e) refl g i

-- only the lengths of the orders tell what is one, and what depends on what
same_lengths : Orders → Orders → Type 0
same_lengths o p = (length o.variables ≡ length p.variables) × (length o.elements ≡ length p.elements)

is_one-lengths : (o p : Orders) (f g : Denoted) → length o.variables ≡ length p.variables → length o.elements ≡ length p.elements → is_one o f g ≡ is_one p f g
is_one-lengths o p (BddFunction f) (BddFunction g) v e = rw v refl
is_one-lengths o p (AddFunction f) (AddFunction g) v e = rw v refl
is_one-lengths o p (ZddFamily f) (ZddFamily g) v e = rw e refl
is_one-lengths o p (BddFunction f) (AddFunction g) v e = refl
is_one-lengths o p (BddFunction f) (ZddFamily g) v e = refl
is_one-lengths o p (AddFunction f) (BddFunction g) v e = refl
is_one-lengths o p (AddFunction f) (ZddFamily g) v e = refl
is_one-lengths o p (ZddFamily f) (BddFunction g) v e = refl
is_one-lengths o p (ZddFamily f) (AddFunction g) v e = refl

IsWithin-lengths : (o p : Orders) (f : Denoted) → length o.variables ≡ length p.variables → length o.elements ≡ length p.elements → IsWithin o f → IsWithin p f
IsWithin-lengths o p (BddFunction f) v e h = λ u le. h u (rw v le)
IsWithin-lengths o p (AddFunction f) v e h = λ u le. h u (rw v le)
IsWithin-lengths o p (ZddFamily f) v e h = λ u le. h u (rw e le)

In-place : (before rest : List ℕ) (u : ℕ) → In u before → (j : ℕ) × (j < length before) × (slice_index (before ++ rest) j ≡ u)
In-place [] rest u i = absurd i
In-place (v ∷ vs) rest u (inl e) = (0, omega arith, sym e)
In-place (v ∷ vs) rest u (inr i) = let r = In-place vs rest u i in (suc r.0, omega (arith, r.1), r.2)

slice-here : (before : List ℕ) (y : ℕ) (rest : List ℕ) → slice_index (before ++ y ∷ rest) (length before) ≡ y
slice-here [] y rest = refl
slice-here (v ∷ vs) y rest = slice-here vs y rest

slice-next : (before : List ℕ) (y x : ℕ) (rest : List ℕ) → slice_index (before ++ y ∷ (x ∷ rest)) (suc (length before)) ≡ x
slice-next [] y x rest = refl
slice-next (v ∷ vs) y x rest = slice-next vs y x rest

same_length : (before : List ℕ) (y x : ℕ) (rest : List ℕ) → length (before ++ x ∷ (y ∷ rest)) ≡ length (before ++ y ∷ (x ∷ rest))
same_length [] y x rest = refl
same_length (v ∷ vs) y x rest = ap suc (same_length vs y x rest)

with_lengths : (o : Orders) (which : Order) (order : List ℕ) → length order ≡ length (in_order o which)
    → (length (with_order o which order).variables ≡ length o.variables) × (length (with_order o which order).elements ≡ length o.elements)
with_lengths o Variables order e = (e, refl)
with_lengths o Elements order e = (refl, e)

in_with : (o : Orders) (which : Order) (order : List ℕ) → in_order (with_order o which order) which ≡ order
in_with o Variables order = refl
in_with o Elements order = refl

longer : (before : List ℕ) (y x : ℕ) (rest : List ℕ) → suc (length before) < length (before ++ y ∷ (x ∷ rest))
longer [] y x rest = omega arith
longer (v ∷ vs) y x rest = let h = longer vs y x rest in omega (arith, h)

above_two : (before : List ℕ) (x y : ℕ) (rest : List ℕ) (f : Denoted) → ((u : ℕ) → In u before → Free f u) → Free f x → Above Free (before ++ x ∷ (y ∷ rest)) y f
above_two [] x y rest f free on_x = inr (on_x, inl refl)
above_two (u ∷ us) x y rest f free on_x = inr (free u (inl refl), above_two us x y rest f (λ v i. free v (inr i)) on_x)

own-number : (k : Kind) (f : ℕ → ValueOf k) (x : ℕ) → own k (number_of (which_of (function_of k f)) x) ≡ x
own-number Bdd f x = refl
own-number Add f x = refl
own-number Zdd f x = omega arith

module _ (w : Content) (sound : IsSound w) (settled : w.half ≡ None) (is_root : ℕ → Bool) (reached : (s : ℕ) → IsUsed w s → IsReached w is_root s)
    (which : Order) (before : List ℕ) (y x : ℕ) (rest : List ℕ) (is_order : in_order w.orders which ≡ before ++ y ∷ (x ∷ rest)) where
  abbrev restored : Orders
  restored = with_order w.orders which (before ++ x ∷ (y ∷ rest))

  abbrev fs : List Denoted
  fs = swept_functions w sound settled is_root reached

  lengths : (length restored.variables ≡ length w.orders.variables) × (length restored.elements ≡ length w.orders.elements)
  lengths = with_lengths w.orders which (before ++ x ∷ (y ∷ rest)) (same_length before y x rest ∙ ap length (sym is_order))

  root_within : (h : Denoted) → In h fs → IsWithin w.orders h
  root_within h i =
      let p = part_slot w sound settled is_root reached h (In-all_parts w.orders h h fs i (whole_part (order_of w.orders h) h)) in
      let d = within_orders w sound p.0 p.1 p.2 in
      elim p.3 [
        | inl e ↦ subst (IsWithin w.orders) e d
        | inr e ↦ subst (IsWithin w.orders) (ap opposite e ∙ opposite-opposite h) (IsWithin-opposite w.orders p.1 d)
      ]

  restored_within : (g : Denoted) → In g (all_parts restored fs) → IsWithin w.orders g
  restored_within g i =
      let r = all_parts-In restored g fs i in
      each_part (IsWithin w.orders) (order_of restored r.0) r.0 (λ h v b j within. IsWithin-part w.orders h v b within) (root_within r.0 r.1) g r.2

  ord : IsOrder (in_order w.orders which)
  ord = at which
    where
      at : (o : Order) → IsOrder (in_order w.orders o)
      at Variables = sound.variables
      at Elements = sound.elements

  long_order : suc (length before) < length (in_order w.orders which)
  long_order = subst (λ o. suc (length before) < length o) (sym is_order) (longer before y x rest)

  y_at : slice_index (in_order w.orders which) (length before) ≡ y
  y_at = ap (λ o. slice_index o (length before)) is_order ∙ slice-here before y (x ∷ rest)

  x_at : slice_index (in_order w.orders which) (suc (length before)) ≡ x
  x_at = ap (λ o. slice_index o (suc (length before))) is_order ∙ slice-next before y x rest

  y_below : y < length (in_order w.orders which)
  y_below = subst (λ v. v < length (in_order w.orders which)) y_at (ord.below (length before) (omega (arith, long_order)))

  y_place : place_of y (in_order w.orders which) ≡ length before
  y_place = ap (λ v. place_of v (in_order w.orders which)) (sym y_at) ∙ ord.once (length before) (omega (arith, long_order))

  x_place : place_of x (in_order w.orders which) ≡ suc (length before)
  x_place = ap (λ v. place_of v (in_order w.orders which)) (sym x_at) ∙ ord.once (suc (length before)) long_order

  y_not_x : y ≢ x
  y_not_x e = let p = ap (λ v. place_of v (in_order w.orders which)) e in omega (arith, p, y_place, x_place)

  y_below_restored : y < length (before ++ x ∷ (y ∷ rest))
  y_below_restored = subst (λ n. y < n) (ap length is_order ∙ sym (same_length before y x rest)) y_below

  abbrev due : List Denoted
  due = filter (λ f. is_variable (topmost restored which (in_order restored which) f) y) (distinct (is_one restored) (all_parts restored fs))

  which_here : (s : ℕ) (node : Node) (f : Denoted) → w.word s ≡ Some (Inner node) → node.var ≡ number_of which y → w.function s ≡ Some f → which ≡ which_of f
  which_here s node f word var is = at (other_word w sound settled is_root reached which f)
    where
      at : (which ≡ which_of f) ⊎ (which ≡ other (which_of f)) → which ≡ which_of f
      at (inl e) = e
      at (inr e) = absurd ((stands w sound settled s node f word is).not_other y (subst (λ o. y < length (in_order w.orders o)) e y_below) (var ∙ ap (λ o. number_of o y) e))

  module _ (s : ℕ) (node : Node) (f : Denoted) (word : w.word s ≡ Some (Inner node)) (var : node.var ≡ number_of which y) (is : w.function s ≡ Some f) (b : Bool) (on_x : Free f x → ⊥) where
    abbrev st : Stands w node f
    st = stands w sound settled s node f word is

    own_order : which ≡ which_of f
    own_order = which_here s node f word var is

    var_is : st.var ≡ y
    var_is = number_once w sound settled is_root reached which st.var y (ap (λ o. number_of o st.var) own_order ∙ st.numbered ∙ var)

    order_f : order_of w.orders f ≡ before ++ y ∷ (x ∷ rest)
    order_f = sym (order_of-which w.orders f) ∙ ap (in_order w.orders) (sym own_order) ∙ is_order

    on_y : Free f y → ⊥
    on_y free = st.depends_on (subst (Free f) (sym var_is) free)

    place_y : place_of st.var (order_of w.orders f) ≡ length before
    place_y = ap (λ v. place_of v (order_of w.orders f)) var_is ∙ ap (place_of y) (order_f ∙ sym is_order) ∙ y_place

    free_before : (u : ℕ) → In u before → Free f u
    free_before u i =
        let p = In-place before (y ∷ (x ∷ rest)) u i in
        subst (Free f) (ap (λ o. slice_index o p.0) order_f ∙ p.2) (st.above p.0 (omega (arith, p.1, place_y)))

    -- the part, or its opposite, among those of the restored order
    returned : (g : Denoted) × In g (all_parts restored fs) × ((g ≡ part_of f x b) ⊎ (g ≡ opposite (part_of f x b)))
    returned =
        let sp = slot_part w sound settled is_root reached s f is in
        let r = all_parts-In w.orders sp.0 fs sp.1 in
        let same_which : which_of sp.0 ≡ which_of f = elim sp.2 [ inl e ↦ ap which_of e | inr e ↦ ap which_of e ∙ which_of-opposite f ] in
        let which_h : which ≡ which_of r.0 = own_order ∙ sym same_which ∙ which_of-parts (order_of w.orders r.0) r.0 sp.0 r.2 in
        let order_h : order_of w.orders r.0 ≡ before ++ y ∷ (x ∷ rest) = sym (order_of-which w.orders r.0) ∙ ap (in_order w.orders) (sym which_h) ∙ is_order in
        let order_r : order_of restored r.0 ≡ before ++ x ∷ (y ∷ rest) =
        sym (order_of-which restored r.0) ∙ ap (in_order restored) (sym which_h) ∙ in_with w.orders which (before ++ x ∷ (y ∷ rest)) in
        at sp.0 r.0 r.1 sp.2 (subst (λ o. In sp.0 (parts o r.0)) order_h r.2) order_r
      where
        at : (g h : Denoted) → In h fs → (g ≡ f) ⊎ (g ≡ opposite f) → In g (parts (before ++ y ∷ (x ∷ rest)) h) → order_of restored h ≡ before ++ x ∷ (y ∷ rest)
            → (g : Denoted) × In g (all_parts restored fs) × ((g ≡ part_of f x b) ⊎ (g ≡ opposite (part_of f x b)))
        at g h asked (inl e) i order = (
          part_of f x b,
          In-all_parts restored (part_of f x b) h fs asked (subst (λ o. In (part_of f x b) (parts o h)) (sym order)
              (part_returned before y x rest h f b on_y on_x free_before (subst (λ z. In z (parts (before ++ y ∷ (x ∷ rest)) h)) e i))),
          inl refl,
        )
        at g h asked (inr e) i order = (
          part_of (opposite f) x b,
          In-all_parts restored (part_of (opposite f) x b) h fs asked (subst (λ o. In (part_of (opposite f) x b) (parts o h)) (sym order)
              (part_returned before y x rest h (opposite f) b (λ z. on_y (back y z)) (λ z. on_x (back x z)) (λ u j. Free-opposite f u (free_before u j))
              (subst (λ z. In z (parts (before ++ y ∷ (x ∷ rest)) h)) e i))),
          inr (part-opposite f x b),
        )
          where
            back : (v : ℕ) → Free (opposite f) v → Free f v
            back v z = subst (λ g. Free g v) (opposite-opposite f) (Free-opposite (opposite f) v z)

    -- what lacks y is there
    known_below : Free (part_of f x b) y → Known w sound settled (part_of f x b)
    known_below free =
        let order = sym order_f in
        let long : suc (length before) < length (order_of w.orders f) = subst (λ o. suc (length before) < length o) order (longer before y x rest) in
        let at_y : slice_index (order_of w.orders f) (length before) ≡ y = ap (λ o. slice_index o (length before)) order_f ∙ slice-here before y (x ∷ rest) in
        let at_x : slice_index (order_of w.orders f) (suc (length before)) ≡ x = ap (λ o. slice_index o (suc (length before))) order_f ∙ slice-next before y x rest in
        let first : (j : ℕ) → j < length before → Free f (slice_index (order_of w.orders f) j) = λ j lt. st.above j (omega (arith, lt, place_y)) in
        let order_p : order_of w.orders (part_of f y false) ≡ order_of w.orders f = order_of-part w.orders f y false in
        let half = known_part w sound settled f (length before) y false (s, inl is) at_y (omega (arith, long)) first in
        let quarter = known_part w sound settled (part_of f y false) (suc (length before)) x b half (ap (λ o. slice_index o (suc (length before))) order_p ∙ at_x) (subst (λ o. suc (length before) < length o) (sym order_p) long)
        (subst (λ o. (j : ℕ) → j < suc (length before) → Free (part_of f y false) (slice_index o j)) (sym order_p) (λ j lt. elim (cases_lt j (length before)) [
          | inl less ↦ Free-more f (slice_index (order_of w.orders f) j) y false (first j less)
          | inr le ↦ (let same : length before ≡ j = omega arith in subst (Free (part_of f y false)) (sym at_y ∙ ap (slice_index (order_of w.orders f)) same) (Free-part f y false))
        ])) in
        subst (Known w sound settled) (parts-commute f y x false b y_not_x ∙ part_of_free (part_of f x b) y free) quarter

    part_within : IsWithin w.orders (part_of f x b)
    part_within = IsWithin-part w.orders f x b (within_orders w sound s f is)

    part_which : which_of (part_of f x b) ≡ which
    part_which = which_of-part f x b ∙ sym own_order

    -- what depends on y is listed
    listed : depends_on restored (which_of (part_of f x b)) (part_of f x b) y ≡ true → HasOneOf w.orders due (part_of f x b)
    listed depends =
        let g = part_of f x b in
        let r = returned in
        let m = Matched-distinct (is_one restored) (is_one-refl restored) (all_parts restored fs) r.0 r.1 in
        let one_r : is_one restored g r.0 ≡ true = elim r.2 [
          | inl e ↦ subst (λ z. is_one restored g z ≡ true) (sym e) (is_one-refl restored g)
          | inr e ↦ subst (λ z. is_one restored g z ≡ true) (sym e) (is_one-opposite restored g)
        ] in
        let one : is_one w.orders g m.0 ≡ true = sym (is_one-lengths restored w.orders g m.0 lengths.0 lengths.1) ∙ is_one-trans restored g r.0 m.0 one_r m.2 in
        let same = same_or_opposite w.orders g m.0 part_within (restored_within m.0 (In-distinct (is_one restored) m.0 (all_parts restored fs) m.1)) one in
        let order = in_with w.orders which (before ++ x ∷ (y ∷ rest)) in
        let top_g : topmost restored which (in_order restored which) g ≡ Some y =
        ap (λ o. topmost restored which o g) order ∙ ap (λ o. topmost restored o (before ++ x ∷ (y ∷ rest)) g) (sym part_which)
        ∙ topmost_is restored g y (before ++ x ∷ (y ∷ rest)) depends (In-right y before (x ∷ (y ∷ rest)) (inr (inl refl)))
        (above_two before x y rest g (λ u i. Free-more f u x b (free_before u i)) (Free-part f x b)) in
        let top_m : topmost restored which (in_order restored which) m.0 ≡ Some y = elim same [
          | inl e ↦ ap (topmost restored which (in_order restored which)) (sym e) ∙ top_g
          | inr e ↦ ap (topmost restored which (in_order restored which)) (sym e) ∙ topmost_opposite restored which g (in_order restored which) ∙ top_g
        ] in
        In-list_any (is_one w.orders g) due m.0
        (In-filter (λ f. is_variable (topmost restored which (in_order restored which) f) y) m.0 (distinct (is_one restored) (all_parts restored fs)) m.1
        (ap (λ o. is_variable o y) top_m ∙ eq-eqb y y refl)) one

    due_or_known : Known w sound settled (part_of f x b) ⊎ HasOneOf w.orders due (part_of f x b)
    due_or_known = at (depends_on restored (which_of (part_of f x b)) (part_of f x b) y) refl
      where
        at : (d : Bool) → depends_on restored (which_of (part_of f x b)) (part_of f x b) y ≡ d → Known w sound settled (part_of f x b) ⊎ HasOneOf w.orders due (part_of f x b)
        at true e = inr (listed e)
        at false e = inl (known_below (depends-free restored (part_of f x b) y (IsWithin-lengths w.orders restored (part_of f x b) (sym lengths.0) (sym lengths.1) part_within)
            (subst (λ o. y < length o) (sym (in_with w.orders which (before ++ x ∷ (y ∷ rest))) ∙ ap (in_order restored) (sym part_which)) y_below_restored) e))

  known_edge : (f : Denoted) → Known w sound settled f → HasEdge w f
  known_edge f (s, inl e) = (record { index = s; complement = false }, e)
  known_edge (BddFunction f) (s, inr e) = (record { index = s; complement = true }, ap (flipped true) e ∙ ap Some (opposite-opposite (BddFunction f)))
  known_edge (AddFunction f) (s, inr e) = (record { index = s; complement = false }, e)
  known_edge (ZddFamily f) (s, inr e) = (record { index = s; complement = false }, e)

  -- Room for the lower nodes of the restored order is room for the swap back.
  pub room_back : used_slots w + width restored which fs y ≤ w.limit → HasRoomBack w which (length before)
  room_back room = (
    due,
    room,
    λ s node k f b word var is lacks.
        let x_number : var_at w which (length before + 1) ≡ number_of which x = ap (number_of which) (ap (slice_index (in_order w.orders which)) (omega arith) ∙ x_at) in
        let y_number : node.var ≡ number_of which y = var ∙ ap (number_of which) y_at in
        let own_which = which_here s node (function_of k f) word y_number is in
        let own_x : own k (var_at w which (length before + 1)) ≡ x = ap (own k) (x_number ∙ ap (λ o. number_of o x) own_which) ∙ own-number k f x in
        let on_x : Free (function_of k f) x → ⊥ = λ free. lacks (Lacks-Free k f (var_at w which (length before + 1)) (subst (Free (function_of k f)) (sym own_x) free)) in
        let part : part_of (function_of k f) x b ≡ function_of k (part_at k f (var_at w which (length before + 1)) b) =
        ap (λ v. part_of (function_of k f) v b) (sym own_x) ∙ part-function k f (var_at w which (length before + 1)) b in
        elim (due_or_known s node (function_of k f) word y_number is b on_x) [
          | inl known ↦ inl (known_edge (function_of k (part_at k f (var_at w which (length before + 1)) b)) (subst (Known w sound settled) part known))
          | inr lists ↦ inr (subst (HasOneOf w.orders due) part lists)
        ],
  )
