-- The classes of a well made dump's roots by their indices are those of the roots' functions.
use Rattle.std.proofs.Common.{◌≡◌, ◌≢◌, ℕ, suc, ◌+◌, ◌<◌, ◌≤◌, ◌⊎◌, zero, inl, inr, nat_lt, Bool, true, false, not, ℤ, pos, negsuc, List, [], ◌∷◌, Some, length, map, get_or, nat_abs, slice_get, if◌then◌else◌, refl, sym, ap, ◌∙◌, subst, arith, eqb-true}
use Rattle.std.specs.Prelude.{◌==◌}
use Rattle.std.specs.Int.{is_negative}
use Rattle.std.specs.List.{position_or_len}
use Rattle.std.proofs.lemmas.Bool.Decides.{nat_tests}
use Rattle.std.proofs.lemmas.List.{get_or-map, length-map}
use Rattle.std.proofs.lemmas.List.Sums.{fails_before_first, passes_at_first}
use Rattle.std.proofs.lemmas.Option.{get_or_from_slice_get, slice_get-get_or, slice_get_within}
use Rattle.diagram_dumps.specs.declared.dump.Dump.{Dump}
use Rattle.diagram_dumps.specs.Dumps.{line_value, root_value}
use Rattle.diagram_dumps.specs.WellMade.{IsWellMade}
use Rattle.diagram_dumps.proofs.Walks.{AreLines, are_lines}
use Rattle.function_laws.specs.Kinds.{BddFunction, opposite}
use Rattle.function_laws.specs.Sizes.{Orders}
use Rattle.function_laws.specs.Values.{IsOf, differs, negation}
use Rattle.function_laws.proofs.WidthLemmas.{same_everywhere}
use Rattle.diagram_dumps.specs.declared.listings.Listing.{Listing}
use Rattle.diagram_dumps.specs.Listings.{IsListing, dump_of}
use Rattle.diagram_dumps.specs.Under.{IsUnder}
use Rattle.diagram_dumps.proofs.Lines.{Indexed, indexed}
use Rattle.diagram_dumps.proofs.Standing.{of_order}
use Rattle.diagram_dumps.proofs.Shown.{IsUpTo, at_index, signed_up_to, turned, up_to_twice}
use Rattle.diagram_dumps.proofs.Counted.{both_apart}
use Rattle.net_reports.specs.Classes.{Agree, AreClasses, Function, IsClass}
use Rattle.net_reports.specs.RootClasses.{class_among, root_functions}
use Rattle.net_reports.proofs.SameClasses.{classes_same}
use Rattle.net_reports.specs.declared.classes.Class.{Class}

-- an element of a mapped list
mapped_at : {X Y : Type 0} (f : X → Y) (xs : List X) (i : ℕ) (y : Y) (d : X) → slice_get (map f xs) i ≡ Some y → i < length xs → y ≡ f (get_or xs i d)
mapped_at f xs i y d at inside = sym (get_or_from_slice_get (map f xs) i y y at) ∙ get_or-map f xs i d y inside

-- each root is a line or the constant
pub root_within : (roots : List ℤ) (after i : ℕ) (d : ℤ) → AreLines roots after → i < length roots → (1 ≤ nat_abs (get_or roots i d)) × (nat_abs (get_or roots i d) < after)
root_within [] after i d are inside = absurd (omega (arith, inside))
root_within (root ∷ roots) after zero d are inside = (are.0, are.1)
root_within (root ∷ roots) after (suc i) d are inside = root_within roots after i d are.2 (omega (arith, inside))

-- the next index has its place among those of all lines
pub index_within : (dump : Dump) → IsWellMade dump → (shown : List ℤ) (place index : ℕ) → shown ≡ dump.roots → place < length shown → index ≡ nat_abs (get_or shown place (pos 0))
    → index < length dump.nodes + 2
index_within dump well shown place index same inside is =
    let moved : length shown ≡ length dump.roots = ap (λ (roots : List ℤ). length roots) same in
    let at : index ≡ nat_abs (get_or dump.roots place (pos 0)) = is ∙ ap (λ (roots : List ℤ). nat_abs (get_or roots place (pos 0))) same in
    omega (arith, at, (root_within dump.roots (2 + length dump.nodes) place (pos 0) (are_lines dump well) (omega (arith, moved, inside))).1)

-- the value of a line, or its opposite
abbrev turned_by : Bool → Bool → Bool
turned_by complement value = if complement then not value else value

-- of a root
root_is : (dump : Dump) (root : ℤ) (k : ℕ) → root_value dump root k ≡ turned_by (is_negative root) (line_value dump (nat_abs root) k)
root_is dump (pos index) k = grind (arith, nat_tests)
root_is dump (negsuc below) k =
    let more : below + 1 ≡ suc below = omega arith in ap (λ i. not (line_value dump i k)) more

turned_twice : (a b value : Bool) → turned_by a value ≡ (if differs a b then not (turned_by b value) else turned_by b value)
turned_twice true true value = refl
turned_twice true false value = refl
turned_twice false true true = refl
turned_twice false true false = refl
turned_twice false false value = refl

-- roots of one magnitude
same_magnitude : (dump : Dump) (r s : ℤ) (k : ℕ) → nat_abs r ≡ nat_abs s
    → root_value dump r k ≡ (if differs (is_negative r) (is_negative s) then not (root_value dump s k) else root_value dump s k)
same_magnitude dump r s k e =
    root_is dump r k ∙ ap (λ i. turned_by (is_negative r) (line_value dump i k)) e
    ∙ turned_twice (is_negative r) (is_negative s) (line_value dump (nat_abs s) k)
    ∙ ap (λ value. if differs (is_negative r) (is_negative s) then not value else value) (sym (root_is dump s k))

module _ (dump : Dump) (well : IsWellMade dump) (order : List ℕ) (under : IsUnder order dump) where
  abbrev orders : Orders
  orders = record { variables = order; elements = [] }

  of_root : (root : ℤ) → Indexed dump (nat_abs root) → IsOf (length order) (root_value dump root)
  of_root (pos index) which = of_order dump well order under index which
  of_root (negsuc below) which =
      let more : suc below ≡ below + 1 = omega arith in
      λ u from k b. ap not (subst (λ i. IsOf (length order) (line_value dump i)) more (of_order dump well order under (suc below) which) u from k b)

  -- functions that agree are one, up to complement
  same_up_to : (f g : Function) (complement : Bool) → IsOf (length order) f → IsOf (length order) g → Agree (length order) complement f g
      → IsUpTo (BddFunction f) (BddFunction g)
  same_up_to f g false of_f of_g same = inl (ap BddFunction (same_everywhere (length order) f g of_f of_g same))
  same_up_to f g true of_f of_g same =
      inr (ap BddFunction (same_everywhere (length order) f (negation g) of_f (λ v from k b. ap not (of_g v from k b)) same))

  backwards : (i j : ℕ) → IsUpTo (at_index dump i) (at_index dump j) → (at_index dump j ≡ at_index dump i) ⊎ (opposite (at_index dump j) ≡ at_index dump i)
  backwards i j (inl e) = inl (sym e)
  backwards i j (inr e) = inr (sym e)

  -- no two indices have one function
  apart : (i j : ℕ) → Indexed dump i → Indexed dump j → i ≢ j → IsUpTo (at_index dump i) (at_index dump j) → ⊥
  apart i j first second other one = by_order (nat_lt i j) refl
    where
      by_order : (b : Bool) → nat_lt i j ≡ b → ⊥
      by_order true e =
          let lower : i < j = grind (arith, nat_tests) in
          both_apart dump well orders under i j first second lower (backwards j i (turned (at_index dump i) (at_index dump j) one))
      by_order false e =
          let upper : j ≤ i = grind (arith, nat_tests) in
          let lower : j < i = omega (arith, other) in both_apart dump well orders under j i second first lower (backwards i j one)

  abbrev IsWithin : ℤ → Type 0
  IsWithin root = (1 ≤ nat_abs root) × (nat_abs root < 2 + length dump.nodes)

  -- roots of two magnitudes don't agree
  never : (r s : ℤ) (complement : Bool) → IsWithin r → IsWithin s → nat_abs r ≢ nat_abs s
      → Agree (length order) complement (root_value dump r) (root_value dump s) → ⊥
  never r s complement in_r in_s other same =
      let first = indexed dump (nat_abs r) in_r.0 in_r.1 in
      let second = indexed dump (nat_abs s) in_s.0 in_s.1 in
      apart (nat_abs r) (nat_abs s) first second other
      (up_to_twice (at_index dump (nat_abs r)) (BddFunction (root_value dump r)) (at_index dump (nat_abs s))
      (turned (BddFunction (root_value dump r)) (at_index dump (nat_abs r)) (signed_up_to dump r))
      (up_to_twice (BddFunction (root_value dump r)) (BddFunction (root_value dump s)) (at_index dump (nat_abs s))
      (same_up_to (root_value dump r) (root_value dump s) complement (of_root r first) (of_root s second) same) (signed_up_to dump s)))

  within_at : (i : ℕ) (d : ℤ) → i < length dump.roots → IsWithin (get_or dump.roots i d)
  within_at i d inside = root_within dump.roots (2 + length dump.nodes) i d (are_lines dump well) inside

  -- of one root
  module _ (i : ℕ) (r : ℤ) (at : slice_get dump.roots i ≡ Some r) where
    abbrev IsMet : ℤ → Bool
    IsMet other = nat_abs other == nat_abs r

    abbrev first : ℕ
    first = position_or_len IsMet dump.roots

    here : get_or dump.roots i (pos 0) ≡ r
    here = get_or_from_slice_get dump.roots i r (pos 0) at

    inside : i < length dump.roots
    inside = slice_get_within dump.roots i r at

    met : IsMet r ≡ true
    met = grind (arith, nat_tests)

    not_later : first ≤ i
    not_later = by_test (nat_lt i first) refl
      where
        by_test : (b : Bool) → nat_lt i first ≡ b → first ≤ i
        by_test true e =
            let lower : i < first = grind (arith, nat_tests) in
            let failed : IsMet (get_or dump.roots i (pos 0)) ≡ false = fails_before_first IsMet dump.roots i (pos 0) lower in
            let differs_here : true ≡ false = sym met ∙ ap IsMet (sym here) ∙ failed in cc
        by_test false e = grind (arith, nat_tests)

    function_is : (j : ℕ) (f : Function) → j < length dump.roots → slice_get (root_functions dump) j ≡ Some f → f ≡ root_value dump (get_or dump.roots j (pos 0))
    function_is j f within is = mapped_at (root_value dump) dump.roots j f (pos 0) is within

    agrees : (f g : Function) → slice_get (root_functions dump) i ≡ Some f → slice_get (root_functions dump) first ≡ Some g
        → Agree (length order) (class_among dump.roots r).complement f g
    agrees f g f_at g_at k small =
        let within : first < length dump.roots = omega (arith, not_later, inside) in
        let s : ℤ = get_or dump.roots first (pos 0) in
        let same : nat_abs s ≡ nat_abs r = eqb-true (nat_abs s) (nat_abs r) (passes_at_first IsMet dump.roots (pos 0) within) in
        let f_is : f ≡ root_value dump r = function_is i f inside f_at ∙ ap (root_value dump) here in
        ap (λ (h : Function). h k) f_is ∙ same_magnitude dump r s k (sym same)
        ∙ ap (λ (h : Function). if differs (is_negative r) (is_negative s) then not (h k) else h k) (sym (function_is first g within g_at))

    none_before : (j : ℕ) (complement : Bool) (f g : Function) → j < first → slice_get (root_functions dump) i ≡ Some f → slice_get (root_functions dump) j ≡ Some g
        → Agree (length order) complement f g → ⊥
    none_before j complement f g lower f_at g_at same =
        let within : j < length dump.roots = omega (arith, not_later, inside, lower) in
        let s : ℤ = get_or dump.roots j (pos 0) in
        let failed : (nat_abs s == nat_abs r) ≡ false = fails_before_first IsMet dump.roots j (pos 0) lower in
        let other : nat_abs r ≢ nat_abs s = grind (arith, nat_tests) in
        let f_is : f ≡ root_value dump r = function_is i f inside f_at ∙ ap (root_value dump) here in
        never r s complement (subst IsWithin here (within_at i (pos 0) inside)) (within_at j (pos 0) within) other
        (subst (λ (h : Function). Agree (length order) complement h (root_value dump s)) f_is
        (subst (λ (h : Function). Agree (length order) complement f h) (function_is j g within g_at) same))

    is_class : IsClass (length order) (root_functions dump) i (class_among dump.roots r)
    is_class = record { not_later = not_later; agrees = agrees; none_before = none_before }

  -- the classes of all roots
  pub are_classes : AreClasses (length order) (root_functions dump) (map (class_among dump.roots) dump.roots)
  are_classes = record {
    as_many = length-map dump.roots (class_among dump.roots) ∙ sym (length-map dump.roots (root_value dump));
    each = λ i class at.
        let within : i < length dump.roots = omega (arith, slice_get_within (map (class_among dump.roots) dump.roots) i class at, length-map dump.roots (class_among dump.roots)) in
        subst (λ (c : Class). IsClass (length order) (root_functions dump) i c) (sym (mapped_at (class_among dump.roots) dump.roots i class (pos 0) at within))
        (is_class i (get_or dump.roots i (pos 0)) (slice_get-get_or dump.roots i (pos 0) within));
  }

-- of a listing
pub listed_classes : (order : List ℕ) (functions : List Function) (listing : Listing) → IsListing order functions listing
    → AreClasses (length order) functions (map (class_among listing.roots) listing.roots)
listed_classes order functions listing is =
    classes_same (length order) (root_functions (dump_of listing)) functions is.roots (map (class_among listing.roots) listing.roots)
    (are_classes (dump_of listing) is.writable.well_made order is.under)
