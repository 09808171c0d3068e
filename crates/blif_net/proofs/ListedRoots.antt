-- Of a stored diagram under an order: its roots are functions of the order's variables, and roots of one function are one.
use Rattle.std.proofs.Common.{◌≡◌, ℕ, suc, ◌+◌, ◌<◌, ◌⊎◌, inl, inr, Bool, true, false, not, ℤ, pos, negsuc, List, [], Some, length, nat_abs, slice_get, sym, ap, ◌∙◌, subst, arith}
use Rattle.std.proofs.lemmas.Bool.{cases_order}
use Rattle.edge_bits.specs.Assignments.{bit}
use Rattle.edge_bits.proofs.AssignmentLemmas.{bit-set_other}
use Rattle.function_laws.specs.Kinds.{BddFunction, Denoted, opposite}
use Rattle.function_laws.specs.Sizes.{Orders}
use Rattle.function_laws.specs.Values.{IsOf, projection}
use Rattle.function_laws.proofs.LackingParts.{opposite-opposite}
use Rattle.function_laws.proofs.WidthLemmas.{same_everywhere}
use Rattle.diagram_dumps.specs.declared.dump.Dump.{Dump}
use Rattle.diagram_dumps.specs.Agreement.{IsSame}
use Rattle.diagram_dumps.specs.Dumps.{line_value, root_value}
use Rattle.diagram_dumps.specs.Under.{IsUnder}
use Rattle.diagram_dumps.specs.WellMade.{IsWellMade}
use Rattle.diagram_dumps.proofs.Counted.{both_apart}
use Rattle.diagram_dumps.proofs.Lines.{Indexed, indexed}
use Rattle.diagram_dumps.proofs.Shown.{IsUpTo, at_index, signed_up_to, turned, up_to_twice}
use Rattle.diagram_dumps.proofs.Standing.{of_order}
use Rattle.diagram_dumps.proofs.Walks.{AreLines, are_lines}
use Rattle.blif_net.proofs.DumpValues.{root_at}

root_indexed : (dump : Dump) (roots : List ℤ) (i : ℕ) (root : ℤ) → AreLines roots (2 + length dump.nodes) → slice_get roots i ≡ Some root → Indexed dump (nat_abs root)
root_indexed dump roots i root h at = let r = root_at roots (2 + length dump.nodes) i root h at in indexed dump (nat_abs root) r.0 r.1

either_side : (f g : Denoted) → IsUpTo f g → (f ≡ g) ⊎ (opposite f ≡ g)
either_side f g (inl e) = inl e
either_side f g (inr e) = inr (ap opposite e ∙ opposite-opposite g)

never_itself : (b : Bool) → b ≡ not b → ⊥
never_itself true e = cc
never_itself false e = cc

-- an index and its complement differ
one_sign : (dump : Dump) (root other : ℤ) → nat_abs root ≡ nat_abs other → root_value dump root ≡ root_value dump other → root ≡ other
one_sign dump (pos i) (pos j) same e = ap pos same
one_sign dump (negsuc i) (negsuc j) same e = ap negsuc (omega (arith, same))
one_sign dump (pos i) (negsuc j) same e =
    let more : j + 1 ≡ i = omega (arith, same) in
    absurd (never_itself (line_value dump i 0) (ap (λ (f : ℕ → Bool). f 0) e ∙ ap (λ n. not (line_value dump n 0)) more))
one_sign dump (negsuc i) (pos j) same e =
    let more : i + 1 ≡ j = omega (arith, same) in
    absurd (never_itself (line_value dump j 0) (sym (ap (λ (f : ℕ → Bool). f 0) e) ∙ ap (λ n. not (line_value dump n 0)) more))

module _ (dump : Dump) (well : IsWellMade dump) (order : List ℕ) (under : IsUnder order dump) where
  orders : Orders
  orders = record { variables = order; elements = [] }

  -- indices of one function, or its complement, are one
  one_index : (i j : ℕ) → Indexed dump i → Indexed dump j → IsUpTo (at_index dump i) (at_index dump j) → i ≡ j
  unfolding orders
  one_index i j a b up = by_order (cases_order i j)
    where
      by_order : (i ≡ j) ⊎ ((i < j) ⊎ (j < i)) → i ≡ j
      by_order (inl same) = same
      by_order (inr (inl lower)) = absurd (both_apart dump well orders under i j a b lower (either_side (at_index dump i) (at_index dump j) up))
      by_order (inr (inr higher)) = absurd (both_apart dump well orders under j i b a higher (either_side (at_index dump j) (at_index dump i) (turned (at_index dump i) (at_index dump j) up)))

  one_function : (root other : ℤ) → Indexed dump (nat_abs root) → Indexed dump (nat_abs other) → root_value dump root ≡ root_value dump other → root ≡ other
  one_function root other a b e =
      let first = at_index dump (nat_abs root) in
      let second = at_index dump (nat_abs other) in
      let to : IsUpTo (BddFunction (root_value dump root)) second = subst (λ f. IsUpTo (BddFunction f) second) (sym e) (signed_up_to dump other) in
      one_sign dump root other (one_index (nat_abs root) (nat_abs other) a b (up_to_twice first (BddFunction (root_value dump root)) second (turned (BddFunction (root_value dump root)) first (signed_up_to dump root)) to)) e

  root_of_order : (root : ℤ) → Indexed dump (nat_abs root) → IsOf (length order) (root_value dump root)
  root_of_order (pos index) at = of_order dump well order under index at
  root_of_order (negsuc below) at =
      let more : suc below ≡ below + 1 = omega arith in
      let own = subst (λ i. IsOf (length order) (line_value dump i)) more (of_order dump well order under (suc below) at) in
      λ v from k b. ap not (own v from k b)

  module _ (i : ℕ) (root : ℤ) (at : slice_get dump.roots i ≡ Some root) where
    at_place : Indexed dump (nat_abs root)
    at_place = root_indexed dump dump.roots i root (are_lines dump well) at

    -- roots that are the same at the assignments of the order's variables
    pub one_root : (j : ℕ) (other : ℤ) → slice_get dump.roots j ≡ Some other → IsSame (length order) (root_value dump root) (root_value dump other) → root ≡ other
    one_root j other there same =
        let b = root_indexed dump dump.roots j other (are_lines dump well) there in
        one_function root other at_place b (same_everywhere (length order) (root_value dump root) (root_value dump other) (root_of_order root at_place) (root_of_order other b) same)

    -- a root that is a variable there is that variable everywhere
    pub one_variable : (v : ℕ) → v < length order → IsSame (length order) (root_value dump root) (projection v) → (k : ℕ) → root_value dump root k ≡ bit k v
    one_variable v low same k = ap (λ (f : ℕ → Bool). f k) (same_everywhere (length order) (root_value dump root) (projection v) (root_of_order root at_place) of_variable same)
      where
        of_variable : IsOf (length order) (projection v)
        of_variable u from k b = bit-set_other k u v b (λ same. omega (arith, same, low, from))
