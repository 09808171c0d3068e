-- On which variables the lines depend: on their own, and on none that stands above it.
use Rattle.std.proofs.Common.{◌≡◌, ◌≢◌, ℕ, zero, suc, ◌+◌, ◌-◌, ◌<◌, ◌≤◌, Bool, true, false, not, ℤ, pos, negsuc, List, Some, Contains, length, nat_abs, slice_get, refl, sym, ap, ◌∙◌, subst, arith}
use Rattle.std.proofs.lemmas.Option.{get_or_from_slice_get}
use Rattle.edge_bits.specs.declared.edges.Line.{Line}
use Rattle.diagram_dumps.specs.declared.dump.Dump.{Dump}
use Rattle.diagram_dumps.specs.Dumps.{line_value}
use Rattle.diagram_dumps.specs.WellMade.{IsAbove, IsWellMade, position_of}
use Rattle.function_laws.specs.Values.{IsFree, IsOf, cofactor}
use Rattle.function_laws.specs.SiftedOrders.{place_of}
use Rattle.function_laws.proofs.ValueLemmas.{IsFree-choice_other, cofactor-choice_false, cofactor-choice_true, cofactor-free}
use Rattle.diagram_dumps.specs.Under.{IsUnder}
use Rattle.diagram_dumps.proofs.Lines.{Indexed, at_line, at_one, earlier, indexed, line_is, low_of, one_is, signed_value, within}

module _ (dump : Dump) (well : IsWellMade dump) where
  free_signed : (z : ℤ) (u : ℕ) → IsFree (line_value dump (nat_abs z)) u → IsFree (signed_value dump z) u
  free_signed (pos index) u free = free
  free_signed (negsuc lower) u free =
      let more : suc lower ≡ lower + 1 = omega arith in
      λ k b. ap not (subst (λ i. IsFree (line_value dump i) u) more free k b)

  pub one_free : (u : ℕ) → IsFree (line_value dump 1) u
  one_free u = subst (λ (f : ℕ → Bool). IsFree f u) (sym (one_is dump well)) (λ k b. refl)

  -- A line is free of a variable that is no line's on any way down from it.
  free_along : (u : ℕ) (P : ℕ → Type 0)
      → ((place : ℕ) (line : Line) → slice_get dump.nodes place ≡ Some line → P (place + 2) → (line.var ≢ u) × P line.hi × P (nat_abs line.lo))
      → (limit index : ℕ) → Indexed dump index → index ≤ limit + 1 → P index → IsFree (line_value dump index) u
  free_along u P step limit _ at_one small has = one_free u
  free_along u P step zero _ (at_line place line at) small has = absurd (omega arith)
  free_along u P step (suc limit) _ (at_line place line at) small has =
      let e = earlier dump well place line at in
      let fits = within dump place line at in
      let s = step place line at has in
      let high = free_along u P step limit line.hi (indexed dump line.hi e.0 (omega (arith, e.1))) (omega (arith, e.1)) s.1 in
      let low = free_along u P step limit (nat_abs line.lo) (indexed dump (nat_abs line.lo) e.2 (omega (arith, e.3))) (omega (arith, e.3)) s.2 in
      subst (λ (f : ℕ → Bool). IsFree f u) (sym (line_is dump well place line at))
      (IsFree-choice_other (line_value dump line.hi) (low_of dump line) line.var u s.0 high (free_signed line.lo u low))

  module _ (order : List ℕ) (under : IsUnder order dump) where
    pub there : (place : ℕ) (line : Line) → slice_get dump.nodes place ≡ Some line → Contains order line.var
    there place line at =
        subst (λ (l : Line). Contains order l.var) (get_or_from_slice_get dump.nodes place line line at) (under.there place line (within dump place line at))

    position_is : (place : ℕ) (line : Line) → slice_get dump.nodes place ≡ Some line → position_of dump line.var ≡ place_of line.var order
    position_is place line at =
        subst (λ (l : Line). position_of dump l.var ≡ place_of l.var order) (get_or_from_slice_get dump.nodes place line line at) (under.places place line (within dump place line at))

    below : (place : ℕ) (line : Line) → slice_get dump.nodes place ≡ Some line → line.var < length order
    below place line at = by_place (there place line at)
      where
        by_place : Contains order line.var → line.var < length order
        by_place (i, inside, here) = subst (λ v. v < length order) here (under.below i line.var inside)

    -- each is a function of the variables of the order
    pub of_order : (index : ℕ) → Indexed dump index → IsOf (length order) (line_value dump index)
    of_order index which u from =
        free_along u (λ i. Unit {0}) (λ place line at has. ((λ e. (let low = below place line at in omega (arith, e))), tt, tt)) index index which (omega arith) tt

    -- the variable stands above the line's own, unless the index is the constant's
    abbrev StandsAbove : ℕ → ℕ → Type 0
    StandsAbove u index = (line : Line) → 2 ≤ index → slice_get dump.nodes (index - 2) ≡ Some line → place_of u order < place_of line.var order

    child_below : (u place : ℕ) (line : Line) (child : ℕ) → slice_get dump.nodes place ≡ Some line → IsAbove dump line.var child
        → place_of u order ≤ place_of line.var order → StandsAbove u child
    child_below u place line child at above lower other two here =
        let rises : position_of dump line.var < position_of dump other.var = above other two here in
        let p = position_is place line at in
        let q = position_is (child - 2) other here in
        omega (arith, rises, p, q, lower)

    at_back : (place : ℕ) → slice_get dump.nodes ((place + 2) - 2) ≡ slice_get dump.nodes place
    at_back place = let back : (place + 2) - 2 ≡ place = omega arith in ap (slice_get dump.nodes) back

    above_step : (u place : ℕ) (line : Line) → slice_get dump.nodes place ≡ Some line → StandsAbove u (place + 2)
        → (line.var ≢ u) × StandsAbove u line.hi × StandsAbove u (nat_abs line.lo)
    above_step u place line at above =
        let here : place_of u order < place_of line.var order = above line (omega arith) (at_back place ∙ at) in
        let children = well.above place line at in (
          (λ e. (let same : place_of line.var order ≡ place_of u order = ap (λ v. place_of v order) e in omega (arith, same, here))),
          child_below u place line line.hi at children.0 (omega (arith, here)),
          child_below u place line (nat_abs line.lo) at children.1 (omega (arith, here)),
        )

    free_above : (u index : ℕ) → Indexed dump index → StandsAbove u index → IsFree (line_value dump index) u
    free_above u index which above = free_along u (StandsAbove u) (above_step u) index index which (omega arith) above

    -- a line is free of what stands above its variable
    pub free_before : (u place : ℕ) (line : Line) → slice_get dump.nodes place ≡ Some line → place_of u order < place_of line.var order → IsFree (line_value dump (place + 2)) u
    free_before u place line at above = free_above u (place + 2) (at_line place line at) (λ other two here.
        subst (λ (l : Line). place_of u order < place_of l.var order) (same (sym at ∙ sym (at_back place) ∙ here)) above)
      where
        same : {other : Line} → Some line ≡ Some other → line ≡ other
        same e = cc

    free_high : (place : ℕ) (line : Line) → slice_get dump.nodes place ≡ Some line → IsFree (line_value dump line.hi) line.var
    free_high place line at =
        let e = earlier dump well place line at in
        let fits = within dump place line at in
        free_above line.var line.hi (indexed dump line.hi e.0 (omega (arith, e.1))) (child_below line.var place line line.hi at (well.above place line at).0 (omega arith))

    free_low : (place : ℕ) (line : Line) → slice_get dump.nodes place ≡ Some line → IsFree (low_of dump line) line.var
    free_low place line at =
        let e = earlier dump well place line at in
        let fits = within dump place line at in
        free_signed line.lo line.var
        (free_above line.var (nat_abs line.lo) (indexed dump (nat_abs line.lo) e.2 (omega (arith, e.3))) (child_below line.var place line (nat_abs line.lo) at (well.above place line at).1 (omega arith)))

    -- its cofactors are its children's functions
    pub then_is : (place : ℕ) (line : Line) → slice_get dump.nodes place ≡ Some line → cofactor (line_value dump (place + 2)) line.var true ≡ line_value dump line.hi
    then_is place line at =
        ap (λ (f : ℕ → Bool). cofactor f line.var true) (line_is dump well place line at)
        ∙ cofactor-choice_true (line_value dump line.hi) (low_of dump line) line.var
        ∙ cofactor-free (line_value dump line.hi) line.var true (free_high place line at)

    pub else_is : (place : ℕ) (line : Line) → slice_get dump.nodes place ≡ Some line → cofactor (line_value dump (place + 2)) line.var false ≡ low_of dump line
    else_is place line at =
        ap (λ (f : ℕ → Bool). cofactor f line.var false) (line_is dump well place line at)
        ∙ cofactor-choice_false (line_value dump line.hi) (low_of dump line) line.var
        ∙ cofactor-free (low_of dump line) line.var false (free_low place line at)

    -- no line has the function of its then child
    never_the_child : (place : ℕ) (line : Line) (index : ℕ) → slice_get dump.nodes place ≡ Some line → Indexed dump index → index < place + 2
        → line_value dump (place + 2) ≡ line_value dump index → ⊥
    never_the_child place line _ at at_one lower e = well.proper place true (within dump place line at) (λ k. ap (λ (f : ℕ → Bool). f k) (e ∙ one_is dump well))
    never_the_child place line _ at (at_line other child here) lower e =
        well.distinct other place false (omega arith) (within dump place line at) (λ k. ap (λ (f : ℕ → Bool). f k) (sym e))

    -- it depends on its variable
    pub depends : (place : ℕ) (line : Line) → slice_get dump.nodes place ≡ Some line → IsFree (line_value dump (place + 2)) line.var → ⊥
    depends place line at free =
        let e = earlier dump well place line at in
        let fits = within dump place line at in
        never_the_child place line line.hi at (indexed dump line.hi e.0 (omega (arith, e.1))) e.1
        (sym (cofactor-free (line_value dump (place + 2)) line.var true free) ∙ then_is place line at)
