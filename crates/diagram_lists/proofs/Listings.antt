-- What a walk leaves is a listing of the BDDs that it was made from.
use Rattle.std.proofs.Common.{◌≡◌, inl, inr, ℕ, zero, suc, ◌+◌, ◌-◌, ◌<◌, ◌≤◌, Bool, true, false, not, List, [], ◌∷◌, ℤ, Some, Contains, length, map, get_or, nat_abs, slice_get, slice_index, if◌then◌else◌, refl, sym, ap, ◌∙◌, subst, arith}
use Rattle.std.specs.Prelude.{All}
use Rattle.std.proofs.lemmas.List.{get_or_default, length-map}
use Rattle.std.proofs.lemmas.List.Elements.{All-head, All-tail}
use Rattle.std.proofs.lemmas.Option.{get_or_from_slice_get, same_Some, slice_get-get_or, slice_get_within}
use Rattle.edge_bits.specs.declared.edges.Edge.{Edge}
use Rattle.edge_bits.specs.declared.edges.Line.{Line}
use Rattle.edge_bits.specs.declared.edges.Kind.TheVariants.{Bdd}
use Rattle.edge_bits.specs.Permanent.{truth_edge}
use Rattle.edge_bits.specs.Reading.{plain}
use Rattle.diagram_dumps.specs.declared.dump.Dump.{Dump}
use Rattle.diagram_dumps.specs.Agreement.{AreSame}
use Rattle.diagram_dumps.specs.Dumps.{line_value, root_value, signed}
use Rattle.diagram_dumps.specs.WellMade.{IsAbove, IsWellMade, IsWritable, position_of}
use Rattle.diagram_dumps.proofs.Walks.{IsEarlier}
use Rattle.function_laws.specs.Kinds.{BddFunction}
use Rattle.function_laws.specs.SiftedOrders.{place_of}
use Rattle.function_laws.specs.Values.{choice, constant, negation}
use Rattle.function_laws.proofs.ValueLemmas.{everywhere}
use Rattle.diagram_dumps.specs.declared.listings.Listing.{Listing}
use Rattle.diagram_dumps.specs.Listings.{IsListing, dump_of, ids_of}
use Rattle.diagram_dumps.specs.Under.{IsUnder}
use Rattle.diagram_dumps.proofs.Identifiers.{ids_hold, ids_rise, place_listed, places_apart}
use Rattle.diagram_dumps.proofs.LineValues.{low_of, signed_value}
use Rattle.diagram_dumps.proofs.LineValues as values
use Rattle.diagram_dumps.proofs.Listed.{ids_below}
use Rattle.node_store.specs.ViewLaws.{Denotes-flip, Denotes-truth, values_at-is}
use Rattle.node_store.specs.Views.{Is, IsVariable, bdd_at}
use Rattle.node_slots.specs.Stores.{IsStore, Plain, plain_view, top_in}
use Rattle.node_slots.proofs.Calls.{permanent_is}
use Rattle.node_slots.proofs.Canonical.{same_edge}
use Rattle.diagram_lists.specs.Walks.{HasLine, IsNumbering, LeadsAll, index_of, line_of, next, number, signed_index}
use Rattle.diagram_lists.proofs.Numberings.{magnitude}
use Rattle.diagram_lists.proofs.Orders.{as_many, is_order, place_is_level}
use Rattle.diagram_lists.proofs.Slots.{regular_is, stands}

-- the value of a complemented index
signed_negative : (value : ℕ → Bool) (n : ℕ) → 1 ≤ n → signed value (signed_index true n) ≡ not (value n)
signed_negative value zero low = absurd (omega arith)
signed_negative value (suc n) low = let more : n + 1 ≡ suc n = omega arith in ap (λ i. not (value i)) more

module _ (p : Plain) (st : IsStore p) (numbers : List ℕ) (lines : List Line) (n : IsNumbering p numbers lines) (roots : List ℤ) where
  abbrev listing : Listing
  listing = record { order = p.variables_at; nodes = lines; roots = roots }

  abbrev dump : Dump
  dump = dump_of listing

  abbrev f : ℕ → ℕ → Bool
  f s = bdd_at (plain_view p) (plain s)

  -- the slot of a line
  record OfSlot (i : ℕ) : Type 0 where
    slot : ℕ
    number_is : number numbers slot ≡ i + 2
    has : HasLine p numbers lines slot
    line : slice_get lines i ≡ Some (line_of numbers has.node)

  with_line : (s : ℕ) → 2 ≤ number numbers s → HasLine p numbers lines s
  with_line s low = elim (n.nodes s (omega arith)) [
    | inl e ↦ absurd (let one : number numbers s ≡ 1 = ap (number numbers) e ∙ n.constant in omega (arith, one, low))
    | inr h ↦ h
  ]

  of_slot : (i : ℕ) → i < length lines → OfSlot i
  of_slot i lt =
      let found = n.each i lt in
      let at = found.1 in
      let h = with_line found.0 (omega (arith, at)) in
      let same : number numbers found.0 - 2 ≡ i = omega (arith, at) in
      record { slot = found.0; number_is = at; has = h; line = ap (slice_get lines) (sym same) ∙ h.line }

  earlier : (place : ℕ) (line : Line) → slice_get lines place ≡ Some line → IsEarlier line (place + 2)
  earlier place line at =
      let o = of_slot place (slice_get_within lines place line at) in
      let h = o.has in
      let same : line_of numbers h.node ≡ line = same_Some _ line (sym o.line ∙ at) in
      let low = magnitude h.node.lo.complement (number numbers h.node.lo.index) in
      let before = h.hi_before in let lo_before = h.lo_before in let has = h.hi_has in let lo_has = h.lo_has in let is = o.number_is in
      subst (λ (l : Line). IsEarlier l (place + 2)) same (has, omega arith, omega (arith, low, lo_has), omega (arith, low, lo_before, is))

  -- an edge's function, from its slot's
  edge_value : (e : Edge) → Is Bdd (plain_view p) e → 1 ≤ number numbers e.index → line_value dump (number numbers e.index) ≡ f e.index
      → signed_value dump (index_of numbers e) ≡ bdd_at (plain_view p) e
  edge_value e d has is = by_sign e.complement e.index (regular_is p st e d) has is
    where
      by_sign : (c : Bool) (i : ℕ) → Is Bdd (plain_view p) (plain i) → 1 ≤ number numbers i → line_value dump (number numbers i) ≡ f i
          → signed_value dump (signed_index c (number numbers i)) ≡ bdd_at (plain_view p) (record { index = i; complement = c })
      by_sign false i d has is = is
      by_sign true i d has is =
          everywhere (signed_value dump (signed_index true (number numbers i))) (negation (f i)) (λ k.
          signed_negative (λ index. line_value dump index k) (number numbers i) has ∙ ap (λ (g : ℕ → Bool). not (g k)) is)
          ∙ sym (values_at-is Bdd (Denotes-flip d))

  -- each line has the function of its slot
  value_is : (limit s : ℕ) → number numbers s ≤ limit → 1 ≤ number numbers s → Is Bdd (plain_view p) (plain s) → line_value dump (number numbers s) ≡ f s
  value_is zero s small has d = absurd (omega arith)
  value_is (suc limit) s small has d = elim (n.nodes s has) [
    | inl e ↦ subst (λ t. line_value dump (number numbers t) ≡ f t) (sym e)
        (ap (line_value dump) n.constant ∙ values.one_is dump earlier ∙ sym (values_at-is Bdd (Denotes-truth (plain_view p) (permanent_is p st) true)))
    | inr h ↦ (
        let later = h.later in let hi_before = h.hi_before in let lo_before = h.lo_before in
        let node = h.node in
        let place : number numbers s ≡ (number numbers s - 2) + 2 = omega arith in
        let at = stands p st s node h.word d in
        let hi = value_is limit node.hi (omega arith) h.hi_has at.hi_is in
        let lo = value_is limit node.lo.index (omega arith) h.lo_has at.lo_is in
        let low = edge_value node.lo at.inner.splits.lo_is h.lo_has lo in
        ap (line_value dump) place ∙ values.line_is dump earlier (number numbers s - 2) (line_of numbers node) h.line
        ∙ ap (λ (g : ℕ → Bool). choice node.var g (low_of dump (line_of numbers node))) hi ∙ ap (λ (g : ℕ → Bool). choice node.var (f node.hi) g) low
        ∙ sym at.inner.splits.is)
  ]

  value_of : (s : ℕ) → 1 ≤ number numbers s → Is Bdd (plain_view p) (plain s) → line_value dump (number numbers s) ≡ f s
  value_of s has d = value_is (number numbers s) s (omega arith) has d

  line_function : (i : ℕ) (o : OfSlot i) → line_value dump (i + 2) ≡ f o.slot
  line_function i o = let is = o.number_is in ap (line_value dump) (sym is) ∙ value_of o.slot (omega (arith, is)) o.has.is_bdd

  -- two edges of one function are one
  one_edge : (a b : Edge) → Is Bdd (plain_view p) a → Is Bdd (plain_view p) b → bdd_at (plain_view p) a ≡ bdd_at (plain_view p) b → a ≡ b
  one_edge a b first second same =
      same_edge p st.permanent st.canonical a b (BddFunction (bdd_at (plain_view p) a)) first.is (second.is ∙ ap (λ g. Some (BddFunction g)) (sym same))

  -- no line is constant
  proper : (i : ℕ) (b : Bool) → i < length lines → ((k : ℕ) → line_value dump (i + 2) k ≡ b) → ⊥
  proper i b lt all =
      let o = of_slot i lt in
      let known = Denotes-truth (plain_view p) (permanent_is p st) b in
      let same : f o.slot ≡ constant b = sym (line_function i o) ∙ everywhere (line_value dump (i + 2)) (constant b) all in
      let edges : plain o.slot ≡ truth_edge b =
      same_edge p st.permanent st.canonical (plain o.slot) (truth_edge b) (BddFunction (f o.slot)) o.has.is_bdd.is (known.is ∙ ap (λ g. Some (BddFunction g)) (sym same)) in
      let first : o.slot ≡ 0 = ap (λ (e : Edge). e.index) edges in
      let one : number numbers o.slot ≡ 1 = ap (number numbers) first ∙ n.constant in
      omega (arith, one, o.number_is)

  -- no two are equal up to complement
  distinct : (i j : ℕ) (b : Bool) → i < j → j < length lines
      → ((k : ℕ) → line_value dump (i + 2) k ≡ (if b then not (line_value dump (j + 2) k) else line_value dump (j + 2) k)) → ⊥
  distinct i j b before lt all = by_sign b all
    where
      o : OfSlot i
      o = of_slot i (omega arith)

      q : OfSlot j
      q = of_slot j lt

      apart : o.slot ≡ q.slot → ⊥
      apart e = let same : number numbers o.slot ≡ number numbers q.slot = ap (number numbers) e in omega (arith, same, o.number_is, q.number_is, before)

      by_sign : (b : Bool) → ((k : ℕ) → line_value dump (i + 2) k ≡ (if b then not (line_value dump (j + 2) k) else line_value dump (j + 2) k)) → ⊥
      by_sign false all =
          let same : f o.slot ≡ f q.slot = sym (line_function i o) ∙ everywhere (line_value dump (i + 2)) (line_value dump (j + 2)) all ∙ line_function j q in
          apart (ap (λ (e : Edge). e.index) (one_edge (plain o.slot) (plain q.slot) o.has.is_bdd q.has.is_bdd same))
      by_sign true all =
          let other = Denotes-flip q.has.is_bdd in
          let same : f o.slot ≡ negation (f q.slot) =
          sym (line_function i o) ∙ everywhere (line_value dump (i + 2)) (negation (line_value dump (j + 2))) all ∙ ap negation (line_function j q) in
          apart (ap (λ (e : Edge). e.index)
          (same_edge p st.permanent st.canonical (plain o.slot) (record { index = q.slot; complement = true }) (BddFunction (f o.slot)) o.has.is_bdd.is
          (other.is ∙ ap (λ g. Some (BddFunction g)) (sym same))))

  -- the variables of the lines
  variable_is : (s : ℕ) (h : HasLine p numbers lines s) → IsVariable Bdd (plain_view p) h.node.var
  variable_is s h = (stands p st s h.node h.word h.is_bdd).inner.in_range

  variables_below : All (λ line. line.var < length p.variables_at) lines
  variables_below k d lt =
      let o = of_slot k lt in
      let same : line_of numbers o.has.node ≡ get_or lines k d = same_Some _ _ (sym o.line ∙ slice_get-get_or lines k d lt) in
      let below = (variable_is o.slot o.has).1 in
      subst (λ (l : Line). l.var < length p.variables_at) same (omega (arith, below, as_many p st))

  -- an order has each variable once
  once : (u v : ℕ) → u < length p.variables_at → v < length p.variables_at → place_of u p.variables_at ≡ place_of v p.variables_at → u ≡ v
  once u v first second same =
      let order = is_order p st in
      sym (order.there u first) ∙ ap (slice_index p.variables_at) same ∙ order.there v second

  -- the position of a line's variable is its place in the order
  position_is : (k : ℕ) (line : Line) → slice_get lines k ≡ Some line → position_of dump line.var ≡ place_of line.var p.variables_at
  position_is k line at =
      let lt = slice_get_within lines k line at in
      let same : get_or lines k line ≡ line = get_or_from_slice_get lines k line line at in
      let held : Contains (ids_of (length p.variables_at) lines) line.var =
      subst (λ (l : Line). Contains (ids_of (length p.variables_at) lines) l.var) same (ids_hold (length p.variables_at) lines variables_below k line lt) in
      place_listed (λ v. place_of v p.variables_at) (ids_of (length p.variables_at) lines) line.var held

  -- and its level that of its slot
  level_is : (s : ℕ) (h : HasLine p numbers lines s) → position_of dump h.node.var ≡ top_in p s
  level_is s h =
      let at = stands p st s h.node h.word h.is_bdd in
      position_is (number numbers s - 2) (line_of numbers h.node) h.line ∙ place_is_level p st h.node.var at.inner.in_range ∙ sym at.level

  -- a line stands above one of a lower slot
  above_slot : (s child : ℕ) (h : HasLine p numbers lines s) → top_in p s < top_in p child → IsAbove dump h.node.var (number numbers child)
  above_slot s child h lower line two at =
      let other = with_line child two in
      let same : line_of numbers other.node ≡ line = same_Some _ line (sym other.line ∙ at) in
      let high = level_is s h in
      let low = level_is child other in
      subst (λ (l : Line). position_of dump h.node.var < position_of dump l.var) same (omega (arith, high, low, lower))

  above : (i : ℕ) (line : Line) → slice_get lines i ≡ Some line → IsAbove dump line.var line.hi × IsAbove dump line.var (nat_abs line.lo)
  above i line at =
      let o = of_slot i (slice_get_within lines i line at) in
      let h = o.has in
      let stood = stands p st o.slot h.node h.word h.is_bdd in
      let same : line_of numbers h.node ≡ line = same_Some _ line (sym o.line ∙ at) in
      let low : number numbers h.node.lo.index ≡ nat_abs (index_of numbers h.node.lo) = sym (magnitude h.node.lo.complement (number numbers h.node.lo.index)) in
      subst (λ (l : Line). IsAbove dump l.var l.hi × IsAbove dump l.var (nat_abs l.lo)) same
      (above_slot o.slot h.node.hi h stood.hi_lower, subst (IsAbove dump h.node.var) low (above_slot o.slot h.node.lo.index h stood.lo_lower))

  -- the lines stand under the order
  is_under : IsUnder p.variables_at dump
  is_under = record {
    below = λ k d lt. (let b = (is_order p st).below k lt in omega (arith, b, get_or_default p.variables_at k d 0 lt));
    once = λ i j d before lt same.
        let order = is_order p st in
        let early : i < length p.variables_at = omega (arith, before, lt) in
        let at : slice_index p.variables_at i ≡ slice_index p.variables_at j =
        get_or_default p.variables_at i 0 d early ∙ same ∙ get_or_default p.variables_at j d 0 lt in
        let one : i ≡ j = sym (order.once i early) ∙ ap (λ v. place_of v p.variables_at) at ∙ order.once j lt in
        omega (arith, one, before);
    there = λ k d lt. in_order (get_or lines k d).var (variables_below k d lt);
    places = λ k d lt. position_is k (get_or lines k d) (slice_get-get_or lines k d lt);
  }
    where
      in_order : (v : ℕ) → v < length p.variables_at → Contains p.variables_at v
      in_order v lt =
          let order = is_order p st in
          let stood = order.stands v lt in
          (place_of v p.variables_at, stood, get_or_default p.variables_at (place_of v p.variables_at) v 0 stood ∙ order.there v lt)

  module _ (leads : LeadsAll lines 2 roots (next lines)) where
    well_made : IsWellMade dump
    well_made = record { order = leads dump (λ i line h. h); above = above; proper = proper; distinct = distinct }

    writable : IsWritable dump
    writable = record {
      well_made = well_made;
      rises = ids_rise (length p.variables_at) lines;
      below = ids_below (length p.variables_at) lines;
      holds = ids_hold (length p.variables_at) lines variables_below;
      as_many = length-map (ids_of (length p.variables_at) lines) (λ v. place_of v p.variables_at);
      apart = places_apart p.variables_at lines once;
    }

    -- the roots' functions are the edges'
    root_values : (edges : List Edge) → All (λ e. Is Bdd (plain_view p) e) edges → All (λ e. 1 ≤ number numbers e.index) edges
        → AreSame (length p.variables_at) (map (root_value dump) (map (index_of numbers) edges)) (map (bdd_at (plain_view p)) edges)
    root_values [] are have = tt
    root_values (e ∷ edges) are have =
        let d = All-head (λ (x : Edge). Is Bdd (plain_view p) x) e edges are in
        let has = All-head (λ (x : Edge). 1 ≤ number numbers x.index) e edges have in
        let own = edge_value e d has (value_of e.index has (regular_is p st e d)) in (
          (λ k below. ap (λ (g : ℕ → Bool). g k) own),
          root_values edges (All-tail (λ (x : Edge). Is Bdd (plain_view p) x) e edges are) (All-tail (λ (x : Edge). 1 ≤ number numbers x.index) e edges have),
        )

    pub is_listing : (edges : List Edge) → roots ≡ map (index_of numbers) edges → All (λ e. Is Bdd (plain_view p) e) edges → All (λ e. 1 ≤ number numbers e.index) edges
        → IsListing p.variables_at (map (bdd_at (plain_view p)) edges) listing
    is_listing edges roots_are are have = record {
      order_is = refl;
      writable = writable;
      under = is_under;
      roots = subst (λ (rs : List ℤ). AreSame (length p.variables_at) (map (root_value dump) rs) (map (bdd_at (plain_view p)) edges)) (sym roots_are) (root_values edges are have);
      few_variables = (let few = st.few_variables in let all = as_many p st in omega arith);
      few_lines = (let few = st.few_words in let many = n.as_many in let count = n.count in omega arith);
    }
