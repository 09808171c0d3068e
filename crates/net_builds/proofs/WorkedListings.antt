-- The listings of what the worked histories build: one variable, and a multiplexer whose selector stands on top.
use Rattle.std.proofs.Common.{◌≡◌, ◌≢◌, ℕ, zero, suc, ◌+◌, ◌<◌, Bool, true, false, not, [], ◌∷◌, Some, Contains, pos, negsuc, nat_abs, slice_get, if◌then◌else◌, refl, sym, ◌∙◌, ap₂, subst, arith, lit<, true≢false}
use Rattle.std.specs.List.{AllPairs}
use Rattle.std.specs.List.Sorted.{IsStrictlyIncreasing}
use Rattle.std.proofs.lemmas.List.Elements.{All-from_recursion}
use Rattle.std.proofs.lemmas.List.Kept.{AllPairs-cons}
use Rattle.std.proofs.lemmas.Option.{none-some, same_Some}
use Rattle.edge_bits.specs.Assignments.{bit}
use Rattle.edge_bits.specs.declared.edges.Line.{Line}
use Rattle.function_laws.specs.SiftedOrders.{place_of}
use Rattle.function_laws.specs.Values.{if_then_else, projection}
use Rattle.diagram_dumps.specs.Dumps.{line_value, value_within}
use Rattle.diagram_dumps.specs.Listings.{IsListing, dump_of}
use Rattle.diagram_dumps.specs.WellMade.{IsAbove, IsWritable, NumbersAll, fresh, numbered, position_of}
use Rattle.diagram_dumps.specs.declared.dump.Dump.{Dump}
use Rattle.diagram_dumps.specs.declared.listings.Listing.{Listing}

itself : (b : Bool) → (if b then true else false) ≡ b
itself true = refl
itself false = refl

not_itself : (b : Bool) → not b ≡ b → ⊥
not_itself true is = true≢false (sym is)
not_itself false is = true≢false is

-- a function with two values is no constant
uneven : (f : ℕ → Bool) (k l : ℕ) → f k ≡ false → f l ≡ true → (b : Bool) → ((m : ℕ) → f m ≡ b) → ⊥
uneven f k l low high b all = true≢false (sym high ∙ all l ∙ sym (all k) ∙ low)

-- functions that agree at one place and differ at another are neither equal nor complements
unlike : (f g : ℕ → Bool) (k l : ℕ) → f k ≡ g k → f l ≡ not (g l) → (b : Bool) → ((m : ℕ) → f m ≡ (if b then not (g m) else g m)) → ⊥
unlike f g k l same other true all = not_itself (g k) (sym (all k) ∙ same)
unlike f g k l same other false all = not_itself (g l) (sym other ∙ all l)

-- a line of a variable whose children are the constants
abbrev literal : ℕ → Line
literal v = record { var = v; hi = 1; lo = negsuc 0 }

-- it stands above no line
over_none : (dump : Dump) (v : ℕ) → IsAbove dump v 1 × IsAbove dump v 1
over_none dump v = (λ child far at. omega (arith, far), λ child far at. omega (arith, far))

abbrev pub lone : Listing
lone = record { order = 0 ∷ []; nodes = literal 0 ∷ []; roots = pos 2 ∷ [] }

abbrev lone_dump : Dump
lone_dump = dump_of lone

lone_numbered : NumbersAll lone_dump 2 lone_dump.roots 3
lone_numbered = (3, fresh 2 (literal 0) refl (omega arith) (numbered (omega arith) (omega arith)) (numbered (omega arith) (omega arith)), refl)

lone_above : (i : ℕ) (line : Line) → slice_get lone_dump.nodes i ≡ Some line → IsAbove lone_dump line.var line.hi × IsAbove lone_dump line.var (nat_abs line.lo)
lone_above zero line at = subst (λ (one : Line). IsAbove lone_dump one.var one.hi × IsAbove lone_dump one.var (nat_abs one.lo)) (same_Some (literal 0) line at) (over_none lone_dump 0)
lone_above (suc i) line at = absurd (none-some line at)

lone_proper : (i : ℕ) (b : Bool) → i < 1 → ((k : ℕ) → line_value lone_dump (i + 2) k ≡ b) → ⊥
unfolding value_within
lone_proper zero b less = uneven (line_value lone_dump 2) 0 1 refl refl b
lone_proper (suc i) b less = λ all. omega (arith, less)

lone_writable : IsWritable lone_dump
lone_writable = record {
  well_made = record { order = lone_numbered; above = lone_above; proper = lone_proper; distinct = λ i j b earlier less all. omega (arith, earlier, less) };
  rises = λ k less. absurd (omega (arith, less));
  below = All-from_recursion (λ id. id < 1) (0 ∷ []) (lit< tt, tt);
  holds = All-from_recursion (λ (line : Line). Contains lone_dump.ids line.var) lone_dump.nodes ((0, lit< tt, refl), tt);
  as_many = refl;
  apart = λ i j d earlier less. absurd (omega (arith, earlier, less));
}

-- the listing of the one variable
pub lone_listed : IsListing (0 ∷ []) (projection 0 ∷ []) lone
unfolding value_within
lone_listed = record {
  order_is = refl;
  writable = lone_writable;
  under = record {
    below = All-from_recursion (λ v. v < 1) (0 ∷ []) (lit< tt, tt);
    once = λ i j d earlier less. absurd (omega (arith, earlier, less));
    there = All-from_recursion (λ (line : Line). Contains (0 ∷ []) line.var) lone_dump.nodes ((0, lit< tt, refl), tt);
    places = All-from_recursion (λ (line : Line). position_of lone_dump line.var ≡ place_of line.var (0 ∷ [])) lone_dump.nodes (refl, tt);
  };
  roots = (λ k below. itself (bit k 0), tt);
  few_variables = omega arith;
  few_lines = lit< tt;
}

abbrev selector : Line
selector = record { var = 2; hi = 2; lo = pos 3 }

abbrev pub selected : Listing
selected = record { order = 2 ∷ 0 ∷ 1 ∷ []; nodes = literal 0 ∷ literal 1 ∷ selector ∷ []; roots = pos 4 ∷ [] }

abbrev dump : Dump
dump = dump_of selected

selected_numbered : NumbersAll dump 2 dump.roots 5
selected_numbered = (
  5,
  fresh 4 selector refl (omega arith)
      (fresh 2 (literal 0) refl (omega arith) (numbered (omega arith) (omega arith)) (numbered (omega arith) (omega arith)))
      (fresh 3 (literal 1) refl (omega arith) (numbered (omega arith) (omega arith)) (numbered (omega arith) (omega arith))),
  refl,
)

above : (i : ℕ) (line : Line) → slice_get dump.nodes i ≡ Some line → IsAbove dump line.var line.hi × IsAbove dump line.var (nat_abs line.lo)
above zero line at = subst (λ (one : Line). IsAbove dump one.var one.hi × IsAbove dump one.var (nat_abs one.lo)) (same_Some (literal 0) line at) (over_none dump 0)
above (suc zero) line at = subst (λ (one : Line). IsAbove dump one.var one.hi × IsAbove dump one.var (nat_abs one.lo)) (same_Some (literal 1) line at) (over_none dump 1)
above (suc (suc zero)) line at =
    subst (λ (one : Line). IsAbove dump one.var one.hi × IsAbove dump one.var (nat_abs one.lo)) (same_Some selector line at) (over_first, over_second)
  where
    over_first : IsAbove dump 2 2
    over_first child far at = subst (λ (one : Line). position_of dump 2 < position_of dump one.var) (same_Some (literal 0) child at) (lit< tt)

    over_second : IsAbove dump 2 3
    over_second child far at = subst (λ (one : Line). position_of dump 2 < position_of dump one.var) (same_Some (literal 1) child at) (lit< tt)
above (suc (suc (suc i))) line at = absurd (none-some line at)

proper : (i : ℕ) (b : Bool) → i < 3 → ((k : ℕ) → line_value dump (i + 2) k ≡ b) → ⊥
unfolding value_within
proper zero b less = uneven (line_value dump 2) 0 1 refl refl b
proper (suc zero) b less = uneven (line_value dump 3) 0 2 refl refl b
proper (suc (suc zero)) b less = uneven (line_value dump 4) 0 2 refl refl b
proper (suc (suc (suc i))) b less = λ all. omega (arith, less)

distinct : (i j : ℕ) (b : Bool) → i < j → j < 3
    → ((k : ℕ) → line_value dump (i + 2) k ≡ (if b then not (line_value dump (j + 2) k) else line_value dump (j + 2) k)) → ⊥
unfolding value_within
distinct zero (suc zero) b earlier less = unlike (line_value dump 2) (line_value dump 3) 0 1 refl refl b
distinct zero (suc (suc zero)) b earlier less = unlike (line_value dump 2) (line_value dump 4) 0 1 refl refl b
distinct (suc zero) (suc (suc zero)) b earlier less = unlike (line_value dump 3) (line_value dump 4) 0 5 refl refl b
distinct zero zero b earlier less = λ all. omega (arith, earlier)
distinct (suc i) zero b earlier less = λ all. omega (arith, earlier)
distinct (suc zero) (suc zero) b earlier less = λ all. omega (arith, earlier)
distinct (suc (suc i)) (suc zero) b earlier less = λ all. omega (arith, earlier)
distinct (suc (suc i)) (suc (suc zero)) b earlier less = λ all. omega (arith, earlier)
distinct i (suc (suc (suc j))) b earlier less = λ all. omega (arith, less)

rises : IsStrictlyIncreasing dump.ids
rises zero less = lit< tt
rises (suc zero) less = lit< tt
rises (suc (suc k)) less = absurd (omega (arith, less))

abbrev Apart : ℕ → ℕ → Type 0
Apart a b = a ≢ b

apart_three : (a b c : ℕ) → a ≢ b → a ≢ c → b ≢ c → AllPairs Apart (a ∷ b ∷ c ∷ [])
apart_three a b c first second third =
    AllPairs-cons Apart a (b ∷ c ∷ []) (All-from_recursion (Apart a) (b ∷ c ∷ []) (first, (second, tt)))
    (AllPairs-cons Apart b (c ∷ []) (All-from_recursion (Apart b) (c ∷ []) (third, tt))
    (AllPairs-cons Apart c [] (All-from_recursion (Apart c) [] tt) (λ i j d earlier less. absurd (omega (arith, less)))))

writable : IsWritable dump
writable = record {
  well_made = record { order = selected_numbered; above = above; proper = proper; distinct = distinct };
  rises = rises;
  below = All-from_recursion (λ id. id < 3) (0 ∷ 1 ∷ 2 ∷ []) (lit< tt, (lit< tt, (lit< tt, tt)));
  holds = All-from_recursion (λ (line : Line). Contains dump.ids line.var) dump.nodes ((0, lit< tt, refl), ((1, lit< tt, refl), ((2, lit< tt, refl), tt)));
  as_many = refl;
  apart = apart_three 1 2 0 (λ e. omega (arith, e)) (λ e. omega (arith, e)) (λ e. omega (arith, e));
}

-- the listing of the multiplexer under the order that the sift leaves
pub selected_listed : IsListing (2 ∷ 0 ∷ 1 ∷ []) (if_then_else (projection 2) (projection 0) (projection 1) ∷ []) selected
unfolding value_within
selected_listed = record {
  order_is = refl;
  writable = writable;
  under = record {
    below = All-from_recursion (λ v. v < 3) selected.order (lit< tt, (lit< tt, (lit< tt, tt)));
    once = apart_three 2 0 1 (λ e. omega (arith, e)) (λ e. omega (arith, e)) (λ e. omega (arith, e));
    there = All-from_recursion (λ (line : Line). Contains selected.order line.var) dump.nodes ((1, lit< tt, refl), ((2, lit< tt, refl), ((0, lit< tt, refl), tt)));
    places = All-from_recursion (λ (line : Line). position_of dump line.var ≡ place_of line.var selected.order) dump.nodes (refl, (refl, (refl, tt)));
  };
  roots = (λ k below. ap₂ (λ (a b : Bool). if bit k 2 then a else b) (itself (bit k 0)) (itself (bit k 1)), tt);
  few_variables = omega arith;
  few_lines = lit< tt;
}
