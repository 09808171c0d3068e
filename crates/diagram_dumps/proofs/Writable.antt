-- A dump that may be written.
use Rattle.std.proofs.Common.{◌≡◌, ◌≢◌, ℕ, zero, suc, ◌+◌, ◌<◌, Bool, true, false, not, [], ◌∷◌, Some, Contains, negsuc, nat_abs, slice_get, if◌then◌else◌, refl, sym, ◌∙◌, ap, subst, arith, lit<}
use Rattle.std.proofs.lemmas.Option.{none-some, same_Some}
use Rattle.std.specs.List.{AllPairs}
use Rattle.std.specs.List.Sorted.{IsStrictlyIncreasing}
use Rattle.std.proofs.lemmas.List.Elements.{All-cons, All-nil}
use Rattle.edge_bits.specs.declared.edges.Line.{Line}
use Rattle.diagram_dumps.specs.declared.dump.Dump.{Dump}
use Rattle.diagram_dumps.specs.Dumps.{line_value, value_within}
use Rattle.diagram_dumps.specs.WellMade.{IsAbove, IsWritable, NumbersAll, fresh, numbered, position_of}

-- the exclusive or of two variables
abbrev pub two_lines : Dump
two_lines = record {
  nvars = 2;
  ids = 0 ∷ 1 ∷ [];
  permids = 0 ∷ 1 ∷ [];
  nodes = record { var = 1; hi = 1; lo = negsuc 0 } ∷ record { var = 0; hi = 2; lo = negsuc 1 } ∷ [];
  roots = negsuc 2 ∷ [];
}

numbered_well : NumbersAll two_lines 2 two_lines.roots 4
numbered_well = (
  4,
  fresh 3 (record { var = 0; hi = 2; lo = negsuc 1 }) refl (omega arith)
      (fresh 2 (record { var = 1; hi = 1; lo = negsuc 0 }) refl (omega arith) (numbered (omega arith) (omega arith)) (numbered (omega arith) (omega arith)))
      (numbered (omega arith) (omega arith)),
  refl,
)

-- the values of its lines at some places
line_2_at_0 : line_value two_lines 2 0 ≡ false
unfolding value_within
line_2_at_0 = refl

line_2_at_1 : line_value two_lines 2 1 ≡ false
unfolding value_within
line_2_at_1 = refl

line_2_at_2 : line_value two_lines 2 2 ≡ true
unfolding value_within
line_2_at_2 = refl

line_3_at_0 : line_value two_lines 3 0 ≡ true
unfolding value_within
line_3_at_0 = refl

line_3_at_1 : line_value two_lines 3 1 ≡ false
unfolding value_within
line_3_at_1 = refl

proper : (i : ℕ) (b : Bool) → i < 2 → ((k : ℕ) → line_value two_lines (i + 2) k ≡ b) → ⊥
proper zero b h all = let one : true ≡ false = sym line_2_at_2 ∙ all 2 ∙ sym (all 0) ∙ line_2_at_0 in cc
proper (suc zero) b h all = let one : true ≡ false = sym line_3_at_0 ∙ all 0 ∙ sym (all 1) ∙ line_3_at_1 in cc
proper (suc (suc i)) b h all = omega arith

distinct : (i j : ℕ) (b : Bool) → i < j → j < 2
    → ((k : ℕ) → line_value two_lines (i + 2) k ≡ (if b then not (line_value two_lines (j + 2) k) else line_value two_lines (j + 2) k)) → ⊥
distinct zero (suc zero) true h l all = let one : false ≡ true = sym line_2_at_1 ∙ all 1 ∙ ap not line_3_at_1 in cc
distinct zero (suc zero) false h l all = let one : true ≡ false = sym line_3_at_0 ∙ sym (all 0) ∙ line_2_at_0 in cc
distinct zero zero b h l all = omega arith
distinct zero (suc (suc j)) b h l all = omega arith
distinct (suc i) zero b h l all = omega arith
distinct (suc i) (suc j) b h l all = omega arith

above : (i : ℕ) (line : Line) → slice_get two_lines.nodes i ≡ Some line → IsAbove two_lines line.var line.hi × IsAbove two_lines line.var (nat_abs line.lo)
above zero line e =
    subst (λ (line : Line). IsAbove two_lines line.var line.hi × IsAbove two_lines line.var (nat_abs line.lo)) (same_Some _ line e)
    (λ child far at. omega arith, λ child far at. omega arith)
above (suc zero) line e =
    subst (λ (line : Line). IsAbove two_lines line.var line.hi × IsAbove two_lines line.var (nat_abs line.lo)) (same_Some _ line e)
    (below_0, below_0)
  where
    below_0 : IsAbove two_lines 0 2
    below_0 child far at = subst (λ (child : Line). position_of two_lines 0 < position_of two_lines child.var) (same_Some _ child at) (lit< tt)
above (suc (suc i)) line e = absurd (none-some line e)

rises : IsStrictlyIncreasing two_lines.ids
rises zero h = lit< tt
rises (suc k) h = absurd (omega arith)

apart : AllPairs (λ position other. position ≢ other) two_lines.permids
apart zero (suc zero) d h l = λ e. omega arith
apart zero zero d h l = absurd (omega arith)
apart zero (suc (suc j)) d h l = absurd (omega arith)
apart (suc i) zero d h l = absurd (omega arith)
apart (suc i) (suc j) d h l = absurd (omega arith)

-- that dump may be written
pub may_be_written : IsWritable two_lines
may_be_written = record {
  well_made = record { order = numbered_well; above = above; proper = proper; distinct = distinct };
  rises = rises;
  below = All-cons (λ id. id < 2) 0 (1 ∷ []) (lit< tt) (All-cons (λ id. id < 2) 1 [] (lit< tt) (All-nil (λ id. id < 2)));
  holds = All-cons (λ line. Contains two_lines.ids line.var) (record { var = 1; hi = 1; lo = negsuc 0 }) (record { var = 0; hi = 2; lo = negsuc 1 } ∷ []) (1, lit< tt, refl)
      (All-cons (λ line. Contains two_lines.ids line.var) (record { var = 0; hi = 2; lo = negsuc 1 }) [] (0, lit< tt, refl) (All-nil (λ (line : Line). Contains two_lines.ids line.var)));
  as_many = refl;
  apart = apart;
}
