-- What rows stand at the places once one was put there or taken away, and which row a name finds.
use Rattle.std.proofs.Common.{◌≡◌, ◌≢◌, ℕ, zero, suc, ◌+◌, ◌<◌, ◌==◌, cond, ◌&&◌, List, [], ◌∷◌, ◌++◌, length, set, get_or, Option, Some, None, refl, ap, sym, ◌∙◌, arith, eq-eqb, ne_eqb, append-nil}
use Rattle.std.proofs.lemmas.List.{set-get_or}
use Rattle.function_laws.specs.declared.history.Name.{Name}
use Rattle.handle_count.specs.declared.rows.Held.{Held}
use Rattle.handle_count.specs.declared.rows.Row.{Row}
use Rattle.handle_count.specs.RowMaps.{find_row, held_at, live_from, IsWithOne}

-- the row at a place, if there is one
abbrev pub one_at : ℕ → Option Row → List Held
one_at place None = []
one_at place (Some row) = held_at place row ∷ []

-- The live rows before a place and behind it.
pub record Parted (first k place : ℕ) (places : List (Option Row)) : Type 0 where
  pub before : List Held
  pub behind : List Held
  pub whole : (o : Option Row) → live_from first (set places k o) ≡ before ++ (one_at place o ++ behind)

pub parted : (first k place : ℕ) (places : List (Option Row)) → k < length places → place ≡ first + k → Parted first k place places
parted first k place [] within at = absurd (omega (arith, within))
parted first zero place (o ∷ places) within at = record { before = []; behind = live_from (suc first) places; whole = whole }
  where
    same : place ≡ first
    same = omega (arith, at)

    whole : (o : Option Row) → live_from first (o ∷ places) ≡ one_at place o ++ live_from (suc first) places
    whole None = refl
    whole (Some row) = ap (λ p. held_at p row ∷ live_from (suc first) places) (sym same)
parted first (suc k) place (None ∷ places) within at =
    let p = parted (suc first) k place places (omega (arith, within)) (omega (arith, at)) in record { before = p.before; behind = p.behind; whole = p.whole }
parted first (suc k) place (Some row ∷ places) within at =
    let p = parted (suc first) k place places (omega (arith, within)) (omega (arith, at)) in
    record { before = held_at first row ∷ p.before; behind = p.behind; whole = λ o. ap (λ rows. held_at first row ∷ rows) (p.whole o) }

-- a row was put at a place that had none
pub filled : (places : List (Option Row)) (k : ℕ) (row : Row) → k < length places → get_or places k None ≡ None
    → IsWithOne (live_from 0 places) (held_at k row) (live_from 0 (set places k (Some row)))
filled places k row within none =
    let p = parted 0 k k places within (omega arith) in record {
      before = p.before;
      behind = p.behind;
      without = ap (live_from 0) (sym (set-get_or places k None) ∙ ap (set places k) none) ∙ p.whole None;
      with_it = p.whole (Some row);
    }

-- the row of a place was taken away
pub emptied : (places : List (Option Row)) (k : ℕ) (row : Row) → k < length places → get_or places k None ≡ Some row
    → IsWithOne (live_from 0 (set places k None)) (held_at k row) (live_from 0 places)
emptied places k row within some =
    let p = parted 0 k k places within (omega arith) in record {
      before = p.before;
      behind = p.behind;
      without = p.whole None;
      with_it = ap (live_from 0) (sym (set-get_or places k None) ∙ ap (set places k) some) ∙ p.whole (Some row);
    }

-- a row was put behind all places
pub appended : (first place : ℕ) (places : List (Option Row)) (row : Row) → place ≡ first + length places
    → live_from first (places ++ Some row ∷ []) ≡ live_from first places ++ held_at place row ∷ []
appended first place [] row at = let same : first ≡ place = omega (arith, at) in ap (λ p. held_at p row ∷ []) same
appended first place (None ∷ places) row at = appended (suc first) place places row (omega (arith, at))
appended first place (Some other ∷ places) row at = ap (λ rows. held_at first other ∷ rows) (appended (suc first) place places row (omega (arith, at)))

pub put_behind : (places : List (Option Row)) (row : Row) (place : ℕ) → place ≡ length places
    → IsWithOne (live_from 0 places) (held_at place row) (live_from 0 (places ++ Some row ∷ []))
put_behind places row place at = record {
  before = live_from 0 places;
  behind = [];
  without = sym (append-nil (live_from 0 places));
  with_it = appended 0 place places row (omega (arith, at));
}

-- the row that stands at a place, where it has the generation
abbrev pub held_if : ℕ → ℕ → Option Row → Option Held
held_if place generation None = None
held_if place generation (Some row) = cond (generation == row.generation) (Some (held_at place row)) None

name_of : ℕ → ℕ → Name
name_of row generation = record { row = row; generation = generation }

skipped : (place first generation : ℕ) (row : Row) (rest : List Held) → place ≢ first → find_row (held_at first row ∷ rest) (name_of place generation) ≡ find_row rest (name_of place generation)
unfolding name_of
skipped place first generation row rest apart = ap (λ b. cond (b && (generation == row.generation)) (Some (held_at first row)) (find_row rest (name_of place generation))) (ne_eqb place first apart)

below : (first place generation : ℕ) (places : List (Option Row)) → place < first → find_row (live_from first places) (name_of place generation) ≡ None
below first place generation [] lt = refl
below first place generation (None ∷ places) lt = below (suc first) place generation places (omega (arith, lt))
below first place generation (Some row ∷ places) lt =
    skipped place first generation row (live_from (suc first) places) (λ same. absurd (omega (arith, lt, same))) ∙ below (suc first) place generation places (omega (arith, lt))

here : (first place generation : ℕ) (row : Row) (places : List (Option Row)) → place ≡ first
    → find_row (held_at first row ∷ live_from (suc first) places) (name_of place generation) ≡ cond (generation == row.generation) (Some (held_at first row)) None
unfolding name_of
here first place generation row places same =
    ap (λ b. cond (b && (generation == row.generation)) (Some (held_at first row)) (find_row (live_from (suc first) places) (name_of place generation))) (eq-eqb place first same)
    ∙ ap (λ rest. cond (generation == row.generation) (Some (held_at first row)) rest) (below (suc first) place generation places (omega (arith, same)))

-- a name finds the row at its place, if that has its generation
found : (first k place generation : ℕ) (places : List (Option Row)) → place ≡ first + k → find_row (live_from first places) (name_of place generation) ≡ held_if place generation (get_or places k None)
found first k place generation [] at = refl
found first zero place generation (None ∷ places) at = below (suc first) place generation places (omega (arith, at))
found first zero place generation (Some row ∷ places) at =
    let same : place ≡ first = omega (arith, at) in
    here first place generation row places same ∙ ap (λ p. cond (generation == row.generation) (Some (held_at p row)) None) (sym same)
found first (suc k) place generation (None ∷ places) at = found (suc first) k place generation places (omega (arith, at))
found first (suc k) place generation (Some row ∷ places) at =
    skipped place first generation row (live_from (suc first) places) (λ same. absurd (omega (arith, at, same))) ∙ found (suc first) k place generation places (omega (arith, at))

pub found_at : (places : List (Option Row)) (name : Name) → find_row (live_from 0 places) name ≡ held_if name.row name.generation (get_or places name.row None)
unfolding name_of
found_at places name = found 0 name.row name.row name.generation places (omega arith)
