-- The main model's inputs and outputs in the whole, and the rows of all covers.
use Rattle.std.proofs.Common.{◌≡◌, ℕ, zero, suc, ◌+◌, ◌==◌, ◌<◌, ◌&&◌, Bool, true, false, List, [], ◌∷◌, ◌++◌, get_or, length, map, Option, Some, None, refl, ap, sym, ◌∙◌, subst, arith, append_assoc, length-append}
use Rattle.std.specs.Prelude.{All, slice_get}
use Rattle.std.specs.Global.{Vec}
use Rattle.std.specs.List.{flat_map, list_all}
use Rattle.std.proofs.lemmas.Bool.{false≢true}
use Rattle.std.proofs.lemmas.Bool.Decides.{nat_tests}
use Rattle.std.proofs.lemmas.List.{length-map}
use Rattle.job_words.specs.Text.{Word}
use Rattle.blif_models.specs.declared.numbered.Spot.{Spot}
use Rattle.blif_models.specs.Layouts.{main_table, no_spot, spot, spot_at, up_to}
use Rattle.blif_models.specs.Models.{Item, Model, Named, Use, covered, held, latched, names_of, uses_on}
use Rattle.blif_models.specs.Numberings.{AreNumbersOf, cover_of, word_of, words_at}
use Rattle.blif_models.specs.Unfinished.{AreMore}
use Rattle.blif_models.proofs.GoingOn.{up_to_many}
use Rattle.blif_drafts.specs.WholeNames.{ArePlain}
use Rattle.blif_text.specs.Marks.{is_plain}
use Rattle.blif_wholes.specs.declared.bodies.CoverRows.{CoverRows}
use Rattle.blif_wholes.specs.declared.uses.SpotUse.{SpotUse}
use Rattle.blif_wholes.specs.Bodies.{AreRowsOf, KeepRows, rows_or_none}
use Rattle.blif_wholes.specs.Uses.{name_at, use_named}
use Rattle.blif_net.specs.Reading.{AreAllKept, AreKept, main_of, output_lines}

-- The first model

pub main_first : (closed : List Model) (current : Model) → slice_get (closed ++ current ∷ []) 0 ≡ Some (main_of closed current)
main_first [] current = refl
main_first (model ∷ closed) current = refl

pub further_of : (closed : List Model) (current : Model) → (further : List Model) × (closed ++ current ∷ [] ≡ main_of closed current ∷ further)
further_of [] current = ([], refl)
further_of (model ∷ closed) current = (closed ++ current ∷ [], refl)

-- Names without `#`

pub all_plain : (words : List (List Word)) → All (λ (names : List Word). list_all is_plain names ≡ true) words → ArePlain words
all_plain words h m n = by_model words m h
  where
    and_both : (a b : Bool) → (a && b) ≡ true → (a ≡ true) × (b ≡ true)
    and_both true b e = (refl, e)
    and_both false b e = absurd (false≢true e)

    by_name : (names : List Word) (k : ℕ) → list_all is_plain names ≡ true → is_plain (get_or names k []) ≡ true
    by_name [] k e = refl
    by_name (word ∷ names) zero e = (and_both (is_plain word) (list_all is_plain names) e).0
    by_name (word ∷ names) (suc k) e = by_name names k (and_both (is_plain word) (list_all is_plain names) e).1

    by_model : (all : List (List Word)) (k : ℕ) → All (λ (names : List Word). list_all is_plain names ≡ true) all → is_plain (get_or (words_at all k) n []) ≡ true
    by_model [] k e = refl
    by_model (names ∷ all) zero e = by_name names n (e 0 [] (omega arith))
    by_model (names ∷ all) (suc k) e = by_model all k (λ i d lt. e (suc i) d (omega (arith, lt)))

-- Spots of the main model's names

up_to_at : (k n : ℕ) → n < k → (more : List Spot) → get_or (map (spot 0 0) (up_to k) ++ more) n no_spot ≡ spot 0 0 n
up_to_at zero n lt more = absurd (omega (arith, lt))
up_to_at (suc k) n lt more =
    ap (λ (t : List Spot). get_or t n no_spot) (ap (λ (t : List Spot). t ++ more) (map-last (up_to k)) ∙ append_assoc (map (spot 0 0) (up_to k)) (spot 0 0 k ∷ []) more)
    ∙ by_place (n == k) refl (λ less. up_to_at k n less (spot 0 0 k ∷ more))
  where
    map-last : (ns : List ℕ) → map (spot 0 0) (ns ++ k ∷ []) ≡ map (spot 0 0) ns ++ spot 0 0 k ∷ []
    map-last [] = refl
    map-last (m ∷ ns) = ap (λ t. spot 0 0 m ∷ t) (map-last ns)

    at_seam : (front : List Spot) (one : Spot) → get_or (front ++ one ∷ more) (length front) no_spot ≡ one
    at_seam [] one = refl
    at_seam (x ∷ front) one = at_seam front one

    by_place : (b : Bool) → (n == k) ≡ b → (n < k → get_or (map (spot 0 0) (up_to k) ++ (spot 0 0 k ∷ more)) n no_spot ≡ spot 0 0 n) → get_or (map (spot 0 0) (up_to k) ++ (spot 0 0 k ∷ more)) n no_spot ≡ spot 0 0 n
    by_place true e rest =
        let same : n ≡ k = same_number n k e in
        ap (λ m. get_or (map (spot 0 0) (up_to k) ++ (spot 0 0 k ∷ more)) m no_spot) (same ∙ sym (length-map (up_to k) (spot 0 0) ∙ up_to_many k))
        ∙ at_seam (map (spot 0 0) (up_to k)) (spot 0 0 k) ∙ ap (spot 0 0) (sym same)
      where
        same_number : (a b : ℕ) → (a == b) ≡ true → a ≡ b
        same_number a b f = grind (arith, nat_tests)
    by_place false e rest = rest (less n k e lt)
      where
        less : (a b : ℕ) → (a == b) ≡ false → a < suc b → a < b
        less a b f g = grind (arith, nat_tests)

pub main_spot : (k n : ℕ) (spots : List Spot) → AreMore (main_table 0 k) spots → n < k → spot_at spots n ≡ spot 0 0 n
main_spot k n spots (more, e) lt = ap (λ (t : List Spot). get_or t n no_spot) e ∙ up_to_at k n lt more

pub main_within : (k n : ℕ) (spots : List Spot) → AreMore (main_table 0 k) spots → n < k → n < length spots
main_within k n spots (more, e) lt = omega (arith, lt, ap length e, length-append (main_table 0 k) more, length-map (up_to k) (spot 0 0), up_to_many k)

-- what numbers of the main model's names name in the whole
pub names_there : (words : List (List Word)) (spots : List Spot) (ns : List ℕ) (names : List Word) → AreMore (main_table 0 (length (words_at words 0))) spots → AreNumbersOf words 0 ns names
    → (map (name_at words spots) ns ≡ names) × All (λ n. n < length spots) ns
names_there words spots [] [] more h = (refl, λ i d lt. absurd (omega (arith, lt)))
names_there words spots [] (name ∷ names) more h = absurd h
names_there words spots (n ∷ ns) [] more h = absurd h
names_there words spots (n ∷ ns) (name ∷ names) more h =
    let rest = names_there words spots ns names more h.1 in
    let here : name_at words spots n ≡ name = ap (word_of words) (main_spot (length (words_at words 0)) n spots more (h.0).0) ∙ (h.0).1 in (
      ap (λ w. w ∷ map (name_at words spots) ns) here ∙ ap (λ t. name ∷ t) rest.0,
      within rest.1 (main_within (length (words_at words 0)) n spots more (h.0).0),
    )
  where
    within : All (λ k. k < length spots) ns → n < length spots → All (λ k. k < length spots) (n ∷ ns)
    within all lt zero d i = lt
    within all lt (suc k) d i = all k d (omega (arith, i))

-- Uses of outputs

abbrev uses_by : List Word → List ℕ → List Use
uses_by (word ∷ words) (line ∷ lines) = record { word = word; line = line } ∷ uses_by words lines
uses_by _ _ = []

one_line : (line : ℕ) (words more : List Word) (lines : List ℕ) → uses_by (words ++ more) (map (λ (word : Word). line) words ++ lines) ≡ uses_on line words ++ uses_by more lines
one_line line [] more lines = refl
one_line line (word ∷ words) more lines = ap (λ t. record { word = word; line = line } ∷ t) (one_line line words more lines)

all_lines : (outs : List Named) → uses_by (flat_map (λ (one : Named). one.words) outs) (flat_map (λ (one : Named). map (λ (word : Word). one.line) one.words) outs) ≡ flat_map (λ (one : Named). uses_on one.line one.words) outs
all_lines [] = refl
all_lines (one ∷ outs) =
    one_line one.line one.words (flat_map (λ (some : Named). some.words) outs) (flat_map (λ (some : Named). map (λ (word : Word). some.line) some.words) outs) ∙ ap (λ t. uses_on one.line one.words ++ t) (all_lines outs)

named_by : (words : List (List Word)) (spots : List Spot) (uses : List SpotUse) → map (use_named words spots) uses ≡ uses_by (map (name_at words spots) (map (λ (one : SpotUse). one.spot) uses)) (map (λ (one : SpotUse). one.line) uses)
named_by words spots [] = refl
named_by words spots (one ∷ uses) = ap (λ t. use_named words spots one ∷ t) (named_by words spots uses)

spots_within : (count : ℕ) (uses : List SpotUse) → All (λ n. n < count) (map (λ (one : SpotUse). one.spot) uses) → All (λ (one : SpotUse). one.spot < count) uses
spots_within count [] h = λ i d lt. absurd (omega (arith, lt))
spots_within count (one ∷ uses) h = each (spots_within count uses (λ k n less. h (suc k) n (omega (arith, less))))
  where
    each : All (λ (some : SpotUse). some.spot < count) uses → All (λ (some : SpotUse). some.spot < count) (one ∷ uses)
    each rest zero d lt = h 0 0 (omega arith)
    each rest (suc i) d lt = rest i d (omega (arith, lt))

pub uses_there : (words : List (List Word)) (spots : List Spot) (main : Model) (ns : List ℕ) (uses : List SpotUse) → AreMore (main_table 0 (length (words_at words 0))) spots → AreNumbersOf words 0 ns (names_of main.outputs)
    → map (λ (one : SpotUse). one.spot) uses ≡ ns → map (λ (one : SpotUse). one.line) uses ≡ output_lines main
    → (map (use_named words spots) uses ≡ flat_map (λ (one : Named). uses_on one.line one.words) main.outputs) × All (λ (one : SpotUse). one.spot < length spots) uses
uses_there words spots main ns uses more numbers e f =
    let there = names_there words spots ns (names_of main.outputs) more numbers in (
      named_by words spots uses ∙ ap (λ (t : List ℕ). uses_by (map (name_at words spots) t) (map (λ (one : SpotUse). one.line) uses)) e
          ∙ ap (λ (t : List Word). uses_by t (map (λ (one : SpotUse). one.line) uses)) there.0 ∙ ap (uses_by (names_of main.outputs)) f ∙ all_lines main.outputs,
      spots_within (length spots) uses (subst (λ (t : List ℕ). All (λ n. n < length spots) t) (sym e) there.1),
    )

-- as many lines as outputs
pub as_many_lines : (words : List (List Word)) (main : Model) (ns : List ℕ) → AreNumbersOf words 0 ns (names_of main.outputs) → length (output_lines main) ≡ length ns
as_many_lines words main ns h = lines_of_all main.outputs ∙ sym (as_many ns (names_of main.outputs) h)
  where
    as_many : (numbers : List ℕ) (names : List Word) → AreNumbersOf words 0 numbers names → length numbers ≡ length names
    as_many [] [] k = refl
    as_many [] (name ∷ names) k = absurd k
    as_many (n ∷ numbers) [] k = absurd k
    as_many (n ∷ numbers) (name ∷ names) k = ap suc (as_many numbers names k.1)

    lines_of_all : (outs : List Named) → length (flat_map (λ (one : Named). map (λ (word : Word). one.line) one.words) outs) ≡ length (flat_map (λ (one : Named). one.words) outs)
    lines_of_all [] = refl
    lines_of_all (one ∷ outs) =
        length-append (map (λ (word : Word). one.line) one.words) (flat_map (λ (some : Named). map (λ (word : Word). some.line) some.words) outs)
        ∙ ap (λ n. n + length (flat_map (λ (some : Named). map (λ (word : Word). some.line) some.words) outs)) (length-map one.words (λ (word : Word). one.line))
        ∙ ap (λ n. length one.words + n) (lines_of_all outs)
        ∙ sym (length-append one.words (flat_map (λ (some : Named). some.words) outs))

-- Rows of covers

item_kept : (items : List Item) (kept : List (Option CoverRows)) (place : ℕ) → AreKept items kept → AreRowsOf (cover_of (slice_get items place)) (rows_or_none (get_or kept place None))
item_kept [] [] place h = record { rows = refl; on = refl }
item_kept [] (one ∷ kept) place h = absurd h
item_kept (item ∷ items) [] place h = absurd h
item_kept (covered cover ∷ items) (Some rows ∷ kept) zero h = h.0
item_kept (covered cover ∷ items) (None ∷ kept) zero h = absurd h.0
item_kept (latched one ∷ items) (None ∷ kept) zero h = record { rows = refl; on = refl }
item_kept (latched one ∷ items) (Some rows ∷ kept) zero h = absurd h.0
item_kept (held one ∷ items) (None ∷ kept) zero h = record { rows = refl; on = refl }
item_kept (held one ∷ items) (Some rows ∷ kept) zero h = absurd h.0
item_kept (item ∷ items) (one ∷ kept) (suc place) h = item_kept items kept place h.1

pub rows_kept : (models : List Model) (kept : List (Vec (Option CoverRows))) → AreAllKept models kept → KeepRows models kept
rows_kept [] [] h m place = record { rows = refl; on = refl }
rows_kept [] (one ∷ kept) h m place = absurd h
rows_kept (model ∷ models) [] h m place = absurd h
rows_kept (model ∷ models) (one ∷ kept) h zero place = item_kept model.items one.items place h.0
rows_kept (model ∷ models) (one ∷ kept) h (suc m) place = rows_kept models kept h.1 m place
