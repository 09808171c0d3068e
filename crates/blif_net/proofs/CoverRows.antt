-- Rows as they are read into a cover.
use Rattle.std.proofs.Common.{◌≡◌, ℕ, suc, ◌==◌, ◌&&◌, ◌||◌, not, Bool, true, false, cond, List, [], ◌∷◌, ◌++◌, length, map, get_or, Option, Some, None, Bor, refl, ap, sym, ◌∙◌, subst, arith}
use Rattle.std.specs.Prelude.{option_to_list}
use Rattle.std.specs.List.{list_all}
use Rattle.std.proofs.lemmas.Bool.{false≢true}
use Rattle.std.proofs.lemmas.Bool.Decides.{nat_tests}
use Rattle.std.proofs.lemmas.List.{map-append}
use Rattle.std.specs.Bool.{then_some}
use Rattle.blif_net.specs.declared.covers.OpenCover.{OpenCover}
use Rattle.blif_net.specs.declared.covers.ReadRow.{ReadRow}
use Rattle.cover_nets.specs.declared.net.Cube.{Cube}
use Rattle.blif_net.specs.declared.faults.FaultKind.TheVariants as kinds
use Rattle.blif_text.specs.Text.{Word}
use Rattle.blif_models.specs.Circuits.{Cover, Row}
use Rattle.blif_net.specs.CoverTexts.{is_bit, is_cube, is_literal, row_of, row_with, is_mixed, row_fault}
use Rattle.blif_wholes.specs.Networks.{is_on, literals_of}
use Rattle.blif_net.specs.OpenCovers.{IsOpenCoverOf, IsRead, IsReadRow, IsRowOf, TakesRow, takes_output}

-- what stands for an element that isn't there
abbrev pub no_word : Bor (List ℕ)
no_word = record { ref_ptr = (0, 0); now = [] }

same : (a b : ℕ) → a ≡ b → (a == b) ≡ true
same a b e = grind (arith, nat_tests)

-- the output alone, where there are no inputs
pub bare_row : (ws : List (Bor (List ℕ))) (ins : ℕ) (literals : Word) (read : ReadRow) → length ws ≡ 1 → ins ≡ 0 → literals ≡ [] → IsReadRow literals (get_or ws 0 no_word).now read
    → IsRead ins (map (λ (w : Bor (List ℕ)). w.now) ws) read
bare_row [] ins literals read one e f h = absurd (omega (arith, one))
bare_row (w ∷ v ∷ ws) ins literals read one e f h = absurd (omega (arith, one))
bare_row (w ∷ []) ins literals read one e f h = (
  row_with [] w.now,
  ap (λ b. cond (b && is_bit w.now) (Some (row_with [] w.now)) None) (same ins 0 e) ∙ ap (λ b. cond b (Some (row_with [] w.now)) None) h.1,
  subst (λ (t : Word). IsRowOf (row_with t w.now) read) f h.2,
)

pub full_row : (ws : List (Bor (List ℕ))) (ins : ℕ) (read : ReadRow) → length ws ≡ 2 → (ins ≡ 0 → ⊥) → length (get_or ws 0 no_word).now ≡ ins → IsReadRow (get_or ws 0 no_word).now (get_or ws 1 no_word).now read
    → IsRead ins (map (λ (w : Bor (List ℕ)). w.now) ws) read
full_row [] ins read two some long h = absurd (omega (arith, two))
full_row (w ∷ []) ins read two some long h = absurd (omega (arith, two))
full_row (w ∷ v ∷ u ∷ ws) ins read two some long h = absurd (omega (arith, two))
full_row (w ∷ v ∷ []) ins read two some long h = (
  row_with w.now v.now,
  ap (λ b. cond ((not b && is_cube ins w.now) && is_bit v.now) (Some (row_with w.now v.now)) None) (not_zero ins some)
      ∙ ap (λ b. cond ((b && list_all is_literal w.now) && is_bit v.now) (Some (row_with w.now v.now)) None) (same (length w.now) ins long)
      ∙ ap (λ b. cond (b && is_bit v.now) (Some (row_with w.now v.now)) None) h.0
      ∙ ap (λ b. cond b (Some (row_with w.now v.now)) None) h.1,
  h.2,
)
  where
    not_zero : (n : ℕ) → (n ≡ 0 → ⊥) → (n == 0) ≡ false
    not_zero n k = grind (arith, nat_tests)

-- outputs that agree
agree : (on output : Bool) → cond on output (not output) ≡ true → on ≡ output
agree true output h = sym h
agree false true h = absurd (false≢true h)
agree false false h = refl

not_mixed : (on output : Bool) → on ≡ output → cond on (not output) output ≡ false
not_mixed true output e = ap not (sym e)
not_mixed false output e = sym e

mixed : (on output : Bool) → cond on output (not output) ≡ false → cond on (not output) output ≡ true
mixed true output h = ap not h
mixed false true h = refl
mixed false false h = absurd (false≢true (sym h))

-- a row of a draft that takes its output fits the cover, and gives its output
row_fits : (rows : List Row) (row : Row) (draft : OpenCover) (output : Bool) → draft.rows ≡ map literals_of rows → draft.on ≡ is_on rows → output ≡ row.output → takes_output draft output ≡ true
    → (is_mixed rows row ≡ false) × (output ≡ is_on (rows ++ row ∷ []))
row_fits [] row draft output e f g h = (refl, g)
row_fits (first ∷ rows) row draft output e f g h =
    let some : (length draft.rows == 0) ≡ false = ap (λ t. length t == 0) e ∙ zeroless (length (map literals_of rows)) in
    let on : draft.on ≡ output = agree draft.on output (sym (ap (λ b. b || cond draft.on output (not output)) some) ∙ h) in
    (not_mixed first.output row.output (sym f ∙ on ∙ g), sym on ∙ f)
  where
    zeroless : (n : ℕ) → (suc n == 0) ≡ false
    zeroless n = grind (arith, nat_tests)

row_unfit : (rows : List Row) (row : Row) (draft : OpenCover) (output : Bool) → draft.rows ≡ map literals_of rows → draft.on ≡ is_on rows → output ≡ row.output → takes_output draft output ≡ false → is_mixed rows row ≡ true
row_unfit [] row draft output e f g h =
    absurd (false≢true (sym h ∙ ap (λ t. length t == 0 || cond draft.on output (not output)) e))
row_unfit (first ∷ rows) row draft output e f g h =
    let both : cond draft.on output (not output) ≡ false = later (length draft.rows == 0) (cond draft.on output (not output)) h in
    mixed first.output row.output (sym (ap (λ b. cond b row.output (not row.output)) f) ∙ sym (ap (λ b. cond draft.on b (not b)) g) ∙ both)
  where
    later : (a b : Bool) → (a || b) ≡ false → b ≡ false
    later true b k = absurd (false≢true (sym k))
    later false b k = k

-- one more row
pub row_taken : (old : OpenCover) (ws : List Word) (n : ℕ) (row : Row) (read : ReadRow) (rows' : List Cube) (on' : Bool) → n ≡ old.ins → row_of n ws ≡ Some row → IsRowOf row read → takes_output old read.output ≡ true
    → rows' ≡ old.rows ++ read.cube ∷ [] → on' ≡ read.output → TakesRow old ws (record { ins = old.ins; rows = rows'; on = on' })
row_taken old ws n row read rows' on' many e is fits f g =
    λ cover h.
    let here : row_of (length cover.ins) ws ≡ Some row = ap (λ t. row_of t ws) (sym h.ins ∙ sym many) ∙ e in
    let fit = row_fits cover.rows row old read.output h.rows h.on is.1 fits in (
      ap (row_fault cover) here ∙ ap (λ b. then_some b kinds.Mixed) fit.0,
      record {
        ins = h.ins;
        rows = f ∙ ap (λ t. t ++ read.cube ∷ []) h.rows ∙ ap (λ t. map literals_of cover.rows ++ t ∷ []) is.0 ∙ sym (map-append literals_of cover.rows (row ∷ [])) ∙ ap (λ (o : Option Row). map literals_of (cover.rows ++ option_to_list o)) (sym here);
        on = g ∙ fit.1 ∙ ap (λ (o : Option Row). is_on (cover.rows ++ option_to_list o)) (sym here);
      },
    )

pub row_mixed : (old : OpenCover) (ws : List Word) (n : ℕ) (row : Row) (read : ReadRow) → n ≡ old.ins → row_of n ws ≡ Some row → IsRowOf row read → takes_output old read.output ≡ false
    → (cover : Cover) → IsOpenCoverOf cover old → row_fault cover (row_of (length cover.ins) ws) ≡ Some kinds.Mixed
row_mixed old ws n row read many e is fits =
    λ cover h.
    ap (row_fault cover) (ap (λ t. row_of t ws) (sym h.ins ∙ sym many) ∙ e)
    ∙ ap (λ b. then_some b kinds.Mixed) (row_unfit cover.rows row old read.output h.rows h.on is.1 fits)
