-- What is kept of lines is what they leave.
use Rattle.std.proofs.Common.{◌≡◌, ℕ, true, false, cond, List, [], ◌∷◌, ◌++◌, length, map, Option, Some, None, refl, ap, sym, ◌∙◌, subst, append_assoc, append-nil}
use Rattle.std.specs.Prelude.{replicate}
use Rattle.std.specs.Global.{Vec}
use Rattle.std.specs.List.{flat_map}
use Rattle.blif_models.specs.Circuits.{Cover}
use Rattle.blif_models.specs.Models.{Item, Model, Named, Latch, covered, latched}
use Rattle.blif_drafts.specs.declared.open_models.OpenModels.{OpenModels}
use Rattle.blif_drafts.specs.Latches.{latch_of}
use Rattle.blif_drafts.specs.OpenDrafts.{named_at}
use Rattle.blif_text.specs.Text.{Word}
use Rattle.blif_wholes.specs.declared.bodies.CoverRows.{CoverRows}
use Rattle.cover_nets.specs.declared.net.Cube.{Cube}
use Rattle.blif_net.specs.declared.covers.OpenCover.{OpenCover}
use Rattle.blif_net.specs.declared.reading.Reading.{Reading}
use Rattle.blif_net.specs.Circuits.{Context, begin, close, with_cover, with_inputs, with_item, with_latch, with_outputs}
use Rattle.blif_net.specs.CoverTexts.{cover_at, front_of, rows_fault, with_row_in}
use Rattle.blif_net.specs.OpenCovers.{IsOpenCoverOf, TakesRow}
use Rattle.blif_net.specs.Reading.{AreAllKept, AreKept, Closes, IsKept, IsLeft, IsOpenIn, main_of, output_lines}

-- one more
kept_last : (items : List Item) (rows : List (Option CoverRows)) (item : Item) (one : Option CoverRows) → AreKept items rows → IsKept item one → AreKept (items ++ item ∷ []) (rows ++ one ∷ [])
kept_last [] [] item one h is = (is, tt)
kept_last [] (y ∷ rows) item one h is = absurd h
kept_last (x ∷ items) [] item one h is = absurd h
kept_last (x ∷ items) (y ∷ rows) item one h is = (h.0, kept_last items rows item one h.1 is)

pub all_kept_last : (models : List Model) (closed : List (Vec (Option CoverRows))) (model : Model) (rows : Vec (Option CoverRows)) → AreAllKept models closed → AreKept model.items rows.items
    → AreAllKept (models ++ model ∷ []) (closed ++ rows ∷ [])
all_kept_last [] [] model rows h is = (is, tt)
all_kept_last [] (y ∷ closed) model rows h is = absurd h
all_kept_last (x ∷ models) [] model rows h is = absurd h
all_kept_last (x ∷ models) (y ∷ closed) model rows h is = (h.0, all_kept_last models closed model rows h.1 is)

-- the lines of outputs of the main model
lines_same : (closed : List Model) (one other : Model) → one.outputs ≡ other.outputs → output_lines (main_of closed one) ≡ output_lines (main_of closed other)
lines_same [] one other e = ap (flat_map (λ (some : Named). map (λ word. some.line) some.words)) e
lines_same (model ∷ closed) one other e = refl

main_stays : (closed : List Model) (one other : Model) → main_of (closed ++ one ∷ []) other ≡ main_of closed one
main_stays [] one other = refl
main_stays (model ∷ closed) one other = refl

-- Closing

abbrev closed_context : Context → Option Cover → Context
closed_context c o = record (with_cover c o) { cover = None; begun = true }

pub closed_some : (old : Reading) (one : OpenCover) (shared : List Cube) (rows' : Vec (Option CoverRows)) (cover' : Option OpenCover) → old.cover ≡ Some one → shared ≡ one.rows
    → rows'.items ≡ old.rows.items ++ Some (record { rows = shared; on = one.on }) ∷ [] → cover' ≡ None
    → Closes old (record { models = old.models; closed = old.closed; rows = rows'; cover = cover'; outputs = old.outputs; begun = true; ended = old.ended })
closed_some old one shared rows' cover' e f g k = record {
  models = refl;
  left = λ c h. by_cover c h c.cover (subst (λ (q : Option OpenCover). IsOpenIn c.cover q) e h.cover);
  none = k;
}
  where
    by_cover : (c : Context) → IsLeft c old → (o : Option Cover) → IsOpenIn o (Some one)
        → IsLeft (closed_context c o) (record { models = old.models; closed = old.closed; rows = rows'; cover = cover'; outputs = old.outputs; begun = true; ended = old.ended })
    by_cover c h None i = absurd i
    by_cover c h (Some cover) i = record {
      closed = h.closed;
      rows = subst (λ (t : List (Option CoverRows)). AreKept (c.current.items ++ covered cover ∷ []) t) (sym g)
          (kept_last c.current.items old.rows.items (covered cover) (Some (record { rows = shared; on = one.on })) h.rows (record { rows = f ∙ i.rows; on = i.on }));
      cover = subst (λ (q : Option OpenCover). IsOpenIn None q) (sym k) tt;
      outputs = h.outputs ∙ lines_same c.closed c.current (with_item c (covered cover)).current refl;
      begun = refl;
      ended = h.ended;
    }

pub closed_none : (old : Reading) (cover' : Option OpenCover) → old.cover ≡ None → cover' ≡ None
    → Closes old (record { models = old.models; closed = old.closed; rows = old.rows; cover = cover'; outputs = old.outputs; begun = true; ended = old.ended })
closed_none old cover' e k = record {
  models = refl;
  left = λ c h. by_cover c h c.cover (subst (λ (q : Option OpenCover). IsOpenIn c.cover q) e h.cover);
  none = k;
}
  where
    by_cover : (c : Context) → IsLeft c old → (o : Option Cover) → IsOpenIn o None
        → IsLeft (closed_context c o) (record { models = old.models; closed = old.closed; rows = old.rows; cover = cover'; outputs = old.outputs; begun = true; ended = old.ended })
    by_cover c h None i = record {
      closed = h.closed;
      rows = h.rows;
      cover = subst (λ (q : Option OpenCover). IsOpenIn None q) (sym k) tt;
      outputs = h.outputs;
      begun = refl;
      ended = h.ended;
    }
    by_cover c h (Some cover) i = absurd i

-- the same with other models
abbrev pub with_models : Reading → OpenModels → Reading
with_models one models = record { models = models; closed = one.closed; rows = one.rows; cover = one.cover; outputs = one.outputs; begun = one.begun; ended = one.ended }

-- What lines add behind the cover that they close

pub inputs_left : (c : Context) (mid : Reading) (models' : OpenModels) (some : Named) → IsLeft (close c) mid → IsLeft (with_inputs (close c) some) (with_models mid models')
inputs_left c mid models' some h = record {
  closed = h.closed;
  rows = h.rows;
  cover = h.cover;
  outputs = h.outputs ∙ lines_same (close c).closed (close c).current (with_inputs (close c) some).current refl;
  begun = h.begun;
  ended = h.ended;
}

-- the line of a list of words, once for each
lines_of_words : (line : ℕ) (words : List Word) → map (λ (word : Word). line) words ≡ replicate (length words) line
lines_of_words line [] = refl
lines_of_words line (word ∷ words) = ap (λ t. line ∷ t) (lines_of_words line words)

lines_last : (outs : List Named) (some : Named) → flat_map (λ (one : Named). map (λ (word : Word). one.line) one.words) (outs ++ some ∷ []) ≡ flat_map (λ (one : Named). map (λ (word : Word). one.line) one.words) outs ++ map (λ (word : Word). some.line) some.words
lines_last [] some = append-nil (map (λ (word : Word). some.line) some.words)
lines_last (one ∷ outs) some =
    ap (λ t. map (λ (word : Word). one.line) one.words ++ t) (lines_last outs some)
    ∙ sym (append_assoc (map (λ (word : Word). one.line) one.words) (flat_map (λ (one : Named). map (λ (word : Word). one.line) one.words) outs) (map (λ (word : Word). some.line) some.words))

none_kept : (models : List Model) (closed : List (Vec (Option CoverRows))) → AreAllKept models closed → closed ≡ [] → models ≡ []
none_kept [] closed h e = refl
none_kept (model ∷ models) [] h e = absurd h
none_kept (model ∷ models) (one ∷ closed) h e = cc

pub main_outputs_left : (c : Context) (mid : Reading) (models' : OpenModels) (outputs' : Vec ℕ) (line : ℕ) (words : List Word) → mid.closed.items ≡ [] → outputs'.items ≡ mid.outputs.items ++ replicate (length words) line → IsLeft (close c) mid
    → IsLeft (with_outputs (close c) (named_at line words)) (record { models = models'; closed = mid.closed; rows = mid.rows; cover = mid.cover; outputs = outputs'; begun = mid.begun; ended = mid.ended })
main_outputs_left c mid models' outputs' line words e f h =
    let none : (close c).closed ≡ [] = none_kept (close c).closed mid.closed.items h.closed e in
    let d = with_outputs (close c) (named_at line words) in
    record {
      closed = h.closed;
      rows = h.rows;
      cover = h.cover;
      outputs = f ∙ ap (λ t. t ++ replicate (length words) line) (h.outputs ∙ ap (λ (t : List Model). output_lines (main_of t (close c).current)) none)
          ∙ ap (λ t. output_lines (close c).current ++ t) (sym (lines_of_words line words))
          ∙ sym (lines_last (close c).current.outputs (named_at line words))
          ∙ ap (λ (t : List Model). output_lines (main_of t d.current)) (sym none);
      begun = h.begun;
      ended = h.ended;
    }

pub other_outputs_left : (c : Context) (mid : Reading) (models' : OpenModels) (some : Named) → (mid.closed.items ≡ [] → ⊥) → IsLeft (close c) mid → IsLeft (with_outputs (close c) some) (with_models mid models')
other_outputs_left c mid models' some e h = record {
  closed = h.closed;
  rows = h.rows;
  cover = h.cover;
  outputs = h.outputs ∙ first_stays (close c).closed mid.closed.items e h.closed;
  begun = h.begun;
  ended = h.ended;
}
  where
    first_stays : (models : List Model) (closed : List (Vec (Option CoverRows))) → (closed ≡ [] → ⊥) → AreAllKept models closed
        → output_lines (main_of models (close c).current) ≡ output_lines (main_of models (with_outputs (close c) some).current)
    first_stays [] [] f k = absurd (f refl)
    first_stays [] (one ∷ closed) f k = absurd k
    first_stays (model ∷ models) closed f k = refl

pub names_left : (c : Context) (mid : Reading) (models' : OpenModels) (line many : ℕ) (words : List Word) (rows : List Cube) → many ≡ length (front_of words) → rows ≡ [] → IsLeft (close c) mid
    → IsLeft (record (close c) { cover = Some (cover_at line words) })
    (record { models = models'; closed = mid.closed; rows = mid.rows; cover = Some (record { ins = many; rows = rows; on = true }); outputs = mid.outputs; begun = mid.begun; ended = mid.ended })
names_left c mid models' line many words rows e f h = record {
  closed = h.closed;
  rows = h.rows;
  cover = record { ins = e; rows = f; on = refl };
  outputs = h.outputs;
  begun = h.begun;
  ended = h.ended;
}

-- a latch or an instance
pub bare_left : (c : Context) (mid : Reading) (models' : OpenModels) (rows' : Vec (Option CoverRows)) (item : Item) → IsKept item None → rows'.items ≡ mid.rows.items ++ None ∷ [] → IsLeft (close c) mid
    → IsLeft (with_item (close c) item) (record { models = models'; closed = mid.closed; rows = rows'; cover = mid.cover; outputs = mid.outputs; begun = mid.begun; ended = mid.ended })
bare_left c mid models' rows' item is e h = record {
  closed = h.closed;
  rows = subst (λ (t : List (Option CoverRows)). AreKept ((close c).current.items ++ item ∷ []) t) (sym e) (kept_last (close c).current.items mid.rows.items item None h.rows is);
  cover = h.cover;
  outputs = h.outputs ∙ lines_same (close c).closed (close c).current (with_item (close c) item).current refl;
  begun = h.begun;
  ended = h.ended;
}

pub latch_left : (c : Context) (mid : Reading) (models' : OpenModels) (rows' : Vec (Option CoverRows)) (line : ℕ) (words : List Word) (one : Latch) → latch_of line words ≡ Some one → rows'.items ≡ mid.rows.items ++ None ∷ [] → IsLeft (close c) mid
    → IsLeft (with_latch (close c) (latch_of line words)) (record { models = models'; closed = mid.closed; rows = rows'; cover = mid.cover; outputs = mid.outputs; begun = mid.begun; ended = mid.ended })
latch_left c mid models' rows' line words one e f h =
    subst (λ (o : Option Latch). IsLeft (with_latch (close c) o) (record { models = models'; closed = mid.closed; rows = rows'; cover = mid.cover; outputs = mid.outputs; begun = mid.begun; ended = mid.ended })) (sym e)
    (bare_left c mid models' rows' (latched one) tt f h)

-- `.end`
pub end_left : (c : Context) (mid : Reading) → IsLeft (close c) mid
    → IsLeft (record (close c) { ended = true }) (record { models = mid.models; closed = mid.closed; rows = mid.rows; cover = mid.cover; outputs = mid.outputs; begun = mid.begun; ended = true })
end_left c mid h = record { closed = h.closed; rows = h.rows; cover = h.cover; outputs = h.outputs; begun = h.begun; ended = refl }

-- a further model
pub further_left : (c : Context) (mid : Reading) (models' : OpenModels) (closed' : Vec (Vec (Option CoverRows))) (rows rows' : Vec (Option CoverRows)) (line : ℕ) (words : List Word) → c.begun ≡ true → closed'.items ≡ mid.closed.items ++ rows ∷ [] → rows ≡ mid.rows
    → rows'.items ≡ [] → mid.cover ≡ None → IsLeft (close c) mid
    → IsLeft (begin c line words) (record { models = models'; closed = closed'; rows = rows'; cover = mid.cover; outputs = mid.outputs; begun = mid.begun; ended = false })
further_left c mid models' closed' rows rows' line words e f g k none h =
    let d = close c in
    let closed : (begin c line words).closed ≡ d.closed ++ d.current ∷ [] = ap (λ b. cond b (d.closed ++ d.current ∷ []) c.closed) e in
    record {
      closed = subst (λ (t : List Model). AreAllKept t closed'.items) (sym closed)
          (subst (λ (t : List (Vec (Option CoverRows))). AreAllKept (d.closed ++ d.current ∷ []) t) (sym f)
          (all_kept_last d.closed mid.closed.items d.current rows h.closed (subst (λ (t : Vec (Option CoverRows)). AreKept d.current.items t.items) (sym g) h.rows)));
      rows = subst (λ (t : List (Option CoverRows)). AreKept [] t) (sym k) tt;
      cover = h.cover;
      outputs = h.outputs ∙ ap output_lines (sym (main_stays d.closed d.current (begin c line words).current)) ∙ ap (λ (t : List Model). output_lines (main_of t (begin c line words).current)) (sym closed);
      begun = h.begun;
      ended = refl;
    }

closed_under : (c : Context) (o : Option Cover) → (with_cover c o).closed ≡ c.closed
closed_under c None = refl
closed_under c (Some cover) = refl

-- the main model
pub main_left : (c : Context) (mid : Reading) (models' : OpenModels) (rows' : Vec (Option CoverRows)) (outputs' : Vec ℕ) (line : ℕ) (words : List Word) → c.begun ≡ false → (close c).closed ≡ [] → rows'.items ≡ [] → outputs'.items ≡ [] → IsLeft (close c) mid
    → IsLeft (begin c line words) (record { models = models'; closed = mid.closed; rows = rows'; cover = mid.cover; outputs = outputs'; begun = mid.begun; ended = false })
main_left c mid models' rows' outputs' line words e none k l h =
    let d = close c in
    let closed : (begin c line words).closed ≡ c.closed = ap (λ b. cond b (d.closed ++ d.current ∷ []) c.closed) e in
    let under : (begin c line words).closed ≡ d.closed = closed ∙ sym (closed_under c c.cover) in
    record {
      closed = subst (λ (t : List Model). AreAllKept t mid.closed.items) (sym under) h.closed;
      rows = subst (λ (t : List (Option CoverRows)). AreKept [] t) (sym k) tt;
      cover = h.cover;
      outputs = l ∙ ap (λ (t : List Model). output_lines (main_of t (begin c line words).current)) (sym (under ∙ none));
      begun = h.begun;
      ended = refl;
    }

-- A row
open_one : (o : Option Cover) (one : OpenCover) → IsOpenIn o (Some one) → (cover : Cover) × (o ≡ Some cover) × IsOpenCoverOf cover one
open_one None one h = absurd h
open_one (Some cover) one h = (cover, refl, h)

row_open : (o : Option Cover) (old new : OpenCover) (words : List Word) → TakesRow old words new → IsOpenIn o (Some old) → (rows_fault o words ≡ None) × IsOpenIn (with_row_in o words) (Some new)
row_open None old new words t h = absurd h
row_open (Some cover) old new words t h = t cover h

pub row_left : (c : Context) (old : Reading) (one new : OpenCover) (words : List Word) → old.cover ≡ Some one → TakesRow one words new → IsLeft c old
    → (rows_fault c.cover words ≡ None)
    × IsLeft (record c { cover = with_row_in c.cover words; begun = true }) (record { models = old.models; closed = old.closed; rows = old.rows; cover = Some new; outputs = old.outputs; begun = true; ended = old.ended })
row_left c old one new words e t h =
    let is = row_open c.cover one new words t (subst (λ (q : Option OpenCover). IsOpenIn c.cover q) e h.cover) in
    (is.0, record { closed = h.closed; rows = h.rows; cover = is.1; outputs = h.outputs; begun = refl; ended = h.ended })

pub no_row : (c : Context) (old : Reading) (words : List Word) → old.cover ≡ None → IsLeft c old → c.cover ≡ None
no_row c old words e h = by_cover c.cover (subst (λ (q : Option OpenCover). IsOpenIn c.cover q) e h.cover)
  where
    by_cover : (o : Option Cover) → IsOpenIn o None → o ≡ None
    by_cover None i = refl
    by_cover (Some cover) i = absurd i
