-- Covers that are laid out have the lines of the covers that they are by name.
use Rattle.std.proofs.Common.{◌≡◌, ℕ, zero, suc, ◌+◌, ◌==◌, Bool, true, false, cond, List, [], ◌∷◌, Some, get_or, map, ap, sym, ◌∙◌, subst, length}
use Rattle.std.specs.Prelude.{All, slice_get}
use Rattle.std.proofs.lemmas.List.Elements.{All-append, All-cons, All-nil}
use Rattle.job_words.specs.Text.{Word}
use Rattle.blif_models.specs.declared.numbered.Entry.{Entry}
use Rattle.blif_models.specs.declared.numbered.Entry.TheVariants as entries
use Rattle.blif_models.specs.declared.numbered.NumberedInstance.{NumberedInstance}
use Rattle.blif_models.specs.declared.numbered.NumberedModel.{NumberedModel}
use Rattle.blif_models.specs.declared.numbered.Spot.{Spot}
use Rattle.blif_models.specs.Agreement.{HasLines, entry_line}
use Rattle.blif_models.specs.Layouts.{Counted, Placed, copies_in, counted, cover_laid, laid_by, laid_within, latch_laid, main_table, model_at, table_within, unless_empty}
use Rattle.blif_models.specs.Lined.{IsLined, WholesAreLined}
use Rattle.blif_models.specs.ModelFaults.{line_of}
use Rattle.blif_models.specs.Models.{Item, Model, covered, held, latched}
use Rattle.blif_models.specs.Numberings.{AreEntriesOf, IsNumbering}

module _ (models : List Model) (among : ℕ → Bool) (words : List (List Word)) (m : ℕ) (copy : ℕ → List Spot → NumberedInstance → List Placed) (inside : ℕ → ℕ) (table : List Spot)
    (inner : (number : ℕ) (instance : NumberedInstance) (model : Model) → among instance.model ≡ true → slice_get models instance.model ≡ Some model → All (IsLined models) (copy number table instance)) where
  laid_lined : (place copies : ℕ) (items : List Item) (others : List Entry) → AreEntriesOf models among words m place items others → map line_of items ≡ map entry_line others
      → All (IsLined models) (laid_by copy inside table m copies place others)
  laid_lined place copies [] [] a h = All-nil (IsLined models)
  laid_lined place copies [] (one ∷ others) a h = absurd a
  laid_lined place copies (one ∷ items) [] a h = absurd a
  laid_lined place copies (covered cover ∷ items) (entries.Latch one ∷ others) a h = absurd a.0
  laid_lined place copies (covered cover ∷ items) (entries.Instance one ∷ others) a h = absurd a.0
  laid_lined place copies (latched latch ∷ items) (entries.Cover one ∷ others) a h = absurd a.0
  laid_lined place copies (latched latch ∷ items) (entries.Instance one ∷ others) a h = absurd a.0
  laid_lined place copies (held instance ∷ items) (entries.Cover one ∷ others) a h = absurd a.0
  laid_lined place copies (held instance ∷ items) (entries.Latch one ∷ others) a h = absurd a.0
  laid_lined place copies (covered cover ∷ items) (entries.Cover one ∷ others) a h =
      let line : cover.line ≡ one.line = cc in
      let rest : map line_of items ≡ map entry_line others = cc in
      All-cons (IsLined models) (cover_laid table m place one) (laid_by copy inside table m copies (place + 1) others) (sym line ∙ ap (λ c. c.line) (sym a.0.0))
      (laid_lined (place + 1) copies items others a.1 rest)
  laid_lined place copies (latched latch ∷ items) (entries.Latch one ∷ others) a h =
      let rest : map line_of items ≡ map entry_line others = cc in
      All-cons (IsLined models) (latch_laid table one) (laid_by copy inside table m copies (place + 1) others) tt (laid_lined (place + 1) copies items others a.1 rest)
  laid_lined place copies (held instance ∷ items) (entries.Instance one ∷ others) a h =
      let rest : map line_of items ≡ map entry_line others = cc in
      All-append (IsLined models) (copy (copies + 1) table one) (laid_by copy inside table m (copies + 1 + inside one.model) (place + 1) others) (inner (copies + 1) one a.0.1.0 a.0.0 a.0.1.1)
      (laid_lined (place + 1) (copies + 1 + inside one.model) items others a.1 rest)

module _ (models : List Model) (among : ℕ → Bool) (words : List (List Word)) (numbered : List NumberedModel) (counts : Counted) (numbering : IsNumbering models among words numbered)
    (lines : (m : ℕ) (one : Model) → among m ≡ true → slice_get models m ≡ Some one → HasLines one (model_at numbered m)) where
  unless_lined : (m : ℕ) (placed : List Placed) → All (IsLined models) placed → All (IsLined models) (unless_empty counts m placed)
  unless_lined m placed h = by_cases (get_or counts.signals m 0 == 0)
    where
      by_cases : (b : Bool) → All (IsLined models) (cond b [] placed)
      by_cases true = All-nil (IsLined models)
      by_cases false = h

  within_lined : (levels m : ℕ) (model : Model) (table : List Spot) (copies : ℕ) → among m ≡ true → slice_get models m ≡ Some model → All (IsLined models) (laid_within numbered counts levels table m copies 0 (model_at numbered m).entries)
  unfolding laid_within
  within_lined zero m model table copies in_it at =
      laid_lined models among words m (λ number up instance. []) (copies_in counts) table (λ number instance one k e. All-nil (IsLined models)) 0 copies model.items (model_at numbered m).entries
      (numbering.entries_are m model in_it at) (lines m model in_it at)
  within_lined (suc levels) m model table copies in_it at =
      laid_lined models among words m
      (λ number up instance.
      unless_empty counts instance.model
      (laid_within numbered counts levels (table_within up number instance.model instance.joins (model_at numbered instance.model).names) instance.model number 0 (model_at numbered instance.model).entries))
      (copies_in counts) table
      (λ number instance one k e.
      unless_lined instance.model
      (laid_within numbered counts levels (table_within table number instance.model instance.joins (model_at numbered instance.model).names) instance.model number 0 (model_at numbered instance.model).entries)
      (within_lined levels instance.model one (table_within table number instance.model instance.joins (model_at numbered instance.model).names) number k e))
      0 copies model.items (model_at numbered m).entries (numbering.entries_are m model in_it at) (lines m model in_it at)

pub wholes_are_lined : WholesAreLined
wholes_are_lined models among words numbered main model whole h lines w =
    subst (All (IsLined models)) (sym w.whole_is)
    (within_lined models among words numbered (counted w.copies w.signals) h.numbering lines (length numbered) main model (main_table main (model_at numbered main).names) 0 h.is_among h.is_there)
