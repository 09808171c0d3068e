-- What lines of a text of several models leave, and what drafts that follow them are of.
use Rattle.std.proofs.Common.{◌≡◌, ℕ, suc, ◌+◌, Bool, true, false, List, [], ◌∷◌, ◌++◌, Option, Some, None, flat_map, length, nat_lt, option_map, refl, ap, sym, ◌∙◌, subst, if◌then◌else◌, ◌≤◌}
use Rattle.std.specs.Bool.{then_some}
use Rattle.std.specs.Option.{option_or}
use Rattle.std.proofs.lemmas.Bool.{false≢true}
use Rattle.edge_bits.specs.declared.limits.TheConstants.{MOST_OUTPUTS, MOST_SIGNALS, MOST_VARIABLES}
use Rattle.job_words.specs.Text.{is_among}
use Rattle.blif_models.specs.Circuits.{Cover, some_again}
use Rattle.blif_models.specs.Models.{Latch, Model, Named, latched, names_of}
use Rattle.blif_drafts.specs.declared.open_models.OpenModels.{OpenModels}
use Rattle.blif_drafts.specs.declared.stops.LineStop.TheVariants as stops
use Rattle.blif_drafts.specs.declared.stops.Refusal.{Refusal}
use Rattle.blif_drafts.specs.declared.stops.Refusal.TheVariants as refusals
use Rattle.blif_drafts.specs.Latches.{latch_of}
use Rattle.blif_drafts.specs.OpenDrafts.{bare_model, cover_refused, first_word, inputs_refused, latch_refused, outputs_refused}
use Rattle.blif_drafts.specs.OpenDrafts as drafts
use Rattle.blif_drafts.specs.OpenModels.{AreOpen, BeginsFurther, BeginsMain, HoldsLine, StopsLine, TakesLine}
use Rattle.blif_drafts.specs.Signals.{defined_by}
use Rattle.blif_drafts.proofs.GoingOn.{drafts_last, lines_go_on}
use Rattle.blif_net.specs.declared.faults.FaultKind.{FaultKind}
use Rattle.blif_net.specs.declared.faults.FaultKind.TheVariants as kinds
use Rattle.blif_text.specs.Text.{Word}
use Rattle.blif_net.specs.CoverTexts.{front_of, last_of, with_row, with_row_in}
use Rattle.blif_net.specs.ModelLines.{AreLeftBy, kind_of}
use Rattle.blif_text.specs.Statements.{ends, inputs, latch, model, names, outputs, row, subckt}
use Rattle.blif_net.specs.Circuits.{Context, after_statement, at_start, close, with_cover, with_latch}
use Rattle.blif_net.specs.Faults.{inputs_fault, latch_fault, names_fault, open_fault}

-- a cover that is closed is no input and no output

inputs_under : (c : Context) (o : Option Cover) → (with_cover c o).current.inputs ≡ c.current.inputs
inputs_under c None = refl
inputs_under c (Some cover) = refl

outputs_under : (c : Context) (o : Option Cover) → (with_cover c o).current.outputs ≡ c.current.outputs
outputs_under c None = refl
outputs_under c (Some cover) = refl

-- faults by their tests

abbrev inputs_by : Bool → Bool → Bool → Option FaultKind
inputs_by again many signals = option_or (then_some again kinds.Twice) (option_or (then_some many kinds.TooMany) (then_some signals kinds.TooMany))

inputs_kind : (a b d : Bool) → inputs_by a b d ≡ option_map kind_of (option_or (then_some a refusals.Twice) (option_or (then_some b refusals.TooMany) (then_some d refusals.TooMany)))
inputs_kind true b d = refl
inputs_kind false true d = refl
inputs_kind false false true = refl
inputs_kind false false false = refl

cover_kind : (a d : Bool) → option_or (then_some a kinds.Twice) (then_some d kinds.TooMany) ≡ option_map kind_of (option_or (then_some a refusals.Twice) (then_some d refusals.TooMany))
cover_kind true d = refl
cover_kind false true = refl
cover_kind false false = refl

outputs_kind : (b : Bool) → then_some b kinds.TooMany ≡ option_map kind_of (then_some b refusals.TooMany)
outputs_kind true = refl
outputs_kind false = refl

latch_kind : (b : Bool) → then_some b kinds.Twice ≡ option_map kind_of (then_some b refusals.Twice)
latch_kind true = refl
latch_kind false = refl

module _ (c : Context) where
  abbrev defines : List Word
  defines = flat_map defined_by (close c).current.items

  same_inputs : c.current.inputs ≡ (close c).current.inputs
  same_inputs = sym (inputs_under c c.cover)

  inputs_same : (words : List Word) → inputs_fault c words ≡ option_map kind_of (inputs_refused words (close c).current)
  inputs_same words =
      ap
      (λ (lines : List Named).
      inputs_by (some_again (names_of lines ++ defines) words) (nat_lt MOST_VARIABLES (length (names_of lines) + length words)) (nat_lt MOST_SIGNALS (length (names_of lines ++ defines) + length words))) same_inputs
      ∙ inputs_kind (some_again (names_of (close c).current.inputs ++ defines) words) (nat_lt MOST_VARIABLES (length (names_of (close c).current.inputs) + length words))
      (nat_lt MOST_SIGNALS (length (names_of (close c).current.inputs ++ defines) + length words))

  outputs_same : (words : List Word) → then_some (nat_lt MOST_OUTPUTS (length (names_of c.current.outputs) + length words)) kinds.TooMany ≡ option_map kind_of (outputs_refused words (close c).current)
  outputs_same words =
      ap (λ (lines : List Named). then_some (nat_lt MOST_OUTPUTS (length (names_of lines) + length words)) kinds.TooMany) (sym (outputs_under c c.cover))
      ∙ outputs_kind (nat_lt MOST_OUTPUTS (length (names_of (close c).current.outputs) + length words))

  names_same : (word : Word) (words : List Word) → names_fault c (word ∷ words) ≡ option_map kind_of (cover_refused (last_of (word ∷ words)) (close c).current)
  names_same word words =
      ap (λ (lines : List Named). option_or (then_some (is_among (names_of lines ++ defines) (last_of (word ∷ words))) kinds.Twice) (then_some (nat_lt MOST_SIGNALS (length (names_of lines ++ defines) + 1)) kinds.TooMany)) same_inputs
      ∙ cover_kind (is_among (names_of (close c).current.inputs ++ defines) (last_of (word ∷ words))) (nat_lt MOST_SIGNALS (length (names_of (close c).current.inputs ++ defines) + 1))

  latch_same : (line : ℕ) (words : List Word) (one : Latch) → latch_of line words ≡ Some one → open_fault c line (latch words) ≡ option_map kind_of (latch_refused one.output (close c).current)
  latch_same line words one e =
      ap (latch_fault c) e ∙ ap (λ (lines : List Named). then_some (is_among (names_of lines ++ defines) one.output) kinds.Twice) same_inputs
      ∙ latch_kind (is_among (names_of (close c).current.inputs ++ defines) one.output)

-- rows change no model's draft

rows_left : (line : ℕ) (words : List Word) (one : OpenModels) (c : Context) (o : Option Cover) → AreOpen line (with_cover c o).closed (with_cover c o).current one
    → AreOpen line (close (record c { cover = with_row_in o words; begun = true })).closed (close (record c { cover = with_row_in o words; begun = true })).current one
rows_left line words one c None is = is
rows_left line words one c (Some cover) is =
    let rows = (with_row cover words).rows in
    record {
      one_number = is.one_number;
      closed = is.closed;
      current = drafts_last.rows one.titles c.current cover rows one.current is.current;
      below = lines_go_on.rows line cover rows c.closed c.current is.below;
    }

closed_under : (c : Context) (o : Option Cover) → (with_cover c o).closed ≡ c.closed
closed_under c None = refl
closed_under c (Some cover) = refl

-- Drafts that take what a line says are those of the models that it leaves, and refuse it where it is faulty.
pub record DraftsFollow : Type 0 where
  pub start : (one : OpenModels) → AreOpen 1 [] (bare_model 0 None) one → AreLeftBy 1 at_start one
  pub later : (line n : ℕ) (c : Context) (one : OpenModels) → line ≤ n → AreLeftBy line c one → AreLeftBy n c one
  -- a line that closes a cover, or ends a model, or adds a row to a cover
  pub closes : (line : ℕ) (c : Context) (one : OpenModels) → AreLeftBy line c one → AreLeftBy line (close c) one
  pub ended : (line : ℕ) (c : Context) (words : List Word) (one : OpenModels) → AreLeftBy line c one → AreLeftBy line (after_statement c line (ends words)) one
  pub rows : (line : ℕ) (c : Context) (words : List Word) (one : OpenModels) → AreLeftBy line c one → AreLeftBy line (after_statement c line (row words)) one
  -- a line that begins a model
  pub begins_main : (line : ℕ) (c : Context) (words : List Word) (old new : OpenModels) → c.begun ≡ false → AreLeftBy line c old → BeginsMain old line (first_word words) new → AreLeftBy (suc line) (after_statement c line (model words)) new
  pub begins_further : (line : ℕ) (c : Context) (words : List Word) (old new : OpenModels) → c.begun ≡ true → AreLeftBy line c old → BeginsFurther old line (first_word words) new → AreLeftBy (suc line) (after_statement c line (model words)) new
  -- a line that one takes
  pub takes_inputs : (line : ℕ) (c : Context) (words : List Word) (old new : OpenModels) → AreLeftBy line c old → TakesLine old line (inputs_refused words) (drafts.with_inputs line words) new
      → (open_fault c line (inputs words) ≡ None) × AreLeftBy (suc line) (after_statement c line (inputs words)) new
  pub takes_outputs : (line : ℕ) (c : Context) (words : List Word) (old new : OpenModels) → AreLeftBy line c old → TakesLine old line (outputs_refused words) (drafts.with_outputs line words) new
      → (open_fault c line (outputs words) ≡ None) × AreLeftBy (suc line) (after_statement c line (outputs words)) new
  pub takes_names : (line : ℕ) (c : Context) (word : Word) (words : List Word) (old new : OpenModels) → AreLeftBy line c old
      → TakesLine old line (cover_refused (last_of (word ∷ words))) (drafts.with_item (drafts.cover_at line (front_of (word ∷ words)) (last_of (word ∷ words)) [])) new
      → (open_fault c line (names (word ∷ words)) ≡ None) × AreLeftBy (suc line) (after_statement c line (names (word ∷ words))) new
  pub takes_latch : (line : ℕ) (c : Context) (words : List Word) (one : Latch) (old new : OpenModels) → latch_of line words ≡ Some one → AreLeftBy line c old → TakesLine old line (latch_refused one.output) (drafts.with_item (latched one)) new
      → (open_fault c line (latch words) ≡ None) × AreLeftBy (suc line) (after_statement c line (latch words)) new
  pub takes_subckt : (line : ℕ) (c : Context) (words : List Word) (old new : OpenModels) → AreLeftBy line c old → HoldsLine old line words new → AreLeftBy (suc line) (after_statement c line (subckt words)) new
  -- or refuses
  pub stops_inputs : (line : ℕ) (c : Context) (words : List Word) (old : OpenModels) (refusal : Refusal) → AreLeftBy line c old → StopsLine old (inputs_refused words) (stops.Refused refusal) → open_fault c line (inputs words) ≡ Some (kind_of refusal)
  pub stops_outputs : (line : ℕ) (c : Context) (words : List Word) (old : OpenModels) (refusal : Refusal) → AreLeftBy line c old → StopsLine old (outputs_refused words) (stops.Refused refusal) → open_fault c line (outputs words) ≡ Some (kind_of refusal)
  pub stops_names : (line : ℕ) (c : Context) (word : Word) (words : List Word) (old : OpenModels) (refusal : Refusal) → AreLeftBy line c old → StopsLine old (cover_refused (last_of (word ∷ words))) (stops.Refused refusal)
      → open_fault c line (names (word ∷ words)) ≡ Some (kind_of refusal)
  pub stops_latch : (line : ℕ) (c : Context) (words : List Word) (one : Latch) (old : OpenModels) (refusal : Refusal) → latch_of line words ≡ Some one → AreLeftBy line c old → StopsLine old (latch_refused one.output) (stops.Refused refusal)
      → open_fault c line (latch words) ≡ Some (kind_of refusal)

pub drafts_follow : DraftsFollow
drafts_follow = record {
  start = λ one is. record { are = is; main = λ e. refl };
  later = λ line n c one le is. record {
    are = record { one_number = is.are.one_number; closed = is.are.closed; current = is.are.current; below = lines_go_on.later line n ((close c).closed ++ (close c).current ∷ []) le is.are.below };
    main = is.main;
  };
  closes = λ line c one is. record { are = is.are; main = λ e. absurd (false≢true (sym e)) };
  ended = λ line c words one is. record { are = is.are; main = λ e. absurd (false≢true (sym e)) };
  rows = λ line c words one is. record { are = rows_left line words one c c.cover is.are; main = λ e. absurd (false≢true (sym e)) };
  begins_main = λ line c words old new e is begins.
      let none : c.closed ≡ [] = sym (closed_under c c.cover) ∙ is.main e in
      let same : (if c.begun then (close c).closed ++ (close c).current ∷ [] else c.closed) ≡ [] = ap (λ t. if t then (close c).closed ++ (close c).current ∷ [] else c.closed) e ∙ none in
      record {
        are = subst (λ (closed : List Model). AreOpen (suc line) closed (bare_model line (first_word words)) new) (sym same) (begins line (close c).current (subst (λ (closed : List Model). AreOpen line closed (close c).current old) (is.main e) is.are));
        main = λ f. absurd (false≢true (sym f));
      };
  begins_further = λ line c words old new e is begins. record {
    are = subst (λ t. AreOpen (suc line) (if t then (close c).closed ++ (close c).current ∷ [] else c.closed) (bare_model line (first_word words)) new) (sym e) (begins (close c).closed (close c).current is.are);
    main = λ f. absurd (false≢true (sym f));
  };
  takes_inputs = λ line c words old new is takes.
      (inputs_same c words ∙ ap (option_map kind_of) (takes.faultless (close c).closed (close c).current is.are), record { are = takes.after (close c).closed (close c).current is.are; main = λ f. absurd (false≢true (sym f)) });
  takes_outputs = λ line c words old new is takes.
      (outputs_same c words ∙ ap (option_map kind_of) (takes.faultless (close c).closed (close c).current is.are), record { are = takes.after (close c).closed (close c).current is.are; main = λ f. absurd (false≢true (sym f)) });
  takes_names = λ line c word words old new is takes.
      (names_same c word words ∙ ap (option_map kind_of) (takes.faultless (close c).closed (close c).current is.are), record { are = takes.after (close c).closed (close c).current is.are; main = λ f. absurd (false≢true (sym f)) });
  takes_latch = λ line c words one old new e is takes. (
    latch_same c line words one e ∙ ap (option_map kind_of) (takes.faultless (close c).closed (close c).current is.are),
    subst (λ (o : Option Latch). AreLeftBy (suc line) (with_latch (close c) o) new) (sym e) (record { are = takes.after (close c).closed (close c).current is.are; main = λ f. absurd (false≢true (sym f)) }),
  );
  takes_subckt = λ line c words old new is holds. record { are = holds (close c).closed (close c).current is.are; main = λ f. absurd (false≢true (sym f)) };
  stops_inputs = λ line c words old refusal is stops. inputs_same c words ∙ ap (option_map kind_of) (stops line (close c).closed (close c).current is.are);
  stops_outputs = λ line c words old refusal is stops. outputs_same c words ∙ ap (option_map kind_of) (stops line (close c).closed (close c).current is.are);
  stops_names = λ line c word words old refusal is stops. names_same c word words ∙ ap (option_map kind_of) (stops line (close c).closed (close c).current is.are);
  stops_latch = λ line c words one old refusal e is stops. latch_same c line words one e ∙ ap (option_map kind_of) (stops line (close c).closed (close c).current is.are);
}
