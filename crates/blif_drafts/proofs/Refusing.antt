-- Lines that are taken, and lines that are refused.
use Rattle.std.proofs.Common.{◌≡◌, ℕ, ◌+◌, ◌||◌, Bool, true, false, List, [], ◌∷◌, ◌++◌, Option, Some, None, drop, length, map, nat_lt, refl, ap, sym, ◌∙◌, subst, if◌then◌else◌}
use Rattle.std.specs.Prelude.{MatchOption}
use Rattle.std.specs.Bool.{then_some}
use Rattle.std.specs.Global.{Vec}
use Rattle.std.specs.List.{list_all}
use Rattle.std.specs.Option.{option_or}
use Rattle.std.specs.Borrow.{Bor}
use Rattle.std.proofs.lemmas.Bool.{false≢true}
use Rattle.edge_bits.specs.declared.limits.TheConstants.{MOST_OUTPUTS, MOST_SIGNALS, MOST_VARIABLES}
use Rattle.job_words.specs.Text.{Word, is_among}
use Rattle.blif_models.specs.declared.limits.Adding.{Adding}
use Rattle.blif_models.specs.Circuits.{Row, some_again}
use Rattle.blif_models.specs.ModelFaults.{formal_inputs, is_join}
use Rattle.blif_models.specs.Models.{Model, called_by, names_of}
use Rattle.blif_models.specs.Numberings.{AreNumbersOf}
use Rattle.blif_formals.specs.declared.calls.Call.{Call}
use Rattle.blif_formals.specs.declared.clashes.Definition.{Definition}
use Rattle.blif_formals.specs.Actuals.{AreActuals, Keeps}
use Rattle.blif_formals.specs.Definitions.{defined}
use Rattle.blif_formals.specs.Formals.{words_in}
use Rattle.blif_formals.specs.Titles.{IsTitleOf}
use Rattle.blif_formals.proofs.Numbering.{keeps_all}
use Rattle.blif_drafts.specs.declared.drafts.DraftItem.{DraftItem}
use Rattle.blif_drafts.specs.declared.drafts.DraftItem.TheVariants as drafts
use Rattle.blif_drafts.specs.declared.open_draft.OpenDraft.{OpenDraft}
use Rattle.blif_drafts.specs.declared.stops.LineStop.{LineStop}
use Rattle.blif_drafts.specs.declared.stops.LineStop.TheVariants as stops
use Rattle.blif_drafts.specs.declared.stops.Refusal.{Refusal}
use Rattle.blif_drafts.specs.declared.stops.Refusal.TheVariants as refusals
use Rattle.blif_drafts.specs.Drafts.{AreActualsOf}
use Rattle.blif_drafts.specs.OpenDrafts.{Holds, IsOpenOf, Stops, Takes, cover_at, cover_refused, first_word, inputs_refused, latch_at, latch_refused, outputs_refused, with_inputs, with_item, with_outputs}
use Rattle.blif_drafts.specs.Signals.{DefineStop, Defines, signals_in, signals_of}
use Rattle.blif_drafts.proofs.Lasting.{number_kept, numbers_kept}
use Rattle.blif_drafts.proofs.LineByLine.{inputs_taken, instance_taken, item_taken, many_inputs, many_outputs, more_names, open_signals, opened, outputs_taken}

-- what is refused, by its tests

abbrev inputs_by : Bool → Bool → Bool → Option Refusal
inputs_by again inputs signals = option_or (then_some again refusals.Twice) (option_or (then_some inputs refusals.TooMany) (then_some signals refusals.TooMany))

abbrev cover_by : Bool → Bool → Option Refusal
cover_by again signals = option_or (then_some again refusals.Twice) (then_some signals refusals.TooMany)

inputs_free : (a b c : Bool) → a ≡ false → (b || c) ≡ false → inputs_by a b c ≡ None
inputs_free true b c e f = absurd (false≢true (sym e))
inputs_free false true c e f = absurd (false≢true (sym f))
inputs_free false false true e f = absurd (false≢true (sym f))
inputs_free false false false e f = refl

inputs_many : (a b c : Bool) → a ≡ false → (b || c) ≡ true → inputs_by a b c ≡ Some refusals.TooMany
inputs_many true b c e f = absurd (false≢true (sym e))
inputs_many false true c e f = refl
inputs_many false false true e f = refl
inputs_many false false false e f = absurd (false≢true f)

inputs_again : (a b c : Bool) → a ≡ true → inputs_by a b c ≡ Some refusals.Twice
inputs_again true b c e = refl
inputs_again false b c e = absurd (false≢true e)

one_again : (signals : List Word) (word : Word) (t : Bool) → some_again signals (word ∷ []) ≡ t → is_among signals word ≡ t
one_again signals word t e = by_cases (is_among signals word) ∙ e
  where
    by_cases : (b : Bool) → b ≡ (if b then true else false)
    by_cases true = refl
    by_cases false = refl

-- `.inputs`

module _ (old : OpenDraft) (words : List Word) where
  abbrev limits_passed : ℕ → Bool
  limits_passed more = nat_lt MOST_VARIABLES (length old.draft.inputs + more) || nat_lt MOST_SIGNALS (old.signals + more)

  same_limits : (more : ℕ) → more ≡ length words → (titles : List Word) (model : Model) → IsOpenOf titles model old
      → (nat_lt MOST_VARIABLES (length (formal_inputs model) + length words) || nat_lt MOST_SIGNALS (length (signals_of model) + length words)) ≡ limits_passed more
  same_limits more e titles model is =
      sym (λ j. nat_lt MOST_VARIABLES (many_inputs titles model old is j + e j) || nat_lt MOST_SIGNALS (is.many j + e j))

  pub inputs_stop : (stop : LineStop) → DefineStop old.draft.names old.marks.items words stop → Stops old (inputs_refused words) stop
  inputs_stop stops.Memory d = λ titles model is. tt
  inputs_stop (stops.Refused refusal) d = λ titles model is.
      inputs_again (some_again (signals_of model) words) (nat_lt MOST_VARIABLES (length (formal_inputs model) + length words)) (nat_lt MOST_SIGNALS (length (signals_of model) + length words))
      (d.1 (signals_in old.draft) (signals_of model) (open_signals titles model old is)) ∙ ap Some (sym d.0)

  pub inputs_too_many : (ns : List ℕ) (names' : List Word) (marks' : List Bool) (more : ℕ) → more ≡ length words → Defines old.draft.names old.marks.items words ns names' marks' → limits_passed more ≡ true
      → Stops old (inputs_refused words) (stops.Refused refusals.TooMany)
  inputs_too_many ns names' marks' more e d passed = λ titles model is.
      inputs_many (some_again (signals_of model) words) (nat_lt MOST_VARIABLES (length (formal_inputs model) + length words)) (nat_lt MOST_SIGNALS (length (signals_of model) + length words))
      (d.new (signals_in old.draft) (signals_of model) (open_signals titles model old is)) (same_limits more e titles model is ∙ passed)

  pub inputs_take : (line : ℕ) (ns : List ℕ) (names' : List Word) (marks' : Vec Bool) (inputs' : List Definition) (added' : List Adding) (signals' more : ℕ) → more ≡ length words → Defines old.draft.names old.marks.items words ns names' marks'.items
      → limits_passed more ≡ false → inputs' ≡ old.draft.inputs ++ map (defined line) ns → added' ≡ old.draft.added ++ record { line = line; signals = more; inputs = more } ∷ [] → signals' ≡ old.signals + more
      → Takes old (inputs_refused words) (with_inputs line words) (opened (record old.draft { names = names'; inputs = inputs'; added = added' }) marks' signals')
  inputs_take line ns names' marks' inputs' added' signals' more e d passed f g h = record {
    faultless = λ titles model is.
        inputs_free (some_again (signals_of model) words) (nat_lt MOST_VARIABLES (length (formal_inputs model) + length words)) (nat_lt MOST_SIGNALS (length (signals_of model) + length words))
        (d.new (signals_in old.draft) (signals_of model) (open_signals titles model old is)) (same_limits more e titles model is ∙ passed);
    after = λ titles model is.
        inputs_taken titles model old is line words ns names' marks' inputs' added' signals' d f
        (g ∙ ap (λ n. old.draft.added ++ record { line = line; signals = n; inputs = n } ∷ []) e) (h ∙ ap (λ n. old.signals + n) e);
  }

-- `.outputs`

outputs_by : (b t : Bool) → b ≡ t → then_some b refusals.TooMany ≡ then_some t refusals.TooMany
outputs_by b t e = ap (λ s. then_some s refusals.TooMany) e

module _ (old : OpenDraft) (words : List Word) (more : ℕ) (e : more ≡ length words) where
  same_outputs : (titles : List Word) (model : Model) → IsOpenOf titles model old → nat_lt MOST_OUTPUTS (length (names_of model.outputs) + length words) ≡ nat_lt MOST_OUTPUTS (length old.draft.outputs + more)
  same_outputs titles model is = sym (λ j. nat_lt MOST_OUTPUTS (many_outputs titles model old is j + e j))

  pub outputs_too_many : nat_lt MOST_OUTPUTS (length old.draft.outputs + more) ≡ true → Stops old (outputs_refused words) (stops.Refused refusals.TooMany)
  outputs_too_many passed = λ titles model is. outputs_by (nat_lt MOST_OUTPUTS (length (names_of model.outputs) + length words)) true (same_outputs titles model is ∙ passed)

  pub outputs_take : (line : ℕ) (ns : List ℕ) (names' : List Word) (outputs' : List ℕ) → nat_lt MOST_OUTPUTS (length old.draft.outputs + more) ≡ false → Keeps old.draft.names names' → AreNumbersOf (names' ∷ []) 0 ns words → outputs' ≡ old.draft.outputs ++ ns
      → Takes old (outputs_refused words) (with_outputs line words) (opened (record old.draft { names = names'; outputs = outputs' }) old.marks old.signals)
  outputs_take line ns names' outputs' passed k a f = record {
    faultless = λ titles model is. outputs_by (nat_lt MOST_OUTPUTS (length (names_of model.outputs) + length words)) false (same_outputs titles model is ∙ passed);
    after = λ titles model is. outputs_taken titles model old is line words ns names' outputs' k a f;
  }

-- a cover and a latch, where some of their names were noted before

module _ (old : OpenDraft) (mid : List Word) (noted : Keeps old.draft.names mid) (word : Word) where
  abbrev middle : OpenDraft
  middle = opened (record old.draft { names = mid }) old.marks old.signals

  middle_of : (titles : List Word) (model : Model) → IsOpenOf titles model old → IsOpenOf titles model middle
  middle_of titles model is = more_names titles model old is titles mid (keeps_all titles) noted

  among_stop : (refusal : Refusal) → DefineStop mid old.marks.items (word ∷ []) (stops.Refused refusal) → (titles : List Word) (model : Model) → IsOpenOf titles model old → is_among (signals_of model) word ≡ true
  among_stop refusal d titles model is = one_again (signals_of model) word true (d.1 (signals_in old.draft) (signals_of model) (open_signals titles model middle (middle_of titles model is)))

  among_new : (n : ℕ) (names' : List Word) (marks' : List Bool) → Defines mid old.marks.items (word ∷ []) (n ∷ []) names' marks' → (titles : List Word) (model : Model) → IsOpenOf titles model old → is_among (signals_of model) word ≡ false
  among_new n names' marks' d titles model is = one_again (signals_of model) word false (d.new (signals_in old.draft) (signals_of model) (open_signals titles model middle (middle_of titles model is)))

  same_signals : (titles : List Word) (model : Model) → IsOpenOf titles model old → nat_lt MOST_SIGNALS (length (signals_of model) + 1) ≡ nat_lt MOST_SIGNALS (old.signals + 1)
  same_signals titles model is = sym (ap (λ n. nat_lt MOST_SIGNALS (n + 1)) is.many)

  pub cover_stop : (stop : LineStop) → DefineStop mid old.marks.items (word ∷ []) stop → Stops old (cover_refused word) stop
  cover_stop stops.Memory d = λ titles model is. tt
  cover_stop (stops.Refused refusal) d = λ titles model is. ap (λ b. cover_by b (nat_lt MOST_SIGNALS (length (signals_of model) + 1))) (among_stop refusal d titles model is) ∙ ap Some (sym d.0)

  pub cover_too_many : (n : ℕ) (names' : List Word) (marks' : List Bool) → Defines mid old.marks.items (word ∷ []) (n ∷ []) names' marks' → nat_lt MOST_SIGNALS (old.signals + 1) ≡ true → Stops old (cover_refused word) (stops.Refused refusals.TooMany)
  cover_too_many n names' marks' d passed = λ titles model is. λ j. cover_by (among_new n names' marks' d titles model is j) ((same_signals titles model is ∙ passed) j)

  pub cover_take : (line : ℕ) (ins : List Word) (ns : List ℕ) (n : ℕ) (names' : List Word) (marks' : Vec Bool) (items' : List DraftItem) (signals' : ℕ) → AreNumbersOf (mid ∷ []) 0 ns ins → Defines mid old.marks.items (word ∷ []) (n ∷ []) names' marks'.items
      → nat_lt MOST_SIGNALS (old.signals + 1) ≡ false → items' ≡ old.draft.items ++ drafts.Cover (record { line = line; ins = ns; name = n }) ∷ [] → signals' ≡ old.signals + 1
      → (rows : List Row) → Takes old (cover_refused word) (with_item (cover_at line ins word rows)) (opened (record old.draft { names = names'; items = items' }) marks' signals')
  cover_take line ins ns n names' marks' items' signals' a d passed f g rows = record {
    faultless = λ titles model is. λ j. cover_by (among_new n names' marks'.items d titles model is j) ((same_signals titles model is ∙ passed) j);
    after = λ titles model is.
        item_taken titles model middle (middle_of titles model is) (cover_at line ins word rows) (drafts.Cover (record { line = line; ins = ns; name = n })) word n names' marks' items' signals' d
        (refl, numbers_kept mid names' d.keeps ns ins a, (d.numbers_are).0) refl refl refl f g;
  }

  pub latch_stop : (stop : LineStop) → DefineStop mid old.marks.items (word ∷ []) stop → Stops old (latch_refused word) stop
  latch_stop stops.Memory d = λ titles model is. tt
  latch_stop (stops.Refused refusal) d = λ titles model is. ap (λ b. then_some b refusals.Twice) (among_stop refusal d titles model is) ∙ ap Some (sym d.0)

  pub latch_take : (line : ℕ) (input : Word) (k n : ℕ) (names' : List Word) (marks' : Vec Bool) (items' : List DraftItem) (signals' : ℕ) → AreNumbersOf (mid ∷ []) 0 (k ∷ []) (input ∷ []) → Defines mid old.marks.items (word ∷ []) (n ∷ []) names' marks'.items
      → items' ≡ old.draft.items ++ drafts.Latch (record { line = line; input = k; output = n }) ∷ [] → signals' ≡ old.signals + 1
      → Takes old (latch_refused word) (with_item (latch_at line input word)) (opened (record old.draft { names = names'; items = items' }) marks' signals')
  latch_take line input k n names' marks' items' signals' a d f g = record {
    faultless = λ titles model is. ap (λ b. then_some b refusals.Twice) (among_new n names' marks'.items d titles model is);
    after = λ titles model is.
        item_taken titles model middle (middle_of titles model is) (latch_at line input word) (drafts.Latch (record { line = line; input = k; output = n })) word n names' marks' items' signals' d
        (refl, number_kept mid names' d.keeps k input a.0, (d.numbers_are).0) refl refl refl f g;
  }

-- an instance

pub named_first : (line : ℕ) (words : List Word) → first_word words ≡ called_by (record { line = line; words = words })
named_first line [] = refl
named_first line (word ∷ words) = refl

pub words_behind : (ws joins : List (Bor (List ℕ))) → joins ≡ drop 1 ws → drop 1 (words_in ws) ≡ words_in joins
words_behind [] joins e = sym (ap words_in e)
words_behind (w ∷ ws) joins e = sym (ap words_in e)

pub actuals_found : (names words : List Word) (found : Option (List ℕ)) → MatchOption found (list_all is_join words ≡ false) (AreActuals names words) → AreActualsOf names words found
actuals_found names words None a = a
actuals_found names words (Some ns) a = a

pub instance_held : (old : OpenDraft) (titles titles' names' : List Word) (line : ℕ) (words : List Word) (title : Option ℕ) (found : Option (List ℕ)) (joins : List (Bor (List ℕ))) (items' : List DraftItem) (calls' : List Call) (joined' : List (List (Bor (List ℕ))))
    → Keeps titles titles' → IsTitleOf titles' (first_word words) title → Keeps old.draft.names names' → AreActualsOf names' (words_in joins) found → drop 1 words ≡ words_in joins
    → items' ≡ old.draft.items ++ drafts.Instance found ∷ [] → calls' ≡ old.draft.calls ++ record { line = line; title = title } ∷ [] → joined' ≡ old.draft.joined ++ joins ∷ []
    → Holds titles old line words titles' (opened (record old.draft { names = names'; items = items'; calls = calls'; joined = joined' }) old.marks old.signals)
instance_held old titles titles' names' line words title found joins items' calls' joined' t is_title k a w e f g = record {
  keeps = t;
  after = λ model is.
      instance_taken titles' model (opened (record old.draft { names = names' }) old.marks old.signals) (more_names titles model old is titles' names' t k) line words found (record { line = line; title = title }) joins items' calls' joined'
      (subst (λ (ws : List Word). AreActualsOf names' ws found) (sym w) a) refl (subst (λ (o : Option Word). IsTitleOf titles' o title) (named_first line words) is_title) w e f g;
}
