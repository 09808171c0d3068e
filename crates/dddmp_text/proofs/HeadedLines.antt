-- A line before the nodes, by what its first word is.
use Rattle.std.proofs.Common.{◌≡◌, ◌==◌, Bool, true, false, not, ◌||◌, List, [], ◌∷◌, Option, None, codes, length, refl, sym, ◌∙◌, ap, subst, if◌then◌else◌}
use Rattle.std.specs.Bool.{then_some}
use Rattle.std.specs.Option.{option_or}
use Rattle.std.specs.Str.{bytes_eq}
use Rattle.std.proofs.lemmas.Slice.Eq.{bytes_eq-Decides}
use Rattle.job_words.specs.Text.{Word, is_among}
use Rattle.dddmp_text.specs.declared.faults.DddmpStop.{DddmpStop}
use Rattle.dddmp_text.specs.declared.faults.FaultKind.{FaultKind}
use Rattle.dddmp_text.specs.declared.faults.FaultKind.TheVariants as kinds
use Rattle.dddmp_text.specs.declared.fields.Field.{Field}
use Rattle.dddmp_text.specs.declared.fields.Field.TheVariants as fields
use Rattle.dddmp_text.specs.declared.fields.Given.{Given}
use Rattle.dddmp_text.specs.Fields.{all_fields, field_of, is_given, number, passed_words, whole_numbers}
use Rattle.std.specs.List.{list_all, list_any}
use Rattle.dddmp_text.specs.Faults.{Context, after_words, field_fault, heading, is_bad_root, listing, nodes_fault, with_field, words_fault}
use Rattle.dddmp_text.specs.Reading.{HeadsOn, StopIs, has_bad_variable, is_any_other_count}

clash : {A : Type 0} → true ≡ false → A
clash c = cc

-- no word that is passed over is that of a field
abbrev NoFields : List Word → Type 0
NoFields [] = Unit {0}
NoFields (word ∷ words) = (field_of word ≡ None) × NoFields words

among-none : (words : List Word) (word : Word) → NoFields words → is_among words word ≡ true → field_of word ≡ None
among-none [] word none h = clash (sym h)
among-none (known ∷ words) word none h = by_first (bytes_eq word known) refl (among-none words word none.1)
  where
    by_first : (b : Bool) → bytes_eq word known ≡ b → (is_among words word ≡ true → field_of word ≡ None) → field_of word ≡ None
    by_first true e later = ap field_of ((bytes_eq-Decides word known).0 e) ∙ none.0
    by_first false e later = later (ap (λ b. b || is_among words word) (sym e) ∙ h)

passed-none : (word : Word) → is_among passed_words word ≡ true → field_of word ≡ None
passed-none word h = among-none passed_words word (refl, (refl, (refl, (refl, (refl, (refl, tt)))))) h

module _ (given : List Given) where
  -- a line without words
  pub nothing-heads : (words : List Word) → words ≡ [] → HeadsOn given words given false
  nothing-heads words e = record { faultless = ap (words_fault (heading given)) e; leaves = ap (after_words (heading given)) e; whole = λ h. clash (sym h) }

  abbrev fault_by : Bool → Bool → Word → List Word → Option FaultKind
  fault_by is_nodes is_passed word behind =
      if is_nodes then option_or (then_some (not (length behind == 0)) kinds.Header) (nodes_fault given) else
      if is_passed then None else field_fault given (field_of word) behind

  abbrev after_by : Bool → Word → List Word → Context
  after_by is_nodes word behind = if is_nodes then listing given false [] else heading (with_field given (field_of word) behind)

  module _ (words : List Word) (word : Word) (behind : List Word) (cut : words ≡ word ∷ behind) where
    fault-is : (is_nodes is_passed : Bool) → bytes_eq word (codes ".nodes") ≡ is_nodes → is_among passed_words word ≡ is_passed → words_fault (heading given) words ≡ fault_by is_nodes is_passed word behind
    fault-is is_nodes is_passed e f =
        ap (words_fault (heading given)) cut ∙ ap (λ (b : Bool). fault_by b (is_among passed_words word) word behind) e ∙ ap (λ (b : Bool). fault_by is_nodes b word behind) f

    after-is : (is_nodes : Bool) → bytes_eq word (codes ".nodes") ≡ is_nodes → after_words (heading given) words ≡ after_by is_nodes word behind
    after-is is_nodes e = ap (after_words (heading given)) cut ∙ ap (λ (b : Bool). after_by b word behind) e

    -- `.nodes`
    pub nodes-head : bytes_eq word (codes ".nodes") ≡ true → (length behind == 0) ≡ true → nodes_fault given ≡ None → HeadsOn given words given true
    nodes-head e alone whole = record {
      faultless = fault-is true (is_among passed_words word) e refl ∙ ap (λ (b : Bool). option_or (then_some (not b) kinds.Header) (nodes_fault given)) alone ∙ whole;
      leaves = after-is true e;
      whole = λ _. whole;
    }

    pub nodes-stop : (shown : List Given) (stop : DddmpStop) → shown ≡ given → bytes_eq word (codes ".nodes") ≡ true
        → StopIs (option_or (then_some (not (length behind == 0)) kinds.Header) (nodes_fault shown)) stop → StopIs (words_fault (heading given) words) stop
    nodes-stop shown stop same e h =
        subst (λ (fault : Option FaultKind). StopIs fault stop) (sym (fault-is true (is_among passed_words word) e refl))
        (subst (λ (g : List Given). StopIs (option_or (then_some (not (length behind == 0)) kinds.Header) (nodes_fault g)) stop) same h)

    -- a word that is passed over
    pub passed-heads : bytes_eq word (codes ".nodes") ≡ false → is_among passed_words word ≡ true → HeadsOn given words given false
    passed-heads e f = record {
      faultless = fault-is false true e f;
      leaves = after-is false e ∙ ap (λ (field : Option Field). heading (with_field given field behind)) (passed-none word f);
      whole = λ h. clash (sym h);
    }

    -- a field
    pub field-heads : (given' : List Given) → bytes_eq word (codes ".nodes") ≡ false → is_among passed_words word ≡ false → field_fault given (field_of word) behind ≡ None
        → given' ≡ with_field given (field_of word) behind → HeadsOn given words given' false
    field-heads given' e f faultless is = record { faultless = fault-is false false e f ∙ faultless; leaves = after-is false e ∙ ap heading (sym is); whole = λ h. clash (sym h) }

    pub field-stops : (stop : DddmpStop) → bytes_eq word (codes ".nodes") ≡ false → is_among passed_words word ≡ false → StopIs (field_fault given (field_of word) behind) stop → StopIs (words_fault (heading given) words) stop
    field-stops stop e f h = subst (λ (fault : Option FaultKind). StopIs fault stop) (sym (fault-is false false e f)) h

  abbrev nodes_by : Bool → Bool → Bool → Bool → Option FaultKind
  nodes_by all count variable root =
      option_or (then_some (not all) kinds.Missing) (option_or (then_some count kinds.Count) (option_or (then_some variable kinds.Variable) (then_some root kinds.Root)))

  none_of : (all count variable root : Bool) → nodes_by all count variable root ≡ None → (all ≡ true) × (count ≡ false)
  none_of true false variable root h = (refl, refl)
  none_of true true variable root h = cc
  none_of false count variable root h = cc

  -- the lists have the lengths that are said
  pub counts-hold : nodes_fault given ≡ None → is_any_other_count given ≡ false
  counts-hold h =
      (none_of (list_all (is_given given) all_fields) (is_any_other_count given) (has_bad_variable given) (list_any (is_bad_root (number given fields.Nnodes)) (whole_numbers given fields.Rootids)) h).1
