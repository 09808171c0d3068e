-- What holds of each word of the lines holds of each name in the models that they declare.
use Rattle.std.proofs.Common.{◌≡◌, ℕ, ◌==◌, ◌&&◌, Bool, true, false, cond, List, [], ◌∷◌, ◌++◌, codes, drop, Option, Some, None, refl, ap, ◌∙◌, append-nil}
use Rattle.std.specs.Prelude.{if◌then◌else◌, slice_index}
use Rattle.std.specs.Bool.{then_some}
use Rattle.std.specs.List.{list_all}
use Rattle.std.specs.Str.{bytes_eq}
use Rattle.std.proofs.lemmas.Bool.{and_from, and_parts}
use Rattle.std.proofs.lemmas.Grind.{flat_map-append}
use Rattle.std.proofs.lemmas.List.Folds.{list_all-append}
use Rattle.job_words.specs.Classes.{has_bytes, some_word}
use Rattle.job_words.specs.Text.{is_among}
use Rattle.blif_drafts.specs.Latches.{is_ending, latch_of, latch_with}
use Rattle.blif_drafts.specs.OpenDrafts.{named_at}
use Rattle.blif_models.specs.Circuits.{Cover}
use Rattle.blif_models.specs.Models.{Instance, Item, Model, Named, covered, held, latched, names_of}
use Rattle.blif_text.specs.Text.{Line, Word, words_of}
use Rattle.blif_text.specs.Statements.{Statement, directive, left_words, nothing, model, inputs, outputs, names, passed_words, subckt, latch, ends, passed_over, left_out, unknown, row, said, statement_of}
use Rattle.blif_net.specs.Circuits.{Context, after_line, after_statement, at_start, behind, close, with_cover, with_latch}
use Rattle.blif_net.specs.CoverTexts.{last_of, with_row_in}
use Rattle.blif_net.specs.Reading.{words_said}
use Rattle.blif_net.proofs.NoFaults.{all_behind}

pub named_more : (named : List Named) (line : ℕ) (words : List Word) → names_of (named ++ named_at line words ∷ []) ≡ names_of named ++ words
named_more named line words = flat_map-append (λ (one : Named). one.words) named (named_at line words ∷ []) ∙ ap (λ more. names_of named ++ more) (append-nil words)

module _ (p : Word → Bool) where
  -- the words that a line says are its own
  pub said_pass : (words : List Word) → list_all p words ≡ true → list_all p (words_said (statement_of words)) ≡ true
  unfolding statement_of
  said_pass [] h = refl
  said_pass (word ∷ words) h = by_dot (slice_index word 0 == 46)
    where
      rest : list_all p words ≡ true
      rest = (and_parts (p word) (list_all p words) h).1

      by_words : (a b c d e f g i j : Bool) →
          list_all p (words_said
          (cond a (names words) (cond b (inputs words) (cond c (outputs words) (cond d (model words) (cond e (subckt words) (cond f (latch words) (cond g (ends words) (cond i passed_over (cond j left_out unknown)))))))))) ≡ true
      by_words true b c d e f g i j = rest
      by_words false true c d e f g i j = rest
      by_words false false true d e f g i j = rest
      by_words false false false true e f g i j = rest
      by_words false false false false true f g i j = rest
      by_words false false false false false true g i j = rest
      by_words false false false false false false true i j = refl
      by_words false false false false false false false true j = refl
      by_words false false false false false false false false true = refl
      by_words false false false false false false false false false = refl

      by_dot : (b : Bool) → list_all p (words_said (cond b (directive word words) (row (word ∷ words)))) ≡ true
      by_dot true =
          by_words (bytes_eq word (codes ".names")) (bytes_eq word (codes ".inputs")) (bytes_eq word (codes ".outputs")) (bytes_eq word (codes ".model")) (bytes_eq word (codes ".subckt")) (bytes_eq word (codes ".latch"))
          (bytes_eq word (codes ".end")) (is_among passed_words word) (is_among left_words word)
      by_dot false = refl

  -- of the names in an item: a cover's own, unless a faulty line gives it none, a latch's two, and what an instance has behind its model's name
  abbrev pub item_passes : Item → Bool
  item_passes (covered cover) = list_all p (some_word cover.name)
  item_passes (latched one) = p one.input && p one.output
  item_passes (held instance) = list_all p (drop 1 instance.words)

  abbrev pub model_passes : Model → Bool
  model_passes one = list_all p (names_of one.inputs) && (list_all p (names_of one.outputs) && list_all item_passes one.items)

  abbrev cover_passes : Option Cover → Bool
  cover_passes None = true
  cover_passes (Some cover) = list_all p (some_word cover.name)

  -- what lines leave
  pub record WordsPass (c : Context) : Type 0 where
    pub closed : list_all model_passes c.closed ≡ true
    pub inputs : list_all p (names_of c.current.inputs) ≡ true
    pub outputs : list_all p (names_of c.current.outputs) ≡ true
    pub items : list_all item_passes c.current.items ≡ true
    pub cover : cover_passes c.cover ≡ true

  pub current_passes : (c : Context) → WordsPass c → model_passes c.current ≡ true
  current_passes c h =
      let rest = list_all p (names_of c.current.outputs) && list_all item_passes c.current.items in
      and_from (list_all p (names_of c.current.inputs)) rest h.inputs (and_from (list_all p (names_of c.current.outputs)) (list_all item_passes c.current.items) h.outputs h.items)

  passes_start : WordsPass at_start
  passes_start = record { closed = refl; inputs = refl; outputs = refl; items = refl; cover = refl }

  one_more : {X : Type 0} (q : X → Bool) (xs : List X) (x : X) → list_all q xs ≡ true → q x ≡ true → list_all q (xs ++ x ∷ []) ≡ true
  one_more q xs x h k = list_all-append q xs (x ∷ []) ∙ and_from (list_all q xs) (q x && true) h (and_from (q x) true k refl)

  closes : (c : Context) (o : Option Cover) → cover_passes o ≡ true → WordsPass c → WordsPass (record (with_cover c o) { cover = None; begun = true })
  closes c None k h = record { closed = h.closed; inputs = h.inputs; outputs = h.outputs; items = h.items; cover = refl }
  closes c (Some cover) k h = record { closed = h.closed; inputs = h.inputs; outputs = h.outputs; items = one_more item_passes c.current.items (covered cover) h.items k; cover = refl }

  close_passes : (c : Context) → WordsPass c → WordsPass (close c)
  close_passes c h = closes c c.cover h.cover h

  named_pass : (named : List Named) (line : ℕ) (words : List Word) → list_all p (names_of named) ≡ true → list_all p words ≡ true → list_all p (names_of (named ++ named_at line words ∷ [])) ≡ true
  named_pass named line words h k =
      ap (list_all p) (named_more named line words) ∙ list_all-append p (names_of named) words ∙ and_from (list_all p (names_of named)) (list_all p words) h k

  last_passes : (words : List Word) → list_all p words ≡ true → list_all p (some_word (last_of words)) ≡ true
  last_passes [] h = refl
  last_passes (word ∷ []) h = by_bytes (has_bytes word)
    where
      by_bytes : (b : Bool) → list_all p (cond b (word ∷ []) []) ≡ true
      by_bytes true = h
      by_bytes false = refl
  last_passes (word ∷ next ∷ words) h = last_passes (next ∷ words) (and_parts (p word) (list_all p (next ∷ words)) h).1

  row_passes : (o : Option Cover) (words : List Word) → cover_passes o ≡ true → cover_passes (with_row_in o words) ≡ true
  row_passes None words h = refl
  row_passes (Some cover) words h = h

  latch_passes : (c : Context) (line : ℕ) (words : List Word) → list_all p words ≡ true → WordsPass c → WordsPass (with_latch c (latch_of line words))
  latch_passes c line [] k h = h
  latch_passes c line (w ∷ []) k h = h
  latch_passes c line (w ∷ v ∷ ending) k h = by_form (is_ending ending)
    where
      two : (p w && p v) ≡ true
      two =
          let first = and_parts (p w) (list_all p (v ∷ ending)) k in and_from (p w) (p v) first.0 (and_parts (p v) (list_all p ending) first.1).0

      by_form : (b : Bool) → WordsPass (with_latch c (then_some b (latch_with line w v)))
      by_form true = record { closed = h.closed; inputs = h.inputs; outputs = h.outputs; items = one_more item_passes c.current.items (latched (latch_with line w v)) h.items two; cover = h.cover }
      by_form false = h

  begin_passes : (c : Context) (b : Bool) → WordsPass c → list_all model_passes (if b then (close c).closed ++ (close c).current ∷ [] else c.closed) ≡ true
  begin_passes c false h = h.closed
  begin_passes c true h = let k = close_passes c h in one_more model_passes (close c).closed (close c).current k.closed (current_passes (close c) k)

  step_passes : (c : Context) (line : ℕ) (statement : Statement) → list_all p (words_said statement) ≡ true → WordsPass c → WordsPass (after_statement c line statement)
  step_passes c line nothing k h = h
  step_passes c line passed_over k h = close_passes c h
  step_passes c line left_out k h = close_passes c h
  step_passes c line unknown k h = close_passes c h
  step_passes c line (model words) k h = record { closed = begin_passes c c.begun h; inputs = refl; outputs = refl; items = refl; cover = refl }
  step_passes c line (inputs words) k h =
      let d = close_passes c h in record { closed = d.closed; inputs = named_pass (close c).current.inputs line words d.inputs k; outputs = d.outputs; items = d.items; cover = d.cover }
  step_passes c line (outputs words) k h =
      let d = close_passes c h in record { closed = d.closed; inputs = d.inputs; outputs = named_pass (close c).current.outputs line words d.outputs k; items = d.items; cover = d.cover }
  step_passes c line (names words) k h =
      let d = close_passes c h in record { closed = d.closed; inputs = d.inputs; outputs = d.outputs; items = d.items; cover = last_passes words k }
  step_passes c line (subckt words) k h =
      let d = close_passes c h in
      let instance : Instance = record { line = line; words = words } in
      record { closed = d.closed; inputs = d.inputs; outputs = d.outputs; items = one_more item_passes (close c).current.items (held instance) d.items (all_behind p 1 words k); cover = d.cover }
  step_passes c line (latch words) k h = latch_passes (close c) line words k (close_passes c h)
  step_passes c line (ends words) k h = let d = close_passes c h in record { closed = d.closed; inputs = d.inputs; outputs = d.outputs; items = d.items; cover = d.cover }
  step_passes c line (row words) k h = record { closed = h.closed; inputs = h.inputs; outputs = h.outputs; items = h.items; cover = row_passes c.cover words h.cover }

  lines_pass : (c : Context) (lines : List Line) → list_all (λ line. list_all p (words_of line.bytes)) lines ≡ true → WordsPass c → WordsPass (behind c lines)
  unfolding behind
  lines_pass c [] k h = h
  lines_pass c (line ∷ lines) k h =
      let both = and_parts (list_all p (words_of line.bytes)) (list_all (λ (one : Line). list_all p (words_of one.bytes)) lines) k in
      lines_pass (after_line c line) lines both.1 (step_passes c line.number (said line) (said_pass (words_of line.bytes) both.0) h)

  -- of models that are left behind lines
  pub models_pass : (lines : List Line) → list_all (λ line. list_all p (words_of line.bytes)) lines ≡ true → WordsPass (close (behind at_start lines))
  models_pass lines k = close_passes (behind at_start lines) (lines_pass at_start lines k passes_start)
