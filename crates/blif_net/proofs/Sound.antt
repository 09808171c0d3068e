-- Of a text without a fault the circuit is sound, its covers are led back to inputs, and it is within the limits.
use Rattle.std.proofs.Common.{◌≡◌, ℕ, ◌==◌, ◌≤◌, ◌&&◌, Bool, true, false, not, cond, List, [], ◌∷◌, ◌++◌, filter, find, flat_map, length, map, nat_lt, Some, None, option_map, refl, sym, ◌∙◌, arith, length-append}
use Rattle.std.specs.List.{list_all}
use Rattle.std.specs.Option.{option_or}
use Rattle.std.proofs.lemmas.Bool.{and_from, and_parts, ltb-false, not-true}
use Rattle.std.proofs.lemmas.Bool.Decides.{nat_tests}
use Rattle.std.proofs.lemmas.List.{length-map}
use Rattle.std.proofs.lemmas.List.Folds.{list_all-append, list_all-map}
use Rattle.edge_bits.specs.declared.limits.TheConstants.{MOST_OUTPUTS, MOST_SIGNALS, MOST_VARIABLES}
use Rattle.blif_models.specs.Circuits.{Cover, is_settled, is_signal}
use Rattle.blif_models.specs.ModelFaults.{cyclic_line, formal_lines, holding_lines, least, model_lines, too_many_line, twice_lines, undefined_line}
use Rattle.blif_models.specs.Models.{Item, Latch, Model, Named, Use, circuit_from, covers_among, latches_among, names_of, uses_of, uses_on, whole_items}
use Rattle.blif_models.proofs.WithinLimits.{wholes_are_within_limits}
use Rattle.blif_text.specs.Marks.{is_plain}
use Rattle.blif_text.specs.Text.{Line, Word}
use Rattle.blif_wholes.proofs.WholeOnce.{wholes_define_once}
use Rattle.blif_net.specs.declared.faults.FaultKind.TheVariants as kinds
use Rattle.blif_net.specs.Circuits.{at_start, behind, circuit_of, circuit_of_models, close, models_in}
use Rattle.blif_net.specs.Faults.{expanded_fault, fault_at, fault_in, faulty_line, last_number, models_fault, no_outputs}
use Rattle.blif_net.specs.Sound.{ArePlainLines, IsBuildable}
use Rattle.blif_net.proofs.FaultlessModels.{has_few, models_few}
use Rattle.blif_net.proofs.LineWords.{current_passes, model_passes, models_pass}
use Rattle.blif_net.proofs.NoFaults.{all_flat, all_weaker, no_map, none_left, none_listed, none_of, not_so}
use Rattle.blif_net.proofs.PlainWords.{defined_plain}

-- where nothing is wrong with models

pub record AreFaultless (models : List Model) (main : Model) (lines : List Line) : Type 0 where
  pub formal : least (formal_lines models main) ≡ None
  twice : least (twice_lines models main) ≡ None
  few : too_many_line MOST_SIGNALS MOST_VARIABLES models main ≡ None
  defined : undefined_line main (whole_items models main) ≡ None
  settled : cyclic_line main (whole_items models main) ≡ None
  some : no_outputs lines main (whole_items models main) ≡ None

pub faultless_parts : (lines : List Line) (main : Model) (further : List Model) → models_fault lines (main ∷ further) ≡ None → AreFaultless (main ∷ further) main lines
faultless_parts lines main further h =
    let models = main ∷ further in
    let items = whole_items models main in
    let of_models = option_map (fault_at kinds.Model) (least (model_lines models main further)) in
    let of_formals = option_map (fault_at kinds.Formal) (least (formal_lines models main)) in
    let of_twice = option_map (fault_at kinds.Twice) (least (twice_lines models main)) in
    let of_holding = option_map (fault_at kinds.Cycle) (least (holding_lines models main)) in
    let of_many = option_map (fault_at kinds.TooMany) (too_many_line MOST_SIGNALS MOST_VARIABLES models main) in
    let of_whole = expanded_fault lines main items in
    let of_undefined = option_map (fault_at kinds.Undefined) (undefined_line main items) in
    let of_cycles = option_map (fault_at kinds.Cycle) (cyclic_line main items) in
    let a = none_of of_models (option_or of_formals (option_or of_twice (option_or of_holding (option_or of_many of_whole)))) h in
    let b = none_of of_formals (option_or of_twice (option_or of_holding (option_or of_many of_whole))) a.1 in
    let c = none_of of_twice (option_or of_holding (option_or of_many of_whole)) b.1 in
    let d = none_of of_holding (option_or of_many of_whole) c.1 in
    let e = none_of of_many of_whole d.1 in
    let f = none_of of_undefined (option_or of_cycles (no_outputs lines main items)) e.1 in
    let g = none_of of_cycles (no_outputs lines main items) f.1 in
    record {
      formal = no_map (fault_at kinds.Formal) (least (formal_lines models main)) b.0;
      twice = no_map (fault_at kinds.Twice) (least (twice_lines models main)) c.0;
      few = no_map (fault_at kinds.TooMany) (too_many_line MOST_SIGNALS MOST_VARIABLES models main) e.0;
      defined = no_map (fault_at kinds.Undefined) (undefined_line main items) f.0;
      settled = no_map (fault_at kinds.Cycle) (cyclic_line main items) g.0;
      some = g.1;
    }

-- what the whole uses

abbrev on_line : (Word → Bool) → Use → Bool
on_line p one = p one.word

words_pass : (p : Word → Bool) (line : ℕ) (words : List Word) → list_all (on_line p) (uses_on line words) ≡ list_all p words
words_pass p line words = list_all-map (on_line p) (λ (word : Word). record { word = word; line = line }) words

record UsesPass (p : Word → Bool) (main : Model) (items : List Item) : Type 0 where
  outputs : list_all p (names_of main.outputs) ≡ true
  reads : list_all (λ cover. list_all p cover.ins) (covers_among items) ≡ true
  latches : list_all (λ latch. p latch.input) (latches_among items) ≡ true

uses_pass : (p : Word → Bool) (main : Model) (items : List Item) → list_all (on_line p) (uses_of main items) ≡ true → UsesPass p main items
uses_pass p main items h =
    let q = on_line p in
    let of_outputs = flat_map (λ (one : Named). uses_on one.line one.words) main.outputs in
    let of_covers = flat_map (λ (cover : Cover). uses_on cover.line cover.ins) (covers_among items) in
    let of_latches = flat_map (λ (latch : Latch). uses_on latch.line (latch.input ∷ [])) (latches_among items) in
    let one = and_parts (list_all q (of_outputs ++ of_covers)) (list_all q of_latches) (sym (list_all-append q (of_outputs ++ of_covers) of_latches) ∙ h) in
    let two = and_parts (list_all q of_outputs) (list_all q of_covers) (sym (list_all-append q of_outputs of_covers) ∙ one.0) in
    let latches : list_all (λ (latch : Latch). p latch.input && true) (latches_among items) ≡ true =
    sym (all_flat q (λ (latch : Latch). uses_on latch.line (latch.input ∷ [])) (latches_among items)) ∙ one.1 in
    record {
      outputs = all_flat p (λ (one : Named). one.words) main.outputs ∙ sym (λ j. list_all (λ (one : Named). words_pass p one.line one.words j) main.outputs)
          ∙ sym (all_flat q (λ (one : Named). uses_on one.line one.words) main.outputs) ∙ two.0;
      reads = sym (λ j. list_all (λ (cover : Cover). words_pass p cover.line cover.ins j) (covers_among items)) ∙ sym (all_flat q (λ (cover : Cover). uses_on cover.line cover.ins) (covers_among items)) ∙ two.1;
      latches = all_weaker (λ (latch : Latch). p latch.input && true) (λ (latch : Latch). p latch.input) (latches_among items) (λ latch e. (and_parts (p latch.input) true e).0) latches;
    }

-- where every use is of a signal, what covers read and what the circuit shows are signals
pub reads_signals : (main : Model) (items : List Item) → undefined_line main items ≡ None
    → (list_all (λ cover. list_all (is_signal (circuit_from main items)) cover.ins) (circuit_from main items).covers ≡ true) × (list_all (is_signal (circuit_from main items)) (circuit_from main items).outputs ≡ true)
reads_signals main items h =
    let known = is_signal (circuit_from main items) in
    let used = none_left (on_line known) (uses_of main items) (none_listed (λ (one : Use). one.line) (filter (λ (one : Use). not (known one.word)) (uses_of main items)) h) in
    let u = uses_pass known main items used in
    let shown = map (λ (latch : Latch). latch.input) (latches_among items) in (
      u.reads,
      list_all-append known (names_of main.outputs) shown
          ∙ and_from (list_all known (names_of main.outputs)) (list_all known shown) u.outputs (list_all-map known (λ (latch : Latch). latch.input) (latches_among items) ∙ u.latches),
    )

-- the first of some covers that fails a test

none_first : (p : Cover → Bool) (covers : List Cover) → filter p covers ≡ [] → find p covers ≡ None
none_first p [] h = refl
none_first p (cover ∷ covers) h = by_cases (p cover) h (none_first p covers)
  where
    by_cases : (b : Bool) → cond b (cover ∷ filter p covers) (filter p covers) ≡ [] → (filter p covers ≡ [] → find p covers ≡ None) → cond b (Some cover) (find p covers) ≡ None
    by_cases true k more = cc
    by_cases false k more = more k

not_none : (n : ℕ) → (n == 0) ≡ false → 1 ≤ n
not_none n h = grind (arith, nat_tests, h)

main_buildable : (lines : List Line) (main : Model) (further : List Model) → model_passes is_plain main ≡ true → has_few main ≡ true → models_fault lines (main ∷ further) ≡ None
    → IsBuildable (circuit_from main (whole_items (main ∷ further) main))
main_buildable lines main further plain few h =
    let models = main ∷ further in
    let items = whole_items models main in
    let circuit = circuit_from main items in
    let p = faultless_parts lines main further h in
    let signals = reads_signals main items p.defined in
    let shown = map (λ (latch : Latch). latch.input) (latches_among items) in
    let read = map (λ (latch : Latch). latch.output) (latches_among items) in
    let within = wholes_are_within_limits models main p.few in
    let own : length (names_of main.outputs) ≤ MOST_OUTPUTS = ltb-false MOST_OUTPUTS (length (names_of main.outputs)) (not-true (nat_lt MOST_OUTPUTS (length (names_of main.outputs))) few) in
    record {
      sound = record {
        once = wholes_define_once models main (defined_plain models main plain) p.formal p.twice;
        reads = signals.0;
        shows = signals.1;
      };
      settled = none_first (λ (cover : Cover). not (is_settled circuit cover)) circuit.covers
          (none_listed (λ (cover : Cover). cover.line) (filter (λ (cover : Cover). not (is_settled circuit cover)) circuit.covers) p.settled);
      within = within;
      outputs = omega (
        arith,
        own,
        within.inputs,
        length-append (names_of main.inputs) read,
        length-map (latches_among items) (λ (latch : Latch). latch.output),
        length-append (names_of main.outputs) shown,
        length-map (latches_among items) (λ (latch : Latch). latch.input),
      );
      some = not_none (length circuit.outputs) (not_so (length circuit.outputs == 0) (fault_at kinds.NoOutputs (last_number lines)) p.some);
    }

models_buildable : (lines : List Line) (closed : List Model) (current : Model) → list_all (model_passes is_plain) closed ≡ true → model_passes is_plain current ≡ true → list_all has_few closed ≡ true → has_few current ≡ true
    → models_fault lines (closed ++ current ∷ []) ≡ None → IsBuildable (circuit_of_models (closed ++ current ∷ []))
models_buildable lines [] current plain last few own h = main_buildable lines current [] last own h
models_buildable lines (main ∷ closed) current plain last few own h =
    main_buildable lines main (closed ++ current ∷ []) (and_parts (model_passes is_plain main) (list_all (model_passes is_plain) closed) plain).0 (and_parts (has_few main) (list_all has_few closed) few).0 h

pub buildable : (lines : List Line) → ArePlainLines lines → fault_in lines ≡ None → IsBuildable (circuit_of lines)
buildable lines plain h =
    let c = close (behind at_start lines) in
    let both = none_of (faulty_line at_start lines) (models_fault lines (models_in (behind at_start lines))) h in
    let p = models_pass is_plain lines plain in
    let f = models_few lines both.0 in
    models_buildable lines c.closed c.current p.closed (current_passes is_plain c p) f.closed f.current both.1
