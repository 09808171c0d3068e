-- Lines of one model without latches and instances: by the definitions for one model and by those for several, they leave the same and have
-- the same fault.
use Rattle.std.proofs.Common.{◌≡◌, ℕ, ◌+◌, ◌≤◌, ◌&&◌, Bool, true, not, cond, List, [], ◌∷◌, ◌++◌, length, map, flat_map, nat_lt, Option, Some, None, option_map, option_to_list, refl, ap, sym, ◌∙◌, subst, append-nil, arith, length-append}
use Rattle.std.specs.List.{list_all}
use Rattle.std.specs.Option.{option_or}
use Rattle.std.specs.Bool.{then_some}
use Rattle.std.proofs.lemmas.Bool.{and_from, and_parts, ltb-false}
use Rattle.std.proofs.lemmas.List.{length-map, map-append}
use Rattle.std.proofs.lemmas.List.Concat.{flat_map_single}
use Rattle.std.proofs.lemmas.List.Folds.{flat_map-map, list_all-append}
use Rattle.edge_bits.specs.declared.limits.TheConstants.{MOST_OUTPUTS, MOST_SIGNALS, MOST_VARIABLES}
use Rattle.job_words.specs.Text.{is_among}
use Rattle.blif_drafts.specs.Signals.{defined_by}
use Rattle.blif_models.specs.Circuits.{Cover, defined_in, some_again}
use Rattle.blif_models.specs.Models.{covered, names_of}
use Rattle.blif_net.specs.declared.faults.FaultKind.TheVariants as kinds
use Rattle.blif_text.specs.Text.{Word, Line, is_allowed}
use Rattle.blif_text.specs.Statements.{Statement, nothing, model, inputs, outputs, names, subckt, latch, ends, passed_over, left_out, unknown, row, said}
use Rattle.blif_net.specs.PlainTexts.{Context, after_line, after_statement, at_start, behind, close, covers_in, end_fault, fault_on, faulty_line, inputs_fault, line_fault, names_fault, open_fault, signals_in, uses, begins_plainly, is_of_one_model, is_plain, is_plain_statement}
use Rattle.blif_net.specs.CoverTexts.{cover_at, last_of, with_row, with_row_in, rows_fault}
use Rattle.blif_net.specs.Circuits as several
use Rattle.blif_net.specs.Faults as several_faults
use Rattle.blif_net.proofs.Distinct.{closed_same, row_same}
use Rattle.blif_net.proofs.Faultless.{kept_behind}
use Rattle.blif_net.proofs.NoFaults.{none_of, not_so}
use Rattle.blif_net.proofs.LineWords.{named_more}

-- The one leaves what the other does, and no model is closed.
pub record Agree (c : Context) (d : several.Context) : Type 0 where
  pub closed : d.closed ≡ []
  pub inputs : names_of d.current.inputs ≡ c.inputs
  pub outputs : names_of d.current.outputs ≡ c.outputs
  pub items : d.current.items ≡ map covered c.closed
  pub cover : d.cover ≡ c.current
  pub ended : d.ended ≡ c.ended

start : Agree at_start several.at_start
start = record { closed = refl; inputs = refl; outputs = refl; items = refl; cover = refl; ended = refl }

-- a cover that is closed becomes an item
closes : (c : Context) (d : several.Context) (o : Option Cover) → d.cover ≡ o → Agree c d → Agree (close c) (record (several.with_cover d o) { cover = None; begun = true })
closes c d None e a = record {
  closed = a.closed;
  inputs = a.inputs;
  outputs = a.outputs;
  items = a.items ∙ ap (map covered) (sym (append-nil c.closed) ∙ ap (λ (o : Option Cover). c.closed ++ option_to_list o) (sym e ∙ a.cover));
  cover = refl;
  ended = a.ended;
}
closes c d (Some cover) e a = record {
  closed = a.closed;
  inputs = a.inputs;
  outputs = a.outputs;
  items = ap (λ before. before ++ covered cover ∷ []) a.items ∙ sym (map-append covered c.closed (cover ∷ [])) ∙ ap (λ (o : Option Cover). map covered (c.closed ++ option_to_list o)) (sym e ∙ a.cover);
  cover = refl;
  ended = a.ended;
}

pub close_agrees : (c : Context) (d : several.Context) → Agree c d → Agree (close c) (several.close d)
close_agrees c d a = closes c d d.cover refl a

step : (c : Context) (d : several.Context) (line : ℕ) (statement : Statement) → is_plain_statement statement ≡ true → Agree c d → Agree (after_statement c line statement) (several.after_statement d line statement)
step c d line nothing h a = a
step c d line (inputs words) h a =
    let k = close_agrees c d a in
    record { closed = k.closed; inputs = named_more (several.close d).current.inputs line words ∙ ap (λ before. before ++ words) k.inputs; outputs = k.outputs; items = k.items; cover = k.cover; ended = k.ended }
step c d line (outputs words) h a =
    let k = close_agrees c d a in
    record { closed = k.closed; inputs = k.inputs; outputs = named_more (several.close d).current.outputs line words ∙ ap (λ before. before ++ words) k.outputs; items = k.items; cover = k.cover; ended = k.ended }
step c d line (names words) h a =
    let k = close_agrees c d a in
    record { closed = k.closed; inputs = k.inputs; outputs = k.outputs; items = k.items; cover = refl; ended = k.ended }
step c d line (row words) h a = record { closed = a.closed; inputs = a.inputs; outputs = a.outputs; items = a.items; cover = ap (λ o. with_row_in o words) a.cover; ended = a.ended }
step c d line (ends words) h a =
    let k = close_agrees c d a in
    record { closed = k.closed; inputs = k.inputs; outputs = k.outputs; items = k.items; cover = k.cover; ended = refl }
step c d line passed_over h a = close_agrees c d a
step c d line (model words) h a = cc
step c d line (subckt words) h a = cc
step c d line (latch words) h a = cc
step c d line left_out h a = cc
step c d line unknown h a = cc

-- faults

signals_same : (c : Context) (d : several.Context) → Agree c d → several_faults.signals_in d ≡ signals_in c
signals_same c d a =
    let covers = covers_in c in
    let defined : flat_map defined_by (several.close d).current.items ≡ defined_in covers =
    ap (flat_map defined_by) (close_agrees c d a).items ∙ flat_map-map defined_by covered covers ∙ flat_map_single (λ (cover : Cover). cover.name) covers in
    λ j. a.inputs j ++ defined j

open_same : (c : Context) (d : several.Context) (line : ℕ) (statement : Statement) → is_plain_statement statement ≡ true → Agree c d → several_faults.open_fault d line statement ≡ open_fault c statement
open_same c d line nothing h a = refl
open_same c d line (inputs words) h a =
    let signals = signals_same c d a in
    λ j. option_or (then_some (some_again (signals j) words) kinds.Twice)
    (option_or (then_some (nat_lt MOST_VARIABLES (length (a.inputs j) + length words)) kinds.TooMany) (then_some (nat_lt MOST_SIGNALS (length (signals j) + length words)) kinds.TooMany))
open_same c d line (outputs words) h a = ap (λ (before : List Word). then_some (nat_lt MOST_OUTPUTS (length before + length words)) kinds.TooMany) a.outputs
open_same c d line (names []) h a = refl
open_same c d line (names (word ∷ words)) h a =
    ap (λ (signals : List Word). option_or (then_some (is_among signals (last_of (word ∷ words))) kinds.Twice) (then_some (nat_lt MOST_SIGNALS (length signals + 1)) kinds.TooMany)) (signals_same c d a)
open_same c d line (row words) h a = ap (λ (o : Option Cover). rows_fault o words) a.cover
open_same c d line (ends []) h a = refl
open_same c d line (ends (word ∷ words)) h a = refl
open_same c d line passed_over h a = refl
open_same c d line (model words) h a = cc
open_same c d line (subckt words) h a = cc
open_same c d line (latch words) h a = cc
open_same c d line left_out h a = cc
open_same c d line unknown h a = cc

end_same : (statement : Statement) → is_plain_statement statement ≡ true → several_faults.end_fault statement ≡ end_fault statement
end_same nothing h = refl
end_same (model words) h = cc
end_same _ h = refl

line_same : (c : Context) (d : several.Context) (line : Line) → is_plain line ≡ true → Agree c d → several_faults.line_fault d line ≡ line_fault c line
unfolding several_faults.line_fault line_fault
line_same c d line h a = λ j. cond (not (list_all is_allowed line.bytes)) (Some kinds.Word) (cond (a.ended j) (end_same (said line) h j) (open_same c d line.number (said line) h a j))

faulty_same : (c : Context) (d : several.Context) (lines : List Line) → list_all is_plain lines ≡ true → Agree c d → several_faults.faulty_line d lines ≡ faulty_line c lines
unfolding several_faults.faulty_line faulty_line
faulty_same c d [] h a = refl
faulty_same c d (line ∷ lines) h a =
    let both = and_parts (is_plain line) (list_all is_plain lines) h in
    let here = line_same c d line both.0 a in
    let rest = faulty_same (after_line c line) (several.after_line d line) lines both.1 (step c d line.number (said line) both.0 a) in
    λ j. option_or (option_map (fault_on line) (here j)) (rest j)

left_behind : (c : Context) (d : several.Context) (lines : List Line) → list_all is_plain lines ≡ true → Agree c d → Agree (behind c lines) (several.behind d lines)
unfolding several.behind behind
left_behind c d [] h a = a
left_behind c d (line ∷ lines) h a =
    let both = and_parts (is_plain line) (list_all is_plain lines) h in
    left_behind (after_line c line) (several.after_line d line) lines both.1 (step c d line.number (said line) both.0 a)

-- the first line, which may be a `.model`

first_step : (line : ℕ) (statement : Statement) → begins_plainly statement ≡ true → Agree (after_statement at_start line statement) (several.after_statement several.at_start line statement)
first_step line (model words) h = record { closed = refl; inputs = refl; outputs = refl; items = refl; cover = refl; ended = refl }
first_step line statement h = step at_start several.at_start line statement h start

first_open : (line : ℕ) (statement : Statement) → begins_plainly statement ≡ true → several_faults.open_fault several.at_start line statement ≡ open_fault at_start statement
first_open line (model words) h = refl
first_open line statement h = open_same at_start several.at_start line statement h start

first_line : (line : Line) → begins_plainly (said line) ≡ true → several_faults.line_fault several.at_start line ≡ line_fault at_start line
unfolding several_faults.line_fault line_fault
first_line line h = λ j. cond (not (list_all is_allowed line.bytes)) (Some kinds.Word) (first_open line.number (said line) h j)

pub plain_faults : (lines : List Line) → is_of_one_model lines ≡ true → several_faults.faulty_line several.at_start lines ≡ faulty_line at_start lines
unfolding several_faults.faulty_line faulty_line
plain_faults [] h = refl
plain_faults (line ∷ lines) h =
    let both = and_parts (begins_plainly (said line)) (list_all is_plain lines) h in
    let here = first_line line both.0 in
    let rest = faulty_same (after_line at_start line) (several.after_line several.at_start line) lines both.1 (first_step line.number (said line) both.0) in
    λ j. option_or (option_map (fault_on line) (here j)) (rest j)

pub plain_left : (lines : List Line) → is_of_one_model lines ≡ true → Agree (behind at_start lines) (several.behind several.at_start lines)
unfolding several.behind behind
plain_left [] h = start
plain_left (line ∷ lines) h =
    let both = and_parts (begins_plainly (said line)) (list_all is_plain lines) h in
    left_behind (after_line at_start line) (several.after_line several.at_start line) lines both.1 (first_step line.number (said line) both.0)

-- Inputs and signals of lines without a fault are within the limits.
pub record AreFew (c : Context) : Type 0 where
  pub inputs : length c.inputs ≤ MOST_VARIABLES
  pub signals : length (signals_in c) ≤ MOST_SIGNALS

closed_few : (c : Context) → AreFew c → AreFew (close c)
closed_few c few = record { inputs = few.inputs; signals = subst (λ (t : List Word). length (c.inputs ++ t) ≤ MOST_SIGNALS) (sym (closed_same c)) few.signals }

names_few : (c : Context) (line : ℕ) (words : List Word) → names_fault c words ≡ None → AreFew c → AreFew (after_statement c line (names words))
names_few c line [] h few = cc
names_few c line (word ∷ words) h few =
    let both = none_of (then_some (is_among (signals_in c) (last_of (word ∷ words))) kinds.Twice) (then_some (nat_lt MOST_SIGNALS (length (signals_in c) + 1)) kinds.TooMany) h in
    let fits = ltb-false MOST_SIGNALS (length (signals_in c) + 1) (not_so (nat_lt MOST_SIGNALS (length (signals_in c) + 1)) kinds.TooMany both.1) in
    let covers = covers_in c ++ cover_at line (word ∷ words) ∷ [] in
    record {
      inputs = few.inputs;
      signals = omega (
        arith,
        fits,
        length-append c.inputs (defined_in (covers_in c)),
        length-map (covers_in c) (λ (cover : Cover). cover.name),
        length-append c.inputs (defined_in covers),
        length-map covers (λ (cover : Cover). cover.name),
        length-append (covers_in c) (cover_at line (word ∷ words) ∷ []),
      );
    }

inputs_few : (c : Context) (line : ℕ) (words : List Word) → inputs_fault c words ≡ None → AreFew c → AreFew (after_statement c line (inputs words))
inputs_few c line words h few =
    let many = then_some (nat_lt MOST_VARIABLES (length c.inputs + length words)) kinds.TooMany in
    let too = then_some (nat_lt MOST_SIGNALS (length (signals_in c) + length words)) kinds.TooMany in
    let both = none_of many too (none_of (then_some (some_again (signals_in c) words) kinds.Twice) (option_or many too) h).1 in
    let inputs_fit = ltb-false MOST_VARIABLES (length c.inputs + length words) (not_so (nat_lt MOST_VARIABLES (length c.inputs + length words)) kinds.TooMany both.0) in
    let signals_fit = ltb-false MOST_SIGNALS (length (signals_in c) + length words) (not_so (nat_lt MOST_SIGNALS (length (signals_in c) + length words)) kinds.TooMany both.1) in
    record {
      inputs = omega (arith, inputs_fit, length-append c.inputs words);
      signals = omega (
        arith,
        signals_fit,
        length-append c.inputs words,
        length-append c.inputs (defined_in (covers_in c)),
        length-append (c.inputs ++ words) (defined_in (covers_in (close c))),
        ap length (closed_same c),
      );
    }

-- a flag of a context limits nothing
flags_few : (c : Context) (modelled ended : Bool) → AreFew c → AreFew (record c { modelled = modelled; ended = ended })
flags_few c modelled ended few = record { inputs = few.inputs; signals = few.signals }

few_step : (c : Context) (line : ℕ) (statement : Statement) → open_fault c statement ≡ None → AreFew c → AreFew (after_statement c line statement)
few_step c line nothing h few = few
few_step c line (inputs words) h few = inputs_few c line words h few
few_step c line (names words) h few = names_few c line words h few
few_step c line (row words) h few = record { inputs = few.inputs; signals = subst (λ (t : List Word). length (c.inputs ++ t) ≤ MOST_SIGNALS) (sym (row_same c.closed c.current words)) few.signals }
few_step c line (model words) h few = flags_few (close c) true c.ended (closed_few c few)
few_step c line (ends words) h few = flags_few (close c) c.modelled true (closed_few c few)
few_step c line (outputs words) h few = record { inputs = (closed_few c few).inputs; signals = (closed_few c few).signals }
few_step c line passed_over h few = closed_few c few
few_step c line (subckt words) h few = closed_few c few
few_step c line (latch words) h few = closed_few c few
few_step c line left_out h few = closed_few c few
few_step c line unknown h few = closed_few c few

pub few_behind : (lines : List Line) → faulty_line at_start lines ≡ None → AreFew (behind at_start lines)
few_behind lines h = kept_behind AreFew few_step at_start lines h (record { inputs = omega arith; signals = omega arith })

-- what lines use

abbrev pub reads_pass : (Word → Bool) → List Cover → Bool
reads_pass p covers = list_all (λ cover. list_all p cover.ins) covers

-- Outputs, and what covers read, pass a test.
pub record UsesPass (p : Word → Bool) (c : Context) : Type 0 where
  pub outputs : list_all p c.outputs ≡ true
  pub reads : reads_pass p (covers_in c) ≡ true

closed_pass : (p : Word → Bool) (c : Context) → UsesPass p c → UsesPass p (close c)
closed_pass p c u = record { outputs = u.outputs; reads = ap (reads_pass p) (append-nil (covers_in c)) ∙ u.reads }

row_pass : (p : Word → Bool) (closed : List Cover) (o : Option Cover) (words : List Word) → reads_pass p (closed ++ option_to_list o) ≡ true → reads_pass p (closed ++ option_to_list (with_row_in o words)) ≡ true
row_pass p closed None words h = h
row_pass p closed (Some cover) words h =
    list_all-append (λ (one : Cover). list_all p one.ins) closed (with_row cover words ∷ []) ∙ sym (list_all-append (λ (one : Cover). list_all p one.ins) closed (cover ∷ [])) ∙ h

pass_step : (p : Word → Bool) (c : Context) (line : ℕ) (statement : Statement) → list_all p (uses statement) ≡ true → UsesPass p c → UsesPass p (after_statement c line statement)
pass_step p c line nothing h u = u
pass_step p c line (outputs words) h u = record { outputs = list_all-append p c.outputs words ∙ and_from (list_all p c.outputs) (list_all p words) u.outputs h; reads = (closed_pass p c u).reads }
pass_step p c line (names words) h u = record {
  outputs = u.outputs;
  reads = list_all-append (λ (one : Cover). list_all p one.ins) (covers_in c) (cover_at line words ∷ [])
      ∙ and_from (reads_pass p (covers_in c)) (list_all p (cover_at line words).ins && true) u.reads (and_from (list_all p (cover_at line words).ins) true h refl);
}
pass_step p c line (row words) h u = record { outputs = u.outputs; reads = row_pass p c.closed c.current words u.reads }
pass_step p c line (model words) h u = record { outputs = u.outputs; reads = (closed_pass p c u).reads }
pass_step p c line (inputs words) h u = record { outputs = u.outputs; reads = (closed_pass p c u).reads }
pass_step p c line (ends words) h u = record { outputs = u.outputs; reads = (closed_pass p c u).reads }
pass_step p c line passed_over h u = closed_pass p c u
pass_step p c line (subckt words) h u = closed_pass p c u
pass_step p c line (latch words) h u = closed_pass p c u
pass_step p c line left_out h u = closed_pass p c u
pass_step p c line unknown h u = closed_pass p c u

pub pass_behind : (p : Word → Bool) (c : Context) (lines : List Line) → list_all (λ line. list_all p (uses (said line))) lines ≡ true → UsesPass p c → UsesPass p (behind c lines)
unfolding behind
pass_behind p c [] h u = u
pass_behind p c (line ∷ lines) h u =
    let both = and_parts (list_all p (uses (said line))) (list_all (λ line. list_all p (uses (said line))) lines) h in
    pass_behind p (after_line c line) lines both.1 (pass_step p c line.number (said line) both.0 u)
