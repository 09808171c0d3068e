-- The text of a circuit that can be written has no fault, and is that of a network, with the circuit's inputs.
use Rattle.std.proofs.Common.{◌≡◌, ℕ, zero, suc, ◌+◌, ◌≤◌, ◌==◌, ◌&&◌, not, Bool, true, false, cond, List, [], ◌∷◌, ◌++◌, codes, length, map, Some, None, inl, inr, refl, ap, sym, ◌∙◌, subst, arith, append_assoc, append-nil, length-append}
use Rattle.std.specs.Prelude.{◌⊎◌, find, option_map}
use Rattle.std.specs.List.{flat_map, list_all, list_any}
use Rattle.std.specs.Option.{option_or}
use Rattle.std.specs.Str.{bytes_eq}
use Rattle.std.proofs.lemmas.Bool.{and_from, and_parts, or_left, or_right}
use Rattle.std.proofs.lemmas.Bool.Decides.{nat_tests}
use Rattle.std.proofs.lemmas.List.{map-append}
use Rattle.std.proofs.lemmas.List.Folds.{list_all-append, list_any-append}
use Rattle.std.proofs.lemmas.Slice.Eq.{bytes_eq-Decides}
use Rattle.job_words.specs.Text.{is_among}
use Rattle.blif_net.specs.declared.faults.FaultKind.TheVariants as kinds
use Rattle.cover_nets.specs.declared.net.Net.{Net}
use Rattle.blif_text.specs.Text.{Word, Line, joined_lines, line_at}
use Rattle.blif_models.specs.Circuits.{Circuit, Cover, Row, defined_in, is_settled, is_signal, settles}
use Rattle.blif_text.specs.Statements.{Statement, row, said, statement_of}
use Rattle.blif_wholes.proofs.Words.{among_front}
use Rattle.blif_net.specs.PlainTexts.{begins_plainly, cycle_at, cyclic_cover, fault_on, is_of_one_model, is_plain_statement, uses}
use Rattle.blif_net.specs.PlainTexts as one_model
use Rattle.blif_net.specs.Circuits.{circuit_of}
use Rattle.blif_net.specs.Faults.{fault_in, fault_of, last_number}
use Rattle.blif_net.specs.Networks.{IsBlifText}
use Rattle.blif_net.proofs.Completeness.{faultless_net}
use Rattle.blif_net.proofs.Distinct.{true_or}
use Rattle.blif_net.proofs.Fronts.{front_is}
use Rattle.blif_net.proofs.NoFaults.{all_weaker, none_failing}
use Rattle.blif_net.proofs.PlainTexts.{plain_texts_agree}
use Rattle.blif_dump.specs.Lines.{line_with, text_of}
use Rattle.blif_net.proofs.Written.{ArePlain, is_plain_word, lines_read, numbered, said_written}
use Rattle.blif_net.proofs.WrittenCircuits.{AreNextCovers, AreRowsFor, IsNextCover, IsWritable, as_placed, circuit_lines, circuit_read, cover_lines, names_plain, names_said, placed, row_plain, row_said, row_words}

-- the circuit's lines are plain
rows_plain : (ins : ℕ) (output : Bool) (rows : List Row) → AreRowsFor ins output rows → list_all (list_all is_plain_word) (map row_words rows) ≡ true
rows_plain ins output [] h = refl
rows_plain ins output (one ∷ rows) h =
    and_from (list_all is_plain_word (row_words one)) (list_all (list_all is_plain_word) (map row_words rows)) (row_plain one.literals one.output (h.0).literals) (rows_plain ins output rows h.1)

covers_plain : (signals : List Word) (covers : List Cover) → AreNextCovers signals covers → list_all (list_all is_plain_word) (flat_map cover_lines covers) ≡ true
covers_plain signals [] h = refl
covers_plain signals (cover ∷ covers) h =
    list_all-append (list_all is_plain_word) (cover_lines cover) (flat_map cover_lines covers)
    ∙ and_from (list_all (list_all is_plain_word) (cover_lines cover)) (list_all (list_all is_plain_word) (flat_map cover_lines covers))
    (and_from (list_all is_plain_word (codes ".names" ∷ (cover.ins ++ cover.name ∷ []))) (list_all (list_all is_plain_word) (map row_words cover.rows))
    (names_plain signals cover h.0) (rows_plain (length cover.ins) (h.0).output cover.rows (h.0).rows))
    (covers_plain (signals ++ cover.name ∷ []) covers h.1)

circuit_plain : (name : Word) (circuit : Circuit) → IsWritable name circuit → ArePlain (circuit_lines name circuit)
circuit_plain name circuit h =
    let end : List (List Word) = (codes ".end" ∷ []) ∷ [] in
    let plain = list_all is_plain_word in
    let lines = flat_map cover_lines circuit.covers ++ end in
    let all : list_all plain lines ≡ true =
    list_all-append plain (flat_map cover_lines circuit.covers) end ∙ and_from (list_all plain (flat_map cover_lines circuit.covers)) true (covers_plain circuit.inputs circuit.covers h.next) refl in
    let outs : list_all plain ((codes ".outputs" ∷ circuit.outputs) ∷ lines) ≡ true = and_from (plain circuit.outputs) (list_all plain lines) h.outputs_plain all in
    let ins : list_all plain ((codes ".inputs" ∷ circuit.inputs) ∷ (codes ".outputs" ∷ circuit.outputs) ∷ lines) ≡ true =
    and_from (plain circuit.inputs) (list_all plain ((codes ".outputs" ∷ circuit.outputs) ∷ lines)) h.inputs_plain outs in
    and_from (is_plain_word name && true) (list_all plain ((codes ".inputs" ∷ circuit.inputs) ∷ (codes ".outputs" ∷ circuit.outputs) ∷ lines)) (and_from (is_plain_word name) true h.name_plain refl) ins

-- what lines use
abbrev fit : (Word → Bool) → List Word → Bool
fit p words = list_all p (uses (statement_of words))

rows_say : (q : Statement → Bool) → ((words : List Word) → q (row words) ≡ true) → (ins : ℕ) (output : Bool) (rows : List Row) → AreRowsFor ins output rows → list_all (λ words. q (statement_of words)) (map row_words rows) ≡ true
rows_say q passes ins output [] h = refl
rows_say q passes ins output (one ∷ rows) h =
    and_from (q (statement_of (row_words one))) (list_all (λ words. q (statement_of words)) (map row_words rows))
    (ap q (row_said one.literals one.output (h.0).literals) ∙ passes (row_words one)) (rows_say q passes ins output rows h.1)

covers_fit : (p : Word → Bool) (signals : List Word) (covers : List Cover) → AreNextCovers signals covers → ((z : Word) → is_among (signals ++ defined_in covers) z ≡ true → p z ≡ true) → list_all (fit p) (flat_map cover_lines covers) ≡ true
covers_fit p signals [] h known = refl
covers_fit p signals (cover ∷ covers) h known =
    let words = cover.ins ++ cover.name ∷ [] in
    list_all-append (fit p) (cover_lines cover) (flat_map cover_lines covers)
    ∙ and_from (list_all (fit p) (cover_lines cover)) (list_all (fit p) (flat_map cover_lines covers))
    (and_from (fit p (codes ".names" ∷ words)) (list_all (fit p) (map row_words cover.rows))
    (ap (λ s. list_all p (uses s)) (names_said words) ∙ ap (list_all p) (front_is cover.ins cover.name).0
    ∙ all_weaker (is_among signals) p cover.ins (λ z e. known z (among_front signals (defined_in (cover ∷ covers)) z e)) (h.0).reads)
    (rows_say (λ s. list_all p (uses s)) (λ words. refl) (length cover.ins) (h.0).output cover.rows (h.0).rows))
    (covers_fit p (signals ++ cover.name ∷ []) covers h.1 (λ z e. known z (ap (λ (t : List Word). is_among t z) (sym (append_assoc signals (cover.name ∷ []) (defined_in covers))) ∙ e)))

circuit_fits : (p : Word → Bool) (name : Word) (circuit : Circuit) → IsWritable name circuit → ((z : Word) → is_signal circuit z ≡ true → p z ≡ true) → list_all (fit p) (circuit_lines name circuit) ≡ true
unfolding statement_of
circuit_fits p name circuit h known =
    let end : List (List Word) = (codes ".end" ∷ []) ∷ [] in
    let lines = flat_map cover_lines circuit.covers ++ end in
    and_from (list_all p circuit.outputs) (list_all (fit p) lines) (all_weaker (is_signal circuit) p circuit.outputs known h.named)
    (list_all-append (fit p) (flat_map cover_lines circuit.covers) end ∙ and_from (list_all (fit p) (flat_map cover_lines circuit.covers)) true (covers_fit p circuit.inputs circuit.covers h.next known) refl)

-- what written lines say
numbered_say : (q : Statement → Bool) (number : ℕ) (lines : List (List Word)) → ArePlain lines → list_all (λ words. q (statement_of words)) lines ≡ true → list_all (λ line. q (said line)) (numbered number lines) ≡ true
numbered_say q number [] plain h = refl
numbered_say q number (words ∷ lines) plain h =
    let own = and_parts (list_all is_plain_word words) (list_all (list_all is_plain_word) lines) plain in
    let both = and_parts (q (statement_of words)) (list_all (λ words. q (statement_of words)) lines) h in
    and_from (q (said (line_at number (line_with words)))) (list_all (λ line. q (said line)) (numbered (number + 1) lines))
    (ap q (said_written number words own.0) ∙ both.0) (numbered_say q (number + 1) lines own.1 both.1)

defined_placed : (number : ℕ) (covers : List Cover) → defined_in (placed number covers) ≡ defined_in covers
defined_placed number [] = refl
defined_placed number (cover ∷ covers) = ap (λ t. cover.name ∷ t) (defined_placed (number + (1 + length cover.rows)) covers)

signal_placed : (circuit : Circuit) (z : Word) → is_signal circuit z ≡ true → is_signal (as_placed circuit) z ≡ true
signal_placed circuit z e = ap (λ (defined : List Word). is_among (circuit.inputs ++ defined) z) (defined_placed 4 circuit.covers) ∙ e

-- covers in an order are led back to inputs
pub next_placed : (signals : List Word) (number : ℕ) (covers : List Cover) → AreNextCovers signals covers → AreNextCovers signals (placed number covers)
next_placed signals number [] h = tt
next_placed signals number (cover ∷ covers) h = (
  record { reads = (h.0).reads; fresh = (h.0).fresh; ins_plain = (h.0).ins_plain; name_plain = (h.0).name_plain; output = (h.0).output; rows = (h.0).rows },
  next_placed (signals ++ cover.name ∷ []) (number + (1 + length cover.rows)) covers h.1,
)

-- the signals so far are led back through as many covers as there are, or more
abbrev AreLed : Circuit → List Cover → Type 0
AreLed circuit front = (n : ℕ) → length front ≤ n → (z : Word) → is_among (circuit.inputs ++ defined_in front) z ≡ true → settles circuit n z ≡ true

one_led : (circuit : Circuit) (front : List Cover) (cover : Cover) (covers : List Cover) → circuit.covers ≡ front ++ cover ∷ covers → IsNextCover (circuit.inputs ++ defined_in front) cover → AreLed circuit front
    → (n : ℕ) → length front + 1 ≤ n → settles circuit n cover.name ≡ true
unfolding settles
one_led circuit front cover covers all h led zero few = absurd (omega (arith, few))
one_led circuit front cover covers all h led (suc n) few =
    let test : Cover → Bool = λ one. bytes_eq cover.name one.name && list_all (settles circuit n) one.ins in
    let own : test cover ≡ true =
    and_from (bytes_eq cover.name cover.name) (list_all (settles circuit n) cover.ins) ((bytes_eq-Decides cover.name cover.name).1 refl)
    (all_weaker (is_among (circuit.inputs ++ defined_in front)) (settles circuit n) cover.ins (led n (omega (arith, few))) h.reads) in
    or_right (is_among circuit.inputs cover.name) (list_any test circuit.covers)
    (ap (list_any test) all ∙ list_any-append test front (cover ∷ covers) ∙ or_right (list_any test front) (list_any test (cover ∷ covers)) (or_left (test cover) (list_any test covers) own))

more_signals : (circuit : Circuit) (front : List Cover) (cover : Cover) → circuit.inputs ++ defined_in (front ++ cover ∷ []) ≡ (circuit.inputs ++ defined_in front) ++ cover.name ∷ []
more_signals circuit front cover =
    ap (λ (defined : List Word). circuit.inputs ++ defined) (map-append (λ (one : Cover). one.name) front (cover ∷ []))
    ∙ sym (append_assoc circuit.inputs (defined_in front) (cover.name ∷ []))

all_settled : (circuit : Circuit) (front covers : List Cover) → circuit.covers ≡ front ++ covers → AreNextCovers (circuit.inputs ++ defined_in front) covers → AreLed circuit front → list_all (is_settled circuit) covers ≡ true
all_settled circuit front [] all h led = refl
all_settled circuit front (cover ∷ covers) all h led =
    let n = length circuit.covers in
    let few : length front ≤ n = omega (arith, ap length all, length-append front (cover ∷ covers)) in
    let more = more_signals circuit front cover in
    and_from (is_settled circuit cover) (list_all (is_settled circuit) covers)
    (all_weaker (is_among (circuit.inputs ++ defined_in front)) (settles circuit n) cover.ins (led n few) (h.0).reads)
    (all_settled circuit (front ++ cover ∷ []) covers (all ∙ sym (append_assoc front (cover ∷ []) covers)) (subst (λ (t : List Word). AreNextCovers t covers) (sym more) h.1)
    (λ m many z e. by_kind m (omega (arith, many, length-append front (cover ∷ []))) z (true_or (circuit.inputs ++ defined_in front) cover.name z (ap (λ (t : List Word). is_among t z) (sym more) ∙ e))))
  where
    by_kind : (m : ℕ) → length front + 1 ≤ m → (z : Word) → (is_among (circuit.inputs ++ defined_in front) z ≡ true) ⊎ (z ≡ cover.name) → settles circuit m z ≡ true
    by_kind m many z (inl e) = led m (omega (arith, many)) z e
    by_kind m many z (inr e) = ap (settles circuit m) e ∙ one_led circuit front cover covers all h.0 led m many

inputs_led : (circuit : Circuit) → AreLed circuit []
unfolding settles
inputs_led circuit zero few z e = ap (λ (t : List Word). is_among t z) (sym (append-nil circuit.inputs)) ∙ e
inputs_led circuit (suc n) few z e =
    or_left (is_among circuit.inputs z) (list_any (λ cover. bytes_eq z cover.name && list_all (settles circuit n) cover.ins) circuit.covers)
    (ap (λ (t : List Word). is_among t z) (sym (append-nil circuit.inputs)) ∙ e)

none_cyclic : (circuit : Circuit) → AreNextCovers circuit.inputs circuit.covers → cyclic_cover circuit ≡ None
none_cyclic circuit h =
    ap (option_map cycle_at) (none_failing (is_settled circuit) circuit.covers
    (all_settled circuit [] circuit.covers refl (subst (λ (t : List Word). AreNextCovers t circuit.covers) (sym (append-nil circuit.inputs)) h) (inputs_led circuit)))

-- there are outputs
not_zero : (n : ℕ) → 1 ≤ n → (n == 0) ≡ false
not_zero n h = grind (arith, nat_tests)

lines_faultless : (name : Word) (circuit : Circuit) → IsWritable name circuit → one_model.fault_in (numbered 1 (circuit_lines name circuit)) ≡ None
lines_faultless name circuit h =
    let lines = numbered 1 (circuit_lines name circuit) in
    let read = circuit_read name circuit h in
    let is : one_model.circuit_of lines ≡ as_placed circuit = read.1 in
    let undefined : one_model.undefined_line lines ≡ None =
    ap (λ (c : Circuit). option_map (λ line. fault_on line kinds.Undefined) (find (λ line. not (list_all (is_signal c) (uses (said line)))) lines)) is
    ∙ ap (option_map (λ line. fault_on line kinds.Undefined)) (none_failing (λ line. list_all (is_signal (as_placed circuit)) (uses (said line))) lines
    (numbered_say (λ s. list_all (is_signal (as_placed circuit)) (uses s)) 1 (circuit_lines name circuit) (circuit_plain name circuit h) (circuit_fits (is_signal (as_placed circuit)) name circuit h (signal_placed circuit)))) in
    let cyclic : cyclic_cover (one_model.circuit_of lines) ≡ None = ap cyclic_cover is ∙ none_cyclic (as_placed circuit) (next_placed circuit.inputs 4 circuit.covers h.next) in
    let some : one_model.no_outputs lines ≡ None =
    ap (λ (c : Circuit). cond (length c.outputs == 0) (Some (record { line = last_number lines; what = kinds.NoOutputs })) None) is
    ∙ ap (λ b. cond b (Some (record { line = last_number lines; what = kinds.NoOutputs })) None) (not_zero (length circuit.outputs) h.some) in
    ap (λ o. option_or o (option_or (one_model.undefined_line lines) (option_or (cyclic_cover (one_model.circuit_of lines)) (one_model.no_outputs lines)))) read.0
    ∙ ap (λ o. option_or o (option_or (cyclic_cover (one_model.circuit_of lines)) (one_model.no_outputs lines))) undefined ∙ ap (λ o. option_or o (one_model.no_outputs lines)) cyclic ∙ some

-- the text is of one model
abbrev says_plainly : List Word → Bool
says_plainly words = is_plain_statement (statement_of words)

covers_say : (signals : List Word) (covers : List Cover) → AreNextCovers signals covers → list_all says_plainly (flat_map cover_lines covers) ≡ true
covers_say signals [] h = refl
covers_say signals (cover ∷ covers) h =
    let words = cover.ins ++ cover.name ∷ [] in
    list_all-append says_plainly (cover_lines cover) (flat_map cover_lines covers)
    ∙ and_from (list_all says_plainly (cover_lines cover)) (list_all says_plainly (flat_map cover_lines covers))
    (and_from (says_plainly (codes ".names" ∷ words)) (list_all says_plainly (map row_words cover.rows)) (ap is_plain_statement (names_said words))
    (rows_say is_plain_statement (λ words. refl) (length cover.ins) (h.0).output cover.rows (h.0).rows))
    (covers_say (signals ++ cover.name ∷ []) covers h.1)

of_one_model : (name : Word) (circuit : Circuit) → IsWritable name circuit → is_of_one_model (numbered 1 (circuit_lines name circuit)) ≡ true
unfolding statement_of
of_one_model name circuit h =
    let end : List (List Word) = (codes ".end" ∷ []) ∷ [] in
    let covers = flat_map cover_lines circuit.covers in
    let first : List Word = codes ".model" ∷ name ∷ [] in
    let behind_first : List (List Word) = (codes ".inputs" ∷ circuit.inputs) ∷ (codes ".outputs" ∷ circuit.outputs) ∷ (covers ++ end) in
    let all : list_all says_plainly (covers ++ end) ≡ true =
    list_all-append says_plainly covers end ∙ and_from (list_all says_plainly covers) true (covers_say circuit.inputs circuit.covers h.next) refl in
    let plain = and_parts (list_all is_plain_word first) (list_all (list_all is_plain_word) behind_first) (circuit_plain name circuit h) in
    and_from (begins_plainly (said (line_at 1 (line_with first)))) (list_all (λ line. is_plain_statement (said line)) (numbered 2 behind_first)) (ap begins_plainly (said_written 1 first plain.0))
    (numbered_say is_plain_statement 2 behind_first plain.1 all)

-- The text of a circuit that can be written has no fault, and its lines declare the circuit.
pub text_reads : (name : Word) (circuit : Circuit) → IsWritable name circuit
    → (fault_of (text_of (circuit_lines name circuit)) ≡ None) × (circuit_of (joined_lines (text_of (circuit_lines name circuit))) ≡ as_placed circuit)
unfolding fault_of
text_reads name circuit h =
    let joined = lines_read (circuit_lines name circuit) (circuit_plain name circuit h) in
    let same = plain_texts_agree (numbered 1 (circuit_lines name circuit)) (of_one_model name circuit h) (lines_faultless name circuit h) in (
      ap fault_in joined ∙ same.0,
      ap (λ (lines : List Line). circuit_of lines) joined ∙ same.1 ∙ (circuit_read name circuit h).1,
    )

-- the network of a circuit's text
pub net_written : (name : Word) (circuit : Circuit) → IsWritable name circuit → (net : Net) × IsBlifText (text_of (circuit_lines name circuit)) net × (net.inputs ≡ circuit.inputs)
net_written name circuit h =
    let reads = text_reads name circuit h in
    let net = faultless_net (text_of (circuit_lines name circuit)) reads.0 in
    (net.0, net.1, ((net.1).net_of).inputs ∙ ap (λ (c : Circuit). c.inputs) reads.1)
