-- Circuits that are written as lines: no line is faulty, and what the lines declare is the circuit.
use Rattle.std.proofs.Common.{◌≡◌, ℕ, suc, ◌+◌, ◌≤◌, ◌==◌, ◌&&◌, not, Bool, true, false, cond, List, [], ◌∷◌, ◌++◌, codes, length, map, Option, Some, None, refl, ap, sym, ◌∙◌, subst, arith, append_assoc, append-nil, length-append}
use Rattle.std.specs.Prelude.{nat_lt, option_map, option_to_list, if◌then◌else◌}
use Rattle.std.specs.List.{flat_map, list_all}
use Rattle.std.specs.Option.{option_or}
use Rattle.std.specs.Bool.{then_some}
use Rattle.std.specs.Str.{bytes_eq}
use Rattle.std.proofs.lemmas.Bool.{and_from, and_parts, cond-false, cond-true, le-ltb}
use Rattle.std.proofs.lemmas.Bool.Decides.{nat_tests}
use Rattle.std.proofs.lemmas.List.{length-map, map-append}
use Rattle.std.proofs.lemmas.List.Folds.{list_all-append}
use Rattle.edge_bits.specs.declared.limits.TheConstants.{MOST_VARIABLES, MOST_SIGNALS, MOST_OUTPUTS}
use Rattle.job_words.specs.Text.{is_among}
use Rattle.blif_net.specs.declared.faults.FaultKind.TheVariants as kinds
use Rattle.blif_text.specs.Text.{Word, Line, line_at}
use Rattle.blif_models.specs.Circuits.{Circuit, Cover, Row, defined_in, is_signal, some_again}
use Rattle.blif_text.specs.Statements.{names, row, directive, statement_of}
use Rattle.blif_net.specs.PlainTexts.{Context, after_line, after_statement, at_start, behind, circuit_in, circuit_of, close, covers_in, fault_on, faulty_line, inputs_fault, names_fault, open_fault, signals_in}
use Rattle.blif_net.specs.CoverTexts.{is_bit, last_of, is_cube, is_literal, row_of, row_with, is_mixed, row_fault}
use Rattle.blif_net.proofs.Fronts.{front_is, some_names}
use Rattle.blif_net.proofs.NoFaults.{all_weaker}
use Rattle.blif_dump.specs.Lines.{line_with}
use Rattle.blif_net.proofs.Written.{faulty_behind, is_plain, is_plain_word, left_behind, no_end, numbered, numbered_behind, plain_from, said_written, written_fault}

-- the word of an output
abbrev pub output_word : Bool → Word
output_word output = if output then codes "1" else codes "0"

abbrev pub literals_before : Word → List Word → List Word
literals_before [] words = words
literals_before (b ∷ literals) words = (b ∷ literals) ∷ words

-- the words of a row: with no literals the output stands alone
abbrev pub row_words : Row → List Word
row_words one = literals_before one.literals (output_word one.output ∷ [])

abbrev pub cover_lines : Cover → List (List Word)
cover_lines cover = (codes ".names" ∷ (cover.ins ++ cover.name ∷ [])) ∷ map row_words cover.rows

-- the lines of a circuit under a name
abbrev pub circuit_lines : Word → Circuit → List (List Word)
circuit_lines name circuit =
    (codes ".model" ∷ name ∷ []) ∷ (codes ".inputs" ∷ circuit.inputs) ∷ (codes ".outputs" ∷ circuit.outputs)
    ∷ (flat_map cover_lines circuit.covers ++ (codes ".end" ∷ []) ∷ [])

-- the row has a literal for each of so many inputs, and this output
pub record IsRowFor (ins : ℕ) (output : Bool) (one : Row) : Type 0 where
  pub many : length one.literals ≡ ins
  pub literals : list_all is_literal one.literals ≡ true
  pub output_is : one.output ≡ output

abbrev pub AreRowsFor : ℕ → Bool → List Row → Type 0
AreRowsFor ins output [] = Unit {0}
AreRowsFor ins output (one ∷ rows) = IsRowFor ins output one × AreRowsFor ins output rows

-- the cover reads signals of these names, and defines another one
pub record IsNextCover (signals : List Word) (cover : Cover) : Type 0 where
  pub reads : list_all (is_among signals) cover.ins ≡ true
  pub fresh : is_among signals cover.name ≡ false
  pub ins_plain : list_all is_plain_word cover.ins ≡ true
  pub name_plain : is_plain_word cover.name ≡ true
  pub output : Bool
  pub rows : AreRowsFor (length cover.ins) output cover.rows

-- so does each cover, with those before it
abbrev pub AreNextCovers : List Word → List Cover → Type 0
AreNextCovers signals [] = Unit {0}
AreNextCovers signals (cover ∷ covers) = IsNextCover signals cover × AreNextCovers (signals ++ cover.name ∷ []) covers

-- the covers, with the numbers of their lines from here on
abbrev pub placed : ℕ → List Cover → List Cover
placed number [] = []
placed number (cover ∷ covers) = record cover { line = number } ∷ placed (number + (1 + length cover.rows)) covers

-- one line and then others
first_fault : (c : Context) (number : ℕ) (words : List Word) (lines : List (List Word)) → list_all is_plain_word words ≡ true → c.ended ≡ false → open_fault c (statement_of words) ≡ None
    → faulty_line c (numbered number (words ∷ lines)) ≡ faulty_line (after_statement c number (statement_of words)) (numbered (number + 1) lines)
unfolding faulty_line
first_fault c number words lines plain going none =
    let line = line_at number (line_with words) in
    ap (λ o. option_or (option_map (fault_on line) o) (faulty_line (after_line c line) (numbered (number + 1) lines))) (written_fault c number words plain going ∙ none)
    ∙ ap (λ s. faulty_line (after_statement c number s) (numbered (number + 1) lines)) (said_written number words plain)

first_left : (c : Context) (number : ℕ) (words : List Word) (lines : List (List Word)) → list_all is_plain_word words ≡ true
    → behind c (numbered number (words ∷ lines)) ≡ behind (after_statement c number (statement_of words)) (numbered (number + 1) lines)
unfolding behind
first_left c number words lines plain = ap (λ s. behind (after_statement c number s) (numbered (number + 1) lines)) (said_written number words plain)

-- a row
literal_plain : (b : ℕ) → is_literal b ≡ true → is_plain b ≡ true
literal_plain b h = grind (arith, nat_tests)

literal_no_dot : (b : ℕ) → is_literal b ≡ true → (b == 46) ≡ false
literal_no_dot b h = grind (arith, nat_tests)

not_none : (n : ℕ) → not (suc n == 0) ≡ true
not_none n = grind (arith, nat_tests)

same_length : (n : ℕ) → (n == n) ≡ true
same_length n = grind (arith, nat_tests)

output_plain : (output : Bool) → list_all is_plain_word (output_word output ∷ []) ≡ true
output_plain true = refl
output_plain false = refl

output_is_bit : (output : Bool) → is_bit (output_word output) ≡ true
output_is_bit true = refl
output_is_bit false = refl

output_read : (output : Bool) → bytes_eq (output_word output) (codes "1") ≡ output
output_read true = refl
output_read false = refl

pub row_plain : (literals : Word) (output : Bool) → list_all is_literal literals ≡ true → list_all is_plain_word (literals_before literals (output_word output ∷ [])) ≡ true
row_plain [] output h = output_plain output
row_plain (b ∷ literals) output h =
    and_from (is_plain_word (b ∷ literals)) (list_all is_plain_word (output_word output ∷ []))
    (plain_from (b ∷ literals) (record { bytes = not_none (length literals); plain = all_weaker is_literal is_plain (b ∷ literals) literal_plain h; ends = no_end is_literal 92 (b ∷ literals) h refl }))
    (output_plain output)

pub row_said : (literals : Word) (output : Bool) → list_all is_literal literals ≡ true
    → statement_of (literals_before literals (output_word output ∷ [])) ≡ row (literals_before literals (output_word output ∷ []))
unfolding statement_of
row_said [] true h = refl
row_said [] false h = refl
row_said (b ∷ literals) output h =
    let words : List Word = (b ∷ literals) ∷ output_word output ∷ [] in
    cond-false (b == 46) (directive (b ∷ literals) (output_word output ∷ [])) (row words) (literal_no_dot b (and_parts (is_literal b) (list_all is_literal literals) h).0)

row_is : (ins : ℕ) (literals : Word) (output : Bool) → length literals ≡ ins → list_all is_literal literals ≡ true
    → row_of ins (literals_before literals (output_word output ∷ [])) ≡ Some (record { literals = literals; output = output })
row_is ins [] true e h = ap (λ n. row_of n (codes "1" ∷ [])) (sym e)
row_is ins [] false e h = ap (λ n. row_of n (codes "0" ∷ [])) (sym e)
row_is ins (b ∷ literals) output e h =
    let n = length (b ∷ literals) in
    let words : List Word = (b ∷ literals) ∷ output_word output ∷ [] in
    ap (λ m. row_of m words) (sym e)
    ∙ cond-true (not (n == 0) && is_cube n (b ∷ literals) && is_bit (output_word output)) (Some (row_with (b ∷ literals) (output_word output))) None
    (and_from (not (n == 0) && is_cube n (b ∷ literals)) (is_bit (output_word output))
    (and_from (not (n == 0)) (is_cube n (b ∷ literals)) (not_none (length literals)) (and_from (n == n) (list_all is_literal (b ∷ literals)) (same_length n) h)) (output_is_bit output))
    ∙ ap (λ t. Some (record { literals = b ∷ literals; output = t })) (output_read output)

-- the context with this cover open
abbrev open_at : Context → Cover → Context
open_at c cover = record c { current = Some cover }

row_taken : (c : Context) (number : ℕ) (cover : Cover) (one : Row) (output : Bool) → IsRowFor (length cover.ins) output one
    → after_statement (open_at c cover) number (statement_of (row_words one)) ≡ open_at c (record cover { rows = cover.rows ++ one ∷ [] })
row_taken c number cover one output r =
    ap (after_statement (open_at c cover) number) (row_said one.literals one.output r.literals)
    ∙ ap (λ (o : Option Row). open_at c (record cover { rows = cover.rows ++ option_to_list o })) (row_is (length cover.ins) one.literals one.output r.many r.literals)

-- rows of one output are not mixed
unmixed : (ins : ℕ) (output : Bool) (rows : List Row) (one : Row) → AreRowsFor ins output rows → one.output ≡ output → is_mixed rows one ≡ false
unmixed ins output [] one h e = refl
unmixed ins output (first ∷ rows) one h e =
    ap (λ b. cond b (not one.output) one.output) (h.0).output_is ∙ ap (λ b. cond output (not b) b) e ∙ agree output
  where
    agree : (b : Bool) → cond b (not b) b ≡ false
    agree true = refl
    agree false = refl

row_faultless : (c : Context) (cover : Cover) (one : Row) (output : Bool) → AreRowsFor (length cover.ins) output cover.rows → IsRowFor (length cover.ins) output one
    → open_fault (open_at c cover) (statement_of (row_words one)) ≡ None
row_faultless c cover one output before r =
    ap (open_fault (open_at c cover)) (row_said one.literals one.output r.literals)
    ∙ ap (row_fault cover) (row_is (length cover.ins) one.literals one.output r.many r.literals)
    ∙ ap (λ b. then_some b kinds.Mixed) (unmixed (length cover.ins) output cover.rows one before r.output_is)

rows_last : (ins : ℕ) (output : Bool) (rows : List Row) (one : Row) → AreRowsFor ins output rows → IsRowFor ins output one → AreRowsFor ins output (rows ++ one ∷ [])
rows_last ins output [] one h r = (r, tt)
rows_last ins output (first ∷ rows) one h r = (h.0, rows_last ins output rows one h.1 r)

rows_read : (c : Context) (number : ℕ) (cover : Cover) (output : Bool) (back : List Row) → c.ended ≡ false → AreRowsFor (length cover.ins) output cover.rows → AreRowsFor (length cover.ins) output back
    → (faulty_line (open_at c cover) (numbered number (map row_words back)) ≡ None)
    × (behind (open_at c cover) (numbered number (map row_words back)) ≡ open_at c (record cover { rows = cover.rows ++ back }))
unfolding faulty_line behind
rows_read c number cover output [] going before h = (refl, ap (λ (rows : List Row). open_at c (record cover { rows = rows })) (sym (append-nil cover.rows)))
rows_read c number cover output (one ∷ back) going before h =
    let lines = map row_words back in
    let plain = row_plain one.literals one.output (h.0).literals in
    let next : Cover = record cover { rows = cover.rows ++ one ∷ [] } in
    let taken = row_taken c number cover one output h.0 in
    let rest = rows_read c (number + 1) next output back going (rows_last (length cover.ins) output cover.rows one before h.0) h.1 in (
      first_fault (open_at c cover) number (row_words one) lines plain going (row_faultless c cover one output before h.0)
          ∙ ap (λ (t : Context). faulty_line t (numbered (number + 1) lines)) taken ∙ rest.0,
      first_left (open_at c cover) number (row_words one) lines plain
          ∙ ap (λ (t : Context). behind t (numbered (number + 1) lines)) taken ∙ rest.1
          ∙ ap (λ (rows : List Row). open_at c (record cover { rows = rows })) (append_assoc cover.rows (one ∷ []) back),
    )

-- a cover
pub names_plain : (signals : List Word) (cover : Cover) → IsNextCover signals cover → list_all is_plain_word (codes ".names" ∷ (cover.ins ++ cover.name ∷ [])) ≡ true
names_plain signals cover h =
    list_all-append is_plain_word cover.ins (cover.name ∷ [])
    ∙ and_from (list_all is_plain_word cover.ins) (is_plain_word cover.name && true) h.ins_plain (and_from (is_plain_word cover.name) true h.name_plain refl)

pub names_said : (words : List Word) → statement_of (codes ".names" ∷ words) ≡ names words
unfolding statement_of
names_said words = refl

cover_opened : (c : Context) (number : ℕ) (cover : Cover) → after_statement c number (names (cover.ins ++ cover.name ∷ [])) ≡ open_at (close c) (record cover { line = number; rows = [] })
cover_opened c number cover =
    let parts = front_is cover.ins cover.name in
    ap (λ (ins : List Word). open_at (close c) (record { line = number; ins = ins; name = last_of (cover.ins ++ cover.name ∷ []); rows = [] })) parts.0
    ∙ ap (λ (name : Word). open_at (close c) (record { line = number; ins = cover.ins; name = name; rows = [] })) parts.1

cover_faultless : (c : Context) (cover : Cover) → is_among (signals_in c) cover.name ≡ false → length (signals_in c) + 1 ≤ MOST_SIGNALS → names_fault c (cover.ins ++ cover.name ∷ []) ≡ None
cover_faultless c cover fresh room =
    some_names c cover.ins cover.name
    ∙ ap (λ b. option_or (then_some b kinds.Twice) (then_some (nat_lt MOST_SIGNALS (length (signals_in c) + 1)) kinds.TooMany)) fresh
    ∙ ap (λ b. then_some b kinds.TooMany) (le-ltb MOST_SIGNALS (length (signals_in c) + 1) room)

cover_read : (c : Context) (number : ℕ) (cover : Cover) → c.ended ≡ false → IsNextCover (signals_in c) cover → length (signals_in c) + 1 ≤ MOST_SIGNALS
    → (faulty_line c (numbered number (cover_lines cover)) ≡ None) × (behind c (numbered number (cover_lines cover)) ≡ open_at (close c) (record cover { line = number }))
cover_read c number cover going h room =
    let words = cover.ins ++ cover.name ∷ [] in
    let lines = map row_words cover.rows in
    let plain = names_plain (signals_in c) cover h in
    let opened = ap (after_statement c number) (names_said words) ∙ cover_opened c number cover in
    let rest = rows_read (close c) (number + 1) (record cover { line = number; rows = [] }) h.output cover.rows going tt h.rows in (
      first_fault c number (codes ".names" ∷ words) lines plain going (ap (open_fault c) (names_said words) ∙ cover_faultless c cover h.fresh room)
          ∙ ap (λ (t : Context). faulty_line t (numbered (number + 1) lines)) opened ∙ rest.0,
      first_left c number (codes ".names" ∷ words) lines plain ∙ ap (λ (t : Context). behind t (numbered (number + 1) lines)) opened ∙ rest.1,
    )

-- covers, one behind another
signals_next : (c : Context) (cover : Cover) → signals_in (open_at (close c) cover) ≡ signals_in c ++ cover.name ∷ []
signals_next c cover =
    ap (λ (defined : List Word). c.inputs ++ defined) (map-append (λ (one : Cover). one.name) (covers_in c) (cover ∷ []))
    ∙ sym (append_assoc c.inputs (defined_in (covers_in c)) (cover.name ∷ []))

abbrev declared_by : Context → List Cover → Circuit
declared_by c covers = record { inputs = c.inputs; outputs = c.outputs; covers = covers }

-- Behind this context the lines add these covers.
record AddsCovers (c : Context) (lines : List Line) (covers : List Cover) : Type 0 where
  faultless : faulty_line c lines ≡ None
  left : circuit_in (behind c lines) ≡ declared_by c (covers_in c ++ covers)
  going : (behind c lines).ended ≡ false

covers_read : (c : Context) (number : ℕ) (covers : List Cover) → c.ended ≡ false → AreNextCovers (signals_in c) covers → length (signals_in c) + length covers ≤ MOST_SIGNALS
    → AddsCovers c (numbered number (flat_map cover_lines covers)) (placed number covers)
unfolding faulty_line behind
covers_read c number [] going h room = record { faultless = refl; left = ap (declared_by c) (sym (append-nil (covers_in c))); going = going }
covers_read c number (cover ∷ covers) going h room =
    let here : Cover = record cover { line = number } in
    let next = open_at (close c) here in
    let onward = number + (1 + length cover.rows) in
    let front = numbered number (cover_lines cover) in
    let back = numbered onward (flat_map cover_lines covers) in
    let many : number + length (cover_lines cover) ≡ onward = omega (arith, length-map cover.rows row_words) in
    let split : numbered number (cover_lines cover ++ flat_map cover_lines covers) ≡ front ++ back =
    numbered_behind number (cover_lines cover) (flat_map cover_lines covers) ∙ ap (λ n. front ++ numbered n (flat_map cover_lines covers)) many in
    let own = cover_read c number cover going h.0 (omega (arith, room)) in
    let more = signals_next c here in
    let rest = covers_read next onward covers going (subst (λ (t : List Word). AreNextCovers t covers) (sym more) h.1) (omega (arith, room, ap length more, length-append (signals_in c) (cover.name ∷ []))) in
    let left : behind c (numbered number (cover_lines cover ++ flat_map cover_lines covers)) ≡ behind next back =
    ap (behind c) split ∙ left_behind c front back ∙ ap (λ (t : Context). behind t back) own.1 in
    record {
      faultless = ap (faulty_line c) split ∙ faulty_behind c front back ∙ ap (λ o. option_or o (faulty_line (behind c front) back)) own.0 ∙ ap (λ (t : Context). faulty_line t back) own.1 ∙ rest.faultless;
      left = ap circuit_in left ∙ rest.left ∙ ap (declared_by c) (append_assoc (covers_in c) (here ∷ []) (placed onward covers));
      going = subst (λ (t : Context). t.ended ≡ false) (sym left) rest.going;
    }

-- the last line
end_read : (c : Context) (number : ℕ) → c.ended ≡ false
    → (faulty_line c (numbered number ((codes ".end" ∷ []) ∷ [])) ≡ None) × (circuit_in (behind c (numbered number ((codes ".end" ∷ []) ∷ []))) ≡ circuit_in c)
unfolding faulty_line behind statement_of
end_read c number going = (
  first_fault c number (codes ".end" ∷ []) [] refl going refl,
  ap circuit_in (first_left c number (codes ".end" ∷ []) [] refl) ∙ ap (declared_by c) (append-nil (covers_in c)),
)

-- A circuit that can be written under this name: its signals have names that differ, each cover reads inputs and covers before it, outputs
-- are signals, and there are some, and no more of all than a text may have.
pub record IsWritable (name : Word) (circuit : Circuit) : Type 0 where
  pub name_plain : is_plain_word name ≡ true
  pub inputs_plain : list_all is_plain_word circuit.inputs ≡ true
  pub outputs_plain : list_all is_plain_word circuit.outputs ≡ true
  pub apart : some_again [] circuit.inputs ≡ false
  pub next : AreNextCovers circuit.inputs circuit.covers
  pub named : list_all (is_signal circuit) circuit.outputs ≡ true
  pub few_inputs : length circuit.inputs ≤ MOST_VARIABLES
  pub few_signals : length circuit.inputs + length circuit.covers ≤ MOST_SIGNALS
  pub few_outputs : length circuit.outputs ≤ MOST_OUTPUTS
  pub some : 1 ≤ length circuit.outputs

-- the circuit, with the numbers of its covers' lines
abbrev pub as_placed : Circuit → Circuit
as_placed circuit = record circuit { covers = placed 4 circuit.covers }

-- what `.inputs` and `.outputs` leave
abbrev headed : List Word → List Word → Context
headed ins outs = record { inputs = ins; outputs = outs; closed = []; current = None; modelled = true; ended = false }

inputs_faultless : (name : Word) (circuit : Circuit) → IsWritable name circuit → inputs_fault (record at_start { modelled = true }) circuit.inputs ≡ None
inputs_faultless name circuit h =
    let n = length circuit.inputs in
    let few : 0 + n ≤ MOST_VARIABLES = omega (arith, h.few_inputs) in
    let all : 0 + n ≤ MOST_SIGNALS = omega (arith, h.few_signals) in
    ap (λ b. option_or (then_some b kinds.Twice) (option_or (then_some (nat_lt MOST_VARIABLES (0 + n)) kinds.TooMany) (then_some (nat_lt MOST_SIGNALS (0 + n)) kinds.TooMany))) h.apart
    ∙ ap (λ b. option_or (then_some b kinds.TooMany) (then_some (nat_lt MOST_SIGNALS (0 + n)) kinds.TooMany)) (le-ltb MOST_VARIABLES (0 + n) few)
    ∙ ap (λ b. then_some b kinds.TooMany) (le-ltb MOST_SIGNALS (0 + n) all)

outputs_faultless : (name : Word) (circuit : Circuit) → IsWritable name circuit → then_some (nat_lt MOST_OUTPUTS (0 + length circuit.outputs)) kinds.TooMany ≡ None
outputs_faultless name circuit h =
    let few : 0 + length circuit.outputs ≤ MOST_OUTPUTS = omega (arith, h.few_outputs) in
    ap (λ b. then_some b kinds.TooMany) (le-ltb MOST_OUTPUTS (0 + length circuit.outputs) few)

head_read : (name : Word) (circuit : Circuit) (lines : List (List Word)) → IsWritable name circuit
    → (faulty_line at_start (numbered 1 ((codes ".model" ∷ name ∷ []) ∷ (codes ".inputs" ∷ circuit.inputs) ∷ (codes ".outputs" ∷ circuit.outputs) ∷ lines)) ≡ faulty_line (headed circuit.inputs circuit.outputs) (numbered 4 lines))
    × (behind at_start (numbered 1 ((codes ".model" ∷ name ∷ []) ∷ (codes ".inputs" ∷ circuit.inputs) ∷ (codes ".outputs" ∷ circuit.outputs) ∷ lines)) ≡ behind (headed circuit.inputs circuit.outputs) (numbered 4 lines))
unfolding statement_of
head_read name circuit lines h =
    let one : Context = record at_start { modelled = true } in
    let two : Context = record one { inputs = circuit.inputs } in
    let named : list_all is_plain_word (codes ".model" ∷ name ∷ []) ≡ true = and_from (is_plain_word name) true h.name_plain refl in
    let ins : List Word = codes ".inputs" ∷ circuit.inputs in
    let outs : List Word = codes ".outputs" ∷ circuit.outputs in (
      first_fault at_start 1 (codes ".model" ∷ name ∷ []) (ins ∷ outs ∷ lines) named refl refl
          ∙ first_fault one 2 ins (outs ∷ lines) h.inputs_plain refl (inputs_faultless name circuit h)
          ∙ first_fault two 3 outs lines h.outputs_plain refl (outputs_faultless name circuit h),
      first_left at_start 1 (codes ".model" ∷ name ∷ []) (ins ∷ outs ∷ lines) named
          ∙ first_left one 2 ins (outs ∷ lines) h.inputs_plain
          ∙ first_left two 3 outs lines h.outputs_plain,
    )

pub circuit_read : (name : Word) (circuit : Circuit) → IsWritable name circuit
    → (faulty_line at_start (numbered 1 (circuit_lines name circuit)) ≡ None) × (circuit_of (numbered 1 (circuit_lines name circuit)) ≡ as_placed circuit)
circuit_read name circuit h =
    let c = headed circuit.inputs circuit.outputs in
    let lines = flat_map cover_lines circuit.covers in
    let end : List (List Word) = (codes ".end" ∷ []) ∷ [] in
    let front = numbered 4 lines in
    let back = numbered (4 + length lines) end in
    let none : circuit.inputs ≡ signals_in c = sym (append-nil circuit.inputs) in
    let head = head_read name circuit (lines ++ end) h in
    let split = numbered_behind 4 lines end in
    let own = covers_read c 4 circuit.covers refl (subst (λ (t : List Word). AreNextCovers t circuit.covers) none h.next) (omega (arith, h.few_signals, ap length none)) in
    let last = end_read (behind c front) (4 + length lines) own.going in (
      head.0 ∙ ap (faulty_line c) split ∙ faulty_behind c front back ∙ ap (λ o. option_or o (faulty_line (behind c front) back)) own.faultless ∙ last.0,
      ap circuit_in (head.1 ∙ ap (behind c) split ∙ left_behind c front back) ∙ last.1 ∙ own.left,
    )
