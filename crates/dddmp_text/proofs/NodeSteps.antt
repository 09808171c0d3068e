-- The node lines that are written for a dump are read as its lines.
use Rattle.std.proofs.Common.{◌≡◌, ℕ, ◌+◌, ◌<◌, ◌^◌, ◌==◌, nat_lt, Bool, true, false, not, ◌&&◌, List, [], ◌∷◌, ◌++◌, ℤ, Some, None, Contains, codes, length, get_or, slice_get, nat_abs, refl, sym, ◌∙◌, ap, subst, arith, append_assoc, length-append, if◌then◌else◌}
use Rattle.std.specs.List.{list_all}
use Rattle.std.specs.Char.{is_ascii_digit}
use Rattle.std.specs.Str.{bytes_eq}
use Rattle.std.specs.Str.Parse.{digits_value}
use Rattle.std.specs.Fmt.{decimal, signed_decimal}
use Rattle.std.proofs.lemmas.Bool.{eq-eqb}
use Rattle.std.proofs.lemmas.Bool.Decides.{nat_tests}
use Rattle.std.proofs.lemmas.Slice.Eq.{bytes_eq-Decides}
use Rattle.std.proofs.lemmas.List.{append-nil}
use Rattle.std.proofs.Math.Seq.{get_or-append_seam}
use Rattle.std.specs.Bool.{then_some}
use Rattle.std.specs.Option.{option_or}
use Rattle.job_words.specs.Text.{integer_value}
use Rattle.edge_bits.specs.declared.edges.Line.{Line}
use Rattle.diagram_dumps.specs.declared.dump.Dump.{Dump}
use Rattle.dddmp_text.specs.declared.fields.Field.TheVariants as fields
use Rattle.dddmp_text.specs.declared.fields.Given.{Given}
use Rattle.dddmp_text.specs.declared.faults.FaultKind.TheVariants as kinds
use Rattle.dddmp_text.specs.Fields.{Fields, is_node, number, numbers}
use Rattle.dddmp_text.specs.Ranks.{internal_of, variable_of}
use Rattle.diagram_dumps.specs.Dumps.{place_among}
use Rattle.dddmp_text.specs.Faults.{Context, after_words, ended, fields_fault, listing, node_of, words_fault}
use Rattle.diagram_dumps.specs.WellMade.{IsWritable}
use Rattle.dddmp_text.proofs.Decimals.{both_true, decimal-digits, decimal-number, decimal-value, decimal-word, not_none, signed-integer, signed-value, signed-word}
use Rattle.dddmp_text.proofs.Lookups.{place_among-is}
use Rattle.dddmp_text.proofs.Ranks.{rank-below, variable_of-rank}
use Rattle.dddmp_text.proofs.Spelled.{Line as Words, is_line}
use Rattle.dddmp_text.proofs.Steps.{Fine, left_by, words_of}
use Rattle.diagram_dumps.proofs.Walks.{IsEarlier, are_earlier}
use Rattle.dddmp_text.proofs.WrittenLines.{end_lines, node_line, node_lines}

-- the fields tell the ids, the positions and the counts of the dump
pub record Tell (dump : Dump) (given : List Given) : Type 0 where
  pub ids : numbers given fields.Ids ≡ dump.ids
  pub permids : numbers given fields.Permids ≡ dump.permids
  pub support : number given fields.Nsuppvars ≡ length dump.ids
  pub nodes : number given fields.Nnodes ≡ length dump.nodes + 1

pub lt_test : (n m : ℕ) → n < m → nat_lt n m ≡ true
lt_test n m h = grind (arith, nat_tests)

-- a number is not `.end`
not_end : (n : ℕ) → n < 2 ^ 64 → bytes_eq (decimal n) (codes ".end") ≡ false
not_end n small = by_test (bytes_eq (decimal n) (codes ".end")) refl
  where
    by_test : (b : Bool) → bytes_eq (decimal n) (codes ".end") ≡ b → bytes_eq (decimal n) (codes ".end") ≡ false
    by_test false e = e
    by_test true e =
        let same : decimal n ≡ codes ".end" = (bytes_eq-Decides (decimal n) (codes ".end")).0 e in
        let bad : true ≡ false = sym (decimal-digits n small) ∙ ap (list_all is_ascii_digit) same in
        cc

no_node_fault : (a b c : Bool) → a ≡ true → b ≡ true → c ≡ true
    → option_or (then_some (not a) kinds.Node) (option_or (then_some (not b) kinds.Order) (then_some (not c) kinds.Variable)) ≡ None
no_node_fault true true true ha hb hc = refl
no_node_fault true true false ha hb hc = cc
no_node_fault true false c ha hb hc = cc
no_node_fault false b c ha hb hc = cc

-- the words of a node line that are read
abbrev read_of : Dump → ℕ → Line → Fields
read_of dump index line = record { index = decimal index; internal = decimal (internal_of dump line.var); hi = decimal line.hi; lo = signed_decimal line.lo }

-- numbers in a node line are small
record Small (dump : Dump) (index : ℕ) (line : Line) : Type 0 where
  below : index < 2 ^ 31
  internal : internal_of dump line.var < length dump.ids
  support : length dump.ids < 2 ^ 31

node_form : (dump : Dump) (index : ℕ) (line : Line) → Small dump index line → IsEarlier line index → is_node index (read_of dump index line) ≡ true
node_form dump index line small earlier =
    both_true _ _ (both_true _ _ (both_true _ _ (both_true _ _ (both_true _ _ (both_true _ _
    (decimal-number index (omega (arith, small.below)))
    (eq-eqb (digits_value 10 (decimal index)) index (decimal-value index (omega (arith, small.below)))))
    (decimal-number (internal_of dump line.var) (omega (arith, small.internal, small.support))))
    (decimal-number line.hi (omega (arith, small.below, earlier.1))))
    (ap (λ v. not (v == 0)) (decimal-value line.hi (omega (arith, small.below, earlier.1))) ∙ not_none line.hi earlier.0))
    (signed-integer line.lo (omega (arith, small.below, earlier.3))))
    (ap (λ v. not (nat_abs v == 0)) (signed-value line.lo (omega (arith, small.below, earlier.3))) ∙ not_none (nat_abs line.lo) earlier.2)

node_order : (dump : Dump) (index : ℕ) (line : Line) → Small dump index line → IsEarlier line index
    → (nat_lt (digits_value 10 (decimal line.hi)) index && nat_lt (nat_abs (integer_value (signed_decimal line.lo))) index) ≡ true
node_order dump index line small earlier =
    both_true _ _ (ap (λ v. nat_lt v index) (decimal-value line.hi (omega (arith, small.below, earlier.1))) ∙ lt_test line.hi index earlier.1)
    (ap (λ v. nat_lt (nat_abs v) index) (signed-value line.lo (omega (arith, small.below, earlier.3))) ∙ lt_test (nat_abs line.lo) index earlier.3)

node_variable : (dump : Dump) (given : List Given) (index : ℕ) (line : Line) → Tell dump given → Small dump index line
    → nat_lt (digits_value 10 (decimal (internal_of dump line.var))) (number given fields.Nsuppvars) ≡ true
node_variable dump given index line tell small =
    ap (λ v. nat_lt v (number given fields.Nsuppvars)) (decimal-value (internal_of dump line.var) (omega (arith, small.internal, small.support)))
    ∙ lt_test (internal_of dump line.var) (number given fields.Nsuppvars) (omega (arith, tell.support, small.internal))

fields_fine : (dump : Dump) (given : List Given) (index : ℕ) (line : Line) → Tell dump given → Small dump index line → IsEarlier line index
    → fields_fault given index (Some (read_of dump index line)) ≡ None
fields_fine dump given index line tell small earlier =
    no_node_fault _ _ _ (node_form dump index line small earlier) (node_order dump index line small earlier) (node_variable dump given index line tell small)

abbrev mk : ℕ → ℕ → ℤ → Line
mk var hi lo = record { var = var; hi = hi; lo = lo }

node_is : (dump : Dump) (given : List Given) (index : ℕ) (line : Line) → Tell dump given → Small dump index line → IsEarlier line index → length dump.permids ≡ length dump.ids
    → Contains dump.ids line.var → node_of given (read_of dump index line) ≡ line
node_is dump given index line tell small earlier as_many has =
    ap (λ ids. mk (variable_of ids (numbers given fields.Permids) (digits_value 10 (decimal (internal_of dump line.var)))) (digits_value 10 (decimal line.hi)) (integer_value (signed_decimal line.lo))) tell.ids
    ∙ ap (λ permids. mk (variable_of dump.ids permids (digits_value 10 (decimal (internal_of dump line.var)))) (digits_value 10 (decimal line.hi)) (integer_value (signed_decimal line.lo))) tell.permids
    ∙ ap (λ internal. mk (variable_of dump.ids dump.permids internal) (digits_value 10 (decimal line.hi)) (integer_value (signed_decimal line.lo))) (decimal-value (internal_of dump line.var) (omega (arith, small.internal, small.support)))
    ∙ ap (λ var. mk var (digits_value 10 (decimal line.hi)) (integer_value (signed_decimal line.lo))) (variable_of-rank dump.ids dump.permids line.var as_many has)
    ∙ ap (λ hi. mk line.var hi (integer_value (signed_decimal line.lo))) (decimal-value line.hi (omega (arith, small.below, earlier.1)))
    ∙ ap (λ lo. mk line.var line.hi lo) (signed-value line.lo (omega (arith, small.below, earlier.3)))

-- what one node line leaves
node_left : (dump : Dump) (given : List Given) (done : List Line) (index : ℕ) (line : Line) → index < 2 ^ 64 → node_of given (read_of dump index line) ≡ line
    → after_words (listing given true done) (words_of (node_line dump index line)) ≡ listing given true (done ++ line ∷ [])
node_left dump given done index line small is =
    ap (λ (b : Bool). if b then ended given done else listing given true (done ++ node_of given (read_of dump index line) ∷ [])) (not_end index small)
    ∙ ap (λ (line : Line). listing given true (done ++ line ∷ [])) is

node_fine : (dump : Dump) (given : List Given) (done : List Line) (index : ℕ) (line : Line) → index < 2 ^ 64 → index ≡ length done + 2
    → fields_fault given index (Some (read_of dump index line)) ≡ None → words_fault (listing given true done) (words_of (node_line dump index line)) ≡ None
node_fine dump given done index line small place fine =
    ap (λ (b : Bool). if b then then_some (not (length done + 2 == number given fields.Nnodes + 1)) kinds.Count else fields_fault given (length done + 2) (Some (read_of dump index line))) (not_end index small)
    ∙ ap (λ i. fields_fault given i (Some (read_of dump index line))) (sym place) ∙ fine

node_words : (dump : Dump) (index : ℕ) (line : Line) → Small dump index line → IsEarlier line index → line.var < 2 ^ 31 → is_line (node_line dump index line) ≡ true
node_words dump index line small earlier var =
    both_true _ _ (decimal-word index (omega (arith, small.below))) (both_true _ _ (decimal-word line.var (omega (arith, var)))
    (both_true _ _ (decimal-word (internal_of dump line.var) (omega (arith, small.internal, small.support)))
    (both_true _ _ (decimal-word line.hi (omega (arith, small.below, earlier.1))) (both_true _ _ (signed-word line.lo (omega (arith, small.below, earlier.3))) refl))))

-- the rest of the node lines, and `.end`
pub record Read (dump : Dump) (given : List Given) (c : Context) (lines : List Words) : Type 0 where
  pub fine : Fine c lines
  pub left : left_by c lines ≡ ended given dump.nodes
  pub words : list_all is_line lines ≡ true

line_at : (done : List Line) (line : Line) (rest : List Line) → slice_get (done ++ line ∷ rest) (length done) ≡ Some line
line_at [] line rest = refl
line_at (first ∷ done) line rest = line_at done line rest

no_count_fault : (b : Bool) → b ≡ true → then_some (not b) kinds.Count ≡ None
no_count_fault true h = refl
no_count_fault false h = cc

pub nodes_read : (dump : Dump) (given : List Given) → IsWritable dump → dump.nvars < 2 ^ 31 → length dump.ids < 2 ^ 31 → length dump.nodes + 1 < 2 ^ 31 → Tell dump given
    → (done rest : List Line) (index : ℕ) → dump.nodes ≡ done ++ rest → index ≡ length done + 2
    → Read dump given (listing given true done) (node_lines dump index rest ++ end_lines)
nodes_read dump given may vars few many tell done [] index all place =
    let whole : dump.nodes ≡ done = all ∙ append-nil done in
    let count : length dump.nodes ≡ length done = ap (λ (lines : List Line). length lines) whole in
    record {
      fine = (no_count_fault (length done + 2 == number given fields.Nnodes + 1) (eq-eqb (length done + 2) (number given fields.Nnodes + 1) (omega (arith, count, tell.nodes))), refl);
      left = ap (ended given) (sym whole);
      words = refl;
    }
nodes_read dump given may vars few many tell done (line ∷ rest) index all place =
    let size : length dump.nodes ≡ length done + length (line ∷ rest) = ap (λ (lines : List Line). length lines) all ∙ length-append done (line ∷ rest) in
    let here : slice_get dump.nodes (length done) ≡ Some line = ap (λ (lines : List Line). slice_get lines (length done)) all ∙ line_at done line rest in
    let within : length done < length dump.nodes = omega (arith, size) in
    let earlier : IsEarlier line index = subst (λ i. IsEarlier line i) (sym place) (are_earlier dump may.well_made (length done) line here within) in
    let found : get_or dump.nodes (length done) line ≡ line = ap (λ (lines : List Line). get_or lines (length done) line) all ∙ get_or-append_seam done line rest line in
    let has : Contains dump.ids line.var = subst (λ (l : Line). Contains dump.ids l.var) found (may.holds (length done) line within) in
    let at = place_among-is dump.ids line.var has in
    let inside : place_among dump.ids line.var < length dump.permids = omega (arith, at.0, may.as_many) in
    let small : Small dump index line = record { below = omega (arith, place, size, many); internal = omega (arith, rank-below dump.permids (place_among dump.ids line.var) inside, may.as_many); support = few } in
    let low : index < 2 ^ 64 = omega (arith, small.below) in
    let var : get_or dump.ids (place_among dump.ids line.var) 0 < dump.nvars = may.below (place_among dump.ids line.var) 0 at.0 in
    let left = node_left dump given done index line low (node_is dump given index line tell small earlier may.as_many has) in
    let more : Read dump given (listing given true (done ++ line ∷ [])) (node_lines dump (index + 1) rest ++ end_lines) =
    nodes_read dump given may vars few many tell (done ++ line ∷ []) rest (index + 1) (all ∙ sym (append_assoc done (line ∷ []) rest)) (omega (arith, place, length-append done (line ∷ []))) in
    let next : Read dump given (after_words (listing given true done) (words_of (node_line dump index line))) (node_lines dump (index + 1) rest ++ end_lines) =
    subst (λ (c : Context). Read dump given c (node_lines dump (index + 1) rest ++ end_lines)) (sym left) more in
    record {
      fine = (node_fine dump given done index line low place (fields_fine dump given index line tell small earlier), next.fine);
      left = next.left;
      words = both_true _ _ (node_words dump index line small earlier (omega (arith, vars, var, at.1))) next.words;
    }
