-- What is written for a dump is read as that dump.
use Rattle.std.proofs.Common.{◌≡◌, ℕ, ◌+◌, ◌<◌, ◌≤◌, ◌^◌, ◌==◌, nat_lt, Bool, true, false, not, ◌||◌, List, [], ◌∷◌, ◌++◌, ℤ, None, codes, length, map, get_or, nat_abs, refl, sym, ◌∙◌, ap, subst, arith}
use Rattle.std.specs.List.{list_all, list_any}
use Rattle.std.specs.Fmt.{decimal, signed_decimal}
use Rattle.std.proofs.lemmas.Bool.{eq-eqb}
use Rattle.std.proofs.lemmas.Bool.Decides.{nat_tests}
use Rattle.std.proofs.lemmas.List.{length-map}
use Rattle.std.proofs.lemmas.List.Sums.{list_all-from_AllPass}
use Rattle.std.specs.Bool.{then_some}
use Rattle.job_words.specs.Text.{integer_value, is_number, lines_of}
use Rattle.edge_bits.specs.declared.edges.Line.{Line}
use Rattle.edge_bits.specs.declared.limits.TheConstants.{MOST_VARIABLES}
use Rattle.diagram_dumps.specs.declared.dump.Dump.{Dump}
use Rattle.dddmp_text.specs.declared.fields.Field.TheVariants as fields
use Rattle.dddmp_text.specs.declared.fields.Given.{Given}
use Rattle.dddmp_text.specs.declared.faults.FaultKind.TheVariants as kinds
use Rattle.dddmp_text.specs.Fields.{number, numbers, whole_numbers}
use Rattle.dddmp_text.specs.Faults.{at_start, behind, dump_in, dump_of, ended, fault_of, faulty_line, heading, is_bad_root, is_other_count, listing, words_fault}
use Rattle.diagram_dumps.specs.WellMade.{IsWritable}
use Rattle.dddmp_text.specs.Written.{written}
use Rattle.dddmp_text.specs.Readings.{IsReadAgain, IsSmall}
use Rattle.dddmp_text.proofs.Decimals.{both_true, decimal-integer}
use Rattle.dddmp_text.proofs.HeaderSteps.{AreSmall, are_small, few, no_header_fault, none_or, number-form, number-word, numbers-form, numbers-values, numbers-words, roots-form, roots-good, roots-values, roots-words}
use Rattle.dddmp_text.proofs.NodeSteps.{Read, Tell, lt_test, nodes_read}
use Rattle.dddmp_text.proofs.Spelled.{Line as Words, is_line, joined, lines_of-text}
use Rattle.dddmp_text.proofs.Steps.{Fine, fine-lines, left-lines, left_by}
use Rattle.diagram_dumps.proofs.Walks.{AreLines, are_lines}
use Rattle.dddmp_text.proofs.WrittenLines.{end_lines, header_lines, node_lines, written-text, written_lines}

-- the fields of the header that is written
abbrev given_of : Dump → List Given
given_of dump =
    record { field = fields.Ver; numbers = [] }
    ∷ record { field = fields.Mode; numbers = [] }
    ∷ record { field = fields.Varinfo; numbers = map integer_value (codes "0" ∷ []) }
    ∷ record { field = fields.Nnodes; numbers = map integer_value (decimal (length dump.nodes + 1) ∷ []) }
    ∷ record { field = fields.Nvars; numbers = map integer_value (decimal dump.nvars ∷ []) }
    ∷ record { field = fields.Nsuppvars; numbers = map integer_value (decimal (length dump.ids) ∷ []) }
    ∷ record { field = fields.Ids; numbers = map integer_value (map decimal dump.ids) }
    ∷ record { field = fields.Permids; numbers = map integer_value (map decimal dump.permids) }
    ∷ record { field = fields.Nroots; numbers = map integer_value (decimal (length dump.roots) ∷ []) }
    ∷ record { field = fields.Rootids; numbers = map integer_value (map signed_decimal dump.roots) } ∷ []

-- the first two of them
abbrev given_two : List Given
given_two = record { field = fields.Ver; numbers = [] } ∷ record { field = fields.Mode; numbers = [] } ∷ []

-- the numbers of the dump are small
record Sizes (dump : Dump) : Type 0 where
  variables : dump.nvars ≤ MOST_VARIABLES
  ids : AreSmall dump.ids
  permids : AreSmall dump.permids
  support : length dump.ids < 2 ^ 31
  nodes : length dump.nodes + 1 < 2 ^ 31
  count : length dump.roots < 2 ^ 31
  roots : AreLines dump.roots ((length dump.nodes + 1) + 1)

sizes : (dump : Dump) → IsWritable dump → IsSmall dump → Sizes dump
sizes dump may small = record {
  variables = small.variables;
  ids = are_small dump.ids (λ i d within. let below : get_or dump.ids i d < dump.nvars = may.below i d within in omega (arith, small.variables, below));
  permids = are_small dump.permids small.positions;
  support = omega (arith, few dump.ids dump.nvars may.rises may.below, small.variables);
  nodes = small.nodes;
  count = small.roots;
  roots = let same : 2 + length dump.nodes ≡ (length dump.nodes + 1) + 1 = omega arith in subst (λ n. AreLines dump.roots n) same (are_lines dump may.well_made);
}

tells : (dump : Dump) → Sizes dump → Tell dump (given_of dump)
tells dump small = record {
  ids = numbers-values dump.ids small.ids;
  permids = numbers-values dump.permids small.permids;
  support = ap nat_abs (decimal-integer (length dump.ids) small.support);
  nodes = ap nat_abs (decimal-integer (length dump.nodes + 1) small.nodes);
}

field_fine : (b : Bool) → b ≡ true → then_some (not b) kinds.Header ≡ None
field_fine true h = refl
field_fine false h = cc

varinfo_fine : words_fault (heading given_two) (codes ".varinfo" ∷ codes "0" ∷ []) ≡ None
unfolding is_number
varinfo_fine = refl

-- a list has as many numbers as its count says
same_count : (zs : List ℤ) (n v : ℕ) → length zs ≡ n → v ≡ n → not (length zs == v) ≡ false
same_count zs n v long is = ap not (eq-eqb (length zs) v (long ∙ sym is))

counts_fine : (dump : Dump) → IsWritable dump → Sizes dump
    → (is_other_count (given_of dump) fields.Ids fields.Nsuppvars || is_other_count (given_of dump) fields.Permids fields.Nsuppvars || is_other_count (given_of dump) fields.Rootids fields.Nroots) ≡ false
counts_fine dump may small =
    let support : nat_abs (integer_value (decimal (length dump.ids))) ≡ length dump.ids = ap nat_abs (decimal-integer (length dump.ids) small.support) in
    let count : nat_abs (integer_value (decimal (length dump.roots))) ≡ length dump.roots = ap nat_abs (decimal-integer (length dump.roots) small.count) in
    none_or _ _ (none_or _ _
    (same_count (map integer_value (map decimal dump.ids)) (length dump.ids) _ (length-map (map decimal dump.ids) integer_value ∙ length-map dump.ids decimal) support)
    (same_count (map integer_value (map decimal dump.permids)) (length dump.ids) _ (length-map (map decimal dump.permids) integer_value ∙ length-map dump.permids decimal ∙ may.as_many) support))
    (same_count (map integer_value (map signed_decimal dump.roots)) (length dump.roots) _ (length-map (map signed_decimal dump.roots) integer_value ∙ length-map dump.roots signed_decimal) count)

not_more : (most n : ℕ) → n ≤ most → nat_lt most n ≡ false
not_more most n h = grind (arith, nat_tests)

variables_fine : (dump : Dump) → IsWritable dump → Sizes dump
    → (nat_lt MOST_VARIABLES (number (given_of dump) fields.Nvars) || not (list_all (λ id. nat_lt id (number (given_of dump) fields.Nvars)) (numbers (given_of dump) fields.Ids))) ≡ false
variables_fine dump may small =
    let vars : number (given_of dump) fields.Nvars ≡ dump.nvars = ap nat_abs (decimal-integer dump.nvars (omega (arith, small.variables))) in
    none_or _ _ (ap (λ n. nat_lt MOST_VARIABLES n) vars ∙ not_more MOST_VARIABLES dump.nvars small.variables)
    (ap (λ n. not (list_all (λ id. nat_lt id n) (numbers (given_of dump) fields.Ids))) vars
    ∙ ap (λ ids. not (list_all (λ id. nat_lt id dump.nvars) ids)) (numbers-values dump.ids small.ids)
    ∙ ap not (list_all-from_AllPass (λ id. nat_lt id dump.nvars) dump.ids (λ i d within. lt_test (get_or dump.ids i d) dump.nvars (may.below i d within))))

roots_fine : (dump : Dump) → Sizes dump → list_any (is_bad_root (number (given_of dump) fields.Nnodes)) (whole_numbers (given_of dump) fields.Rootids) ≡ false
roots_fine dump small =
    ap (λ n. list_any (is_bad_root n) (whole_numbers (given_of dump) fields.Rootids)) (ap nat_abs (decimal-integer (length dump.nodes + 1) small.nodes))
    ∙ ap (λ roots. list_any (is_bad_root (length dump.nodes + 1)) roots) (roots-values dump.roots ((length dump.nodes + 1) + 1) small.roots (omega (arith, small.nodes)))
    ∙ roots-good dump.roots (length dump.nodes + 1) small.roots

header_fine : (dump : Dump) (rest : List Words) → IsWritable dump → Sizes dump → Fine (listing (given_of dump) true []) rest → Fine at_start (header_lines dump ++ rest)
header_fine dump rest may small fine = (
  refl,
  (
    refl,
    (
      varinfo_fine,
      (
        field_fine _ (number-form (length dump.nodes + 1) small.nodes),
        (
          field_fine _ (number-form dump.nvars (omega (arith, small.variables))),
          (
            field_fine _ (number-form (length dump.ids) small.support),
            (
              field_fine _ (numbers-form dump.ids small.ids),
              (
                field_fine _ (numbers-form dump.permids small.permids),
                (
                  field_fine _ (number-form (length dump.roots) small.count),
                  (
                    field_fine _ (roots-form dump.roots ((length dump.nodes + 1) + 1) small.roots (omega (arith, small.nodes))),
                    (no_header_fault _ _ _ (counts_fine dump may small) (variables_fine dump may small) (roots_fine dump small), (refl, fine)),
                  ),
                ),
              ),
            ),
          ),
        ),
      ),
    ),
  ),
)

header_left : (dump : Dump) (rest : List Words) → left_by at_start (header_lines dump ++ rest) ≡ left_by (listing (given_of dump) true []) rest
header_left dump rest = refl

header_words : (dump : Dump) (rest : List Words) → Sizes dump → list_all is_line rest ≡ true → list_all is_line (header_lines dump ++ rest) ≡ true
header_words dump rest small words =
    both_true _ _ (both_true _ _ (number-word (length dump.nodes + 1) small.nodes) refl)
    (both_true _ _ (both_true _ _ (number-word dump.nvars (omega (arith, small.variables))) refl)
    (both_true _ _ (both_true _ _ (number-word (length dump.ids) small.support) refl)
    (both_true _ _ (numbers-words dump.ids small.ids)
    (both_true _ _ (numbers-words dump.permids small.permids)
    (both_true _ _ (both_true _ _ (number-word (length dump.roots) small.count) refl)
    (both_true _ _ (roots-words dump.roots ((length dump.nodes + 1) + 1) small.roots (omega (arith, small.nodes))) words))))))

-- the dump that the fields and the node lines give
abbrev mk : ℕ → List ℕ → List ℕ → List Line → List ℤ → Dump
mk nvars ids permids nodes roots = record { nvars = nvars; ids = ids; permids = permids; nodes = nodes; roots = roots }

dump_is : (dump : Dump) → Sizes dump → dump_in (ended (given_of dump) dump.nodes) ≡ dump
dump_is dump small =
    ap (λ nvars. mk nvars (numbers (given_of dump) fields.Ids) (numbers (given_of dump) fields.Permids) dump.nodes (whole_numbers (given_of dump) fields.Rootids))
    (ap nat_abs (decimal-integer dump.nvars (omega (arith, small.variables))))
    ∙ ap (λ ids. mk dump.nvars ids (numbers (given_of dump) fields.Permids) dump.nodes (whole_numbers (given_of dump) fields.Rootids)) (numbers-values dump.ids small.ids)
    ∙ ap (λ permids. mk dump.nvars dump.ids permids dump.nodes (whole_numbers (given_of dump) fields.Rootids)) (numbers-values dump.permids small.permids)
    ∙ ap (λ roots. mk dump.nvars dump.ids dump.permids dump.nodes roots) (roots-values dump.roots ((length dump.nodes + 1) + 1) small.roots (omega (arith, small.nodes)))

nodes_are : (dump : Dump) → IsWritable dump → Sizes dump → Read dump (given_of dump) (listing (given_of dump) true []) (node_lines dump 2 dump.nodes ++ end_lines)
nodes_are dump may small = nodes_read dump (given_of dump) may (omega (arith, small.variables)) small.support small.nodes (tells dump small) [] dump.nodes 2 refl refl

lines_are : (dump : Dump) → IsWritable dump → Sizes dump → lines_of (written dump) ≡ map joined (written_lines dump)
lines_are dump may small =
    ap lines_of (written-text dump) ∙ lines_of-text (written_lines dump) (header_words dump (node_lines dump 2 dump.nodes ++ end_lines) small (nodes_are dump may small).words)

pub read_again : IsReadAgain
unfolding fault_of dump_of
read_again dump may small =
    let size = sizes dump may small in
    let nodes = nodes_are dump may size in
    let lines = lines_are dump may size in
    let words = header_words dump (node_lines dump 2 dump.nodes ++ end_lines) size nodes.words in
    record {
      faultless = ap (faulty_line 1 at_start) lines ∙ fine-lines 1 at_start (written_lines dump) words (header_fine dump (node_lines dump 2 dump.nodes ++ end_lines) may size nodes.fine);
      dump_is = sym (ap (λ texts. dump_in (behind at_start texts)) lines ∙ ap dump_in (left-lines at_start (written_lines dump) words ∙ header_left dump (node_lines dump 2 dump.nodes ++ end_lines) ∙ nodes.left)
          ∙ dump_is dump size);
    }
