-- A job has no more commands than half of its text's bytes.
use Rattle.std.proofs.Common.{◌≡◌, ℕ, zero, suc, ◌+◌, ◌*◌, ◌<◌, ◌≤◌, Bool, true, false, cond, List, [], ◌∷◌, ◌++◌, length, get_or, refl, arith, ap, length-append}
use Rattle.std.specs.Prelude.{◌==◌, not, All}
use Rattle.std.specs.List.{flat_map, join_with_byte, slice_split}
use Rattle.std.proofs.lemmas.List.{length-map}
use Rattle.std.proofs.lemmas.List.Splits.{join_with_byte-slice_split}
use Rattle.edge_bits.specs.declared.limits.TheConstants.{LONGEST_TEXT, MOST_ROWS}
use Rattle.job_text.specs.declared.job.Command.{Command}
use Rattle.job_text.specs.declared.job.Job.{Job}
use Rattle.job_words.specs.Classes.{words_between}
use Rattle.job_words.specs.Text.{Word, lines_of, split_words, without_empty_end, words_of}
use Rattle.job_text.specs.Grammar.{IsJobText, said_lines, section_lines}

-- how many lines have a byte
abbrev some_bytes : List (List ℕ) → ℕ
some_bytes [] = 0
some_bytes ([] ∷ lines) = some_bytes lines
some_bytes ((b ∷ line) ∷ lines) = suc (some_bytes lines)

without_end : (lines : List (List ℕ)) → some_bytes (without_empty_end lines) ≤ some_bytes lines
without_end [] = omega arith
without_end ([] ∷ []) = omega arith
without_end ([] ∷ (line ∷ lines)) = without_end (line ∷ lines)
without_end ((b ∷ line) ∷ lines) = let r = without_end lines in omega (arith, r)

-- each of them but the last has a line feed too
joined : (lines : List (List ℕ)) → 2 * some_bytes lines ≤ length (join_with_byte 10 lines) + 1
joined [] = omega arith
joined ([] ∷ []) = omega arith
joined ((b ∷ line) ∷ []) = omega arith
joined ([] ∷ (next ∷ lines)) = let r = joined (next ∷ lines) in omega (arith, r)
joined ((b ∷ line) ∷ (next ∷ lines)) =
    let r = joined (next ∷ lines) in let n = length-append line (10 ∷ join_with_byte 10 (next ∷ lines)) in omega (arith, r, n)

few_lines : (text : List ℕ) → 2 * some_bytes (lines_of text) ≤ length text + 1
unfolding lines_of
few_lines text =
    let r = joined (slice_split (λ b. b == 10) text) in
    let e = without_end (slice_split (λ b. b == 10) text) in
    let n = ap (length {A = ℕ}) (join_with_byte-slice_split 10 text) in omega (arith, r, e, n)

no_words : words_of [] ≡ []
unfolding words_of split_words words_between
no_words = refl

length-said_lines : (lines : List (List ℕ)) → length (said_lines lines) ≤ some_bytes lines
length-said_lines [] = omega arith
length-said_lines ([] ∷ lines) =
    let r = length-said_lines lines in
    let n = ap (λ words. length (cond (not (length words == 0)) (words ∷ said_lines lines) (said_lines lines))) no_words in omega (arith, r, n)
length-said_lines ((b ∷ line) ∷ lines) = by (not (length (words_of (b ∷ line)) == 0)) (length-said_lines lines)
  where
    by : (c : Bool) → length (said_lines lines) ≤ some_bytes lines → length (cond c (words_of (b ∷ line) ∷ said_lines lines) (said_lines lines)) ≤ suc (some_bytes lines)
    by true r = omega (arith, r)
    by false r = omega (arith, r)

length-sections : (sections : List (List Command)) (k : ℕ) (d : List Command) → k < length sections → length (get_or sections k d) + 1 ≤ length (flat_map section_lines sections)
length-sections [] k d below = absurd (omega arith)
length-sections (section ∷ sections) zero d below =
    omega (arith, length-append (section_lines section) (flat_map section_lines sections), length-map section (λ command. command.words))
length-sections (section ∷ sections) (suc k) d below =
    omega (arith, length-append (section_lines section) (flat_map section_lines sections), length-sections sections k d (omega arith))

pub few_commands : (text : List ℕ) (job : Job) → length text ≤ LONGEST_TEXT → IsJobText text job → All (λ commands. length commands < MOST_ROWS) job.sections
few_commands text job short is k d below =
    omega (
      arith,
      length-sections job.sections k d below,
      ap (length {A = List Word}) is.lines,
      length-append (is.element_lines ++ is.limits) (flat_map section_lines job.sections),
      length-append is.element_lines is.limits,
      length-said_lines (lines_of text),
      few_lines text,
    )
