-- Lines without a fault, read one after another.
use Rattle.std.proofs.Common.{◌≡◌, ℕ, ◌+◌, true, List, [], ◌∷◌, Option, None, map, refl, ◌∙◌, ap}
use Rattle.std.specs.List.{list_all}
use Rattle.std.specs.Option.{option_map, option_or}
use Rattle.job_words.specs.Text.{Word, split_words}
use Rattle.dddmp_text.specs.declared.faults.FaultKind.{FaultKind}
use Rattle.dddmp_text.specs.Faults.{Context, after_words, behind, end_fault, fault_at, faulty_line, words_fault}
use Rattle.dddmp_text.proofs.Decimals.{is_word}
use Rattle.dddmp_text.proofs.Spelled.{Line, and_first, and_second, is_line, joined, split_words-joined}

abbrev pub words_of : Line → List Word
words_of line = line.0 ∷ line.1

-- no line has a fault, and the end has none
abbrev pub Fine : Context → List Line → Type 0
Fine c [] = end_fault c ≡ None
Fine c (line ∷ lines) = (words_fault c (words_of line) ≡ None) × Fine (after_words c (words_of line)) lines

-- what they leave
abbrev pub left_by : Context → List Line → Context
left_by c [] = c
left_by c (line ∷ lines) = left_by (after_words c (words_of line)) lines

words_are : (line : Line) → is_line line ≡ true → split_words (joined line) ≡ words_of line
words_are line h = split_words-joined line.0 line.1 (and_first (is_word line.0) (list_all is_word line.1) h) (and_second (is_word line.0) (list_all is_word line.1) h)

pub fine-lines : (number : ℕ) (c : Context) (lines : List Line) → list_all is_line lines ≡ true → Fine c lines → faulty_line number c (map joined lines) ≡ None
unfolding faulty_line
fine-lines number c [] all fine = ap (option_map (fault_at number)) fine
fine-lines number c (line ∷ lines) all (one, rest) =
    let words = words_are line (and_first (is_line line) (list_all is_line lines) all) in
    ap (λ words. option_or (option_map (fault_at number) (words_fault c words)) (faulty_line (number + 1) (after_words c words) (map joined lines))) words
    ∙ ap (λ (fault : Option FaultKind). option_or (option_map (fault_at number) fault) (faulty_line (number + 1) (after_words c (words_of line)) (map joined lines))) one
    ∙ fine-lines (number + 1) (after_words c (words_of line)) lines (and_second (is_line line) (list_all is_line lines) all) rest

pub left-lines : (c : Context) (lines : List Line) → list_all is_line lines ≡ true → behind c (map joined lines) ≡ left_by c lines
unfolding behind
left-lines c [] all = refl
left-lines c (line ∷ lines) all =
    ap (λ words. behind (after_words c words) (map joined lines)) (words_are line (and_first (is_line line) (list_all is_line lines) all))
    ∙ left-lines (after_words c (words_of line)) lines (and_second (is_line line) (list_all is_line lines) all)
