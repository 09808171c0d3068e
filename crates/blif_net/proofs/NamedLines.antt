-- Where no line is faulty, each word of the lines is a name.
use Rattle.std.proofs.Common.{◌≡◌, ℕ, ◌&&◌, Bool, true, false, not, cond, List, [], ◌∷◌, filter, Option, Some, None, option_map, refl, ap}
use Rattle.std.specs.List.{list_all, onto_first, slice_split}
use Rattle.std.proofs.lemmas.Bool.{and_from, and_parts}
use Rattle.job_words.specs.declared.cutting.ByteClass.TheVariants.{Blank}
use Rattle.job_words.specs.Classes.{has_bytes, is_in, words_between}
use Rattle.blif_text.specs.Text.{Line, Word, is_allowed, words_of}
use Rattle.blif_text.specs.Statements.{said}
use Rattle.blif_net.specs.declared.faults.FaultKind.{FaultKind}
use Rattle.blif_net.specs.declared.faults.FaultKind.TheVariants as kinds
use Rattle.blif_net.specs.Circuits.{Context, after_line}
use Rattle.blif_net.specs.Dumped.{is_name, is_name_byte}
use Rattle.blif_net.specs.Faults.{end_fault, fault_at, faulty_line, line_fault, open_fault}
use Rattle.blif_net.proofs.NoFaults.{no_map, none_of}

-- what stands between blanks

parts_named : (bytes : List ℕ) → list_all is_allowed bytes ≡ true → list_all (list_all is_name_byte) (slice_split (is_in Blank) bytes) ≡ true
parts_named [] h = refl
parts_named (x ∷ xs) h =
    let both = and_parts (is_allowed x) (list_all is_allowed xs) h in
    by_cases (is_in Blank x) refl (slice_split (is_in Blank) xs) both.0 (parts_named xs both.1)
  where
    onto : (parts : List Word) → is_name_byte x ≡ true → list_all (list_all is_name_byte) parts ≡ true → list_all (list_all is_name_byte) (onto_first x parts) ≡ true
    onto [] e a = and_from (is_name_byte x && true) true (and_from (is_name_byte x) true e refl) refl
    onto (part ∷ parts) e a =
        let own = and_parts (list_all is_name_byte part) (list_all (list_all is_name_byte) parts) a in
        and_from (is_name_byte x && list_all is_name_byte part) (list_all (list_all is_name_byte) parts) (and_from (is_name_byte x) (list_all is_name_byte part) e own.0) own.1

    by_cases : (t : Bool) → is_in Blank x ≡ t → (parts : List Word) → is_allowed x ≡ true → list_all (list_all is_name_byte) parts ≡ true → list_all (list_all is_name_byte) (cond t ([] ∷ parts) (onto_first x parts)) ≡ true
    by_cases true e parts k a = a
    by_cases false e parts k a = onto parts (and_from (is_allowed x) (not (is_in Blank x)) k (ap not e)) a

kept_named : (words : List Word) → list_all (list_all is_name_byte) words ≡ true → list_all is_name (filter has_bytes words) ≡ true
kept_named [] h = refl
kept_named (word ∷ words) h =
    let both = and_parts (list_all is_name_byte word) (list_all (list_all is_name_byte) words) h in
    by_cases (has_bytes word) refl both.0 (kept_named words both.1)
  where
    by_cases : (t : Bool) → has_bytes word ≡ t → list_all is_name_byte word ≡ true → list_all is_name (filter has_bytes words) ≡ true → list_all is_name (cond t (word ∷ filter has_bytes words) (filter has_bytes words)) ≡ true
    by_cases true e here more = and_from (is_name word) (list_all is_name (filter has_bytes words)) (and_from (has_bytes word) (list_all is_name_byte word) e here) more
    by_cases false e here more = more

words_named : (bytes : List ℕ) → list_all is_allowed bytes ≡ true → list_all is_name (words_of bytes) ≡ true
unfolding words_between
words_named bytes h = kept_named (slice_split (is_in Blank) bytes) (parts_named bytes h)

-- lines

clean : (c : Context) (line : Line) → line_fault c line ≡ None → list_all is_allowed line.bytes ≡ true
unfolding line_fault
clean c line h = by_cases (list_all is_allowed line.bytes) refl h
  where
    rest : Option FaultKind
    rest = cond c.ended (end_fault (said line)) (open_fault c line.number (said line))

    by_cases : (b : Bool) → list_all is_allowed line.bytes ≡ b → cond (not b) (Some kinds.Word) rest ≡ None → list_all is_allowed line.bytes ≡ true
    by_cases true e k = e
    by_cases false e k = cc

pub lines_named : (c : Context) (lines : List Line) → faulty_line c lines ≡ None → list_all (λ line. list_all is_name (words_of line.bytes)) lines ≡ true
unfolding faulty_line
lines_named c [] h = refl
lines_named c (line ∷ lines) h =
    let both = none_of (option_map (λ kind. fault_at kind line.number) (line_fault c line)) (faulty_line (after_line c line) lines) h in
    let here = words_named line.bytes (clean c line (no_map (λ kind. fault_at kind line.number) (line_fault c line) both.0)) in
    and_from (list_all is_name (words_of line.bytes)) (list_all (λ (one : Line). list_all is_name (words_of one.bytes)) lines) here (lines_named (after_line c line) lines both.1)
