-- No word of a text has a `#`.
use Rattle.std.proofs.Common.{◌≡◌, ℕ, suc, ◌+◌, ◌==◌, ◌||◌, ◌&&◌, not, Bool, true, false, cond, List, [], ◌∷◌, drop, filter, take, refl, ap, sym, ◌∙◌, arith}
use Rattle.std.specs.List.{before_first, list_all, list_any, onto_first, position_or_len, slice_split}
use Rattle.std.proofs.lemmas.Bool.{and_parts, false≢true}
use Rattle.std.proofs.lemmas.List.{take-append-drop}
use Rattle.std.proofs.lemmas.List.Folds.{list_any-append}
use Rattle.job_words.specs.declared.cutting.ByteClass.TheVariants.{Blank}
use Rattle.job_words.specs.Classes.{has_bytes, is_in, words_between}
use Rattle.blif_text.specs.Marks.{WordsArePlain, is_plain}
use Rattle.blif_text.specs.Text.{Line, Word, goes_on, joined_from, left_of, line_at, lines_of, onto_next, without_last, words_of}

abbrev has_mark : List ℕ → Bool
has_mark bytes = list_any (λ b. b == 35) bytes

either : (a b : Bool) → (a || b) ≡ false → (a ≡ false) × (b ≡ false)
either true b h = absurd (false≢true (sym h))
either false b h = (refl, h)

neither : (a b : Bool) → a ≡ false → b ≡ false → (a || b) ≡ false
neither a b h k = ap (λ t. t || b) h ∙ k

-- what is left of a line

front_bare : (n : ℕ) (xs : List ℕ) → has_mark xs ≡ false → has_mark (take n xs) ≡ false
front_bare n xs h = (either (has_mark (take n xs)) (has_mark (drop n xs)) (sym (list_any-append (λ b. b == 35) (take n xs) (drop n xs)) ∙ ap has_mark (take-append-drop n xs) ∙ h)).0

before_bare : (xs : List ℕ) → has_mark (before_first (λ b. b == 35) xs) ≡ false
before_bare [] = refl
before_bare (x ∷ xs) = by_cases (x == 35) refl (before_bare xs)
  where
    more : (k : ℕ) → (x == 35) ≡ false → has_mark (take k xs) ≡ false → has_mark (take (1 + k) (x ∷ xs)) ≡ false
    more k e h =
        let next : 1 + k ≡ suc k = omega arith in
        ap (λ n. has_mark (take n (x ∷ xs))) next ∙ neither (x == 35) (has_mark (take k xs)) e h

    by_cases : (t : Bool) → (x == 35) ≡ t → has_mark (before_first (λ b. b == 35) xs) ≡ false → has_mark (take (cond (not t) (1 + position_or_len (λ b. b == 35) xs) 0) (x ∷ xs)) ≡ false
    by_cases true e h = refl
    by_cases false e h = more (position_or_len (λ b. b == 35) xs) e h

left_bare : (line : List ℕ) → has_mark (left_of line) ≡ false
left_bare line = by_cases (goes_on line) refl
  where
    no_mark : (t : Bool) → not t ≡ true → t ≡ false
    no_mark true f = absurd (false≢true f)
    no_mark false f = refl

    by_cases : (t : Bool) → goes_on line ≡ t → has_mark (cond t (without_last line) (before_first (λ b. b == 35) line)) ≡ false
    by_cases true e = front_bare _ line (no_mark (has_mark line) (and_parts (not (has_mark line)) _ e).0)
    by_cases false e = before_bare line

-- joined lines

AreBare : List Line → Type 0
AreBare [] = Unit {0}
AreBare (line ∷ lines) = (has_mark line.bytes ≡ false) × AreBare lines

onto_bare : (number : ℕ) (bytes : List ℕ) (lines : List Line) → has_mark bytes ≡ false → AreBare lines → AreBare (onto_next number bytes lines)
unfolding AreBare
onto_bare number bytes [] h a = (h, tt)
onto_bare number bytes (next ∷ lines) h a = (list_any-append (λ b. b == 35) bytes next.bytes ∙ neither (has_mark bytes) (has_mark next.bytes) h a.0, a.1)

joined_bare : (number : ℕ) (lines : List (List ℕ)) → AreBare (joined_from number lines)
unfolding AreBare joined_from
joined_bare number [] = tt
joined_bare number (line ∷ lines) = by_cases (goes_on line) (joined_bare (number + 1) lines)
  where
    by_cases : (t : Bool) → AreBare (joined_from (number + 1) lines) → AreBare (cond t (onto_next number (left_of line) (joined_from (number + 1) lines)) (line_at number (left_of line) ∷ joined_from (number + 1) lines))
    by_cases true a = onto_bare number (left_of line) (joined_from (number + 1) lines) (left_bare line) a
    by_cases false a = (left_bare line, a)

-- words

ArePlain : List Word → Type 0
ArePlain [] = Unit {0}
ArePlain (word ∷ words) = (has_mark word ≡ false) × ArePlain words

parts_plain : (bytes : List ℕ) → has_mark bytes ≡ false → ArePlain (slice_split (is_in Blank) bytes)
unfolding ArePlain
parts_plain [] h = (refl, tt)
parts_plain (x ∷ xs) h = let both = either (x == 35) (has_mark xs) h in by_cases (is_in Blank x) (slice_split (is_in Blank) xs) both.0 (parts_plain xs both.1)
  where
    onto : (parts : List Word) → (x == 35) ≡ false → ArePlain parts → ArePlain (onto_first x parts)
    onto [] e a = (neither (x == 35) false e refl, tt)
    onto (part ∷ parts) e a = (neither (x == 35) (has_mark part) e a.0, a.1)

    by_cases : (t : Bool) (parts : List Word) → (x == 35) ≡ false → ArePlain parts → ArePlain (cond t ([] ∷ parts) (onto_first x parts))
    by_cases true parts e a = (refl, a)
    by_cases false parts e a = onto parts e a

kept_plain : (words : List Word) → ArePlain words → list_all is_plain (filter has_bytes words) ≡ true
unfolding ArePlain
kept_plain [] a = refl
kept_plain (word ∷ words) a = by_cases (has_bytes word) (kept_plain words a.1)
  where
    by_cases : (t : Bool) → list_all is_plain (filter has_bytes words) ≡ true → list_all is_plain (cond t (word ∷ filter has_bytes words) (filter has_bytes words)) ≡ true
    by_cases true h = ap (λ b. not b && list_all is_plain (filter has_bytes words)) a.0 ∙ h
    by_cases false h = h

words_plain : (bytes : List ℕ) → has_mark bytes ≡ false → list_all is_plain (words_of bytes) ≡ true
unfolding words_between
words_plain bytes h = kept_plain (slice_split (is_in Blank) bytes) (parts_plain bytes h)

all_plain : (lines : List Line) → AreBare lines → list_all (λ line. list_all is_plain (words_of line.bytes)) lines ≡ true
unfolding AreBare
all_plain [] a = refl
all_plain (line ∷ lines) a = ap (λ b. b && list_all (λ other. list_all is_plain (words_of other.bytes)) lines) (words_plain line.bytes a.0) ∙ all_plain lines a.1

pub words_are_plain : WordsArePlain
words_are_plain text = all_plain (joined_from 1 (lines_of text)) (joined_bare 1 (lines_of text))
