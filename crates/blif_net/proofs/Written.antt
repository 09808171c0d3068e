-- Texts that are written line by line, with single blanks between the words of a line, and what is read of them. A word may hold `\`,
-- but not at its end.
use Rattle.std.proofs.Common.{◌≡◌, ℕ, suc, ◌+◌, ◌-◌, ◌<◌, ◌≤◌, ◌==◌, ◌&&◌, ◌||◌, not, Bool, true, false, cond, List, [], ◌∷◌, ◌++◌, length, map, drop, get_or, Option, Some, None, refl, ap, sym, ◌∙◌, arith, append_assoc, append-nil, length-append}
use Rattle.std.specs.Prelude.{nat_eq, nat_le}
use Rattle.std.specs.List.{All, before_first, ends_with, list_all, list_any, position_or_len}
use Rattle.std.specs.Cmp.Lexicographic.{pointwise}
use Rattle.std.specs.Option.{option_map, option_or}
use Rattle.std.proofs.lemmas.Bool.{and_from, and_parts, and_right, both_ways, cond-false, cond-true, ne_eqb, not-true, or_right}
use Rattle.std.proofs.lemmas.Bool.Decides.{nat_tests}
use Rattle.std.proofs.lemmas.List.{take_all}
use Rattle.std.proofs.lemmas.List.Folds.{list_all-append}
use Rattle.std.proofs.lemmas.List.Splits.{slice_split_at, slice_split_none}
use Rattle.std.proofs.lemmas.List.Sums.{AllPass-from_list_all}
use Rattle.job_words.specs.declared.cutting.ByteClass.TheVariants.{Blank}
use Rattle.job_words.specs.Classes.{has_bytes, is_in, some_word, words_between}
use Rattle.job_words.proofs.Split.{words_at, words_none}
use Rattle.blif_net.specs.declared.faults.BlifFault.{BlifFault}
use Rattle.blif_net.specs.declared.faults.FaultKind.TheVariants as kinds
use Rattle.blif_text.specs.Text.{Word, Line, goes_on, is_allowed, joined_from, joined_lines, left_of, line_at, lines_of, without_last, without_return, words_of}
use Rattle.blif_text.specs.Statements.{said, statement_of}
use Rattle.blif_net.specs.PlainTexts.{Context, after_line, behind, end_fault, fault_on, faulty_line, line_fault, open_fault}
use Rattle.blif_text.proofs.Joining.{joined_here}
use Rattle.blif_text.proofs.Split.{first_line}
use Rattle.blif_dump.specs.Lines.{line_with, spaced, text_of}
use Rattle.blif_net.proofs.NoFaults.{all_weaker}

-- the byte cuts no word and no line, and begins no comment
abbrev pub is_plain : ℕ → Bool
is_plain b = nat_le 33 b && not (b == 35) && not (b == 127)

-- nor does the word let a line go on that ends with it
abbrev pub is_plain_word : Word → Bool
is_plain_word word = has_bytes word && list_all is_plain word && not (ends_with nat_eq word (92 ∷ []))

pub record IsPlain (word : Word) : Type 0 where
  pub bytes : has_bytes word ≡ true
  pub plain : list_all is_plain word ≡ true
  pub ends : ends_with nat_eq word (92 ∷ []) ≡ false

pub plain_parts : (word : Word) → is_plain_word word ≡ true → IsPlain word
plain_parts word h =
    let both = and_parts (has_bytes word && list_all is_plain word) (not (ends_with nat_eq word (92 ∷ []))) h in
    let front = and_parts (has_bytes word) (list_all is_plain word) both.0 in
    record { bytes = front.0; plain = front.1; ends = not-true (ends_with nat_eq word (92 ∷ [])) both.1 }

pub plain_from : (word : Word) → IsPlain word → is_plain_word word ≡ true
plain_from word h =
    and_from (has_bytes word && list_all is_plain word) (not (ends_with nat_eq word (92 ∷ [])))
    (and_from (has_bytes word) (list_all is_plain word) h.bytes h.plain) (ap not h.ends)

abbrev pub ArePlain : List (List Word) → Type 0
ArePlain lines = list_all (list_all is_plain_word) lines ≡ true

-- the lines, numbered from here on
abbrev pub numbered : ℕ → List (List Word) → List Line
numbered number [] = []
numbered number (words ∷ lines) = line_at number (line_with words) ∷ numbered (number + 1) lines

-- none passes
all_fail : (p : ℕ → Bool) (xs : List ℕ) → list_all (λ b. not (p b)) xs ≡ true → All (λ b. p b ≡ false) xs
all_fail p xs h = λ k d short. not-true (p (get_or xs k d)) (AllPass-from_list_all (λ b. not (p b)) xs h k d short)

-- words
plain_blank : (b : ℕ) → is_plain b ≡ true → not (is_in Blank b) ≡ true
plain_blank b h = grind (arith, nat_tests)

one_word : (word : Word) → has_bytes word ≡ true → some_word word ≡ word ∷ []
one_word word h = cond-true (has_bytes word) (word ∷ []) [] h

words_written : (word : Word) (words : List Word) → list_all is_plain_word (word ∷ words) ≡ true → words_between Blank (word ++ spaced words) ≡ word ∷ words
unfolding words_between
words_written word [] h =
    let own = and_parts (is_plain_word word) true h in
    let plain = plain_parts word own.0 in
    ap (words_between Blank) (append-nil word)
    ∙ words_none Blank word [] (slice_split_none (is_in Blank) word (all_fail (is_in Blank) word (all_weaker is_plain (λ b. not (is_in Blank b)) word plain_blank plain.plain))) refl
    ∙ ap (λ t. t ++ []) (one_word word plain.bytes)
words_written word (next ∷ words) h =
    let own = and_parts (is_plain_word word) (list_all is_plain_word (next ∷ words)) h in
    let plain = plain_parts word own.0 in
    let rest = next ++ spaced words in
    words_at Blank (word ++ 32 ∷ rest) word rest
    (slice_split_at (is_in Blank) word 32 rest (all_fail (is_in Blank) word (all_weaker is_plain (λ b. not (is_in Blank b)) word plain_blank plain.plain)) refl)
    ∙ ap (λ t. t ++ words_between Blank rest) (one_word word plain.bytes)
    ∙ ap (λ t. word ∷ t) (words_written next words own.1)

-- the words of a written line are read
pub words_read : (words : List Word) → list_all is_plain_word words ≡ true → words_of (line_with words) ≡ words
unfolding words_between
words_read [] h = refl
words_read (word ∷ words) h = words_written word words h

-- the bytes of a written line
abbrev is_lined : ℕ → Bool
is_lined b = b == 32 || is_plain b

spaced_lined : (words : List Word) → list_all is_plain_word words ≡ true → list_all is_lined (spaced words) ≡ true
spaced_lined [] h = refl
spaced_lined (word ∷ words) h =
    let own = and_parts (is_plain_word word) (list_all is_plain_word words) h in
    list_all-append is_lined word (spaced words)
    ∙ and_from (list_all is_lined word) (list_all is_lined (spaced words))
    (all_weaker is_plain is_lined word (λ b e. or_right (b == 32) (is_plain b) e) (plain_parts word own.0).plain) (spaced_lined words own.1)

line_lined : (words : List Word) → list_all is_plain_word words ≡ true → list_all is_lined (line_with words) ≡ true
line_lined [] h = refl
line_lined (word ∷ words) h = spaced_lined (word ∷ words) h

lined_allowed : (b : ℕ) → is_lined b ≡ true → is_allowed b ≡ true
lined_allowed b h = grind (arith, nat_tests)

lined_cut : (b : ℕ) → is_lined b ≡ true → not (b == 10) ≡ true
lined_cut b h = grind (arith, nat_tests)

lined_comment : (b : ℕ) → is_lined b ≡ true → not (b == 35) ≡ true
lined_comment b h = grind (arith, nat_tests)

one_less : (n : ℕ) → suc (suc n) - 1 ≡ suc (suc n - 1)
one_less n = omega arith

-- a list in which a byte doesn't stand doesn't end with it
pub no_end : (p : ℕ → Bool) (c : ℕ) (xs : List ℕ) → list_all p xs ≡ true → p c ≡ false → ends_with nat_eq xs (c ∷ []) ≡ false
no_end p c [] h e = refl
no_end p c (x ∷ []) h e = ap (λ b. b && true) (ne_eqb c x (λ same. both_ways (p c) e (ap p same ∙ (and_parts (p x) true h).0)))
no_end p c (x ∷ y ∷ ys) h e =
    let own = and_parts (p x) (list_all p (y ∷ ys)) h in
    ap (λ n. pointwise nat_eq (c ∷ []) (drop n (x ∷ y ∷ ys))) (one_less (length ys)) ∙ no_end p c (y ∷ ys) own.1 e

-- a list ends as what stands last in it
end_behind : (c x : ℕ) (xs : List ℕ) → 0 < length xs → ends_with nat_eq (x ∷ xs) (c ∷ []) ≡ ends_with nat_eq xs (c ∷ [])
end_behind c x xs h =
    let same : suc (length xs) - 1 ≡ suc (length xs - 1) = omega arith in
    ap (λ n. pointwise nat_eq (c ∷ []) (drop n (x ∷ xs))) same

end_of : (c : ℕ) (front back : List ℕ) → 0 < length back → ends_with nat_eq (front ++ back) (c ∷ []) ≡ ends_with nat_eq back (c ∷ [])
end_of c [] back h = refl
end_of c (x ∷ front) back h = end_behind c x (front ++ back) (omega (arith, h, length-append front back)) ∙ end_of c front back h

some_bytes : (word : Word) → has_bytes word ≡ true → 0 < length word
some_bytes [] h = cc
some_bytes (b ∷ word) h = omega arith

word_ends : (word : Word) (words : List Word) → list_all is_plain_word (word ∷ words) ≡ true → ends_with nat_eq (word ++ spaced words) (92 ∷ []) ≡ false
word_ends word [] h = ap (λ t. ends_with nat_eq t (92 ∷ [])) (append-nil word) ∙ (plain_parts word (and_parts (is_plain_word word) true h).0).ends
word_ends word (next ∷ words) h =
    let own = and_parts (is_plain_word word) (list_all is_plain_word (next ∷ words)) h in
    let plain = plain_parts next (and_parts (is_plain_word next) (list_all is_plain_word words) own.1).0 in
    let rest = next ++ spaced words in
    let many : 0 < length rest = omega (arith, some_bytes next plain.bytes, length-append next (spaced words)) in
    ap (λ t. ends_with nat_eq t (92 ∷ [])) (sym (append_assoc word (32 ∷ []) rest)) ∙ end_of 92 (word ++ 32 ∷ []) rest many ∙ word_ends next words own.1

line_ends : (words : List Word) → list_all is_plain_word words ≡ true → ends_with nat_eq (line_with words) (92 ∷ []) ≡ false
line_ends [] h = refl
line_ends (word ∷ words) h = word_ends word words h

none_before : (p : ℕ → Bool) (xs : List ℕ) → list_all (λ b. not (p b)) xs ≡ true → length xs ≤ position_or_len p xs
none_before p [] h = omega arith
none_before p (x ∷ xs) h =
    let own = and_parts (not (p x)) (list_all (λ b. not (p b)) xs) h in
    let rest = none_before p xs own.1 in
    let here : position_or_len p (x ∷ xs) ≡ 1 + position_or_len p xs = cond-true (not (p x)) (1 + position_or_len p xs) 0 own.0 in
    omega (arith, rest, here)

-- a line that is no other's part is left as it is
stays : (line : List ℕ) → list_all is_lined line ≡ true → ends_with nat_eq line (92 ∷ []) ≡ false → (without_return line ≡ line) × (goes_on line ≡ false) × (left_of line ≡ line)
stays line h end =
    let on : goes_on line ≡ false = and_right (not (list_any (λ b. b == 35) line)) (ends_with nat_eq line (92 ∷ [])) end in (
      cond-false (ends_with nat_eq line (13 ∷ [])) (without_last line) line (no_end is_lined 13 line h refl),
      on,
      cond-false (goes_on line) (without_last line) (before_first (λ b. b == 35) line) on
          ∙ take_all (position_or_len (λ b. b == 35) line) line (none_before (λ b. b == 35) line (all_weaker is_lined (λ b. not (b == 35)) line lined_comment h)),
    )

-- the lines of a written text are read
split_written : (lines : List (List Word)) → ArePlain lines → lines_of (text_of lines) ≡ map line_with lines
unfolding lines_of
split_written [] h = refl
split_written (words ∷ lines) h =
    let own = and_parts (list_all is_plain_word words) (list_all (list_all is_plain_word) lines) h in
    let line = line_with words in
    let lined = line_lined words own.0 in
    ap lines_of (append_assoc line (10 ∷ []) (text_of lines))
    ∙ first_line (line ++ 10 ∷ text_of lines) line (text_of lines)
    (slice_split_at (λ b. b == 10) line 10 (text_of lines) (all_fail (λ b. b == 10) line (all_weaker is_lined (λ b. not (b == 10)) line lined_cut lined)) refl)
    ∙ ap (λ t. t ∷ lines_of (text_of lines)) (stays line lined (line_ends words own.0)).0
    ∙ ap (λ t. line ∷ t) (split_written lines own.1)

joined_written : (number : ℕ) (lines : List (List Word)) → ArePlain lines → joined_from number (map line_with lines) ≡ numbered number lines
unfolding joined_from
joined_written number [] h = refl
joined_written number (words ∷ lines) h =
    let own = and_parts (list_all is_plain_word words) (list_all (list_all is_plain_word) lines) h in
    let line = line_with words in
    let same = stays line (line_lined words own.0) (line_ends words own.0) in
    joined_here number line (map line_with lines) same.1
    ∙ ap (λ t. line_at number t ∷ joined_from (number + 1) (map line_with lines)) same.2
    ∙ ap (λ t. line_at number line ∷ t) (joined_written (number + 1) lines own.1)

pub lines_read : (lines : List (List Word)) → ArePlain lines → joined_lines (text_of lines) ≡ numbered 1 lines
lines_read lines h = ap (joined_from 1) (split_written lines h) ∙ joined_written 1 lines h

-- lines behind lines
pub numbered_behind : (number : ℕ) (front back : List (List Word)) → numbered number (front ++ back) ≡ numbered number front ++ numbered (number + length front) back
numbered_behind number [] back = let same : number ≡ number + 0 = omega arith in ap (λ n. numbered n back) same
numbered_behind number (words ∷ front) back =
    let same : number + 1 + length front ≡ number + suc (length front) = omega arith in
    ap (λ t. line_at number (line_with words) ∷ t) (numbered_behind (number + 1) front back ∙ ap (λ n. numbered (number + 1) front ++ numbered n back) same)

pub left_behind : (c : Context) (front back : List Line) → behind c (front ++ back) ≡ behind (behind c front) back
unfolding behind
left_behind c [] back = refl
left_behind c (line ∷ front) back = left_behind (after_line c line) front back

or_assoc : (a b c : Option BlifFault) → option_or a (option_or b c) ≡ option_or (option_or a b) c
or_assoc None b c = refl
or_assoc (Some fault) b c = refl

pub faulty_behind : (c : Context) (front back : List Line) → faulty_line c (front ++ back) ≡ option_or (faulty_line c front) (faulty_line (behind c front) back)
unfolding faulty_line behind
faulty_behind c [] back = refl
faulty_behind c (line ∷ front) back =
    let here = option_map (fault_on line) (line_fault c line) in
    ap (option_or here) (faulty_behind (after_line c line) front back)
    ∙ or_assoc here (faulty_line (after_line c line) front) (faulty_line (behind (after_line c line) front) back)

-- what a written line says
pub said_written : (number : ℕ) (words : List Word) → list_all is_plain_word words ≡ true → said (line_at number (line_with words)) ≡ statement_of words
said_written number words h = ap statement_of (words_read words h)

-- and whether it is faulty, where `.end` didn't come
pub written_fault : (c : Context) (number : ℕ) (words : List Word) → list_all is_plain_word words ≡ true → c.ended ≡ false → line_fault c (line_at number (line_with words)) ≡ open_fault c (statement_of words)
unfolding line_fault
written_fault c number words h going =
    let line = line_at number (line_with words) in
    let rest = cond c.ended (end_fault (said line)) (open_fault c (said line)) in
    ap (λ b. cond (not b) (Some kinds.Word) rest) (all_weaker is_lined is_allowed (line_with words) lined_allowed (line_lined words h))
    ∙ ap (λ b. cond b (end_fault (said line)) (open_fault c (said line))) going
    ∙ ap (open_fault c) (said_written number words h)
