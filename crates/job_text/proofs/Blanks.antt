-- Words with a blank between each two.
use Rattle.std.proofs.Common.{◌≡◌, ℕ, zero, suc, ◌+◌, ◌<◌, ◌==◌, ◌||◌, Bool, true, false, not, cond, List, [], ◌∷◌, ◌++◌, length, take, append-nil, refl, ap, sym, ◌∙◌, arith, codes}
use Rattle.std.specs.List.{All, before_first, join_with_byte, list_all, onto_first, position_or_len, slice_split}
use Rattle.std.proofs.lemmas.Bool.{false≢true, and_parts}
use Rattle.std.proofs.lemmas.List.Splits.{join_with_byte-slice_split, length-slice_split, slice_split-cons_no, slice_split-cons_yes, slice_split_at, slice_split_none}
use Rattle.job_words.specs.Text.{Word, is_separator, is_whole}
use Rattle.job_words.proofs.Split.{clean_front}
use Rattle.job_text.specs.Grammar.{target_of}
use Rattle.job_text.specs.Histories.{spaced}

abbrev is_blank : ℕ → Bool
is_blank b = b == 32

not_from : (t : Bool) → not t ≡ true → t ≡ false
not_from false h = refl
not_from true h = absurd (false≢true h)

-- no byte of a whole word is a blank
no_blank : (b : ℕ) → not (is_separator b) ≡ true → is_blank b ≡ false
no_blank b h = by_cases (is_blank b) refl
  where
    by_cases : (t : Bool) → is_blank b ≡ t → is_blank b ≡ false
    by_cases false e = e
    by_cases true e = absurd (false≢true (sym (ap (λ t. not (t || b == 9 || b == 13)) e) ∙ h))

no_blanks : (w : Word) → is_whole w ≡ true → All (λ b. is_blank b ≡ false) w
no_blanks [] h k d lt = absurd (omega (arith, lt))
no_blanks (b ∷ w) h zero d lt = no_blank b (and_parts (not (is_separator b)) (is_whole w) h).0
no_blanks (b ∷ w) h (suc k) d lt = no_blanks w (and_parts (not (is_separator b)) (is_whole w) h).1 k d (omega (arith, lt))

none_pass : (w : Word) → list_all (λ b. not (is_blank b)) w ≡ true → All (λ b. is_blank b ≡ false) w
none_pass [] h k d lt = absurd (omega (arith, lt))
none_pass (b ∷ w) h zero d lt = not_from (is_blank b) (and_parts (not (is_blank b)) (list_all (λ b. not (is_blank b)) w) h).0
none_pass (b ∷ w) h (suc k) d lt = none_pass w (and_parts (not (is_blank b)) (list_all (λ b. not (is_blank b)) w) h).1 k d (omega (arith, lt))

-- a word alone, and one more behind a blank
pub one_part : (w : Word) → is_whole w ≡ true → slice_split (λ b. b == 32) w ≡ w ∷ []
one_part w h = slice_split_none is_blank w (no_blanks w h)

onto_more : (b : ℕ) (parts : List Word) (w : Word) → 0 < length parts → onto_first b (parts ++ w ∷ []) ≡ onto_first b parts ++ w ∷ []
onto_more b [] w some = absurd (omega (arith, some))
onto_more b (part ∷ parts) w some = refl

pub part_more : (text : List ℕ) (w : Word) → is_whole w ≡ true → slice_split (λ b. b == 32) (text ++ 32 ∷ w) ≡ slice_split (λ b. b == 32) text ++ w ∷ []
part_more [] w h = slice_split-cons_yes is_blank 32 w refl ∙ ap (λ t. [] ∷ t) (one_part w h)
part_more (b ∷ text) w h = by_cases (is_blank b) refl (part_more text w h)
  where
    by_cases : (t : Bool) → is_blank b ≡ t → slice_split is_blank (text ++ 32 ∷ w) ≡ slice_split is_blank text ++ w ∷ [] → slice_split is_blank (b ∷ text ++ 32 ∷ w) ≡ slice_split is_blank (b ∷ text) ++ w ∷ []
    by_cases true e more = slice_split-cons_yes is_blank b (text ++ 32 ∷ w) e ∙ ap (λ t. [] ∷ t) more ∙ sym (ap (λ t. t ++ w ∷ []) (slice_split-cons_yes is_blank b text e))
    by_cases false e more =
        slice_split-cons_no is_blank b (text ++ 32 ∷ w) e ∙ ap (onto_first b) more ∙ onto_more b (slice_split is_blank text) w (omega (arith, length-slice_split is_blank text))
        ∙ sym (ap (λ t. t ++ w ∷ []) (slice_split-cons_no is_blank b text e))

-- the parts, with a blank between each two, are the text
is_joined : (parts : List Word) → join_with_byte 32 parts ≡ spaced parts
is_joined [] = refl
is_joined (w ∷ []) = sym (append-nil w)
is_joined (w ∷ x ∷ parts) = ap (λ t. w ++ 32 ∷ t) (is_joined (x ∷ parts))

pub spaced_parts : (text : List ℕ) → spaced (slice_split (λ b. b == 32) text) ≡ text
spaced_parts text = sym (is_joined (slice_split is_blank text)) ∙ join_with_byte-slice_split 32 text

-- the first part
target_onto : (b : ℕ) (parts : List Word) → target_of (onto_first b parts) ≡ b ∷ target_of parts
target_onto b [] = refl
target_onto b (part ∷ parts) = refl

one_more : (b : ℕ) (text : List ℕ) (n : ℕ) → take (1 + n) (b ∷ text) ≡ b ∷ take n text
one_more b text n =
    let next : 1 + n ≡ suc n = omega arith in
    ap (λ k. take k (b ∷ text)) next

pub first_part : (text : List ℕ) → target_of (slice_split (λ b. b == 32) text) ≡ before_first (λ b. b == 32) text
first_part [] = refl
first_part (b ∷ text) = by_cases (is_blank b) refl (first_part text)
  where
    by_cases : (t : Bool) → is_blank b ≡ t → target_of (slice_split is_blank text) ≡ before_first is_blank text → target_of (slice_split is_blank (b ∷ text)) ≡ before_first is_blank (b ∷ text)
    by_cases true e more = ap target_of (slice_split-cons_yes is_blank b text e) ∙ sym (ap (λ t. take (cond (not t) (1 + position_or_len is_blank text) 0) (b ∷ text)) e)
    by_cases false e more =
        ap target_of (slice_split-cons_no is_blank b text e) ∙ target_onto b (slice_split is_blank text) ∙ ap (λ t. b ∷ t) more
        ∙ sym (ap (λ t. take (cond (not t) (1 + position_or_len is_blank text) 0) (b ∷ text)) e ∙ one_more b text (position_or_len is_blank text))

-- `drop` and that part
pub drop_parts : (text : List ℕ) → slice_split (λ b. b == 32) (codes "drop " ++ before_first (λ b. b == 32) text) ≡ codes "drop" ∷ before_first (λ b. b == 32) text ∷ []
drop_parts text =
    slice_split_at is_blank (codes "drop") 32 (before_first is_blank text) (no_blanks (codes "drop") refl) refl
    ∙ ap (λ t. codes "drop" ∷ t) (slice_split_none is_blank (before_first is_blank text) (none_pass (before_first is_blank text) (clean_front is_blank text (position_or_len is_blank text) (omega arith))))
