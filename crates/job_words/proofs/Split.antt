-- Where a text is cut.
use Rattle.std.proofs.Common.{◌≡◌, ℕ, zero, suc, ◌+◌, ◌&&◌, ◌<◌, ◌≤◌, ◌==◌, Bool, true, false, not, cond, ltb, filter, List, [], ◌∷◌, ◌++◌, length, Some, None, unwrap_or, take, drop, refl, ap, sym, ◌∙◌, arith}
use Rattle.std.specs.List.{list_all, position, position_or_len, slice_split}
use Rattle.std.proofs.lemmas.Bool.Decides.{nat_tests}
use Rattle.std.proofs.lemmas.List.Splits.{slice_split_first, slice_split_none, length-slice_split}
use Rattle.std.proofs.lemmas.List.Sums.{fails_before_first}
use Rattle.std.proofs.lemmas.List.{take_all}
use Rattle.job_words.specs.declared.cutting.ByteClass.{ByteClass}
use Rattle.job_words.specs.declared.cutting.ByteClass.TheVariants.{BlankOrReturn}
use Rattle.job_words.specs.Classes.{has_bytes, is_in, some_word, words_between}
use Rattle.job_words.specs.Text.{Word, lines_of, split_words, without_empty_end}

least : (k n : ℕ) → k ≤ n → unwrap_or (cond (ltb k n) (Some k) None) n ≡ k
least k n h = grind (arith, nat_tests)

pub place_lem : {X : Type 0} (p : X → Bool) (xs : List X) → position_or_len p xs ≤ length xs → unwrap_or (position p xs) (length xs) ≡ position_or_len p xs
place_lem p xs h = least (position_or_len p xs) (length xs) h

more_lines : (line : List ℕ) (parts : List (List ℕ)) → 0 < length parts → without_empty_end (line ∷ parts) ≡ line ∷ without_empty_end parts
more_lines line [] h = absurd (omega arith)
more_lines [] (y ∷ ys) h = refl
more_lines (x ∷ xs) (y ∷ ys) h = refl

one_line : (text : List ℕ) → 0 < length text → without_empty_end (text ∷ []) ≡ text ∷ []
one_line [] h = absurd (omega arith)
one_line (x ∷ xs) h = refl

-- what stands before the first that passes, and the parts of what stands behind it
pub parts_at : (p : ℕ → Bool) (xs : List ℕ) (end : ℕ) → end ≡ position_or_len p xs → end < length xs → slice_split p xs ≡ take end xs ∷ slice_split p (drop (end + 1) xs)
parts_at p xs end e h =
    let short : position_or_len p xs < length xs = omega (arith, e) in
    slice_split_first p xs 0 short ∙ ap (λ k. take k xs ∷ slice_split p (drop (k + 1) xs)) (sym e)

-- where none passes there is one part
pub one_part : (p : ℕ → Bool) (xs : List ℕ) → length xs ≤ position_or_len p xs → slice_split p xs ≡ xs ∷ []
one_part p xs h = slice_split_none p xs (λ k d short. fails_before_first p xs k d (omega arith))

-- the first line of a text, and one that is the last
pub first_line : (text line rest : List ℕ) → slice_split (λ b. b == 10) text ≡ line ∷ slice_split (λ b. b == 10) rest → lines_of text ≡ line ∷ lines_of rest
unfolding lines_of
first_line text line rest e =
    let some : 0 < length (slice_split (λ b. b == 10) rest) = omega (arith, length-slice_split (λ b. b == 10) rest) in
    ap without_empty_end e ∙ more_lines line (slice_split (λ b. b == 10) rest) some

pub last_line : (text rest : List ℕ) → slice_split (λ b. b == 10) text ≡ text ∷ [] → 0 < length text → rest ≡ [] → lines_of text ≡ text ∷ lines_of rest
unfolding lines_of
last_line text rest e some none = ap without_empty_end e ∙ one_line text some ∙ ap (λ r. text ∷ without_empty_end (slice_split (λ b. b == 10) r)) (sym none)

-- words, piece by piece
onto : (b : Bool) (piece : Word) (words : List Word) → cond b (piece ∷ words) words ≡ cond b (piece ∷ []) [] ++ words
onto true piece words = refl
onto false piece words = refl

pub words_at : (class : ByteClass) (line piece rest : List ℕ) → slice_split (is_in class) line ≡ piece ∷ slice_split (is_in class) rest
    → words_between class line ≡ some_word piece ++ words_between class rest
unfolding words_between
words_at class line piece rest e = ap (filter has_bytes) e ∙ onto (has_bytes piece) piece (words_between class rest)

pub words_none : (class : ByteClass) (line rest : List ℕ) → slice_split (is_in class) line ≡ line ∷ [] → rest ≡ []
    → words_between class line ≡ some_word line ++ words_between class rest
unfolding words_between
words_none class line rest e none =
    ap (filter has_bytes) e ∙ onto (has_bytes line) line [] ∙ ap (λ r. some_word line ++ words_between class r) (sym none)

pub no_words : (line : List ℕ) → line ≡ [] → split_words line ≡ []
unfolding split_words words_between
no_words line e = ap (words_between BlankOrReturn) e

not_zero : (n : ℕ) → (suc n == 0) ≡ true → ⊥
not_zero n h = let e : suc n ≡ 0 = grind (arith, nat_tests) in omega (arith, e)

pub is_nothing : (text : List ℕ) → (length text == 0) ≡ true → text ≡ []
is_nothing [] h = refl
is_nothing (b ∷ text) h = absurd (not_zero (length text) h)

-- what stands before the first that passes
pub clean_front : (p : ℕ → Bool) (xs : List ℕ) (k : ℕ) → k ≤ position_or_len p xs → list_all (λ b. not (p b)) (take k xs) ≡ true
clean_front p xs zero h = refl
clean_front p [] (suc k) h = refl
clean_front p (x ∷ xs) (suc k) h = by_cases (p x) refl (clean_front p xs k)
  where
    by_cases : (b : Bool) → p x ≡ b → (k ≤ position_or_len p xs → list_all (λ b. not (p b)) (take k xs) ≡ true) → list_all (λ b. not (p b)) (take (suc k) (x ∷ xs)) ≡ true
    by_cases true e more = absurd (omega (arith, h, ap (λ b. cond (not b) (1 + position_or_len p xs) 0) e))
    by_cases false e more =
        ap (λ b. not b && list_all (λ b. not (p b)) (take k xs)) e ∙ more (omega (arith, h, ap (λ b. cond (not b) (1 + position_or_len p xs) 0) e))

pub whole_line : (p : ℕ → Bool) (xs : List ℕ) → length xs ≤ position_or_len p xs → list_all (λ b. not (p b)) xs ≡ true
whole_line p xs h = sym (ap (list_all (λ b. not (p b))) (take_all (length xs) xs (omega arith))) ∙ clean_front p xs (length xs) h
