-- Lines of words, cut into lines and words again.
use Rattle.std.proofs.Common.{◌≡◌, ℕ, ◌<◌, ◌==◌, nat_lt, Bool, true, false, not, ◌&&◌, List, [], ◌∷◌, ◌++◌, All, length, filter, map, get_or, refl, ◌∙◌, ap, arith, if◌then◌else◌, append_assoc}
use Rattle.std.specs.List.{flat_map, list_all, slice_split}
use Rattle.std.proofs.lemmas.List.{append-nil}
use Rattle.std.proofs.lemmas.List.Elements.{All-append, All-cons, All-nil}
use Rattle.std.proofs.lemmas.Bool.Decides.{nat_tests}
use Rattle.std.proofs.lemmas.List.Splits.{length-slice_split, slice_split_at, slice_split_none}
use Rattle.std.proofs.lemmas.List.Sums.{AllPass-from_list_all}
use Rattle.job_words.specs.Classes.{words_between}
use Rattle.job_words.specs.Text.{is_separator, lines_of, without_empty_end, split_words}
use Rattle.dddmp_text.specs.Written.{item}
use Rattle.dddmp_text.proofs.Decimals.{is_word}

no_separator : (b : ℕ) → nat_lt 32 b ≡ true → is_separator b ≡ false
no_separator b h = grind (arith, nat_tests)

no_feed : (b : ℕ) → nat_lt 32 b ≡ true → (b == 10) ≡ false
no_feed b h = grind (arith, nat_tests)

-- a word that has bytes, and those
pub and_first : (a b : Bool) → (a && b) ≡ true → a ≡ true
and_first true b h = refl
and_first false b h = cc

pub and_second : (a b : Bool) → (a && b) ≡ true → b ≡ true
and_second true b h = h
and_second false b h = cc

no_separators : (word : List ℕ) → is_word word ≡ true → All (λ b. is_separator b ≡ false) word
no_separators word h i d within = no_separator (get_or word i d) (AllPass-from_list_all (λ b. nat_lt 32 b) word (and_second _ _ h) i d within)

-- of a word and words, each behind a blank
abbrev pub joined_words : List ℕ → List (List ℕ) → List ℕ
joined_words word words = word ++ flat_map (λ next. 32 ∷ next) words

-- an empty word is none
abbrev has_bytes : List ℕ → Bool
has_bytes word = not (length word == 0)

kept : (word : List ℕ) (rest : List (List ℕ)) → has_bytes word ≡ true → filter has_bytes (word ∷ rest) ≡ word ∷ filter has_bytes rest
kept word rest h = ap (λ (b : Bool). if b then word ∷ filter has_bytes rest else filter has_bytes rest) h

pub split_words-joined : (word : List ℕ) (words : List (List ℕ)) → is_word word ≡ true → list_all is_word words ≡ true → split_words (joined_words word words) ≡ word ∷ words
unfolding split_words words_between
split_words-joined word [] h all =
    ap (λ line. filter has_bytes (slice_split is_separator line)) (append-nil word)
    ∙ ap (filter has_bytes) (slice_split_none is_separator word (no_separators word h)) ∙ kept word [] (and_first _ _ h)
split_words-joined word (next ∷ words) h all =
    ap (filter has_bytes) (slice_split_at is_separator word 32 (joined_words next words) (no_separators word h) refl)
    ∙ kept word (slice_split is_separator (joined_words next words)) (and_first _ _ h)
    ∙ ap (λ rest. word ∷ rest) (split_words-joined next words (and_first _ _ all) (and_second _ _ all))

more_lines : (line : List ℕ) (parts : List (List ℕ)) → 0 < length parts → without_empty_end (line ∷ parts) ≡ line ∷ without_empty_end parts
more_lines line [] h = absurd (omega arith)
more_lines [] (y ∷ ys) h = refl
more_lines (x ∷ xs) (y ∷ ys) h = refl

-- a line, its line feed, and the rest
pub lines_of-line : (line rest : List ℕ) → All (λ b. (b == 10) ≡ false) line → lines_of (line ++ 10 ∷ rest) ≡ line ∷ lines_of rest
unfolding lines_of
lines_of-line line rest clean =
    let some : 0 < length (slice_split (λ b. b == 10) rest) = omega (arith, length-slice_split (λ b. b == 10) rest) in
    ap without_empty_end (slice_split_at (λ b. b == 10) line 10 rest clean refl) ∙ more_lines line (slice_split (λ b. b == 10) rest) some

-- no line feed stands in a line
no_feeds : (word : List ℕ) → is_word word ≡ true → All (λ b. (b == 10) ≡ false) word
no_feeds word h i d within = no_feed (get_or word i d) (AllPass-from_list_all (λ b. nat_lt 32 b) word (and_second _ _ h) i d within)

no_feeds-behind : (words : List (List ℕ)) → list_all is_word words ≡ true → All (λ b. (b == 10) ≡ false) (flat_map (λ next. 32 ∷ next) words)
no_feeds-behind [] all = All-nil (λ b. (b == 10) ≡ false)
no_feeds-behind (word ∷ words) all =
    All-append (λ b. (b == 10) ≡ false) (32 ∷ word) (flat_map (λ next. 32 ∷ next) words)
    (All-cons (λ b. (b == 10) ≡ false) 32 word refl (no_feeds word (and_first _ _ all))) (no_feeds-behind words (and_second _ _ all))

-- a line by its words: the first, and those behind it
abbrev pub Line : Type 0
Line = List ℕ × List (List ℕ)

abbrev pub joined : Line → List ℕ
joined line = joined_words line.0 line.1

abbrev pub is_line : Line → Bool
is_line line = is_word line.0 && list_all is_word line.1

abbrev pub text_of : List Line → List ℕ
text_of lines = flat_map (λ line. item line.0 line.1) lines

pub lines_of-text : (lines : List Line) → list_all is_line lines ≡ true → lines_of (text_of lines) ≡ map joined lines
unfolding lines_of
lines_of-text [] all = refl
lines_of-text (line ∷ lines) all =
    let one = and_first (is_line line) (list_all is_line lines) all in
    ap lines_of (append_assoc (joined line) (10 ∷ []) (text_of lines))
    ∙ lines_of-line (joined line) (text_of lines)
    (All-append (λ b. (b == 10) ≡ false) line.0 _ (no_feeds line.0 (and_first (is_word line.0) (list_all is_word line.1) one)) (no_feeds-behind line.1 (and_second (is_word line.0) (list_all is_word line.1) one)))
    ∙ ap (λ rest. joined line ∷ rest) (lines_of-text lines (and_second (is_line line) (list_all is_line lines) all))
