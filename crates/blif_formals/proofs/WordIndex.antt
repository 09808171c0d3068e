-- Words by the index that has them.
use Rattle.std.proofs.Common.{◌≡◌, ℕ, zero, suc, ◌+◌, ◌<◌, ◌≤◌, ◌||◌, not, Bool, true, false, cond, List, [], ◌∷◌, ◌++◌, length, Some, None, nat_lt, refl, ap, sym, ◌∙◌, arith, if◌then◌else◌}
use Rattle.std.specs.Prelude.{position, slice_get}
use Rattle.std.specs.Global.{Vec}
use Rattle.std.specs.List.{list_any, position_or_len}
use Rattle.std.specs.Option.{option_map}
use Rattle.std.specs.Str.{bytes_eq}
use Rattle.std.proofs.lemmas.Bool.{false≢true}
use Rattle.std.proofs.lemmas.Bool.Decides.{nat_tests}
use Rattle.std.proofs.lemmas.List.{length-map, map-append}
use Rattle.std.proofs.lemmas.Option.{slice_get-map}
use Rattle.std.proofs.lemmas.Slice.Eq.{bytes_eq-Decides}
use Rattle.job_words.specs.Text.{Word, is_among}
use Rattle.blif_formals.specs.Words.{HaveOneNumber, NumbersStay, with_word, words_of}

abbrev pub is_word : Word → Vec ℕ → Bool
is_word word key = bytes_eq word key.items

at_place : (w : Word) (keys : List (Vec ℕ)) → position_or_len (is_word w) keys < length keys → slice_get (words_of keys) (position_or_len (is_word w) keys) ≡ Some w
at_place w [] lt = absurd (omega (arith, lt))
at_place w (key ∷ keys) lt = by_cases (is_word w key) refl lt (at_place w keys)
  where
    by_cases : (t : Bool) → is_word w key ≡ t → cond (not t) (1 + position_or_len (is_word w) keys) 0 < suc (length keys)
        → (position_or_len (is_word w) keys < length keys → slice_get (words_of keys) (position_or_len (is_word w) keys) ≡ Some w)
        → slice_get (words_of (key ∷ keys)) (cond (not t) (1 + position_or_len (is_word w) keys) 0) ≡ Some w
    by_cases true e g more = ap Some (sym ((bytes_eq-Decides w key.items).0 e))
    by_cases false e g more =
        let next : 1 + position_or_len (is_word w) keys ≡ suc (position_or_len (is_word w) keys) = omega arith in
        ap (slice_get (words_of (key ∷ keys))) next ∙ more (omega (arith, g))

no_place : (w : Word) (keys : List (Vec ℕ)) → length keys ≤ position_or_len (is_word w) keys → is_among (words_of keys) w ≡ false
no_place w [] h = refl
no_place w (key ∷ keys) h = by_cases (is_word w key) refl h (no_place w keys)
  where
    by_cases : (t : Bool) → is_word w key ≡ t → suc (length keys) ≤ cond (not t) (1 + position_or_len (is_word w) keys) 0 → (length keys ≤ position_or_len (is_word w) keys → is_among (words_of keys) w ≡ false)
        → (t || is_among (words_of keys) w) ≡ false
    by_cases true e g more = absurd (omega (arith, g))
    by_cases false e g more = more (omega (arith, g))

-- what the index answers
pub found_number : (w : Word) (keys : List (Vec ℕ)) (i : ℕ) → Some i ≡ position (is_word w) keys → slice_get (words_of keys) i ≡ Some w
found_number w keys i e = by_cases (nat_lt (position_or_len (is_word w) keys) (length keys)) refl e
  where
    by_cases : (t : Bool) → nat_lt (position_or_len (is_word w) keys) (length keys) ≡ t → Some i ≡ cond t (Some (position_or_len (is_word w) keys)) None → slice_get (words_of keys) i ≡ Some w
    by_cases true f g =
        let at : i ≡ position_or_len (is_word w) keys = cc in
        let lt : position_or_len (is_word w) keys < length keys = grind (arith, nat_tests) in
        ap (slice_get (words_of keys)) at ∙ at_place w keys lt
    by_cases false f g = cc

pub found_none : (w : Word) (keys : List (Vec ℕ)) → None ≡ position (is_word w) keys → is_among (words_of keys) w ≡ false
found_none w keys e = by_cases (nat_lt (position_or_len (is_word w) keys) (length keys)) refl e
  where
    by_cases : (t : Bool) → nat_lt (position_or_len (is_word w) keys) (length keys) ≡ t → None ≡ cond t (Some (position_or_len (is_word w) keys)) None → is_among (words_of keys) w ≡ false
    by_cases true f g = cc
    by_cases false f g =
        let past : length keys ≤ position_or_len (is_word w) keys = grind (arith, nat_tests) in
        no_place w keys past

-- the index with one more word
any_word : (w : Word) (keys : List (Vec ℕ)) → list_any (is_word w) keys ≡ is_among (words_of keys) w
any_word w [] = refl
any_word w (key ∷ keys) = ap (λ b. is_word w key || b) (any_word w keys)

-- one word more

pub last_place : (words : List Word) (word : Word) → slice_get (words ++ word ∷ []) (length words) ≡ Some word
last_place [] word = refl
last_place (w ∷ words) word = last_place words word

kept_place : (words : List Word) (word : Word) (i : ℕ) (v : Word) → slice_get words i ≡ Some v → slice_get (words ++ word ∷ []) i ≡ Some v
kept_place [] word i v e = cc
kept_place (w ∷ words) word zero v e = e
kept_place (w ∷ words) word (suc i) v e = kept_place words word i v e

stays : (words : List Word) (more : Word) (i : ℕ) (word : Word) → slice_get words i ≡ Some word → slice_get (with_word words more) i ≡ Some word
stays words more i word e = by_cases (is_among words more)
  where
    by_cases : (t : Bool) → slice_get (if t then words else words ++ more ∷ []) i ≡ Some word
    by_cases true = e
    by_cases false = kept_place words more i word e

-- what stands at a place of the longer list
before_or_last : (words : List Word) (more : Word) (i : ℕ) (word : Word) → slice_get (words ++ more ∷ []) i ≡ Some word → (i < length words → slice_get words i ≡ Some word) × (i ≤ length words) × (length words ≤ i → more ≡ word)
before_or_last [] more zero word e = (λ lt. absurd (omega (arith, lt)), omega arith, λ le. cc)
before_or_last [] more (suc i) word e = cc
before_or_last (w ∷ words) more zero word e = (λ lt. e, omega arith, λ le. absurd (omega (arith, le)))
before_or_last (w ∷ words) more (suc i) word e =
    let rest = before_or_last words more i word e in
    (λ lt. rest.0 (omega (arith, lt)), omega (arith, rest.1), λ le. rest.2 (omega (arith, le)))

not_among : (words : List Word) (word : Word) (i : ℕ) → is_among words word ≡ false → slice_get words i ≡ Some word → ⊥
not_among [] word i e f = cc
not_among (w ∷ words) word zero e f =
    let same : w ≡ word = cc in
    by_cases (bytes_eq word w) ((bytes_eq-Decides word w).1 (sym same)) e
  where
    by_cases : (t : Bool) → t ≡ true → (t || is_among words word) ≡ false → ⊥
    by_cases true g h = false≢true (sym h)
    by_cases false g h = false≢true g
not_among (w ∷ words) word (suc i) e f = by_cases (bytes_eq word w) e (λ g. not_among words word i g f)
  where
    by_cases : (t : Bool) → (t || is_among words word) ≡ false → (is_among words word ≡ false → ⊥) → ⊥
    by_cases true g more = false≢true (sym g)
    by_cases false g more = more g

last_new : (words : List Word) (more : Word) → HaveOneNumber words → is_among words more ≡ false → HaveOneNumber (words ++ more ∷ [])
last_new words more h e i j word at there = by_tests (nat_lt i (length words)) refl (nat_lt j (length words)) refl (before_or_last words more i word at) (before_or_last words more j word there)
  where
    low : (k : ℕ) → nat_lt k (length words) ≡ true → k < length words
    low k f = grind (arith, nat_tests)

    high : (k : ℕ) → nat_lt k (length words) ≡ false → length words ≤ k
    high k f = grind (arith, nat_tests)

    by_tests : (s : Bool) → nat_lt i (length words) ≡ s → (t : Bool) → nat_lt j (length words) ≡ t
        → (i < length words → slice_get words i ≡ Some word) × (i ≤ length words) × (length words ≤ i → more ≡ word)
        → (j < length words → slice_get words j ≡ Some word) × (j ≤ length words) × (length words ≤ j → more ≡ word) → i ≡ j
    by_tests true f true g a b = h i j word (a.0 (low i f)) (b.0 (low j g))
    by_tests true f false g a b = absurd (not_among words more i e (a.0 (low i f) ∙ ap Some (sym (b.2 (high j g)))))
    by_tests false f true g a b = absurd (not_among words more j e (b.0 (low j g) ∙ ap Some (sym (a.2 (high i f)))))
    by_tests false f false g a b = omega (arith, a.1, b.1, high i f, high j g)

one_more : (words : List Word) (more : Word) → HaveOneNumber words → HaveOneNumber (with_word words more)
one_more words more h = by_cases (is_among words more) refl
  where
    by_cases : (t : Bool) → is_among words more ≡ t → HaveOneNumber (if t then words else words ++ more ∷ [])
    by_cases true e = h
    by_cases false e = last_new words more h e

pub numbers_stay : NumbersStay
numbers_stay = record {
  stay = stays;
  one = one_more;
}

-- the code's index

pub added : (keys keys' : List (Vec ℕ)) (key : Vec ℕ) (w : Word) → is_among (words_of keys) w ≡ false → key.items ≡ w → keys' ≡ cond (list_any (is_word key.items) keys) keys (keys ++ key ∷ []) → words_of keys' ≡ words_of keys ++ w ∷ []
added keys keys' key w new e f =
    let fresh : list_any (is_word key.items) keys ≡ false = any_word key.items keys ∙ ap (is_among (words_of keys)) e ∙ new in
    ap words_of (f ∙ ap (λ b. cond b keys (keys ++ key ∷ [])) fresh) ∙ map-append (λ (k : Vec ℕ). k.items) keys (key ∷ []) ∙ ap (λ v. words_of keys ++ v ∷ []) e

pub there_already : (words : List Word) (i : ℕ) (word : Word) → slice_get words i ≡ Some word → words ≡ with_word words word
there_already words i word e = by_cases (is_among words word) refl
  where
    by_cases : (t : Bool) → is_among words word ≡ t → words ≡ (if t then words else words ++ word ∷ [])
    by_cases true f = refl
    by_cases false f = absurd (not_among words word i f e)

-- the word that came last
pub last_word : (keys front : List (Vec ℕ)) (last : Vec ℕ) (w : Word) → keys ≡ front ++ last ∷ [] → last.items ≡ w → slice_get (words_of keys) (length front) ≡ Some w
last_word keys front last w e f =
    ap (λ ks. slice_get (words_of ks) (length front)) e ∙ ap (λ ws. slice_get ws (length front)) (map-append (λ (k : Vec ℕ). k.items) front (last ∷ []))
    ∙ ap (slice_get (words_of front ++ last.items ∷ [])) (sym (length-map front (λ (k : Vec ℕ). k.items)))
    ∙ last_place (words_of front) last.items
    ∙ ap Some f

-- a word that may be there
pub with_one : (keys keys' : List (Vec ℕ)) (key : Vec ℕ) (w : Word) → key.items ≡ w → keys' ≡ cond (list_any (is_word key.items) keys) keys (keys ++ key ∷ []) → words_of keys' ≡ with_word (words_of keys) w
with_one keys keys' key w e f = ap words_of f ∙ by_cases (list_any (is_word key.items) keys) (any_word key.items keys ∙ ap (is_among (words_of keys)) e)
  where
    by_cases : (t : Bool) → t ≡ is_among (words_of keys) w → words_of (cond t keys (keys ++ key ∷ [])) ≡ with_word (words_of keys) w
    by_cases true g = ap (λ b. cond b (words_of keys) (words_of keys ++ w ∷ [])) g
    by_cases false g = map-append (λ (k : Vec ℕ). k.items) keys (key ∷ []) ∙ ap (λ v. words_of keys ++ v ∷ []) e ∙ ap (λ b. cond b (words_of keys) (words_of keys ++ w ∷ [])) g

pub stored_word : (keys : List (Vec ℕ)) (i : ℕ) (key k : Vec ℕ) (w : Word) → key.items ≡ w → slice_get keys i ≡ Some k → is_word key.items k ≡ true → slice_get (words_of keys) i ≡ Some w
stored_word keys i key k w e at same =
    slice_get-map (λ (v : Vec ℕ). v.items) keys i ∙ ap (option_map (λ (v : Vec ℕ). v.items)) at ∙ ap Some (sym ((bytes_eq-Decides key.items k.items).0 same) ∙ e)
