-- Words that stand once in lists, and names of copies.
use Rattle.std.proofs.Common.{◌≡◌, ℕ, ◌==◌, ◌||◌, Bool, true, false, List, [], ◌∷◌, ◌++◌, append_assoc, codes, inl, inr, map, refl, ap, sym, ◌∙◌}
use Rattle.std.specs.Prelude.{◌⊎◌}
use Rattle.std.specs.List.{flat_map, list_any}
use Rattle.std.specs.Str.{bytes_eq}
use Rattle.std.proofs.lemmas.Bool.{false≢true}
use Rattle.std.proofs.lemmas.List.{map-append}
use Rattle.std.proofs.lemmas.List.Folds.{list_any-append}
use Rattle.std.proofs.lemmas.Slice.Eq.{bytes_eq-Decides}
use Rattle.job_words.specs.Text.{Word, is_among}
use Rattle.blif_models.specs.Models.{Named, Use, names_of, numeral, uses_on}
use Rattle.blif_drafts.proofs.NamesApart.{digits_plain, marked, one_number, parted}
use Rattle.blif_wholes.specs.Defined.{Once}

pub true_or_false : (b : Bool) → (b ≡ true) ⊎ (b ≡ false)
true_or_false true = inl refl
true_or_false false = inr refl

pub never : {A : Type 0} (b : Bool) → b ≡ true → b ≡ false → A
never b h k = absurd (false≢true (sym k ∙ h))

pub not_so : (b : Bool) → (b ≡ true → ⊥) → b ≡ false
not_so true h = absurd (h refl)
not_so false h = refl

either_true : (a b : Bool) → (a || b) ≡ true → (a ≡ true) ⊎ (b ≡ true)
either_true true b h = inl refl
either_true false b h = inr h

both_false : (a b : Bool) → (a || b) ≡ false → (a ≡ false) × (b ≡ false)
both_false true b h = absurd (false≢true (sym h))
both_false false b h = (refl, h)

from_right : (a b : Bool) → b ≡ true → (a || b) ≡ true
from_right true b h = refl
from_right false b h = h

-- a word among words

pub same_word : (a b : Word) → bytes_eq a b ≡ true → a ≡ b
same_word a b h = (bytes_eq-Decides a b).0 h

pub own_word : (a : Word) → bytes_eq a a ≡ true
own_word a = (bytes_eq-Decides a a).1 refl

pub first_among : (word : Word) (words : List Word) → is_among (word ∷ words) word ≡ true
first_among word words = ap (λ b. b || is_among words word) (own_word word)

pub later_among : (word : Word) (words : List Word) (z : Word) → is_among words z ≡ true → is_among (word ∷ words) z ≡ true
later_among word words z h = from_right (bytes_eq z word) (is_among words z) h

pub among_either : (word : Word) (words : List Word) (z : Word) → is_among (word ∷ words) z ≡ true → (z ≡ word) ⊎ (is_among words z ≡ true)
among_either word words z h = by_kind (either_true (bytes_eq z word) (is_among words z) h)
  where
    by_kind : (bytes_eq z word ≡ true) ⊎ (is_among words z ≡ true) → (z ≡ word) ⊎ (is_among words z ≡ true)
    by_kind (inl e) = inl (same_word z word e)
    by_kind (inr e) = inr e

pub among_parts : (front back : List Word) (z : Word) → is_among (front ++ back) z ≡ true → (is_among front z ≡ true) ⊎ (is_among back z ≡ true)
among_parts front back z h = either_true (is_among front z) (is_among back z) (sym (list_any-append (bytes_eq z) front back) ∙ h)

pub among_front : (front back : List Word) (z : Word) → is_among front z ≡ true → is_among (front ++ back) z ≡ true
among_front front back z h = list_any-append (bytes_eq z) front back ∙ ap (λ b. b || is_among back z) h

pub among_back : (front back : List Word) (z : Word) → is_among back z ≡ true → is_among (front ++ back) z ≡ true
among_back front back z h = list_any-append (bytes_eq z) front back ∙ from_right (is_among front z) (is_among back z) h

-- lists in which each word stands once

pub once_parts : (front back : List Word) → Once (front ++ back) → Once front × Once back × ((z : Word) → is_among front z ≡ true → is_among back z ≡ true → ⊥)
once_parts [] back h = (tt, h, λ z e f. false≢true e)
once_parts (word ∷ front) back h =
    let parts = once_parts front back h.1 in
    let fresh = both_false (is_among front word) (is_among back word) (sym (list_any-append (bytes_eq word) front back) ∙ h.0) in
    ((fresh.0, parts.0), parts.1, λ z e f. by_kind z parts.2 fresh.1 (among_either word front z e) f)
  where
    by_kind : (z : Word) → ((z : Word) → is_among front z ≡ true → is_among back z ≡ true → ⊥) → is_among back word ≡ false → (z ≡ word) ⊎ (is_among front z ≡ true) → is_among back z ≡ true → ⊥
    by_kind z apart fresh (inl e) f = false≢true (sym fresh ∙ ap (is_among back) (sym e) ∙ f)
    by_kind z apart fresh (inr e) f = apart z e f

pub once_from : (front back : List Word) → Once front → Once back → ((z : Word) → is_among front z ≡ true → is_among back z ≡ true → ⊥) → Once (front ++ back)
once_from [] back a b apart = b
once_from (word ∷ front) back a b apart = (
  list_any-append (bytes_eq word) front back ∙ ap (λ t. t || is_among back word) a.0 ∙ not_so (is_among back word) (λ e. apart word (first_among word front) e),
  once_from front back a.1 b (λ z e f. apart z (later_among word front z e) f),
)

-- the words of uses and definitions

abbrev pub words_by : List Use → List Word
words_by uses = map (λ one. one.word) uses

pub words_on : (line : ℕ) (words : List Word) → words_by (uses_on line words) ≡ words
words_on line [] = refl
words_on line (word ∷ words) = ap (λ t. word ∷ t) (words_on line words)

pub words_named : (lines : List Named) → words_by (flat_map (λ one. uses_on one.line one.words) lines) ≡ names_of lines
words_named [] = refl
words_named (one ∷ lines) = map-append (λ (two : Use). two.word) (uses_on one.line one.words) (flat_map (λ (two : Named). uses_on two.line two.words) lines) ∙ (λ j. words_on one.line one.words j ++ words_named lines j)

-- a name in a copy

pub marked_name : ℕ → Word → Word
marked_name number name = numeral number ++ codes "#" ++ name

pub marked_is : (number : ℕ) (name : Word) → marked_name number name ≡ numeral number ++ codes "#" ++ name
unfolding marked_name
marked_is number name = refl

seam : (number : ℕ) (name : Word) → marked_name number name ≡ numeral number ++ 35 ∷ name
unfolding marked_name
seam number name = append_assoc (numeral number) (35 ∷ []) name

pub marked_apart : (m n : ℕ) (one other : Word) → marked_name m one ≡ marked_name n other → (m ≡ n) × (one ≡ other)
marked_apart m n one other h =
    let parts = parted (numeral m) (numeral n) one other (digits_plain m) (digits_plain n) (sym (seam m one) ∙ h ∙ seam n other) in
    (one_number m n parts.0, parts.1)

pub has_its_mark : (number : ℕ) (name : Word) → list_any (λ b. b == 35) (marked_name number name) ≡ true
has_its_mark number name = ap (list_any (λ b. b == 35)) (seam number name) ∙ marked (numeral number) name
