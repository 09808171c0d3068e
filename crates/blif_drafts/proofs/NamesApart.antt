-- Names of the whole, parted at their first `#`.
use Rattle.std.proofs.Common.{◌≡◌, ℕ, ◌+◌, ◌^◌, ◌==◌, ◌<◌, ◌||◌, not, Bool, true, false, List, [], ◌∷◌, ◌++◌, Some, append_assoc, codes, drop, get_or, length, map, refl, ap, sym, ◌∙◌, subst, arith, if◌then◌else◌}
use Rattle.std.specs.Fmt.{decimal}
use Rattle.std.specs.Int.Digits.{digits_of}
use Rattle.std.specs.List.{list_any}
use Rattle.std.proofs.lemmas.Bool.{false≢true}
use Rattle.std.proofs.lemmas.Fmt.{decimal-digits_of}
use Rattle.std.proofs.lemmas.Int.Digits.{same_from_digits_of}
use Rattle.std.proofs.lemmas.Option.{slice_get-get_or}
use Rattle.job_words.specs.Text.{Word}
use Rattle.blif_order.proofs.Walks.{same_number}
use Rattle.blif_models.specs.declared.numbered.Spot.{Spot}
use Rattle.blif_models.specs.Models.{numeral}
use Rattle.blif_models.specs.Numberings.{own_word, words_at}
use Rattle.blif_formals.specs.Words.{HaveOneNumber}
use Rattle.blif_text.specs.Marks.{is_plain}
use Rattle.blif_drafts.specs.WholeNames.{WholeNamesApart}

abbrev pub has_mark : Word → Bool
has_mark word = list_any (λ b. b == 35) word

pub no_mark : (word : Word) → is_plain word ≡ true → has_mark word ≡ false
no_mark word e = by_cases (has_mark word) e
  where
    by_cases : (t : Bool) → not t ≡ true → t ≡ false
    by_cases true f = absurd (false≢true f)
    by_cases false f = refl

-- digits are no marks

digit_apart : (n : ℕ) → ((48 + n) == 35) ≡ false
digit_apart n = by_cases ((48 + n) == 35) refl
  where
    by_cases : (t : Bool) → ((48 + n) == 35) ≡ t → t ≡ false
    by_cases true e = let same : 48 + n ≡ 35 = same_number (48 + n) 35 e in absurd (omega (arith, same))
    by_cases false e = refl

digits_apart : (digits : List ℕ) → has_mark (map (λ d. 48 + d) digits) ≡ false
digits_apart [] = refl
digits_apart (d ∷ digits) = λ j. digit_apart d j || digits_apart digits j

pub digits_plain : (n : ℕ) → has_mark (numeral n) ≡ false
digits_plain n = digits_apart (digits_of 10 n)

-- numbers of one numeral are one

same_digits : (ds es : List ℕ) → map (λ d. 48 + d) ds ≡ map (λ d. 48 + d) es → ds ≡ es
same_digits [] [] h = refl
same_digits [] (e ∷ es) h = cc
same_digits (d ∷ ds) [] h = cc
same_digits (d ∷ ds) (e ∷ es) h =
    let first : 48 + d ≡ 48 + e = ap (λ (l : Word). get_or l 0 0) h in
    let rest : map (λ x. 48 + x) ds ≡ map (λ x. 48 + x) es = ap (λ (l : Word). drop 1 l) h in
    let here : d ≡ e = omega (arith, first) in
    λ j. here j ∷ same_digits ds es rest j

pub one_number : (m n : ℕ) → numeral m ≡ numeral n → m ≡ n
one_number m n h = same_from_digits_of 10 m n (omega arith) (same_digits (digits_of 10 m) (digits_of 10 n) h)

-- a number of 64 bits is written so
pub written_number : (n : ℕ) → 0 < n → n < 2 ^ 64 → decimal n ≡ numeral n
written_number n some small = decimal-digits_of n some small

-- what stands before a mark

pub parted : (a b : Word) (x y : Word) → has_mark a ≡ false → has_mark b ≡ false → a ++ 35 ∷ x ≡ b ++ 35 ∷ y → (a ≡ b) × (x ≡ y)
parted [] [] x y e f same = (refl, ap (λ (l : Word). drop 1 l) same)
parted [] (c ∷ b) x y e f same =
    let first : 35 ≡ c = ap (λ (l : Word). get_or l 0 0) same in
    absurd (false≢true (sym (subst (λ k. ((k == 35) || has_mark b) ≡ false) (sym first) f)))
parted (c ∷ a) [] x y e f same =
    let first : c ≡ 35 = ap (λ (l : Word). get_or l 0 0) same in
    absurd (false≢true (sym (subst (λ k. ((k == 35) || has_mark a) ≡ false) first e)))
parted (c ∷ a) (d ∷ b) x y e f same =
    let first : c ≡ d = ap (λ (l : Word). get_or l 0 0) same in
    let rest = parted a b x y (behind (c == 35) (has_mark a) e) (behind (d == 35) (has_mark b) f) (ap (λ (l : Word). drop 1 l) same) in
    ((λ j. first j ∷ rest.0 j), rest.1)
  where
    behind : (s t : Bool) → (s || t) ≡ false → t ≡ false
    behind true t g = absurd (false≢true (sym g))
    behind false t g = g

pub marked : (a x : Word) → has_mark (a ++ 35 ∷ x) ≡ true
marked [] x = refl
marked (c ∷ a) x = by_cases (c == 35) (marked a x)
  where
    by_cases : (t : Bool) → has_mark (a ++ 35 ∷ x) ≡ true → (t || has_mark (a ++ 35 ∷ x)) ≡ true
    by_cases true e = refl
    by_cases false e = e

-- the same name of one model

one_name : (words : List (List Word)) (m k i j : ℕ) → m ≡ k → HaveOneNumber (words_at words m) → i < length (words_at words m) → j < length (words_at words k) → own_word words m i ≡ own_word words k j → i ≡ j
one_name words m k i j e h lt below same =
    let under : j < length (words_at words m) = subst (λ n. j < length (words_at words n)) (sym e) below in
    let alike : own_word words m i ≡ own_word words m j = same ∙ ap (λ n. own_word words n j) (sym e) in
    h i j (own_word words m j) (slice_get-get_or (words_at words m) i [] lt ∙ ap Some alike) (slice_get-get_or (words_at words m) j [] under)

pub whole_names_apart : WholeNamesApart
whole_names_apart words one other plain h is also copies same = by_cases (one.copy == 0) refl (other.copy == 0) refl same
  where
    named : (t : Bool) → Spot → Word
    named t spot = if t then own_word words spot.model spot.name else numeral spot.copy ++ codes "#" ++ own_word words spot.model spot.name

    seam : (spot : Spot) → named false spot ≡ numeral spot.copy ++ 35 ∷ own_word words spot.model spot.name
    seam spot = append_assoc (numeral spot.copy) (35 ∷ []) (own_word words spot.model spot.name)

    alone : (spot : Spot) → has_mark (own_word words spot.model spot.name) ≡ false
    alone spot = no_mark (own_word words spot.model spot.name) (plain spot.model spot.name)

    by_cases : (s : Bool) → (one.copy == 0) ≡ s → (t : Bool) → (other.copy == 0) ≡ t → named s one ≡ named t other → (one.copy ≡ other.copy) × (one.name ≡ other.name)
    by_cases true e true f g =
        let both : one.copy ≡ other.copy = same_number one.copy 0 e ∙ sym (same_number other.copy 0 f) in
        (both, one_name words one.model other.model one.name other.name (copies both) h is also g)
    by_cases true e false f g = absurd (false≢true (sym (alone one) ∙ ap has_mark (g ∙ seam other) ∙ marked (numeral other.copy) (own_word words other.model other.name)))
    by_cases false e true f g = absurd (false≢true (sym (alone other) ∙ ap has_mark (sym g ∙ seam one) ∙ marked (numeral one.copy) (own_word words one.model one.name)))
    by_cases false e false f g =
        let parts = parted (numeral one.copy) (numeral other.copy) (own_word words one.model one.name) (own_word words other.model other.name) (digits_plain one.copy) (digits_plain other.copy) (sym (seam one) ∙ g ∙ seam other) in
        let both : one.copy ≡ other.copy = one_number one.copy other.copy parts.0 in
        (both, one_name words one.model other.model one.name other.name (copies both) h is also parts.1)
