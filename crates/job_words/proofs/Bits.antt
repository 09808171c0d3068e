-- 0-1 words and their bits.
use Rattle.std.proofs.Common.{◌≡◌, ℕ, ◌==◌, ◌&&◌, ◌||◌, Bool, true, false, not, cond, List, [], ◌∷◌, length, map, refl, ap, sym, ◌∙◌, arith, codes, suc}
use Rattle.std.specs.List.{list_all}
use Rattle.std.specs.Str.{bytes_eq}
use Rattle.std.proofs.lemmas.Bool.{false≢true}
use Rattle.std.proofs.lemmas.Bool.Decides.{nat_tests}
use Rattle.job_words.specs.Text.{bit_word, is_bits, bits_in}

and_true : (a b : Bool) → (a && b) ≡ true → (a ≡ true) × (b ≡ true)
and_true true b h = (refl, h)
and_true false b h = absurd (false≢true h)

bit_back : (x : ℕ) → (x == 48 || x == 49) ≡ true → cond (x == 49) 49 48 ≡ x
bit_back x h = grind (arith, nat_tests)

bits_back : (w : List ℕ) → list_all (λ b. b == 48 || b == 49) w ≡ true → map (λ c. cond c 49 48) (map (λ b. b == 49) w) ≡ w
bits_back [] h = refl
bits_back (x ∷ w) h =
    let k = and_true (x == 48 || x == 49) (list_all (λ b. b == 48 || b == 49) w) h in
    ap (λ y. y ∷ map (λ c. cond c 49 48) (map (λ b. b == 49) w)) (bit_back x k.0) ∙ ap (λ v. x ∷ v) (bits_back w k.1)

length_bits : (w : List ℕ) → length (map (λ b. b == 49) w) ≡ length w
length_bits [] = refl
length_bits (x ∷ w) = ap suc (length_bits w)

bits_lem : (w : List ℕ) (bs : List Bool) → bytes_eq w (codes "none") ≡ false → (length w == 0) ≡ false → list_all (λ b. b == 48 || b == 49) w ≡ true → bs ≡ map (λ b. b == 49) w
    → (w ≡ bit_word bs) × (length bs ≡ bits_in w)
bits_lem [] bs word some all e = absurd (false≢true (sym some))
bits_lem (x ∷ w) bs word some all e = (
  sym (bits_back (x ∷ w) all) ∙ ap bit_word (sym e),
  ap length e ∙ length_bits (x ∷ w) ∙ ap (λ b. cond b 0 (length (x ∷ w))) (sym word),
)

not_true : (b : Bool) → not b ≡ true → b ≡ false
not_true true h = absurd (false≢true h)
not_true false h = refl

-- the word of bits
abbrev pub digits_of : List Bool → List ℕ
digits_of bs = map (λ c. cond c 49 48) bs

length_word : (bs : List Bool) → length (digits_of bs) ≡ length bs
length_word [] = refl
length_word (b ∷ bs) = ap suc (length_word bs)

all_bits : (bs : List Bool) → list_all (λ b. b == 48 || b == 49) (digits_of bs) ≡ true
all_bits [] = refl
all_bits (true ∷ bs) = all_bits bs
all_bits (false ∷ bs) = all_bits bs

pub no_none : (b : Bool) (bs : List Bool) → bytes_eq (bit_word (b ∷ bs)) (codes "none") ≡ false
no_none true bs = refl
no_none false bs = refl

not_zero : (n : ℕ) → (suc n == 0) ≡ false
not_zero n = grind (arith, nat_tests)

pub form_of_bits : (bs : List Bool) → is_bits (bit_word bs) ≡ true
form_of_bits [] = refl
form_of_bits (b ∷ bs) =
    ap (λ t. t || (not (length (bit_word (b ∷ bs)) == 0) && list_all (λ b. b == 48 || b == 49) (bit_word (b ∷ bs)))) (no_none b bs)
    ∙ ap (λ t. not t && list_all (λ b. b == 48 || b == 49) (bit_word (b ∷ bs))) (not_zero (length (digits_of bs)))
    ∙ all_bits (b ∷ bs)

pub length_bit_word : (bs : List Bool) → bits_in (bit_word bs) ≡ length bs
length_bit_word [] = refl
length_bit_word (b ∷ bs) = ap (λ t. cond t 0 (length (bit_word (b ∷ bs)))) (no_none b bs) ∙ length_word (b ∷ bs)

-- the bits of a 0-1 word that is not `none`
pub bits_are : (w : List ℕ) (bs : List Bool) → is_bits w ≡ true → bytes_eq w (codes "none") ≡ false → bs ≡ map (λ b. b == 49) w → (w ≡ bit_word bs) × (length bs ≡ bits_in w)
bits_are w bs h word e =
    let k = and_true (not (length w == 0)) (list_all (λ b. b == 48 || b == 49) w) (sym (ap (λ b. b || (not (length w == 0) && list_all (λ b. b == 48 || b == 49) w)) word) ∙ h) in
    bits_lem w bs word (not_true (length w == 0) k.0) k.1 e
