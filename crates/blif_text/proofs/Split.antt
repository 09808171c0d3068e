-- Where a text is cut.
use Rattle.std.proofs.Common.{◌≡◌, ℕ, suc, ◌<◌, ◌==◌, true, List, [], ◌∷◌, length, refl, ap, sym, ◌∙◌, arith}
use Rattle.std.specs.List.{slice_split}
use Rattle.std.proofs.lemmas.Bool.Decides.{nat_tests}
use Rattle.std.proofs.lemmas.List.Splits.{length-slice_split}
use Rattle.job_words.specs.declared.cutting.ByteClass.TheVariants.{Blank}
use Rattle.job_words.specs.Classes.{words_between}
use Rattle.blif_text.specs.Text.{words_of, lines_of, physical, unless_empty, without_return}

more_lines : (line : List ℕ) (parts : List (List ℕ)) → 0 < length parts → physical (line ∷ parts) ≡ without_return line ∷ physical parts
more_lines line [] h = absurd (omega arith)
more_lines line (y ∷ ys) h = refl

one_line : (text : List ℕ) → 0 < length text → unless_empty text ≡ text ∷ []
one_line [] h = absurd (omega arith)
one_line (x ∷ xs) h = refl

-- the first line of a text, and one that is the last
pub first_line : (text line rest : List ℕ) → slice_split (λ b. b == 10) text ≡ line ∷ slice_split (λ b. b == 10) rest → lines_of text ≡ without_return line ∷ lines_of rest
unfolding lines_of
first_line text line rest e =
    let some : 0 < length (slice_split (λ b. b == 10) rest) = omega (arith, length-slice_split (λ b. b == 10) rest) in
    ap physical e ∙ more_lines line (slice_split (λ b. b == 10) rest) some

pub last_line : (text rest : List ℕ) → slice_split (λ b. b == 10) text ≡ text ∷ [] → 0 < length text → rest ≡ [] → lines_of text ≡ text ∷ lines_of rest
unfolding lines_of
last_line text rest e some none = ap physical e ∙ one_line text some ∙ ap (λ r. text ∷ physical (slice_split (λ b. b == 10) r)) (sym none)

pub no_words : (line : List ℕ) → line ≡ [] → words_of line ≡ []
unfolding words_between
no_words line e = ap (words_between Blank) e

not_zero : (n : ℕ) → (suc n == 0) ≡ true → ⊥
not_zero n h = let e : suc n ≡ 0 = grind (arith, nat_tests) in omega (arith, e)

pub is_nothing : (text : List ℕ) → (length text == 0) ≡ true → text ≡ []
is_nothing [] h = refl
is_nothing (b ∷ text) h = absurd (not_zero (length text) h)

pub no_lines : (text : List ℕ) → text ≡ [] → lines_of text ≡ []
unfolding lines_of
no_lines text e = ap lines_of e
