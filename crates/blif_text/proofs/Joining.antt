-- Physical lines that are joined.
use Rattle.std.proofs.Common.{◌≡◌, ℕ, ◌+◌, true, false, cond, List, [], ◌∷◌, ◌++◌, refl, ap, sym, ◌∙◌, append_assoc}
use Rattle.blif_text.specs.Text.{Line, line_at, goes_on, left_of, onto_next, joined_from}

pub joined_here : (number : ℕ) (line : List ℕ) (lines : List (List ℕ)) → goes_on line ≡ false → joined_from number (line ∷ lines) ≡ line_at number (left_of line) ∷ joined_from (number + 1) lines
unfolding joined_from
joined_here number line lines e = ap (λ b. cond b (onto_next number (left_of line) (joined_from (number + 1) lines)) (line_at number (left_of line) ∷ joined_from (number + 1) lines)) e

pub joined_onward : (number : ℕ) (line : List ℕ) (lines : List (List ℕ)) → goes_on line ≡ true → joined_from number (line ∷ lines) ≡ onto_next number (left_of line) (joined_from (number + 1) lines)
unfolding joined_from
joined_onward number line lines e = ap (λ b. cond b (onto_next number (left_of line) (joined_from (number + 1) lines)) (line_at number (left_of line) ∷ joined_from (number + 1) lines)) e

onto_twice : (number next : ℕ) (front back : List ℕ) (lines : List Line) → onto_next number front (onto_next next back lines) ≡ onto_next number (front ++ back) lines
onto_twice number next front back [] = refl
onto_twice number next front back (line ∷ lines) = ap (λ bytes. line_at number bytes ∷ lines) (sym (append_assoc front back line.bytes))

pub more_joined : (number next : ℕ) (bytes line : List ℕ) (lines : List (List ℕ)) → goes_on line ≡ true
    → onto_next number bytes (joined_from next (line ∷ lines)) ≡ onto_next number (bytes ++ left_of line) (joined_from (next + 1) lines)
more_joined number next bytes line lines e = ap (onto_next number bytes) (joined_onward next line lines e) ∙ onto_twice number next bytes (left_of line) (joined_from (next + 1) lines)

pub last_joined : (number next : ℕ) (bytes line : List ℕ) (lines : List (List ℕ)) → goes_on line ≡ false
    → onto_next number bytes (joined_from next (line ∷ lines)) ≡ line_at number (bytes ++ left_of line) ∷ joined_from (next + 1) lines
last_joined number next bytes line lines e = ap (onto_next number bytes) (joined_here next line lines e)

pub nothing_joined : (number next : ℕ) (bytes rest : List ℕ) (lines : List (List ℕ)) → lines ≡ [] → onto_next number bytes (joined_from next lines) ≡ line_at number bytes ∷ joined_from next lines
unfolding joined_from
nothing_joined number next bytes rest [] e = refl
nothing_joined number next bytes rest (line ∷ lines) e = cc
