-- What is kept of lines that are put together from several.
use Rattle.std.proofs.Common.{◌≡◌, ℕ, ◌+◌, ◌≤◌, Bool, true, false, cond, List, [], ◌∷◌, ◌++◌, drop, length, take, ap, sym, ◌∙◌, append_assoc, arith}
use Rattle.std.proofs.Math.Seq.{drop-append_seam, take-append-add, take-append_seam}
use Rattle.std.proofs.lemmas.List.{drop-drop, length-append, length-drop, length-take-le, take-append-drop}
use Rattle.blif_text.specs.Text.{goes_on, kept_from, kept_piece, left_of}

pub kept_here : (line : List ℕ) (lines : List (List ℕ)) → goes_on line ≡ false → kept_from false (line ∷ lines) ≡ kept_from false lines
unfolding kept_from
kept_here line lines e = ap (λ (b : Bool). cond b (left_of line) [] ++ kept_from b lines) e

pub kept_onward : (line : List ℕ) (lines : List (List ℕ)) → goes_on line ≡ true → kept_from false (line ∷ lines) ≡ left_of line ++ kept_from true lines
unfolding kept_from
kept_onward line lines e = ap (λ (b : Bool). cond b (left_of line) [] ++ kept_from b lines) e

pub kept_behind : (line : List ℕ) (lines : List (List ℕ)) (b : Bool) → goes_on line ≡ b → kept_from true (line ∷ lines) ≡ left_of line ++ kept_from b lines
unfolding kept_from
kept_behind line lines b e = ap (λ (b : Bool). left_of line ++ kept_from b lines) e

pub kept_nothing : (onward : Bool) (lines : List (List ℕ)) → lines ≡ [] → kept_from onward lines ≡ []
unfolding kept_from
kept_nothing onward lines e = ap (kept_from onward) e

pub kept_step : (whole kept more : List ℕ) (onward : Bool) (line : List ℕ) (lines : List (List ℕ)) → whole ≡ kept ++ kept_from onward (line ∷ lines) → more ≡ kept ++ kept_piece onward line
    → whole ≡ more ++ kept_from (goes_on line) lines
unfolding kept_from
kept_step whole kept more onward line lines e m =
    e ∙ sym (append_assoc kept (kept_piece onward line) (kept_from (goes_on line) lines)) ∙ ap (λ t. t ++ kept_from (goes_on line) lines) (sym m)

-- The first so many bytes, of which the last are a piece, and what is behind them.
pub record IsParted (bytes before behind : List ℕ) (n : ℕ) : Type 0 where
  pub front : take n bytes ≡ before
  pub rest : drop n bytes ≡ behind
  pub within : n ≤ length bytes

pub first_parted : (kept piece rest : List ℕ) → kept ≡ piece ++ rest → IsParted kept piece rest (length piece)
first_parted kept piece rest e = record {
  front = ap (take (length piece)) e ∙ take-append_seam piece rest;
  rest = ap (drop (length piece)) e ∙ drop-append_seam piece rest;
  within = omega (arith, ap length e, length-append piece rest);
}

pub more_parted : (kept piece rest : List ℕ) (n : ℕ) → n ≤ length kept → drop n kept ≡ piece ++ rest → IsParted kept (take n kept ++ piece) rest (n + length piece)
more_parted kept piece rest n h e =
    let long = length-take-le n kept h in
    let whole : kept ≡ take n kept ++ (piece ++ rest) = sym (take-append-drop n kept) ∙ ap (λ t. take n kept ++ t) e in
    let front : take (length (take n kept) + length piece) (take n kept ++ (piece ++ rest)) ≡ take n kept ++ piece =
    take-append-add (take n kept) (piece ++ rest) (length piece) ∙ ap (λ t. take n kept ++ t) (take-append_seam piece rest) in
    record {
      front = ap (λ m. take (m + length piece) kept) (sym long) ∙ ap (take (length (take n kept) + length piece)) whole ∙ front;
      rest = sym (drop-drop (length piece) n kept) ∙ ap (drop (length piece)) e ∙ drop-append_seam piece rest;
      within = omega (arith, ap length e, length-append piece rest, length-drop n kept, h);
    }
