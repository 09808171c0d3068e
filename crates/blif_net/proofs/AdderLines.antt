-- The adder as a circuit, and its text, which is the one that is generated.
use Rattle.std.proofs.Common.{◌≡◌, ℕ, zero, suc, ◌+◌, Bool, true, false, List, [], ◌∷◌, ◌++◌, codes, refl, ap, sym, ◌∙◌, arith, append_assoc, append-nil}
use Rattle.std.specs.Fmt.{decimal}
use Rattle.std.specs.List.{flat_map, range_with_len}
use Rattle.std.proofs.lemmas.Fmt.{decimal_digit}
use Rattle.std.proofs.lemmas.Grind.{flat_map-append}
use Rattle.blif_models.specs.Circuits.{Circuit, Cover, Row}
use Rattle.job_words.specs.Text.{Word}
use Rattle.blif_dump.specs.Lines.{line_with, spaced, text_of as written}
use Rattle.blif_net.proofs.WrittenCircuits.{circuit_lines, cover_lines}
use Rattle.blif_net.specs.GenTexts.{bit_covers, carry_cover, complement_cover, gen_text, inputs_below, name, outputs_of, sum_cover, zeros_cover}

-- a letter and a number
abbrev pub numbered_name : ℕ → ℕ → Word
numbered_name letter i = letter ∷ decimal i

abbrev pub a_at : ℕ → Word
a_at i = numbered_name 97 i

abbrev pub b_at : ℕ → Word
b_at i = numbered_name 98 i

abbrev pub c_at : ℕ → Word
c_at i = numbered_name 99 i

abbrev pub d_at : ℕ → Word
d_at i = numbered_name 100 i

abbrev pub n_at : ℕ → Word
n_at i = numbered_name 110 i

abbrev pub s_at : ℕ → Word
s_at i = numbered_name 115 i

abbrev pub adder_inputs : ℕ → List Word
adder_inputs zero = []
adder_inputs (suc j) = a_at j ∷ b_at j ∷ adder_inputs j

abbrev pub bit_outputs : ℕ → List Word
bit_outputs i = s_at i ∷ d_at i ∷ n_at i ∷ []

abbrev pub row_at : Word → Bool → Row
row_at literals output = record { literals = literals; output = output }

abbrev pub cover_of : List Word → Word → List Row → Cover
cover_of ins word rows = record { line = 0; ins = ins; name = word; rows = rows }

abbrev pub three_bits : ℕ → List Word
three_bits i = a_at i ∷ b_at i ∷ c_at i ∷ []

abbrev pub sum_at : ℕ → Cover
sum_at i = cover_of (three_bits i) (s_at i) (row_at (codes "001") true ∷ row_at (codes "010") true ∷ row_at (codes "100") true ∷ row_at (codes "111") true ∷ [])

abbrev pub zeros_at : ℕ → Cover
zeros_at i = cover_of (three_bits i) (d_at i) (row_at (codes "000") false ∷ row_at (codes "011") false ∷ row_at (codes "101") false ∷ row_at (codes "110") false ∷ [])

abbrev pub complement_at : ℕ → Cover
complement_at i = cover_of (s_at i ∷ []) (n_at i) (row_at (codes "0") true ∷ [])

abbrev pub carry_at : ℕ → Cover
carry_at i = cover_of (three_bits i) (c_at (i + 1)) (row_at (codes "11-") true ∷ row_at (codes "1-1") true ∷ row_at (codes "-11") true ∷ [])

abbrev pub covers_at : ℕ → List Cover
covers_at i = sum_at i ∷ zeros_at i ∷ complement_at i ∷ carry_at i ∷ []

-- the first carry is the constant 0
abbrev pub no_carry : Cover
no_carry = cover_of [] (c_at 0) []

abbrev pub adder : ℕ → Circuit
adder k = record {
  inputs = adder_inputs k;
  outputs = flat_map bit_outputs (range_with_len 0 k) ++ c_at k ∷ [];
  covers = no_carry ∷ flat_map covers_at (range_with_len 0 k);
}

-- the text of the inputs
inputs_text : (k : ℕ) → spaced (adder_inputs k) ≡ inputs_below k
inputs_text zero = refl
inputs_text (suc j) = ap (λ t. (32 ∷ a_at j) ++ ((32 ∷ b_at j) ++ t)) (inputs_text j) ∙ sym (append_assoc (32 ∷ a_at j) (32 ∷ b_at j) (inputs_below j))

flat_twice : {X Y Z : Type 0} (h : Y → List Z) (f : X → List Y) (g : X → List Z) (xs : List X) → ((x : X) → flat_map h (f x) ≡ g x) → flat_map h (flat_map f xs) ≡ flat_map g xs
flat_twice h f g [] each = refl
flat_twice h f g (x ∷ xs) each =
    flat_map-append h (f x) (flat_map f xs) ∙ ap (λ t. t ++ flat_map h (flat_map f xs)) (each x) ∙ ap (λ t. g x ++ t) (flat_twice h f g xs each)

-- of the outputs
outputs_text : (k : ℕ) → spaced (flat_map bit_outputs (range_with_len 0 k) ++ c_at k ∷ []) ≡ flat_map outputs_of (range_with_len 0 k) ++ name (codes "c") k
outputs_text k =
    flat_map-append (λ word. 32 ∷ word) (flat_map bit_outputs (range_with_len 0 k)) (c_at k ∷ [])
    ∙ ap (λ t. t ++ ((32 ∷ c_at k) ++ [])) (flat_twice (λ word. 32 ∷ word) bit_outputs outputs_of (range_with_len 0 k) (λ i. three (decimal i)))
    ∙ ap (λ t. flat_map outputs_of (range_with_len 0 k) ++ t) (append-nil (32 ∷ c_at k))
  where
    three : (d : List ℕ) → (32 ∷ 115 ∷ d) ++ ((32 ∷ 100 ∷ d) ++ ((32 ∷ 110 ∷ d) ++ [])) ≡ (32 ∷ 115 ∷ d) ++ (32 ∷ 100 ∷ d) ++ (32 ∷ 110 ∷ d)
    three d = simp (append_assoc, append-nil)

-- of covers
four_words : (head a b c last end rows : List ℕ) → ((head ++ (a ++ (b ++ (c ++ (last ++ []))))) ++ end) ++ rows ≡ head ++ (a ++ b ++ c) ++ last ++ (end ++ rows)
four_words head a b c last end rows = simp (append_assoc, append-nil)

two_words : (head a last end rows : List ℕ) → ((head ++ (a ++ (last ++ []))) ++ end) ++ rows ≡ head ++ a ++ last ++ (end ++ rows)
two_words head a last end rows = simp (append_assoc, append-nil)

three_text : (letter : ℕ) (d e rows : List ℕ)
    → ((codes ".names" ++ ((32 ∷ 97 ∷ d) ++ ((32 ∷ 98 ∷ d) ++ ((32 ∷ 99 ∷ d) ++ ((32 ∷ letter ∷ e) ++ []))))) ++ 10 ∷ []) ++ rows
    ≡ codes ".names" ++ ((32 ∷ 97 ∷ d) ++ (32 ∷ 98 ∷ d) ++ (32 ∷ 99 ∷ d)) ++ (32 ∷ letter ∷ e) ++ (10 ∷ rows)
three_text letter d e rows = four_words (codes ".names") (32 ∷ 97 ∷ d) (32 ∷ 98 ∷ d) (32 ∷ 99 ∷ d) (32 ∷ letter ∷ e) (10 ∷ []) rows

abbrev text_of : Cover → List ℕ
text_of cover = written (cover_lines cover)

sum_text : (i : ℕ) → text_of (sum_at i) ≡ sum_cover i
unfolding sum_cover
sum_text i = three_text 115 (decimal i) (decimal i) (codes "001 1\n010 1\n100 1\n111 1\n")

zeros_text : (i : ℕ) → text_of (zeros_at i) ≡ zeros_cover i
unfolding zeros_cover
zeros_text i = three_text 100 (decimal i) (decimal i) (codes "000 0\n011 0\n101 0\n110 0\n")

complement_text : (i : ℕ) → text_of (complement_at i) ≡ complement_cover i
unfolding complement_cover
complement_text i = two_words (codes ".names") (32 ∷ s_at i) (32 ∷ n_at i) (10 ∷ []) (codes "0 1\n")

carry_text : (i : ℕ) → text_of (carry_at i) ≡ carry_cover i
unfolding carry_cover
carry_text i = three_text 99 (decimal i) (decimal (i + 1)) (codes "11- 1\n1-1 1\n-11 1\n")

bit_text : (i : ℕ) → flat_map text_of (covers_at i) ≡ bit_covers i
bit_text i =
    four (text_of (sum_at i)) (text_of (zeros_at i)) (text_of (complement_at i)) (text_of (carry_at i))
    ∙ ap (λ t. t ++ text_of (zeros_at i) ++ text_of (complement_at i) ++ text_of (carry_at i)) (sum_text i)
    ∙ ap (λ t. sum_cover i ++ t ++ text_of (complement_at i) ++ text_of (carry_at i)) (zeros_text i)
    ∙ ap (λ t. sum_cover i ++ zeros_cover i ++ t ++ text_of (carry_at i)) (complement_text i)
    ∙ ap (λ t. sum_cover i ++ zeros_cover i ++ complement_cover i ++ t) (carry_text i)
  where
    four : (s z c y : List ℕ) → s ++ (z ++ (c ++ (y ++ []))) ≡ s ++ z ++ c ++ y
    four s z c y = simp (append_assoc, append-nil)

covers_text : (xs : List ℕ) → written (flat_map cover_lines (flat_map covers_at xs)) ≡ flat_map bit_covers xs
covers_text xs =
    flat_twice (λ words. line_with words ++ 10 ∷ []) cover_lines text_of (flat_map covers_at xs) (λ cover. refl)
    ∙ flat_twice text_of covers_at bit_covers xs bit_text

-- the whole text
pub adder_text : (k : ℕ) → written (circuit_lines (codes "gen") (adder k)) ≡ gen_text k
unfolding gen_text
adder_text k =
    let numbers = range_with_len 0 k in
    let covers = flat_map cover_lines (flat_map covers_at numbers) in
    let first : decimal 0 ≡ 48 ∷ [] = decimal_digit 0 (omega arith) in
    let outs : List ℕ = flat_map outputs_of numbers ++ name (codes "c") k in
    ap (with_parts (spaced (adder_inputs k)) (spaced (flat_map bit_outputs numbers ++ c_at k ∷ [])) (decimal 0)) (flat_map-append (λ words. line_with words ++ 10 ∷ []) covers ((codes ".end" ∷ []) ∷ []))
    ∙ ap (λ t. with_parts t (spaced (flat_map bit_outputs numbers ++ c_at k ∷ [])) (decimal 0) (written covers ++ codes ".end\n")) (inputs_text k)
    ∙ ap (λ t. with_parts (inputs_below k) t (decimal 0) (written covers ++ codes ".end\n")) (outputs_text k)
    ∙ ap (λ t. with_parts (inputs_below k) outs t (written covers ++ codes ".end\n")) first
    ∙ ap (λ t. with_parts (inputs_below k) outs (48 ∷ []) (t ++ codes ".end\n")) (covers_text numbers)
    ∙ joined (inputs_below k) (flat_map outputs_of numbers) (name (codes "c") k) (flat_map bit_covers numbers)
  where
    with_parts : List ℕ → List ℕ → List ℕ → List ℕ → List ℕ
    with_parts ins outs zero' rest =
        codes ".model gen\n" ++ (((codes ".inputs" ++ ins) ++ 10 ∷ []) ++ (((codes ".outputs" ++ outs) ++ 10 ∷ []) ++ (((codes ".names" ++ ((32 ∷ 99 ∷ zero') ++ [])) ++ 10 ∷ []) ++ rest)))

    parts : (head ins outs end first second last rest tail names' : List ℕ)
        → head ++ (((ins ++ first) ++ end) ++ (((outs ++ (second ++ last)) ++ end) ++ (names' ++ (rest ++ tail)))) ≡ (head ++ ins) ++ first ++ (end ++ outs) ++ second ++ last ++ (end ++ names') ++ rest ++ tail
    parts head ins outs end first second last rest tail names' = simp append_assoc

    joined : (ins outs last rest : List ℕ)
        → with_parts ins (outs ++ last) (48 ∷ []) (rest ++ codes ".end\n") ≡ codes ".model gen\n.inputs" ++ ins ++ codes "\n.outputs" ++ outs ++ last ++ codes "\n.names c0\n" ++ rest ++ codes ".end\n"
    joined ins outs last rest = parts (codes ".model gen\n") (codes ".inputs") (codes ".outputs") (10 ∷ []) ins outs last rest (codes ".end\n") (codes ".names c0\n")
