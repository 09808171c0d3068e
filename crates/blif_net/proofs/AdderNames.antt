-- The adder can be written: its signals have names that differ, and each cover reads inputs, sums and carries before it.
use Rattle.std.proofs.Common.{◌≡◌, ℕ, zero, suc, ◌+◌, ◌*◌, ◌<◌, ◌≤◌, ◌^◌, ◌%◌, ◌==◌, ◌&&◌, ◌||◌, not, Bool, true, false, List, [], ◌∷◌, ◌++◌, codes, length, inl, inr, refl, ap, sym, ◌∙◌, subst, arith, append_assoc, append-nil, length-append}
use Rattle.std.specs.Prelude.{◌⊎◌, nat_lt, nat_le}
use Rattle.std.specs.Fmt.{decimal}
use Rattle.std.specs.List.{flat_map, list_all, range_with_len}
use Rattle.std.specs.Str.{bytes_eq}
use Rattle.std.proofs.lemmas.Bool.{and_from, and_parts, and_right, cases_eq, cond-false, eq-eqb, false_from_ne_true, le-leb, le-ltb, lt-leb, lt-ltb, ne_eqb, or_from, or_right}
use Rattle.std.proofs.lemmas.Bool.Decides.{nat_tests}
use Rattle.std.proofs.lemmas.Fmt.{decimal_by_steps, decimal_injective}
use Rattle.std.proofs.lemmas.List.Folds.{list_all-append, list_any-append}
use Rattle.std.proofs.lemmas.Slice.Eq.{bytes_eq-Decides}
use Rattle.edge_bits.specs.declared.limits.TheConstants.{MOST_BITS}
use Rattle.job_words.specs.Text.{is_among}
use Rattle.blif_models.specs.Circuits.{Cover, Row, defined_in, some_again}
use Rattle.cover_nets.specs.declared.net.Net.{Net}
use Rattle.blif_net.specs.Networks.{IsBlifText}
use Rattle.job_words.specs.Text.{Word}
use Rattle.blif_net.specs.CoverTexts.{is_literal}
use Rattle.blif_wholes.proofs.Words.{among_front}
use Rattle.blif_net.proofs.Written.{is_plain, is_plain_word, no_end, plain_from}
use Rattle.blif_net.proofs.NoFaults.{all_weaker}
use Rattle.blif_net.proofs.WrittenCircuits.{AreNextCovers, AreRowsFor, IsNextCover, IsRowFor, IsWritable}
use Rattle.blif_net.proofs.WrittenNets.{net_written}
use Rattle.blif_net.specs.GenTexts.{gen_text}
use Rattle.blif_net.proofs.AdderLines.{a_at, adder, adder_inputs, adder_text, b_at, bit_outputs, c_at, carry_at, complement_at, cover_of, covers_at, d_at, n_at, no_carry, numbered_name, row_at, s_at, sum_at, three_bits, zeros_at}

-- numbers of bits are small
in_range : (i : ℕ) → i ≤ MOST_BITS → i < 2 ^ 64
in_range i h = omega (arith, h)

-- names are plain words, none of which ends with `\`
abbrev is_inside : ℕ → Bool
is_inside b = is_plain b && not (b == 92)

digit_inside : (n : ℕ) → n < 10 → is_inside (48 + n) ≡ true
digit_inside n h = grind (arith, nat_tests)

last_inside : (n : ℕ) → is_inside (48 + n % 10) ≡ true
last_inside n = digit_inside (n % 10) (omega arith)

decimal_inside : (i : ℕ) → i < 2 ^ 64 → list_all is_inside (decimal i) ≡ true
decimal_inside i h =
    decimal_by_steps (λ n digits. list_all is_inside digits ≡ true)
    (λ n below. and_from (is_inside (48 + n)) true (digit_inside n below) refl)
    (λ n digits many e. list_all-append is_inside digits ((48 + n % 10) ∷ []) ∙ and_from (list_all is_inside digits) (is_inside (48 + n % 10) && true) e (and_from (is_inside (48 + n % 10)) true (last_inside n) refl)) i h

some_bytes : (n : ℕ) → not (suc n == 0) ≡ true
some_bytes n = grind (arith, nat_tests)

name_plain : (letter i : ℕ) → is_inside letter ≡ true → i ≤ MOST_BITS → is_plain_word (numbered_name letter i) ≡ true
name_plain letter i h few =
    let inside = and_from (is_inside letter) (list_all is_inside (decimal i)) h (decimal_inside i (in_range i few)) in
    plain_from (numbered_name letter i)
    (record {
      bytes = some_bytes (length (decimal i));
      plain = all_weaker is_inside is_plain (numbered_name letter i) (λ b e. (and_parts (is_plain b) (not (b == 92)) e).0) inside;
      ends = no_end is_inside 92 (numbered_name letter i) inside refl;
    })

-- names of different letters or numbers differ
same_decimal : (j i : ℕ) → j ≤ MOST_BITS → i ≤ MOST_BITS → bytes_eq (decimal j) (decimal i) ≡ (j == i)
same_decimal j i few few' = by_kind (cases_eq j i)
  where
    by_kind : (j ≡ i) ⊎ (j ≡ i → ⊥) → bytes_eq (decimal j) (decimal i) ≡ (j == i)
    by_kind (inl e) = (bytes_eq-Decides (decimal j) (decimal i)).1 (ap decimal e) ∙ sym (eq-eqb j i e)
    by_kind (inr apart) =
        false_from_ne_true (bytes_eq (decimal j) (decimal i)) (λ t. apart (decimal_injective j i (in_range j few) (in_range i few') ((bytes_eq-Decides (decimal j) (decimal i)).0 t))) ∙ sym (ne_eqb j i apart)

same_name : (letter j other i : ℕ) → j ≤ MOST_BITS → i ≤ MOST_BITS → bytes_eq (numbered_name letter j) (numbered_name other i) ≡ ((letter == other) && (j == i))
same_name letter j other i few few' = ap (λ b. (letter == other) && b) (same_decimal j i few few')

-- inputs
of_both : (p q x y : Bool) → ((p && x) || ((q && x) || ((p || q) && y))) ≡ ((p || q) && (x || y))
of_both true q true y = refl
of_both true true false y = refl
of_both true false false y = refl
of_both false true x y = refl
of_both false false x y = refl

one_below : (j k : ℕ) → ((j == k) || nat_lt j k) ≡ nat_lt j (suc k)
one_below j k = grind (arith, nat_tests)

among_inputs : (k letter j : ℕ) → k ≤ MOST_BITS → j ≤ MOST_BITS → is_among (adder_inputs k) (numbered_name letter j) ≡ ((letter == 97 || letter == 98) && nat_lt j k)
among_inputs zero letter j few few' = sym (and_right (letter == 97 || letter == 98) (nat_lt j 0) (le-ltb j 0 (omega arith)))
among_inputs (suc k) letter j few few' =
    ap (λ b. b || (bytes_eq (numbered_name letter j) (b_at k) || is_among (adder_inputs k) (numbered_name letter j))) (same_name letter j 97 k few' (omega (arith, few)))
    ∙ ap (λ b. ((letter == 97) && (j == k)) || (b || is_among (adder_inputs k) (numbered_name letter j))) (same_name letter j 98 k few' (omega (arith, few)))
    ∙ ap (λ b. ((letter == 97) && (j == k)) || (((letter == 98) && (j == k)) || b)) (among_inputs k letter j (omega (arith, few)) few')
    ∙ of_both (letter == 97) (letter == 98) (j == k) (nat_lt j k)
    ∙ ap (λ b. (letter == 97 || letter == 98) && b) (one_below j k)

-- the names that stand before bit i are those of inputs, of the carries up to that of the bit, and of the outputs of bits before it
abbrev has_come : ℕ → ℕ → ℕ → ℕ → Bool
has_come k i letter j = ((letter == 97 || letter == 98) && nat_lt j k) || ((letter == 99) && nat_le j i) || ((letter == 115 || letter == 100 || letter == 110) && nat_lt j i)

step_of : (p c s d n x y u v : Bool)
    → (((((p || (c && x) || ((s || d || n) && u)) || (s && v)) || (d && v)) || (n && v)) || (c && y)) ≡ (p || (c && (x || y)) || ((s || d || n) && (u || v)))
step_of p c s d n x y u v = grind arith

-- of the inputs no two have one name
abbrev AreLower : ℕ → List Word → Type 0
AreLower k before = (letter j : ℕ) → j < k → is_among before (numbered_name letter j) ≡ false

or_none : (b : Bool) → (b || false) ≡ b
or_none true = refl
or_none false = refl

one_more : (before : List Word) (letter j other i : ℕ) → j ≤ MOST_BITS → i ≤ MOST_BITS
    → is_among (before ++ numbered_name other i ∷ []) (numbered_name letter j) ≡ (is_among before (numbered_name letter j) || ((letter == other) && (j == i)))
one_more before letter j other i few few' =
    list_any-append (bytes_eq (numbered_name letter j)) before (numbered_name other i ∷ [])
    ∙ ap (λ b. is_among before (numbered_name letter j) || (b || false)) (same_name letter j other i few few')
    ∙ ap (λ b. is_among before (numbered_name letter j) || b) (or_none ((letter == other) && (j == i)))

inputs_apart : (k : ℕ) (before : List Word) → k ≤ MOST_BITS → AreLower k before → some_again before (adder_inputs k) ≡ false
inputs_apart zero before few lower = refl
inputs_apart (suc k) before few lower =
    let k_few : k ≤ MOST_BITS = omega (arith, few) in
    let one : List Word = before ++ a_at k ∷ [] in
    let two : List Word = one ++ b_at k ∷ [] in
    cond-false (is_among before (a_at k)) true (some_again one (b_at k ∷ adder_inputs k)) (lower 97 k (omega arith))
    ∙ cond-false (is_among one (b_at k)) true (some_again two (adder_inputs k)) (one_more before 98 k 97 k k_few k_few ∙ or_from (is_among before (b_at k)) false (lower 98 k (omega arith)) refl)
    ∙ inputs_apart k two k_few
    (λ letter j below.
    let j_few : j ≤ MOST_BITS = omega (arith, below, few) in
    let other : (j == k) ≡ false = ne_eqb j k (λ e. let no : ⊥ = omega (arith, below, e) in no) in
    one_more one letter j 98 k j_few k_few
    ∙ or_from (is_among one (numbered_name letter j)) ((letter == 98) && (j == k))
    (one_more before letter j 97 k j_few k_few ∙ or_from (is_among before (numbered_name letter j)) ((letter == 97) && (j == k)) (lower letter j (omega (arith, below))) (and_right (letter == 97) (j == k) other))
    (and_right (letter == 98) (j == k) other))

-- what stands before bit i, whatever the order
abbrev IsKnown : ℕ → ℕ → List Word → Type 0
IsKnown k i names = (letter j : ℕ) → j ≤ MOST_BITS → is_among names (numbered_name letter j) ≡ has_come k i letter j

not_less : (j i : ℕ) → (nat_lt j i || (j == i)) ≡ nat_lt j (i + 1)
not_less j i = grind (arith, nat_tests)

at_most : (j i : ℕ) → (nat_le j i || (j == i + 1)) ≡ nat_le j (i + 1)
at_most j i = grind (arith, nat_tests)

-- the names after the covers of bit i
abbrev after_bit : ℕ → List Word → List Word
after_bit i names = (((names ++ s_at i ∷ []) ++ d_at i ∷ []) ++ n_at i ∷ []) ++ c_at (i + 1) ∷ []

known_next : (k i : ℕ) (names : List Word) → i < MOST_BITS → IsKnown k i names → IsKnown k (i + 1) (after_bit i names)
known_next k i names few known letter j few' =
    let i_few : i ≤ MOST_BITS = omega (arith, few) in
    let x = numbered_name letter j in
    let one : List Word = names ++ s_at i ∷ [] in
    let two : List Word = one ++ d_at i ∷ [] in
    let three : List Word = two ++ n_at i ∷ [] in
    let s = letter == 115 in
    let d = letter == 100 in
    let n = letter == 110 in
    let c = letter == 99 in
    let v = j == i in
    let y = j == i + 1 in
    let p = (letter == 97 || letter == 98) && nat_lt j k in
    one_more three letter j 99 (i + 1) few' (omega (arith, few))
    ∙ ap (λ b. b || (c && y)) (one_more two letter j 110 i few' i_few)
    ∙ ap (λ b. (b || (n && v)) || (c && y)) (one_more one letter j 100 i few' i_few)
    ∙ ap (λ b. ((b || (d && v)) || (n && v)) || (c && y)) (one_more names letter j 115 i few' i_few)
    ∙ ap (λ b. (((b || (s && v)) || (d && v)) || (n && v)) || (c && y)) (known letter j few')
    ∙ step_of p c s d n (nat_le j i) y (nat_lt j i) v
    ∙ ap (λ b. p || (c && b) || ((s || d || n) && (nat_lt j i || v))) (at_most j i)
    ∙ ap (λ b. p || (c && nat_le j (i + 1)) || ((s || d || n) && b)) (not_less j i)

-- the covers of a bit
record HasBits (i : ℕ) (names : List Word) : Type 0 where
  a : is_among names (a_at i) ≡ true
  b : is_among names (b_at i) ≡ true
  c : is_among names (c_at i) ≡ true

bits_known : (k i : ℕ) (names : List Word) → i < k → k ≤ MOST_BITS → IsKnown k i names → HasBits i names
bits_known k i names below few known =
    let i_few : i ≤ MOST_BITS = omega (arith, below, few) in
    record {
      a = known 97 i i_few ∙ ap (λ b. b || false || false) (lt-ltb i k below);
      b = known 98 i i_few ∙ ap (λ b. b || false || false) (lt-ltb i k below);
      c = known 99 i i_few ∙ ap (λ b. b || false) (le-leb i i (omega arith));
    }

bits_more : (i : ℕ) (names : List Word) (word : Word) → HasBits i names → HasBits i (names ++ word ∷ [])
bits_more i names word h = record {
  a = among_front names (word ∷ []) (a_at i) h.a;
  b = among_front names (word ∷ []) (b_at i) h.b;
  c = among_front names (word ∷ []) (c_at i) h.c;
}

bits_read : (i : ℕ) (names : List Word) → HasBits i names → list_all (is_among names) (three_bits i) ≡ true
bits_read i names h =
    and_from (is_among names (a_at i)) (is_among names (b_at i) && (is_among names (c_at i) && true)) h.a
    (and_from (is_among names (b_at i)) (is_among names (c_at i) && true) h.b (and_from (is_among names (c_at i)) true h.c refl))

bits_plain : (i : ℕ) → i ≤ MOST_BITS → list_all is_plain_word (three_bits i) ≡ true
bits_plain i few =
    and_from (is_plain_word (a_at i)) (is_plain_word (b_at i) && (is_plain_word (c_at i) && true)) (name_plain 97 i refl few)
    (and_from (is_plain_word (b_at i)) (is_plain_word (c_at i) && true) (name_plain 98 i refl few) (and_from (is_plain_word (c_at i)) true (name_plain 99 i refl few) refl))

a_row : (ins : ℕ) (output : Bool) (literals : Word) → length literals ≡ ins → list_all is_literal literals ≡ true → IsRowFor ins output (row_at literals output)
a_row ins output literals many h = record { many = many; literals = h; output_is = refl }

-- a cover of the three bits
three_next : (i : ℕ) (names : List Word) (word : Word) (output : Bool) (rows : List Row) → i ≤ MOST_BITS → HasBits i names → is_among names word ≡ false → is_plain_word word ≡ true → AreRowsFor 3 output rows
    → IsNextCover names (cover_of (three_bits i) word rows)
three_next i names word output rows few h fresh plain all = record { reads = bits_read i names h; fresh = fresh; ins_plain = bits_plain i few; name_plain = plain; output = output; rows = all }

not_yet : (k i letter : ℕ) (names : List Word) → i ≤ MOST_BITS → IsKnown k i names → has_come k i letter i ≡ nat_lt i i → is_among names (numbered_name letter i) ≡ false
not_yet k i letter names few known e = known letter i few ∙ e ∙ le-ltb i i (omega arith)

bit_next : (k i : ℕ) (names : List Word) (covers : List Cover) → i < k → k ≤ MOST_BITS → IsKnown k i names → AreNextCovers (after_bit i names) covers → AreNextCovers names (sum_at i ∷ zeros_at i ∷ complement_at i ∷ carry_at i ∷ covers)
bit_next k i names covers below few known more =
    let i_few : i ≤ MOST_BITS = omega (arith, below, few) in
    let next_few : i + 1 ≤ MOST_BITS = omega (arith, below, few) in
    let one : List Word = names ++ s_at i ∷ [] in
    let two : List Word = one ++ d_at i ∷ [] in
    let three : List Word = two ++ n_at i ∷ [] in
    let bits = bits_known k i names below few known in
    let bits1 = bits_more i names (s_at i) bits in
    let bits2 = bits_more i one (d_at i) bits1 in
    let bits3 = bits_more i two (n_at i) bits2 in
    let s_new : is_among names (s_at i) ≡ false = not_yet k i 115 names i_few known refl in
    let d_new : is_among one (d_at i) ≡ false = one_more names 100 i 115 i i_few i_few ∙ or_from (is_among names (d_at i)) false (not_yet k i 100 names i_few known refl) refl in
    let n_new : is_among two (n_at i) ≡ false =
    one_more one 110 i 100 i i_few i_few
    ∙ or_from (is_among one (n_at i)) false (one_more names 110 i 115 i i_few i_few ∙ or_from (is_among names (n_at i)) false (not_yet k i 110 names i_few known refl) refl) refl in
    let c_old : is_among names (c_at (i + 1)) ≡ false = known 99 (i + 1) next_few ∙ ap (λ b. b || false) (lt-leb (i + 1) i (omega arith)) in
    let c_new : is_among three (c_at (i + 1)) ≡ false =
    one_more two 99 (i + 1) 110 i next_few i_few
    ∙ or_from (is_among two (c_at (i + 1))) false
    (one_more one 99 (i + 1) 100 i next_few i_few
    ∙ or_from (is_among one (c_at (i + 1))) false (one_more names 99 (i + 1) 115 i next_few i_few ∙ or_from (is_among names (c_at (i + 1))) false c_old refl) refl)
    refl in
    let s_read : is_among two (s_at i) ≡ true =
    among_front one (d_at i ∷ []) (s_at i) (one_more names 115 i 115 i i_few i_few ∙ or_right (is_among names (s_at i)) (i == i) (eq-eqb i i refl)) in (
      three_next i names (s_at i) true (sum_at i).rows i_few bits s_new (name_plain 115 i refl i_few)
          (a_row 3 true (codes "001") refl refl, (a_row 3 true (codes "010") refl refl, (a_row 3 true (codes "100") refl refl, (a_row 3 true (codes "111") refl refl, tt)))),
      (
        three_next i one (d_at i) false (zeros_at i).rows i_few bits1 d_new (name_plain 100 i refl i_few)
            (a_row 3 false (codes "000") refl refl, (a_row 3 false (codes "011") refl refl, (a_row 3 false (codes "101") refl refl, (a_row 3 false (codes "110") refl refl, tt)))),
        (
          record {
            reads = and_from (is_among two (s_at i)) true s_read refl;
            fresh = n_new;
            ins_plain = and_from (is_plain_word (s_at i)) true (name_plain 115 i refl i_few) refl;
            name_plain = name_plain 110 i refl i_few;
            output = true;
            rows = (a_row 1 true (codes "0") refl refl, tt);
          },
          (
            three_next i three (c_at (i + 1)) true (carry_at i).rows i_few bits3 c_new (name_plain 99 (i + 1) refl next_few)
                (a_row 3 true (codes "11-") refl refl, (a_row 3 true (codes "1-1") refl refl, (a_row 3 true (codes "-11") refl refl, tt))),
            more,
          ),
        ),
      ),
    )

-- the covers from a bit on, and what stands before the last of them and behind it
covers_next : (k i m : ℕ) (names : List Word) → i + m ≡ k → k ≤ MOST_BITS → IsKnown k i names
    → AreNextCovers names (flat_map covers_at (range_with_len i m)) × IsKnown k k (names ++ defined_in (flat_map covers_at (range_with_len i m)))
covers_next k i zero names all few known =
    let same : i ≡ k = omega (arith, all) in
    (tt, subst (IsKnown k k) (sym (append-nil names)) (subst (λ n. IsKnown k n names) same known))
covers_next k i (suc m) names all few known =
    let below : i < k = omega (arith, all) in
    let covers = flat_map covers_at (range_with_len (i + 1) m) in
    let rest = covers_next k (i + 1) m (after_bit i names) (omega (arith, all)) few (known_next k i names (omega (arith, below, few)) known) in (
      bit_next k i names covers below few known rest.0,
      subst (IsKnown k k) (five names (s_at i ∷ []) (d_at i ∷ []) (n_at i ∷ []) (c_at (i + 1) ∷ []) (defined_in covers)) rest.1,
    )
  where
    five : (a b c d e f : List Word) → (((a ++ b) ++ c) ++ d) ++ e ++ f ≡ a ++ (b ++ (c ++ (d ++ (e ++ f))))
    five a b c d e f = simp append_assoc

-- what stands before the first bit
at_zero : (j : ℕ) → (j == 0) ≡ nat_le j 0
at_zero j = grind (arith, nat_tests)

known_start : (k : ℕ) → k ≤ MOST_BITS → IsKnown k 0 (adder_inputs k ++ c_at 0 ∷ [])
known_start k few letter j few' =
    let p = (letter == 97 || letter == 98) && nat_lt j k in
    let c = letter == 99 in
    let s = letter == 115 || letter == 100 || letter == 110 in
    one_more (adder_inputs k) letter j 99 0 few' (omega arith)
    ∙ ap (λ b. b || (c && (j == 0))) (among_inputs k letter j few few')
    ∙ ap (λ b. p || (c && b)) (at_zero j)
    ∙ sym (ap (λ b. p || (c && nat_le j 0) || b) (and_right s (nat_lt j 0) (le-ltb j 0 (omega arith))) ∙ or_none (p || (c && nat_le j 0)))

none_next : (k : ℕ) → k ≤ MOST_BITS → IsNextCover (adder_inputs k) no_carry
none_next k few = record {
  reads = refl;
  fresh = among_inputs k 99 0 few (omega arith);
  ins_plain = refl;
  name_plain = name_plain 99 0 refl (omega arith);
  output = true;
  rows = tt;
}

-- of each bit's outputs
each_bit : (p : Word → Bool) (i m : ℕ) → ((j : ℕ) → j < i + m → list_all p (bit_outputs j) ≡ true) → list_all p (flat_map bit_outputs (range_with_len i m)) ≡ true
each_bit p i zero h = refl
each_bit p i (suc m) h =
    let rest = flat_map bit_outputs (range_with_len (i + 1) m) in
    list_all-append p (bit_outputs i) rest
    ∙ and_from (list_all p (bit_outputs i)) (list_all p rest) (h i (omega arith)) (each_bit p (i + 1) m (λ j below. h j (omega (arith, below))))

all_outputs : (p : Word → Bool) (k : ℕ) → ((j : ℕ) → j < k → list_all p (bit_outputs j) ≡ true) → p (c_at k) ≡ true → list_all p (adder k).outputs ≡ true
all_outputs p k h last =
    list_all-append p (flat_map bit_outputs (range_with_len 0 k)) (c_at k ∷ [])
    ∙ and_from (list_all p (flat_map bit_outputs (range_with_len 0 k))) (p (c_at k) && true) (each_bit p 0 k (λ j below. h j (omega (arith, below)))) (and_from (p (c_at k)) true last refl)

three_true : (a b c : Bool) → a ≡ true → b ≡ true → c ≡ true → (a && (b && (c && true))) ≡ true
three_true a b c h k l = and_from a (b && (c && true)) h (and_from b (c && true) k (and_from c true l refl))

outputs_plain : (k : ℕ) → k ≤ MOST_BITS → list_all is_plain_word (adder k).outputs ≡ true
outputs_plain k few =
    all_outputs is_plain_word k
    (λ j below.
    let j_few : j ≤ MOST_BITS = omega (arith, below, few) in
    three_true (is_plain_word (s_at j)) (is_plain_word (d_at j)) (is_plain_word (n_at j)) (name_plain 115 j refl j_few) (name_plain 100 j refl j_few) (name_plain 110 j refl j_few))
    (name_plain 99 k refl few)

outputs_known : (k : ℕ) (names : List Word) → k ≤ MOST_BITS → IsKnown k k names → list_all (is_among names) (adder k).outputs ≡ true
outputs_known k names few known =
    all_outputs (is_among names) k
    (λ j below.
    let j_few : j ≤ MOST_BITS = omega (arith, below, few) in
    let lower = lt-ltb j k below in
    three_true (is_among names (s_at j)) (is_among names (d_at j)) (is_among names (n_at j)) (known 115 j j_few ∙ lower) (known 100 j j_few ∙ lower) (known 110 j j_few ∙ lower))
    (known 99 k few ∙ ap (λ b. b || false) (le-leb k k (omega arith)))

inputs_plain : (k : ℕ) → k ≤ MOST_BITS → list_all is_plain_word (adder_inputs k) ≡ true
inputs_plain zero few = refl
inputs_plain (suc j) few =
    let j_few : j ≤ MOST_BITS = omega (arith, few) in
    and_from (is_plain_word (a_at j)) (is_plain_word (b_at j) && list_all is_plain_word (adder_inputs j)) (name_plain 97 j refl j_few)
    (and_from (is_plain_word (b_at j)) (list_all is_plain_word (adder_inputs j)) (name_plain 98 j refl j_few) (inputs_plain j j_few))

-- how many there are
pub input_count : (k : ℕ) → length (adder_inputs k) ≡ 2 * k
input_count zero = refl
input_count (suc j) = omega (arith, input_count j)

output_count : (i m : ℕ) → length (flat_map bit_outputs (range_with_len i m)) ≡ 3 * m
output_count i zero = refl
output_count i (suc m) = omega (arith, output_count (i + 1) m)

cover_count : (i m : ℕ) → length (flat_map covers_at (range_with_len i m)) ≡ 4 * m
cover_count i zero = refl
cover_count i (suc m) = omega (arith, cover_count (i + 1) m)

-- the adder can be written
pub adder_writable : (k : ℕ) → k ≤ MOST_BITS → IsWritable (codes "gen") (adder k)
adder_writable k few =
    let ins = adder_inputs k in
    let covers = flat_map covers_at (range_with_len 0 k) in
    let next = covers_next k 0 k (ins ++ c_at 0 ∷ []) (omega arith) few (known_start k few) in
    let known : IsKnown k k (ins ++ c_at 0 ∷ defined_in covers) = subst (IsKnown k k) (append_assoc ins (c_at 0 ∷ []) (defined_in covers)) next.1 in
    record {
      name_plain = refl;
      inputs_plain = inputs_plain k few;
      outputs_plain = outputs_plain k few;
      apart = inputs_apart k [] few (λ letter j below. refl);
      next = (none_next k few, next.0);
      named = outputs_known k (ins ++ c_at 0 ∷ defined_in covers) few known;
      few_inputs = omega (arith, few, input_count k);
      few_signals = omega (arith, few, input_count k, cover_count 0 k);
      few_outputs = omega (arith, few, output_count 0 k, length-append (flat_map bit_outputs (range_with_len 0 k)) (c_at k ∷ []));
      some = omega (arith, length-append (flat_map bit_outputs (range_with_len 0 k)) (c_at k ∷ []));
    }

-- the generated text is that of a network with two inputs a bit
pub generated_net : (k : ℕ) → k ≤ MOST_BITS → (net : Net) × IsBlifText (gen_text k) net × (length net.inputs ≡ 2 * k)
generated_net k few =
    let net = net_written (codes "gen") (adder k) (adder_writable k few) in
    (net.0, subst (λ (text : List ℕ). IsBlifText text net.0) (adder_text k) net.1, ap length net.2 ∙ input_count k)
