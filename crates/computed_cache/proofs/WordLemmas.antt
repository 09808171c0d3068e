-- The two words of an entry say what was put into them, and nothing else.
use Rattle.std.proofs.Common.{◌≡◌, ℕ, zero, suc, ◌+◌, ◌*◌, ◌/◌, ◌%◌, ◌^◌, ◌<◌, Bool, true, false, Option, Some, None, refl, ap, ap₂, sym, ◌∙◌, arith}
use Rattle.std.specs.Prelude.{◌==◌, if◌then◌else◌}
use Rattle.std.proofs.lemmas.Bool.{ne_eqb}
use Rattle.edge_bits.specs.Words.{digit}
use Rattle.edge_bits.specs.declared.edges.Edge.{Edge}
use Rattle.computed_cache.specs.declared.Key.{Key}
use Rattle.edge_bits.specs.Words.{edge_of_word, word_of_edge}
use Rattle.computed_cache.specs.Entries.{IsInRange, Kept, answer_word, key_in, key_word, kept_in}

digit_below : (b : Bool) → digit b < 2
digit_below true = omega arith
digit_below false = omega arith

digit_back : (b : Bool) → (digit b == 1) ≡ b
digit_back true = refl
digit_back false = refl

complement_in : (i : ℕ) (b : Bool) → ((i * 2 + digit b) % 2 == 1) ≡ b
complement_in i b = ap (λ n. n == 1) (let d = digit_below b in let e : (i * 2 + digit b) % 2 ≡ digit b = omega (arith, d) in e) ∙ digit_back b

-- an edge's bits are read back
pub edge_back : (e : Edge) → edge_of_word (word_of_edge e) ≡ e
edge_back e =
    let d = digit_below e.complement in
    let i : word_of_edge e / 2 ≡ e.index = omega (arith, d) in
    ap₂ (λ n b. (let x : Edge = record { index = n; complement = b } in x)) i (complement_in e.index e.complement)

-- and an edge that was read is written back
pub bits_back : (n : ℕ) → word_of_edge (edge_of_word n) ≡ n
bits_back n = by_bit (n % 2) refl (omega arith)
  where
    by_bit : (r : ℕ) → n % 2 ≡ r → r < 2 → n / 2 * 2 + digit (n % 2 == 1) ≡ n
    by_bit zero is lt = ap (λ x. n / 2 * 2 + digit (x == 1)) is ∙ (let e : n / 2 * 2 + 0 ≡ n = omega (arith, is) in e)
    by_bit (suc zero) is lt = ap (λ x. n / 2 * 2 + digit (x == 1)) is ∙ (let e : n / 2 * 2 + 1 ≡ n = omega (arith, is) in e)
    by_bit (suc (suc r)) is lt = absurd (omega (arith, lt))

packed_below : (e : Edge) → e.index < 2 ^ 23 → word_of_edge e < 2 ^ 24
packed_below e lt = let d = digit_below e.complement in omega (arith, d, lt)

-- the key of its words
pub key_back : (key : Key) (second : ℕ) → IsInRange key → second / 2 ^ 24 ≡ word_of_edge key.h → key_in (key_word key) second ≡ key
key_back key second r is =
    let f = packed_below key.f r.f in
    let g = packed_below key.g r.g in
    let op_is : key_word key / 2 ^ 58 ≡ key.op = omega (arith, f, g) in
    let f_is : key_word key / 2 ^ 34 % 2 ^ 24 ≡ word_of_edge key.f = omega (arith, f, g) in
    let g_is : key_word key / 2 ^ 10 % 2 ^ 24 ≡ word_of_edge key.g = omega (arith, f, g) in
    rw (op_is, f_is, g_is, is) (rw (edge_back key.f, edge_back key.g, edge_back key.h) refl)

-- and of the answer's word
pub answer_back : (key : Key) (e : Edge) → e.index < 2 ^ 23 → (answer_word key e / 2 ^ 24 ≡ word_of_edge key.h) × (answer_word key e % 2 ^ 24 ≡ word_of_edge e)
answer_back key e lt = let b = packed_below e lt in (omega (arith, b), omega (arith, b))

key_word_some : (key : Key) → IsInRange key → 0 < key_word key
key_word_some key r = let s = r.some in omega (arith, s)

pub kept-some : (first second : ℕ) → 0 < first → kept_in first second ≡ Some (record { key = key_in first second; edge = edge_of_word (second % 2 ^ 24) })
kept-some first second lt = ap (λ b. if b then None else Some (record { key = key_in first second; edge = edge_of_word (second % 2 ^ 24) })) (ne_eqb first 0 (λ e. omega (arith, e, lt)))

-- what stands where the words are a key's
pub kept_is : (key : Key) (first second : ℕ) → IsInRange key → first ≡ key_word key → second / 2 ^ 24 ≡ word_of_edge key.h → kept_in first second ≡ Some (record { key = key; edge = edge_of_word (second % 2 ^ 24) })
kept_is key first second r is h =
    rw is (kept-some (key_word key) second (key_word_some key r) ∙ ap (λ k. Some (let x : Kept = record { key = k; edge = edge_of_word (second % 2 ^ 24) } in x)) (key_back key second r h))

-- the words of what stands
pub words_are : (key : Key) (e : Edge) (first second : ℕ) → first % 2 ^ 10 ≡ 0 → 0 < first → kept_in first second ≡ Some (record { key = key; edge = e }) → (first ≡ key_word key) × (second / 2 ^ 24 ≡ word_of_edge key.h)
words_are key e first second low lt is =
    let same : Some (record { key = key_in first second; edge = edge_of_word (second % 2 ^ 24) }) ≡ Some (record { key = key; edge = e }) = sym (kept-some first second lt) ∙ is in
    let k : key_in first second ≡ key = ap key_or same in
    let f = bits_back (first / 2 ^ 34 % 2 ^ 24) in
    let g = bits_back (first / 2 ^ 10 % 2 ^ 24) in
    let whole : first ≡ key_word (key_in first second) = rw (f, g) (omega (arith, low)) in
    (whole ∙ ap key_word k, sym (bits_back (second / 2 ^ 24)) ∙ ap (λ (x : Key). word_of_edge x.h) k)
  where
    any : Key
    any = key_in first second

    key_or : Option Kept → Key
    key_or None = any
    key_or (Some kept) = kept.key
