-- A word of 64 bits that reads as a node or leaf is the one that is written for it.
use Rattle.std.proofs.Common.{◌≡◌, ◌≢◌, ℕ, ◌-◌, ◌/◌, ◌%◌, ◌^◌, ◌<◌, ◌≤◌, ◌==◌, inl, inr, cond, Option, Some, None, pos, negsuc, sym, ap, ◌∙◌, subst, arith, eq-eqb, ne_eqb}
use Rattle.std.specs.Prelude.{nat_lt}
use Rattle.std.proofs.lemmas.Bool.{cases_lt, cases_eq, lt-ltb, le-ltb}
use Rattle.edge_bits.specs.declared.words.Word.{Word}
use Rattle.edge_bits.specs.declared.words.Word.TheVariants.{Inner, Leaf}
use Rattle.edge_bits.specs.Words.{digit, low_bits, signed, pack_of, variable_field, inner_of, unpack_of}
use Rattle.step_store.proofs.Passing.{none_some, some_same}

digit_of : (d : ℕ) → d < 2 → digit (d == 1) ≡ d
digit_of d lt = elim (cases_eq d 1) [
  | inl e ↦ ap digit (eq-eqb d 1 e) ∙ sym e
  | inr ne ↦ ap digit (ne_eqb d 1 ne) ∙ small d lt ne
]
  where
    small : (d : ℕ) → d < 2 → d ≢ 1 → 0 ≡ d
    small d lt ne = elim (cases_eq d 0) [
      | inl e ↦ sym e
      | inr no_zero ↦ absurd (ne (omega (arith, lt, no_zero)))
    ]

low_signed : (l : ℕ) → l < 2 ^ 47 → low_bits (signed l) ≡ l
low_signed l lt = elim (cases_lt l (2 ^ 46)) [
  | inl low ↦ ap low_bits (ap (λ b. cond b (pos l) (negsuc (2 ^ 47 - 1 - l))) (lt-ltb l (2 ^ 46) low))
  | inr high ↦ ap low_bits (ap (λ b. cond b (pos l) (negsuc (2 ^ 47 - 1 - l))) (le-ltb l (2 ^ 46) high)) ∙ omega (arith, lt)
]

abbrev behind : ℕ → Option Word
behind bits = cond (nat_lt (variable_field bits) 32768) (Some (Inner (inner_of bits))) None

abbrev above : ℕ → Option Word
above bits = cond (variable_field bits == 65535) (Some (Leaf (signed (bits % 2 ^ 47)))) (behind bits)

module _ (bits : ℕ) (small : bits < 18446744073709551616) (used : 2 ^ 63 ≤ bits) where
  leaf_back : variable_field bits ≡ 65535 → bits ≡ pack_of (Leaf (signed (bits % 2 ^ 47)))
  leaf_back field = let l = low_signed (bits % 2 ^ 47) (omega arith) in omega (arith, small, used, field, l)

  inner_back : bits ≡ pack_of (Inner (inner_of bits))
  inner_back = let d = digit_of (bits / 2 ^ 23 % 2) (omega arith) in omega (arith, small, used, d)

  back : (word : Word) → above bits ≡ Some word → bits ≡ pack_of word
  back word is = elim (cases_eq (variable_field bits) 65535) [
    | inl e ↦ subst (λ (w : Word). bits ≡ pack_of w) (some_same {A = Word} (Leaf (signed (bits % 2 ^ 47))) word (sym (ap (λ b. cond b (Some (Leaf (signed (bits % 2 ^ 47)))) (behind bits)) (eq-eqb (variable_field bits) 65535 e)) ∙ is)) (leaf_back e)
    | inr ne ↦ (let at : behind bits ≡ Some word = sym (ap (λ b. cond b (Some (Leaf (signed (bits % 2 ^ 47)))) (behind bits)) (ne_eqb (variable_field bits) 65535 ne)) ∙ is in elim (cases_lt (variable_field bits) 32768) [
      | inl lt ↦ subst (λ (w : Word). bits ≡ pack_of w) (some_same {A = Word} (Inner (inner_of bits)) word (sym (ap (λ b. cond b (Some (Inner (inner_of bits))) None) (lt-ltb (variable_field bits) 32768 lt)) ∙ at)) inner_back
      | inr le ↦ absurd (none_some word (sym (ap (λ b. cond b (Some (Inner (inner_of bits))) None) (le-ltb (variable_field bits) 32768 le)) ∙ at))
    ])
  ]

pub packs_back : (bits : ℕ) (word : Word) → bits < 18446744073709551616 → unpack_of bits ≡ Some word → bits ≡ pack_of word
packs_back bits word small is = elim (cases_lt bits (2 ^ 63)) [
  | inl lt ↦ absurd (none_some word (sym (ap (λ b. cond b None (above bits)) (lt-ltb bits (2 ^ 63) lt)) ∙ is))
  | inr le ↦ back bits small le word (sym (ap (λ b. cond b None (above bits)) (le-ltb bits (2 ^ 63) le)) ∙ is)
]
