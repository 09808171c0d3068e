-- What products and quotients of families are, by their members.
use Rattle.std.specs.Prelude.{◌≡◌, ℕ, Bool, true, bit_and, bit_or}

-- a combination is in r exactly if it is the union of a member of p and one of q
pub record IsProduct (p q r : ℕ → Bool) : Type 0 where
  pub is_union : (a : ℕ) → r a ≡ true → (b c : ℕ) × (p b ≡ true) × (q c ≡ true) × (bit_or b c ≡ a)
  pub unions : (b c : ℕ) → p b ≡ true → q c ≡ true → r (bit_or b c) ≡ true

-- with each member of q, a is disjoint from it and gives with it a member of p
abbrev pub FitsEach : (p q : ℕ → Bool) → ℕ → Type 0
FitsEach p q a = (b : ℕ) → q b ≡ true → (bit_and a b ≡ 0) × (p (bit_or a b) ≡ true)

-- a combination is in r exactly if q has a member and the combination fits each
pub record IsQuotient (p q r : ℕ → Bool) : Type 0 where
  pub some : (a : ℕ) → r a ≡ true → (b : ℕ) × (q b ≡ true)
  pub fits : (a : ℕ) → r a ≡ true → FitsEach p q a
  pub holds : (a b : ℕ) → q b ≡ true → FitsEach p q a → r a ≡ true
