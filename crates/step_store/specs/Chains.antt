-- Chains of slots. A link is 0, or one more than a slot.
use Rattle.std.specs.Prelude.{◌≡◌, ◌⊎◌, ℕ, suc, ◌<◌, Bool, true, List, [], ◌∷◌}
use Rattle.edge_bits.specs.Mixing.{scattered}

-- the slot is in the list
abbrev pub Lists : List ℕ → ℕ → Type 0
Lists [] s = ⊥
Lists (t ∷ ts) s = (t ≡ s) ⊎ Lists ts s

-- the link that leads to these slots
abbrev pub link_to : List ℕ → ℕ
link_to [] = 0
link_to (s ∷ ss) = suc s

-- the links lead along the slots, to the end
abbrev pub Along : (ℕ → ℕ) → ℕ → List ℕ → Type 0
Along next link [] = link ≡ 0
Along next link (s ∷ ss) = (link ≡ suc s) × Along next (next s) ss

-- each slot of the list comes once
abbrev pub Once : List ℕ → Type 0
Once [] = Unit {0}
Once (s ∷ ss) = (Lists ss s → ⊥) × Once ss

-- The chains of all heads: a slot that is on has its place, by its word, on the chain of the word's head, and nothing else is on a chain.
pub record Chains (heads : ℕ) (head next : ℕ → ℕ) (head_of : ℕ → ℕ) (word : ℕ → ℕ) (on : ℕ → Bool) (chain : ℕ → List ℕ) : Type 0 where
  pub along : (h : ℕ) → h < heads → Along next (head h) (chain h)
  pub listed : (s : ℕ) → on s ≡ true → (head_of (word s) < heads) × Lists (chain (head_of (word s))) s
  pub only : (h s : ℕ) → h < heads → Lists (chain h) s → (on s ≡ true) × (head_of (word s) ≡ h)
  pub once : (h : ℕ) → h < heads → Once (chain h)

-- the head of a word, of so many: it comes from all of the word's bits
abbrev pub head_of : ℕ → ℕ → ℕ
head_of heads bits = scattered bits heads
