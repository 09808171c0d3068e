-- What a restrict may answer, said of functions without a bound on their variables: the five sentences of Restricting, for an operator that goes variable by variable.
use Rattle.std.specs.Prelude.{◌≡◌, ℕ, Bool, true, false, not, ◌⊎◌}
use Rattle.edge_bits.specs.Assignments.{bit}
use Rattle.function_laws.specs.Cubes.{AgreeBeyond}
use Rattle.function_laws.specs.Values.{IsFree}

-- c is false wherever variable v isn't b
abbrev pub NeedsValue : (ℕ → Bool) → ℕ → Bool → Type 0
NeedsValue c v b = (k : ℕ) → bit k v ≡ not b → c k ≡ false

-- a product of literals: it is true somewhere, and needs one value of each variable on which it depends
pub record IsLiteralProduct (c : ℕ → Bool) : Type 0 where
  pub place : ℕ
  pub holds : c place ≡ true
  pub each : (v : ℕ) → IsFree c v ⊎ (NeedsValue c v true ⊎ NeedsValue c v false)

pub record IsRestriction (f c r : ℕ → Bool) : Type 0 where
  -- r equals f where c holds
  pub agrees : (k : ℕ) → c k ≡ true → r k ≡ f k
  -- r depends on no variable on which f doesn't
  pub depends_on_no_more : (v : ℕ) → IsFree f v → IsFree r v
  -- if c holds somewhere and f has one value where c holds, r has it everywhere
  pub is_constant : (x : Bool) (place : ℕ) → c place ≡ true → ((k : ℕ) → c k ≡ true → f k ≡ x) → (k : ℕ) → r k ≡ x
  -- if c is a product of literals, r is the cofactor: f at k with the variables of c set so that c holds
  pub is_cofactor : IsLiteralProduct c → (j k : ℕ) → c j ≡ true → AgreeBeyond c j k → r k ≡ f j
  -- if c holds nowhere, r is false
  pub is_false : ((k : ℕ) → c k ≡ false) → (k : ℕ) → r k ≡ false

-- c holds at no assignment
abbrev pub IsNowhere : (ℕ → Bool) → Type 0
IsNowhere c = (k : ℕ) → c k ≡ false
