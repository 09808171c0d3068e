-- Products of variables, and quantification over the variables of a product.
use Rattle.std.specs.Prelude.{◌≡◌, ℕ, Bool, true, false, List, [], ◌∷◌, ◌⊎◌}
use Rattle.edge_bits.specs.Assignments.{bit}
use Rattle.function_laws.specs.Values.{IsFree, constant, conjunction, projection}

-- the product of the variables of a list
abbrev pub cube_of : List ℕ → ℕ → Bool
cube_of [] = constant true
cube_of (v ∷ vs) = conjunction (projection v) (cube_of vs)

-- c is false wherever variable v is 0
abbrev pub Needs : (ℕ → Bool) → ℕ → Type 0
Needs c v = (k : ℕ) → bit k v ≡ false → c k ≡ false

-- a product of variables: it is true somewhere, and needs each variable on which it depends
pub record IsCube (c : ℕ → Bool) : Type 0 where
  pub place : ℕ
  pub holds : c place ≡ true
  pub each : (v : ℕ) → IsFree c v ⊎ Needs c v

-- two assignments differ only in variables on which c depends
abbrev pub AgreeBeyond : (ℕ → Bool) → ℕ → ℕ → Type 0
AgreeBeyond c j k = (v : ℕ) → IsFree c v → bit j v ≡ bit k v

-- f is true at some assignment that differs from k only in variables on which c depends
abbrev pub CanBeTrue : (c f : ℕ → Bool) → ℕ → Type 0
CanBeTrue c f k = (j : ℕ) × ((f j ≡ true) × AgreeBeyond c j k)

-- g is true exactly where f can be made true by the variables on which c depends
pub record IsExists (c f g : ℕ → Bool) : Type 0 where
  pub reached : (k : ℕ) → g k ≡ true → CanBeTrue c f k
  pub reaches : (k : ℕ) → CanBeTrue c f k → g k ≡ true

-- s is true exactly where each variable on which f depends is 1
pub record IsSupport (f s : ℕ → Bool) : Type 0 where
  pub needs : (k v : ℕ) → s k ≡ true → bit k v ≡ false → IsFree f v
  pub reaches : (k : ℕ) → ((v : ℕ) → bit k v ≡ false → IsFree f v) → s k ≡ true
