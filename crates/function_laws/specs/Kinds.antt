-- What the three kinds of diagram have in common. A node's variable number is a variable, or the first element's number and an element.
use Rattle.std.specs.Prelude.{◌≡◌, ℕ, Bool, true, false, ℤ, pos, Option, Some, None}
use Rattle.edge_bits.specs.declared.edges.Kind.{Kind}
use Rattle.edge_bits.specs.declared.edges.Kind.TheVariants.{Bdd, Add, Zdd}
use Rattle.edge_bits.specs.Reading.{element_of}
use Rattle.function_laws.specs.Values.{cofactor, choice, negation, IsFree}
use Rattle.function_laws.specs.Numbers.{is_value}
use Rattle.function_laws.specs.Families.{empty, subset1, subset0, joined, IsWithout}

-- what a slot denotes
pub data Denoted : Type 0 where
  BddFunction : (ℕ → Bool) → Denoted
  AddFunction : (ℕ → ℤ) → Denoted
  ZddFamily : (ℕ → Bool) → Denoted

-- the values of a kind's functions
abbrev pub ValueOf : Kind → Type 0
ValueOf Bdd = Bool
ValueOf Add = ℤ
ValueOf Zdd = Bool

abbrev pub function_of : (k : Kind) → (ℕ → ValueOf k) → Denoted
function_of Bdd f = BddFunction f
function_of Add f = AddFunction f
function_of Zdd p = ZddFamily p

-- the values of a function of the kind; of any other, no value but 0
abbrev pub values_of : (k : Kind) → Option Denoted → ℕ → ValueOf k
values_of Bdd (Some (BddFunction f)) = f
values_of Bdd (Some (AddFunction f)) = λ _. false
values_of Bdd (Some (ZddFamily p)) = λ _. false
values_of Bdd None = λ _. false
values_of Add (Some (BddFunction f)) = λ _. pos 0
values_of Add (Some (AddFunction f)) = f
values_of Add (Some (ZddFamily p)) = λ _. pos 0
values_of Add None = λ _. pos 0
values_of Zdd (Some (BddFunction f)) = λ _. false
values_of Zdd (Some (AddFunction f)) = λ _. false
values_of Zdd (Some (ZddFamily p)) = p
values_of Zdd None = λ _. false

-- what a node stands for, from what its then child and its else child stand for
abbrev pub joined_at : (k : Kind) → ℕ → (ℕ → ValueOf k) → (ℕ → ValueOf k) → ℕ → ValueOf k
joined_at Bdd v f g = choice v f g
joined_at Add v f g = choice v f g
joined_at Zdd v p q = joined (element_of v) p q

-- the function doesn't depend on the variable; no member has the element
abbrev pub Lacks : (k : Kind) → (ℕ → ValueOf k) → ℕ → Type 0
Lacks Bdd f v = IsFree f v
Lacks Add f v = IsFree f v
Lacks Zdd p v = IsWithout p (element_of v)

-- the cofactor, or subset1 and subset0
abbrev pub part_at : (k : Kind) → (ℕ → ValueOf k) → ℕ → Bool → ℕ → ValueOf k
part_at Bdd f v b = cofactor f v b
part_at Add f v b = cofactor f v b
part_at Zdd p v true = subset1 p (element_of v)
part_at Zdd p v false = subset0 p (element_of v)

-- the then part, at a variable, of a function that lacks it
abbrev pub absent_part : (k : Kind) → (ℕ → ValueOf k) → ℕ → ValueOf k
absent_part Bdd f = f
absent_part Add f = f
absent_part Zdd p = empty

-- each value can stand in a leaf
abbrev pub Fits : (k : Kind) → (ℕ → ValueOf k) → Type 0
Fits Bdd f = Unit {0}
Fits Add f = (x : ℕ) → is_value (f x) ≡ true
Fits Zdd p = Unit {0}

-- place by place, what is no member of any operand is no member of the result
abbrev pub KeepsAbsent : (k : Kind) → (ValueOf k → ValueOf k → ValueOf k) → Type 0
KeepsAbsent Bdd op = Unit {0}
KeepsAbsent Add op = Unit {0}
KeepsAbsent Zdd op = op false false ≡ false

abbrev pub place : {X Y Z : Type 0} → (X → Y → Z) → (ℕ → X) → (ℕ → Y) → ℕ → Z
place op f g x = op (f x) (g x)

-- a BDD's complement
abbrev pub flipped : Bool → Option Denoted → Option Denoted
flipped false o = o
flipped true (Some (BddFunction f)) = Some (BddFunction (negation f))
flipped true (Some (AddFunction f)) = None
flipped true (Some (ZddFamily p)) = None
flipped true None = None

abbrev pub opposite : Denoted → Denoted
opposite (BddFunction f) = BddFunction (negation f)
opposite (AddFunction f) = AddFunction f
opposite (ZddFamily p) = ZddFamily p
