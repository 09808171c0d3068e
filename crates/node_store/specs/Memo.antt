-- What a computed table may hold under a key, a case for each operation's number.
use Rattle.std.specs.Prelude.{◌≡◌, ◌↔◌, ℕ, zero, suc, ◌^◌, Bool, true, false, not, List, [], ◌∷◌, ◌==◌, ◌&&◌, ◌||◌, if◌then◌else◌, filter, flat_map, pos, ◌+ℤ◌, ◌-ℤ◌, ◌*ℤ◌, int_le, nat_lt}
use Rattle.std.specs.List.{range_with_len}
use Rattle.edge_bits.specs.Permanent.{truth_edge}
use Rattle.edge_bits.specs.declared.edges.Edge.{Edge}
use Rattle.computed_cache.specs.declared.Key.{Key}
use Rattle.edge_bits.specs.declared.edges.Kind.{Kind}
use Rattle.edge_bits.specs.declared.edges.Kind.TheVariants.{Bdd, Add, Zdd}
use Rattle.function_laws.specs.Cubes.{IsExists, IsSupport}
use Rattle.function_laws.specs.Families.{product, quotient}
use Rattle.function_laws.specs.IrredundantCovers.{cover_value}
use Rattle.function_laws.specs.MorrealeCalls.{interval, morreale}
use Rattle.function_laws.specs.Numbers.{from_truth, pattern, sum_over}
use Rattle.function_laws.specs.Restrictions.{IsRestriction}
use Rattle.function_laws.specs.Values.{cofactor, composed, conjunction, constant, if_then_else, negation, projection}
use Rattle.function_laws.specs.Kinds.{ValueOf, place}
use Rattle.node_store.specs.declared.numbers.TheConstants as numbers
use Rattle.node_store.specs.Views.{View, Denotes, Is, IsVariable, values_at}

abbrev pub either : Bool → Type 0 → Type 0 → Type 0
either true a b = a
either false a b = b

-- two operands of a kind, place by place
pub record PlaceHolds (k : Kind) (op : ValueOf k → ValueOf k → ValueOf k) (w : View) (key : Key) (e : Edge) : Type 0 where
  pub f : Is k w key.f
  pub g : Is k w key.g
  pub answer : Denotes k w e (place op (values_at k w key.f) (values_at k w key.g))

-- a condition and two operands of a kind
pub record IteHolds (k : Kind) (w : View) (key : Key) (e : Edge) : Type 0 where
  pub f : Is Bdd w key.f
  pub g : Is k w key.g
  pub h : Is k w key.h
  pub answer : Denotes k w e (if_then_else (values_at Bdd w key.f) (values_at k w key.g) (values_at k w key.h))

-- the projection of a variable, or its complement
abbrev pub literal : ℕ → Bool → ℕ → Bool
literal v true = projection v
literal v false = negation (projection v)

-- a function and the literal by which its cofactor is taken
pub record CofactorHolds (w : View) (key : Key) (e : Edge) : Type 0 where
  pub variable : ℕ
  pub bit : Bool
  pub in_range : IsVariable Bdd w variable
  pub literal : Denotes Bdd w key.g (literal variable bit)
  pub f : Is Bdd w key.f
  pub answer : Denotes Bdd w e (cofactor (values_at Bdd w key.f) variable bit)

-- the second is true wherever the first is
abbrev pub Implies : (ℕ → Bool) → (ℕ → Bool) → Type 0
Implies f g = (k : ℕ) → f k ≡ true → g k ≡ true

-- the edge is the constant that says whether the first implies the second
pub record Tells (f g : ℕ → Bool) (e : Edge) : Type 0 where
  pub yes : Bool
  pub is : e ≡ truth_edge yes
  pub says : (yes ≡ true) ↔ Implies f g

pub record ImplicationHolds (w : View) (key : Key) (e : Edge) : Type 0 where
  pub f : Is Bdd w key.f
  pub g : Is Bdd w key.g
  pub answer : Tells (values_at Bdd w key.f) (values_at Bdd w key.g) e

-- a function, and a product of variables over which it is quantified
pub record ExistsHolds (w : View) (key : Key) (e : Edge) : Type 0 where
  pub f : Is Bdd w key.f
  pub cube : Is Bdd w key.g
  pub answer : Is Bdd w e
  pub exists : IsExists (values_at Bdd w key.g) (values_at Bdd w key.f) (values_at Bdd w e)

-- two functions, and a product of variables over which their conjunction is quantified
pub record AndExistsHolds (w : View) (key : Key) (e : Edge) : Type 0 where
  pub f : Is Bdd w key.f
  pub g : Is Bdd w key.g
  pub cube : Is Bdd w key.h
  pub answer : Is Bdd w e
  pub exists : IsExists (values_at Bdd w key.h) (conjunction (values_at Bdd w key.f) (values_at Bdd w key.g)) (values_at Bdd w e)

-- the product of the variables on which a function depends
pub record SupportHolds (w : View) (key : Key) (e : Edge) : Type 0 where
  pub f : Is Bdd w key.f
  pub answer : Is Bdd w e
  pub support : IsSupport (values_at Bdd w key.f) (values_at Bdd w e)

-- a function, the one that is put for a variable, and the variable's projection
pub record ComposeHolds (w : View) (key : Key) (e : Edge) : Type 0 where
  pub variable : ℕ
  pub in_range : IsVariable Bdd w variable
  pub projection : Denotes Bdd w key.h (projection variable)
  pub f : Is Bdd w key.f
  pub g : Is Bdd w key.g
  pub answer : Denotes Bdd w e (composed (values_at Bdd w key.f) variable (values_at Bdd w key.g))

-- a function, a condition, and one of the functions that restrict may answer
pub record RestrictHolds (w : View) (key : Key) (e : Edge) : Type 0 where
  pub f : Is Bdd w key.f
  pub condition : Is Bdd w key.g
  pub answer : Is Bdd w e
  pub restricts : IsRestriction (values_at Bdd w key.f) (values_at Bdd w key.g) (values_at Bdd w e)

-- a truth function, whose values are taken as 1 and 0
pub record FromTruthHolds (w : View) (key : Key) (e : Edge) : Type 0 where
  pub f : Is Bdd w key.f
  pub answer : Denotes Add w e (from_truth (values_at Bdd w key.f))

-- a function of numbers, and where it isn't 0
pub record PatternHolds (w : View) (key : Key) (e : Edge) : Type 0 where
  pub f : Is Add w key.f
  pub answer : Denotes Bdd w e (pattern (values_at Add w key.f))

-- a function of numbers and the projection of the variable over which it is summed
pub record SumHolds (w : View) (key : Key) (e : Edge) : Type 0 where
  pub variable : ℕ
  pub in_range : IsVariable Add w variable
  pub projection : Denotes Bdd w key.g (projection variable)
  pub f : Is Add w key.f
  pub answer : Denotes Add w e (sum_over (values_at Add w key.f) variable)

-- the unions of a member of one family and one of another, among the combinations of the store's elements
pub record ProductHolds (w : View) (key : Key) (e : Edge) : Type 0 where
  pub f : Is Zdd w key.f
  pub g : Is Zdd w key.g
  pub answer : Denotes Zdd w e (product (2 ^ w.elements) (values_at Zdd w key.f) (values_at Zdd w key.g))

-- what gives, with each member of the second family, a member of the first, and is disjoint from it
pub record QuotientHolds (w : View) (key : Key) (e : Edge) : Type 0 where
  pub f : Is Zdd w key.f
  pub g : Is Zdd w key.g
  pub answer : Denotes Zdd w e (quotient (2 ^ w.elements) (values_at Zdd w key.f) (values_at Zdd w key.g))

-- the projection of the last of so many variables, which tells how many there are; the constant one where there are none
abbrev pub last_of : ℕ → ℕ → Bool
last_of zero = constant true
last_of (suc v) = projection v

-- a cover, over as many variables as the second operand tells: a store with more variables may keep it
pub record CoverHolds (w : View) (key : Key) (e : Edge) : Type 0 where
  pub variables : ℕ
  pub last : Denotes Bdd w key.g (last_of variables)
  pub f : Is Zdd w key.f
  pub answer : Denotes Bdd w e (cover_value variables w.elements (values_at Zdd w key.f))

-- the first n numbers by their levels from the top
abbrev pub by_level : ℕ → (ℕ → ℕ) → List ℕ
by_level n level = flat_map (λ l. filter (λ v. level v == l) (range_with_len 0 n)) (range_with_len 0 n)

-- the irredundant cover between two bounds that Morreale's calls find by the store's order
abbrev pub cover_between : View → (ℕ → Bool) → (ℕ → Bool) → ℕ → Bool
cover_between w lower upper = morreale w.vars w.elements (by_level w.vars w.level) (interval lower upper)

-- two bounds, and the function of that cover
pub record BetweenHolds (w : View) (key : Key) (e : Edge) : Type 0 where
  pub lower : Is Bdd w key.f
  pub upper : Is Bdd w key.g
  pub answer : Denotes Bdd w e (cover_value w.vars w.elements (cover_between w (values_at Bdd w key.f) (values_at Bdd w key.g)))

-- two bounds, and the cover
pub record IsopHolds (w : View) (key : Key) (e : Edge) : Type 0 where
  pub lower : Is Bdd w key.f
  pub upper : Is Bdd w key.g
  pub answer : Denotes Zdd w e (cover_between w (values_at Bdd w key.f) (values_at Bdd w key.g))

-- What an operation's answer says of its operands.
pub data Shape : Type 0 where
  -- two operands of a kind, place by place; a choice of two operands of a kind
  placewise : (k : Kind) → (ValueOf k → ValueOf k → ValueOf k) → Shape
  choice : Kind → Shape
  cofactors : Shape
  implies : Shape
  quantifies : Shape
  conjoins : Shape
  supports : Shape
  composes : Shape
  restricts : Shape
  lies_between : Shape
  converts : Shape
  tests : Shape
  sums : Shape
  multiplies : Shape
  divides : Shape
  covers : Shape
  finds_cover : Shape

abbrev pub Holds : Shape → View → Key → Edge → Type 0
Holds (placewise k op) w key e = PlaceHolds k op w key e
Holds (choice k) w key e = IteHolds k w key e
Holds cofactors w key e = CofactorHolds w key e
Holds implies w key e = ImplicationHolds w key e
Holds quantifies w key e = ExistsHolds w key e
Holds conjoins w key e = AndExistsHolds w key e
Holds supports w key e = SupportHolds w key e
Holds composes w key e = ComposeHolds w key e
Holds restricts w key e = RestrictHolds w key e
Holds lies_between w key e = BetweenHolds w key e
Holds converts w key e = FromTruthHolds w key e
Holds tests w key e = PatternHolds w key e
Holds sums w key e = SumHolds w key e
Holds multiplies w key e = ProductHolds w key e
Holds divides w key e = QuotientHolds w key e
Holds covers w key e = CoverHolds w key e
Holds finds_cover w key e = IsopHolds w key e

-- what holds of the shape that stands beside a number, or this, where the number has none
abbrev pub CaseOf : (Shape → Type 0) → List (ℕ × Shape) → ℕ → Type 0 → Type 0
CaseOf P [] op other = other
CaseOf P (case ∷ cases) op other = either (op == case.0) (P case.1) (CaseOf P cases op other)

-- the operations on truth functions, on numbers and on families
abbrev pub truth_cases : List (ℕ × Shape)
truth_cases =
    (numbers.AND, placewise Bdd (λ a b. a && b)) ∷ (numbers.ITE, choice Bdd) ∷ (numbers.COFACTOR, cofactors) ∷ (numbers.LEQ, implies) ∷ (numbers.EXISTS, quantifies)
    ∷ (numbers.AND_EXISTS, conjoins) ∷ (numbers.SUPPORT, supports) ∷ (numbers.COMPOSE, composes) ∷ (numbers.RESTRICT, restricts) ∷ (numbers.BETWEEN, lies_between) ∷ []

abbrev pub number_cases : List (ℕ × Shape)
number_cases =
    (numbers.PLUS, placewise Add (λ a b. a +ℤ b))
    ∷ (numbers.MINUS, placewise Add (λ a b. a -ℤ b))
    ∷ (numbers.TIMES, placewise Add (λ a b. a *ℤ b))
    ∷ (numbers.MIN, placewise Add (λ a b. if int_le a b then a else b))
    ∷ (numbers.MAX, placewise Add (λ a b. if int_le b a then a else b))
    ∷ (numbers.THRESHOLD, placewise Add (λ a b. if int_le b a then a else pos 0))
    ∷ (numbers.ADD_ITE, choice Add) ∷ (numbers.FROM_BDD, converts) ∷ (numbers.PATTERN, tests) ∷ (numbers.SUM_OVER, sums) ∷ []

abbrev pub family_cases : List (ℕ × Shape)
family_cases =
    (numbers.UNION, placewise Zdd (λ a b. a || b)) ∷ (numbers.MEET, placewise Zdd (λ a b. a && b)) ∷ (numbers.DIFF, placewise Zdd (λ a b. a && not b))
    ∷ (numbers.PRODUCT, multiplies) ∷ (numbers.QUOTIENT, divides) ∷ (numbers.COVER_OF, covers)
    ∷ (numbers.ISOP, finds_cover) ∷ []

-- of operations on numbers
unfoldable pub NumberHolds : View → Key → Edge → Type 0
NumberHolds w key e = CaseOf (λ shape. Holds shape w key e) number_cases key.op ⊥

-- of operations on families
unfoldable pub FamilyHolds : View → Key → Edge → Type 0
FamilyHolds w key e = CaseOf (λ shape. Holds shape w key e) family_cases key.op ⊥

-- of operations on truth functions; those on numbers have the numbers from 20 on, those on families from 40 on
abbrev pub MemoHolds : View → Key → Edge → Type 0
MemoHolds w key e = CaseOf (λ shape. Holds shape w key e) truth_cases key.op (either (nat_lt key.op 40) (NumberHolds w key e) (FamilyHolds w key e))
