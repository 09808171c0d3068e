-- The size of a set of functions under an order (Sieling and Wegener 1993): how many distinct functions there are among their cofactors by the first variables.
use Rattle.std.specs.Prelude.{ℕ, ◌^◌, ◌==◌, Bool, true, false, not, ◌&&◌, ◌||◌, if◌then◌else◌, pos, List, [], ◌∷◌, ◌++◌, length, map, Option, Some, None}
use Rattle.std.specs.List.{list_any, filter, range_with_len}
use Rattle.std.specs.Ordering.{int_eq}
use Rattle.edge_bits.specs.Assignments.{bit}
use Rattle.function_laws.specs.declared.orders.Order.{Order}
use Rattle.function_laws.specs.declared.orders.Order.TheVariants.{Variables, Elements}
use Rattle.function_laws.specs.Lists.{any_below, all_below}
use Rattle.function_laws.specs.Values.{cofactor, negation, constant, projection, differs}
use Rattle.function_laws.specs.Families.{empty, base, subset1, subset0}
use Rattle.function_laws.specs.Kinds.{Denoted, BddFunction, AddFunction, ZddFamily}

-- the order of the variables, of BDDs and ADDs, and that of the elements, of families, each from the top
pub record Orders : Type 0 where
  pub variables : List ℕ
  pub elements : List ℕ

abbrev pub order_of : Orders → Denoted → List ℕ
order_of orders (BddFunction f) = orders.variables
order_of orders (AddFunction f) = orders.variables
order_of orders (ZddFamily p) = orders.elements

-- the cofactor; of a family subset1 or subset0
abbrev pub part_of : Denoted → ℕ → Bool → Denoted
part_of (BddFunction f) v b = BddFunction (cofactor f v b)
part_of (AddFunction f) v b = AddFunction (cofactor f v b)
part_of (ZddFamily p) e true = ZddFamily (subset1 p e)
part_of (ZddFamily p) e false = ZddFamily (subset0 p e)

-- a function's cofactors by all assignments of the first i variables of an order, for each i from 0 on
unfoldable pub parts : List ℕ → Denoted → List Denoted
parts [] f = f ∷ []
parts (v ∷ order) f = f ∷ (parts order (part_of f v true) ++ parts order (part_of f v false))

-- two functions are one: of BDDs, one is the other or its complement
abbrev pub agree : ℕ → (ℕ → Bool) → (ℕ → Bool) → Bool
agree n f g = all_below (2 ^ n) (λ k. not (differs (f k) (g k)))

abbrev pub is_one : Orders → Denoted → Denoted → Bool
is_one orders (BddFunction f) (BddFunction g) =
    agree (length orders.variables) f g || agree (length orders.variables) (negation f) g
is_one orders (AddFunction f) (AddFunction g) = all_below (2 ^ length orders.variables) (λ k. int_eq (f k) (g k))
is_one orders (ZddFamily p) (ZddFamily q) = agree (length orders.elements) p q
is_one orders _ _ = false

-- the parts of several functions
unfoldable pub all_parts : Orders → List Denoted → List Denoted
all_parts orders [] = []
all_parts orders (f ∷ fs) = parts (order_of orders f) f ++ all_parts orders fs

-- the list with one of those that are the same
abbrev pub with_new : {X : Type 0} → (X → X → Bool) → X → List X → List X
with_new same x xs = if list_any (same x) xs then xs else x ∷ xs

unfoldable pub distinct : {X : Type 0} → (X → X → Bool) → List X → List X
distinct same [] = []
distinct same (x ∷ xs) = with_new same x (distinct same xs)

-- the distinct functions among the parts, and how many they are
abbrev pub diagram : Orders → List Denoted → List Denoted
diagram orders fs = distinct (is_one orders) (all_parts orders fs)

abbrev pub size : Orders → List Denoted → ℕ
size orders fs = length (diagram orders fs)

-- the function depends on the variable; some member has the element
abbrev pub depends_on : Orders → Order → Denoted → ℕ → Bool
depends_on orders Variables (BddFunction f) v = any_below (2 ^ length orders.variables) (λ k. differs (cofactor f v true k) (cofactor f v false k))
depends_on orders Variables (AddFunction f) v = any_below (2 ^ length orders.variables) (λ k. not (int_eq (cofactor f v true k) (cofactor f v false k)))
depends_on orders Elements (ZddFamily p) e = any_below (2 ^ length orders.elements) (λ a. bit a e && p a)
depends_on orders _ f v = false

-- the topmost one of these on which a function depends
unfoldable pub topmost : Orders → Order → List ℕ → Denoted → Option ℕ
topmost orders which [] f = None
topmost orders which (v ∷ vs) f = if depends_on orders which f v then Some v else topmost orders which vs f

abbrev pub is_variable : Option ℕ → ℕ → Bool
is_variable None v = false
is_variable (Some u) v = u == v

abbrev pub in_order : Orders → Order → List ℕ
in_order orders Variables = orders.variables
in_order orders Elements = orders.elements

-- how many of the distinct parts have this topmost variable, or element
abbrev pub width : Orders → Order → List Denoted → ℕ → ℕ
width orders which fs v = length (filter (λ f. is_variable (topmost orders which (in_order orders which) f) v) (diagram orders fs))

-- what stands in the permanent slots: the constants, Empty, Base and the projections of n variables
abbrev pub permanent : ℕ → List Denoted
permanent n =
    BddFunction (constant true) ∷ ZddFamily empty ∷ ZddFamily base ∷ AddFunction (constant (pos 0)) ∷ AddFunction (constant (pos 1))
    ∷ map (λ v. BddFunction (projection v)) (range_with_len 0 n)
