-- Leaves of ADDs.
use Rattle.std.proofs.Common.{◌≡◌, ℕ, ℤ, pos, Bool, true, false, cond, Option, Some, Result, refl, ap, sym, ◌∙◌, subst, arith, SFits, of_z, to_z, w64}
use Rattle.std.specs.Int.{w128}
use Rattle.std.specs.Prelude.{◌+ℤ◌, ◌-ℤ◌, ◌*ℤ◌, if◌then◌else◌, int_le, IfOk}
use Rattle.std.proofs.lemmas.Int.{ints, to_z-of_z}
use Rattle.edge_bits.specs.Permanent.{one_edge, zero_edge}
use Rattle.edge_bits.specs.declared.edges.Edge.{Edge}
use Rattle.edge_bits.specs.declared.edges.Kind.TheVariants.{Add}
use Rattle.function_laws.specs.Values.{constant}
use Rattle.function_laws.specs.Numbers.{is_value}
use Rattle.function_laws.specs.Kinds.{Denoted, AddFunction}
use Rattle.node_store.specs.Views.{View, AreTwo, Denotes, add_at, IsLeaf, IsLeafOf as IsLeafWith, number, Permanent}
use Rattle.node_store.specs.declared.operator.Halt.{Halt}
use Rattle.node_store.specs.Two.{place_at}
use Rattle.add_ops.specs.Leaves.{AreLeaves}

leaf_values : (e : Edge) (f : ℕ → ℤ) (x : ℤ) → IsLeafWith Add e f x → f ≡ constant x
leaf_values _ _ _ (number e x) = refl

-- a number that was made wider
abbrev pub wide : ℤ → ℤ
wide x = to_z w128 (of_z w128 (to_z w64 (of_z w64 x)))

pub wide_sum : (x y : ℤ) → SFits w64 x → SFits w64 y → to_z w128 (of_z w128 (wide x +ℤ wide y)) ≡ x +ℤ y
wide_sum x y fx fy = omega (arith, ints)

pub wide_difference : (x y : ℤ) → SFits w64 x → SFits w64 y → to_z w128 (of_z w128 (wide x -ℤ wide y)) ≡ x -ℤ y
wide_difference x y fx fy = omega (arith, ints)

wide_same : (x : ℤ) → SFits w64 x → wide x ≡ x
wide_same x fx = omega (arith, ints)

-- numbers that were passed by value have the same product
pub passed_product : (x y : ℤ) → SFits w64 x → SFits w64 y → to_z w64 (of_z w64 x) *ℤ to_z w64 (of_z w64 y) ≡ x *ℤ y
passed_product x y fx fy = ap (λ a. a *ℤ to_z w64 (of_z w64 y)) (to_z-of_z w64 x fx) ∙ ap (λ b. x *ℤ b) (to_z-of_z w64 y fy)

pub wide_product : (x y exact : ℤ) → SFits w64 x → SFits w64 y → SFits w64 exact → exact ≡ to_z w64 (of_z w64 x) *ℤ to_z w64 (of_z w64 y) → wide exact ≡ x *ℤ y
wide_product x y exact fx fy fe is = wide_same exact fe ∙ is ∙ passed_product x y fx fy

-- the numbers of two leaves
pub leaves_are : (w : View) (f g : Edge) (x y : ℤ) → IsLeaf Add w f (add_at w f) x → IsLeaf Add w g (add_at w g) y → AreLeaves w f g x y
leaves_are w f g x y i j = record { first = leaf_values f (add_at w f) x i.leaf; second = leaf_values g (add_at w g) y j.leaf }

-- an operation on two leaves
place_leaves : (op : ℤ → ℤ → ℤ) (w : View) (f g : Edge) (x y z : ℤ) → AreLeaves w f g x y → z ≡ op x y → place_at Add op w f g ≡ constant z
place_leaves op w f g x y z l is = rw (l.first, l.second) (ap (constant {X = ℤ}) (sym is))

-- the leaf of its value is its answer
pub leaf_answer : (op : ℤ → ℤ → ℤ) (v w : View) (f g : Edge) (x y z : ℤ) (r : Result Edge Halt) → AreLeaves v f g x y → z ≡ op x y
    → IfOk r (λ e. Denotes Add w e (constant z)) → IfOk r (λ e. Denotes Add w e (place_at Add op v f g))
leaf_answer op v w f g x y z r l is a = subst (λ h. IfOk r (λ e. Denotes Add w e h)) (sym (place_leaves op v f g x y z l is)) a

-- that its value is out of range is an overflow of the functions
pub leaf_overflow : (op : ℤ → ℤ → ℤ) (w : View) (f g : Edge) (x y z : ℤ) → AreLeaves w f g x y → z ≡ op x y → is_value z ≡ false → (k : ℕ) × (is_value (place_at Add op w f g k) ≡ false)
leaf_overflow op w f g x y z l is out = (0, ap (λ (h : ℕ → ℤ). is_value (h 0)) (place_leaves op w f g x y z l is) ∙ out)

-- its value was due
pub leaf_due : (op : ℤ → ℤ → ℤ) (w : View) (f g : Edge) (x y z : ℤ) (o : Option Denoted) → AreLeaves w f g x y → z ≡ op x y → o ≡ Some (AddFunction (constant z)) → o ≡ Some (AddFunction (place_at Add op w f g))
leaf_due op w f g x y z o l is due = due ∙ ap (λ (h : ℕ → ℤ). Some (AddFunction h)) (sym (place_leaves op w f g x y z l is))

-- the edge of the value that is chosen
pub chosen_answer : (op : ℤ → ℤ → ℤ) (w : View) (f g h r : Edge) (x y z : ℤ) (b : Bool) → AreTwo Add w f g → AreLeaves w f g x y → Denotes Add w h (constant z) → cond b x z ≡ op x y → r ≡ cond b f h
    → Denotes Add w r (place_at Add op w f g)
chosen_answer op w f g h r x y z true d l dh is same =
    subst (λ e. Denotes Add w e (place_at Add op w f g)) (sym same) (subst (λ t. Denotes Add w f t) (l.first ∙ sym (place_leaves op w f g x y x l is)) d.first)
chosen_answer op w f g h r x y z false d l dh is same =
    subst (λ e. Denotes Add w e (place_at Add op w f g)) (sym same) (subst (λ t. Denotes Add w h t) (sym (place_leaves op w f g x y z l is)) dh)

pub second_leaf : (w : View) (f g : Edge) (x y : ℤ) → AreTwo Add w f g → AreLeaves w f g x y → Denotes Add w g (constant y)
second_leaf w f g x y d l = subst (λ t. Denotes Add w g t) l.second d.second

-- the number 0
pub zero_leaf : (w : View) (e : Edge) → Permanent w → e ≡ zero_edge → Denotes Add w e (constant (pos 0))
zero_leaf w e p is = subst (λ t. Denotes Add w t (constant (pos 0))) (sym is) (record { is = p.add_zero; beyond = λ v h k b. refl; fits = λ x. refl })

-- the number 1
pub one_leaf : (w : View) (e : Edge) → Permanent w → e ≡ one_edge → Denotes Add w e (constant (pos 1))
one_leaf w e p is = subst (λ t. Denotes Add w t (constant (pos 1))) (sym is) (record { is = p.add_one; beyond = λ v h k b. refl; fits = λ x. refl })

-- numbers that were passed by value compare as before
pub order_passed : (x y : ℤ) → SFits w64 x → SFits w64 y → int_le (to_z w64 (of_z w64 x)) (to_z w64 (of_z w64 y)) ≡ int_le x y
order_passed x y fx fy = ap (λ a. int_le a (to_z w64 (of_z w64 y))) (to_z-of_z w64 x fx) ∙ ap (λ b. int_le x b) (to_z-of_z w64 y fy)

pub same_choice : (b c : Bool) (x y : ℤ) → b ≡ c → cond b x y ≡ (if c then x else y)
same_choice true true x y e = refl
same_choice false false x y e = refl
same_choice true false x y e = cc
same_choice false true x y e = cc
