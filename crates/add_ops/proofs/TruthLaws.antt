-- Truth functions as functions of numbers, and what functions of numbers tell.
use Rattle.std.proofs.Common.{◌≡◌, ℕ, eqb, ℤ, pos, negsuc, Bool, true, false, not, refl, ap, sym, ◌∙◌, subst, arith, SFits, of_z, to_z, w64}
use Rattle.std.specs.Prelude.{if◌then◌else◌, int_le}
use Rattle.std.proofs.lemmas.Int.{ints}
use Rattle.edge_bits.specs.declared.edges.Edge.{Edge}
use Rattle.edge_bits.specs.declared.edges.Kind.TheVariants.{Bdd, Add}
use Rattle.computed_cache.specs.declared.Key.{Key}
use Rattle.function_laws.specs.Numbers.{at_least, from_truth, is_zero, pattern}
use Rattle.function_laws.specs.Values.{constant}
use Rattle.node_store.specs.Memo.{NumberHolds}
use Rattle.node_store.specs.declared.numbers.TheConstants as numbers
use Rattle.node_store.specs.Views.{View, Denotes, IsLeafOf, Permanent, logic_one, logic_zero, number}
use Rattle.node_store.specs.ViewLaws.{Denotes-truth}
use Rattle.add_ops.specs.Conversions.{IsKeyOf}
use Rattle.add_ops.proofs.LeafLaws.{one_leaf, order_passed, zero_leaf}

-- the keys
pub from_truth_key : (f : Edge) (key : Key) → key ≡ record { op = numbers.FROM_BDD; f = f; g = f; h = f } → IsKeyOf Bdd Add (λ b. if b then pos 1 else pos 0) f key
unfolding NumberHolds
from_truth_key f key is = rw is (record {
  is_key = λ w d. record { least = omega arith; most = omega arith; f = (Bdd, d); g = (Bdd, d); h = (Bdd, d) };
  memo = λ w e d a. record { f = d; answer = a };
  hit = λ w e holds. holds.answer;
})

pub pattern_key : (f : Edge) (key : Key) → key ≡ record { op = numbers.PATTERN; f = f; g = f; h = f } → IsKeyOf Add Bdd (λ z. not (is_zero z)) f key
unfolding NumberHolds
pattern_key f key is = rw is (record {
  is_key = λ w d. record { least = omega arith; most = omega arith; f = (Add, d); g = (Add, d); h = (Add, d) };
  memo = λ w e d a. record { f = d; answer = a };
  hit = λ w e holds. holds.answer;
})

-- logic zero becomes the number 0, and logic one the number 1
pub zero_from_truth : (w : View) → Permanent w → (e r : Edge) (f : ℕ → Bool) (x : ℤ) → of_z w64 x ≡ 0 → r ≡ record { index = 3; complement = false } → IsLeafOf Bdd e f x → Denotes Add w r (from_truth f)
zero_from_truth w p _ r _ _ zero is logic_one = absurd (omega (arith, ints))
zero_from_truth w p _ r _ _ zero is logic_zero = zero_leaf w r p is

pub one_from_truth : (w : View) → Permanent w → (e r : Edge) (f : ℕ → Bool) (x : ℤ) → (of_z w64 x ≡ 0 → ⊥) → r ≡ record { index = 4; complement = false } → IsLeafOf Bdd e f x → Denotes Add w r (from_truth f)
one_from_truth w p _ r _ _ other is logic_one = one_leaf w r p is
one_from_truth w p _ r _ _ other is logic_zero = absurd (other (omega (arith, ints)))

-- a test for 0
zero_is : (x : ℤ) → is_zero x ≡ true → x ≡ pos 0
zero_is (pos n) h = let same : n ≡ 0 = grind arith in ap pos same
zero_is (negsuc n) h = cc

zero_test : (x : ℤ) → SFits w64 x → eqb (of_z w64 x) 0 ≡ is_zero x
zero_test x fits = by_test (eqb (of_z w64 x) 0) (is_zero x) refl refl
  where
    by_test : (b c : Bool) → eqb (of_z w64 x) 0 ≡ b → is_zero x ≡ c → b ≡ c
    by_test true true p q = refl
    by_test false false p q = refl
    by_test true false p q = let word : of_z w64 x ≡ 0 = grind arith in let same : x ≡ pos 0 = omega (arith, ints) in sym (ap is_zero same) ∙ q
    by_test false true p q = let same = zero_is x q in let word : eqb (of_z w64 (pos 0)) 0 ≡ false = rw same at p in cc

twice : (b : Bool) → b ≡ not (not b)
twice true = refl
twice false = refl

pub non_zero : (w : View) → Permanent w → (e r : Edge) (f : ℕ → ℤ) (x : ℤ) → SFits w64 x → r ≡ record { index = 0; complement = eqb (of_z w64 x) 0 } → IsLeafOf Add e f x → Denotes Bdd w r (pattern f)
non_zero w p _ r _ _ fits is (number e x) =
    subst (λ y. Denotes Bdd w y (constant (not (is_zero x)))) (ap (λ b. record { index = 0; complement = b }) (sym (zero_test x fits ∙ twice (is_zero x))) ∙ sym is) (Denotes-truth w p (not (is_zero x)))

-- a test for a bound, of numbers that were passed by value
pub reaches_bound : (w : View) → Permanent w → (e r : Edge) (f : ℕ → ℤ) (x y : ℤ) → SFits w64 x → SFits w64 y → r ≡ record { index = 0; complement = not (int_le (to_z w64 (of_z w64 y)) (to_z w64 (of_z w64 x))) }
    → IsLeafOf Add e f x → Denotes Bdd w r (at_least f y)
reaches_bound w p _ r _ _ y fx fy is (number e x) =
    subst (λ a. Denotes Bdd w a (constant (int_le y x))) (ap (λ b. record { index = 0; complement = not b }) (sym (order_passed y x fy fx)) ∙ sym is) (Denotes-truth w p (int_le y x))
