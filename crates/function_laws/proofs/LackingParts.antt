-- What lacks a variable, by the kinds.
use Rattle.std.proofs.Common.{◌≡◌, ◌≢◌, ℕ, ◌⊎◌, inl, inr, Bool, true, false, not, ◌&&◌, List, refl, sym, ap, ◌∙◌, subst}
use Rattle.std.proofs.lemmas.Bool.{cases_eq}
use Rattle.edge_bits.specs.Assignments.{bit, set_bit}
use Rattle.edge_bits.specs.Reading.{element_of}
use Rattle.edge_bits.specs.declared.edges.Kind.{Kind}
use Rattle.edge_bits.specs.declared.edges.Kind.TheVariants.{Bdd, Add, Zdd}
use Rattle.edge_bits.proofs.AssignmentLemmas.{bit-set_same, bit-set_other}
use Rattle.function_laws.specs.Values.{negation, IsFree}
use Rattle.function_laws.specs.Families.{empty, subset1, subset0, IsWithout}
use Rattle.function_laws.proofs.ValueLemmas.{everywhere, cofactor-free, IsFree-cofactor, IsFree-cofactor_other}
use Rattle.function_laws.specs.Kinds.{Denoted, BddFunction, AddFunction, ZddFamily, ValueOf, function_of, Lacks, part_at, opposite}
use Rattle.function_laws.specs.Sizes.{Orders, order_of, part_of, parts}
use Rattle.function_laws.proofs.DistinctLemmas.{In}
use Rattle.function_laws.proofs.PartLaws.{each_part, Above, part_in}

abbrev pub Free : Denoted → ℕ → Type 0
Free (BddFunction f) v = IsFree f v
Free (AddFunction f) v = IsFree f v
Free (ZddFamily p) e = IsWithout p e

-- a kind's variable number as its order has it
abbrev pub own : Kind → ℕ → ℕ
own Bdd v = v
own Add v = v
own Zdd v = element_of v

pub Free-Lacks : (k : Kind) (f : ℕ → ValueOf k) (v : ℕ) → Lacks k f v → Free (function_of k f) (own k v)
Free-Lacks Bdd f v h = h
Free-Lacks Add f v h = h
Free-Lacks Zdd f v h = h

pub Lacks-Free : (k : Kind) (f : ℕ → ValueOf k) (v : ℕ) → Free (function_of k f) (own k v) → Lacks k f v
Lacks-Free Bdd f v h = h
Lacks-Free Add f v h = h
Lacks-Free Zdd f v h = h

pub part-function : (k : Kind) (f : ℕ → ValueOf k) (v : ℕ) (b : Bool) → part_of (function_of k f) (own k v) b ≡ function_of k (part_at k f v b)
part-function Bdd f v b = refl
part-function Add f v b = refl
part-function Zdd f v true = refl
part-function Zdd f v false = refl

pub part-opposite : (f : Denoted) (v : ℕ) (b : Bool) → part_of (opposite f) v b ≡ opposite (part_of f v b)
part-opposite (BddFunction f) v b = refl
part-opposite (AddFunction f) v b = refl
part-opposite (ZddFamily f) v true = refl
part-opposite (ZddFamily f) v false = refl

not_not : (b : Bool) → not (not b) ≡ b
not_not true = refl
not_not false = refl

pub opposite-opposite : (f : Denoted) → opposite (opposite f) ≡ f
opposite-opposite (BddFunction f) = ap BddFunction (everywhere (negation (negation f)) f (λ k. not_not (f k)))
opposite-opposite (AddFunction f) = refl
opposite-opposite (ZddFamily f) = refl

pub Free-opposite : (f : Denoted) (v : ℕ) → Free f v → Free (opposite f) v
Free-opposite (BddFunction f) v h = λ k b. ap not (h k b)
Free-opposite (AddFunction f) v h = h
Free-opposite (ZddFamily f) v h = h

subset0-without : (p : ℕ → Bool) (e : ℕ) → IsWithout p e → subset0 p e ≡ p
subset0-without p e h = everywhere (subset0 p e) p (λ a. at (bit a e) (p a) (h a))
  where
    at : (x y : Bool) → (x ≡ true → y ≡ false) → (not x && y) ≡ y
    at true y h = sym (h refl)
    at false y h = refl

-- by a variable that it lacks, a function's else part is the function, and so is its then part, but of a family
pub part_of_free : (f : Denoted) (v : ℕ) → Free f v → part_of f v false ≡ f
part_of_free (BddFunction f) v h = ap BddFunction (cofactor-free f v false h)
part_of_free (AddFunction f) v h = ap AddFunction (cofactor-free f v false h)
part_of_free (ZddFamily p) v h = ap ZddFamily (subset0-without p v h)

and_false : (a b : Bool) → b ≡ false → (a && b) ≡ false
and_false true b h = h
and_false false b h = refl

subset1-without : (p : ℕ → Bool) (e : ℕ) → IsWithout p e → subset1 p e ≡ empty
subset1-without p e h = everywhere (subset1 p e) empty (λ a. and_false (not (bit a e)) (p (set_bit a e true)) (h (set_bit a e true) (bit-set_same a e true)))

pub then_part_free : (f : Denoted) (v : ℕ) → Free f v → (part_of f v true ≡ f) ⊎ (part_of f v true ≡ ZddFamily empty)
then_part_free (BddFunction f) v h = inl (ap BddFunction (cofactor-free f v true h))
then_part_free (AddFunction f) v h = inl (ap AddFunction (cofactor-free f v true h))
then_part_free (ZddFamily p) v h = inr (ap ZddFamily (subset1-without p v h))

has_not : (b c : Bool) → b ≡ true → (not b && c) ≡ false
has_not true c h = refl
has_not false c h = cc

pub Free-part : (f : Denoted) (v : ℕ) (b : Bool) → Free (part_of f v b) v
Free-part (BddFunction f) v b = IsFree-cofactor f v b
Free-part (AddFunction f) v b = IsFree-cofactor f v b
Free-part (ZddFamily p) v true = λ a has. has_not (bit a v) (p (set_bit a v true)) has
Free-part (ZddFamily p) v false = λ a has. has_not (bit a v) (p a) has

Free-part_other : (f : Denoted) (u v : ℕ) (b : Bool) → u ≢ v → Free f u → Free (part_of f v b) u
Free-part_other (BddFunction f) u v b ne h = IsFree-cofactor_other f u v b ne h
Free-part_other (AddFunction f) u v b ne h = IsFree-cofactor_other f u v b ne h
Free-part_other (ZddFamily p) u v true ne h = λ a has. and_false (not (bit a v)) (p (set_bit a v true)) (h (set_bit a v true) (bit-set_other a v u true ne ∙ has))
Free-part_other (ZddFamily p) u v false ne h = λ a has. and_false (not (bit a v)) (p a) (h a has)

pub Free-more : (f : Denoted) (u v : ℕ) (b : Bool) → Free f u → Free (part_of f v b) u
Free-more f u v b h = elim (cases_eq u v) [
  | inl e ↦ subst (λ x. Free (part_of f v b) x) (sym e) (Free-part f v b)
  | inr ne ↦ Free-part_other f u v b ne h
]

-- parts are of the kind of the function
pub order_of-part : (o : Orders) (f : Denoted) (v : ℕ) (b : Bool) → order_of o (part_of f v b) ≡ order_of o f
order_of-part o (BddFunction f) v b = refl
order_of-part o (AddFunction f) v b = refl
order_of-part o (ZddFamily f) v true = refl
order_of-part o (ZddFamily f) v false = refl

pub order_of-parts : (o : Orders) (order : List ℕ) (f g : Denoted) → In g (parts order f) → order_of o g ≡ order_of o f
order_of-parts o order f g i = each_part (λ h. order_of o h ≡ order_of o f) order f (λ h v b j e. order_of-part o h v b ∙ e) refl g i

-- the parts by a variable, of a part that depends on it and lacks those above it
pub part_there : (order : List ℕ) (f g : Denoted) (v : ℕ) (b : Bool) → In v order → In g (parts order f) → (Free g v → ⊥)
    → Above Free order v g → In (part_of g v b) (parts order f)
part_there order f g v b = part_in Free part_of_free Free-part Free-more order f g v b
