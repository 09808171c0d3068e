-- What makes a function of edges, by what makes it: what it takes, what answers it, and what it may store. All of these stand on views alone.
use Rattle.std.specs.Prelude.{◌≡◌, ◌⊎◌, ◌≤◌, ◌<◌, max, true, false, not, if◌then◌else◌, ◌&&◌, ◌||◌, ◌+◌, ◌*◌, ◌^◌, ℕ, ℤ, pos, ◌+ℤ◌, ◌-ℤ◌, ◌*ℤ◌, int_le, List, All, Option, Some, None, Result, Ok, Err, IfOk, IsErrOf, MatchResult}
use Rattle.edge_bits.specs.Permanent.{first_element}
use Rattle.edge_bits.specs.Words.{IsLeafValue}
use Rattle.edge_bits.specs.declared.edges.Edge.{Edge}
use Rattle.edge_bits.specs.declared.edges.Kind.TheVariants as kinds
use Rattle.function_laws.specs.declared.making.Making.{Making}
use Rattle.function_laws.specs.declared.making.BddMaking.{BddMaking}
use Rattle.function_laws.specs.declared.making.AddMaking.{AddMaking}
use Rattle.function_laws.specs.declared.making.ExactMaking.{ExactMaking}
use Rattle.function_laws.specs.declared.making.ZddMaking.{ZddMaking}
use Rattle.function_laws.specs.declared.making.Making.TheVariants as makings
use Rattle.function_laws.specs.declared.making.BddMaking.TheVariants as bdds
use Rattle.function_laws.specs.declared.making.AddMaking.TheVariants as adds
use Rattle.function_laws.specs.declared.making.ExactMaking.TheVariants as exacts
use Rattle.function_laws.specs.declared.making.ZddMaking.TheVariants as zdds
use Rattle.function_laws.specs.Families.{base, change, diff, empty, meet, product, quotient, single, subset0, subset1, union}
use Rattle.function_laws.specs.IrredundantCovers.{IsIrredundant, cover_value}
use Rattle.function_laws.specs.Kinds.{Denoted}
use Rattle.function_laws.specs.Makings.{kind_made}
use Rattle.function_laws.specs.Numbers.{at_least, from_truth, greater, is_zero, lesser, minus, pattern, plus, sum_over, threshold, times}
use Rattle.function_laws.specs.Values.{conjunction, constant, differs, disjunction, exclusive, exists_all, forall_all, if_then_else, negation, projection, support as support_of}
use Rattle.ite_core.specs.Cofactors.{cofactor_at, value_of_cofactor}
use Rattle.node_store.specs.declared.grow.Stop.{Stop}
use Rattle.node_store.specs.declared.grow.Stop.TheVariants as stops
use Rattle.node_store.specs.declared.operator.Halt.{Halt}
use Rattle.node_store.specs.Memo.{Implies}
use Rattle.node_store.specs.Operations.{Serves}
use Rattle.node_store.specs.Three.{AreThree, ite_at, value_of_three}
use Rattle.node_store.specs.Two.{Overflows, value_of_two}
use Rattle.node_store.specs.Views.{View, AreTwo, Denotes, Grown, Is, IsVariable, Kept, Rose, add_at, bdd_at, family_at, levels}
use Rattle.node_store.specs.Work.{Adds, IsWork}
use Rattle.add_ops.specs.Conversions.{value_of_one}
use Rattle.add_ops.specs.Leaves.{value_of_constant}
use Rattle.add_ops.specs.Sums.{value_of_sum}
use Rattle.cover_isop.specs.Covers.{AreVariables, cover_work}
use Rattle.cover_isop.specs.Isops.{isop_work}
use Rattle.quantify_ops.specs.Composed.{composed_at, value_of_compose}
use Rattle.quantify_ops.specs.Quantified.{both_at}
use Rattle.quantify_ops.specs.Restricted.{Restricted, work_of_restrict}
use Rattle.quantify_ops.specs.Substituted.{AreSubstituted, substituted_at, value_of_vector_compose}
use Rattle.quantify_ops.specs.Works.{value_of_support, work_of_and_exists, work_of_exists, work_of_forall}
use Rattle.zdd_ops.specs.Elements.{IsElement, value_of_single}
use Rattle.zdd_ops.specs.Products.{product_work}
use Rattle.zdd_ops.specs.Quotients.{quotient_work}
use Rattle.zdd_ops.specs.Subsets.{subset_work}
use Rattle.operator_calls.specs.declared.unmade.Unmade.{Unmade}
use Rattle.operator_calls.specs.declared.unmade.Unmade.TheVariants.{Overflow, Apart}

-- both literals of each variable are elements
abbrev pub HasLiterals : View → Type 0
HasLiterals v = AreVariables v v.vars × (2 * v.vars ≤ v.elements)

-- what makes a BDD

abbrev pub bdd_takes : BddMaking Edge (List ℕ) (List (ℕ × Edge)) → View → Type 0
bdd_takes bdds.One v = Unit {0}
bdd_takes bdds.Zero v = Unit {0}
bdd_takes (bdds.Var x) v = IsVariable kinds.Bdd v x
bdd_takes (bdds.Not a) v = Is kinds.Bdd v a
bdd_takes (bdds.And a b) v = AreTwo kinds.Bdd v a b
bdd_takes (bdds.Or a b) v = AreTwo kinds.Bdd v a b
bdd_takes (bdds.Xor a b) v = AreTwo kinds.Bdd v a b
bdd_takes (bdds.Ite a b c) v = AreThree kinds.Bdd v a b c
bdd_takes (bdds.Cofactor a x bit) v = Is kinds.Bdd v a × IsVariable kinds.Bdd v x
bdd_takes (bdds.Exists a vs) v = Is kinds.Bdd v a × All (IsVariable kinds.Bdd v) vs
bdd_takes (bdds.Forall a vs) v = Is kinds.Bdd v a × All (IsVariable kinds.Bdd v) vs
bdd_takes (bdds.AndExists a b vs) v = AreTwo kinds.Bdd v a b × All (IsVariable kinds.Bdd v) vs
bdd_takes (bdds.Compose a x b) v = AreTwo kinds.Bdd v a b × IsVariable kinds.Bdd v x
bdd_takes (bdds.VectorCompose a ps) v = AreSubstituted v a ps
bdd_takes (bdds.Restrict a b) v = AreTwo kinds.Bdd v a b
bdd_takes (bdds.Support a) v = Is kinds.Bdd v a
bdd_takes (bdds.AtLeast a z) v = Is kinds.Add v a
bdd_takes (bdds.Pattern a) v = Is kinds.Add v a
bdd_takes (bdds.CoverOf a) v = Is kinds.Zdd v a × HasLiterals v

-- from the view before the call to the one after it, which edge answers it
abbrev pub bdd_answer : BddMaking Edge (List ℕ) (List (ℕ × Edge)) → View → View → Edge → Type 0
bdd_answer bdds.One v w e = Denotes kinds.Bdd w e (constant true)
bdd_answer bdds.Zero v w e = Denotes kinds.Bdd w e (constant false)
bdd_answer (bdds.Var x) v w e = Denotes kinds.Bdd w e (projection x)
bdd_answer (bdds.Not a) v w e = Denotes kinds.Bdd w e (negation (bdd_at v a))
bdd_answer (bdds.And a b) v w e = Denotes kinds.Bdd w e (conjunction (bdd_at v a) (bdd_at v b))
bdd_answer (bdds.Or a b) v w e = Denotes kinds.Bdd w e (disjunction (bdd_at v a) (bdd_at v b))
bdd_answer (bdds.Xor a b) v w e = Denotes kinds.Bdd w e (exclusive (bdd_at v a) (bdd_at v b))
bdd_answer (bdds.Ite a b c) v w e = Denotes kinds.Bdd w e (ite_at kinds.Bdd v a b c)
bdd_answer (bdds.Cofactor a x bit) v w e = Denotes kinds.Bdd w e (cofactor_at v a x bit)
bdd_answer (bdds.Exists a vs) v w e = Denotes kinds.Bdd w e (exists_all (bdd_at v a) vs)
bdd_answer (bdds.Forall a vs) v w e = Denotes kinds.Bdd w e (forall_all (bdd_at v a) vs)
bdd_answer (bdds.AndExists a b vs) v w e = Denotes kinds.Bdd w e (exists_all (both_at v a b) vs)
bdd_answer (bdds.Compose a x b) v w e = Denotes kinds.Bdd w e (composed_at v a x b)
bdd_answer (bdds.VectorCompose a ps) v w e = Denotes kinds.Bdd w e (substituted_at v a ps)
bdd_answer (bdds.Restrict a b) v w e = Restricted v w a b e
bdd_answer (bdds.Support a) v w e = Denotes kinds.Bdd w e (support_of v.vars (bdd_at v a))
bdd_answer (bdds.AtLeast a z) v w e = Denotes kinds.Bdd w e (at_least (add_at v a) z)
bdd_answer (bdds.Pattern a) v w e = Denotes kinds.Bdd w e (pattern (add_at v a))
bdd_answer (bdds.CoverOf a) v w e = Denotes kinds.Bdd w e (cover_value v.vars v.elements (family_at v a))

-- the functions whose parts it may store
abbrev pub bdd_work : BddMaking Edge (List ℕ) (List (ℕ × Edge)) → View → Denoted → Type 0
bdd_work bdds.One v = λ f. ⊥
bdd_work bdds.Zero v = λ f. ⊥
bdd_work (bdds.Var x) v = λ f. ⊥
bdd_work (bdds.Not a) v = λ f. ⊥
bdd_work (bdds.And a b) v = value_of_two kinds.Bdd (λ a b. a && b) a b v
bdd_work (bdds.Or a b) v = value_of_two kinds.Bdd (λ a b. a || b) a b v
bdd_work (bdds.Xor a b) v = value_of_two kinds.Bdd differs a b v
bdd_work (bdds.Ite a b c) v = value_of_three kinds.Bdd a b c v
bdd_work (bdds.Cofactor a x bit) v = value_of_cofactor a x bit v
bdd_work (bdds.Exists a vs) v = work_of_exists a vs v
bdd_work (bdds.Forall a vs) v = work_of_forall a vs v
bdd_work (bdds.AndExists a b vs) v = work_of_and_exists a b vs v
bdd_work (bdds.Compose a x b) v = value_of_compose a x b v
bdd_work (bdds.VectorCompose a ps) v = value_of_vector_compose a ps v
bdd_work (bdds.Restrict a b) v = work_of_restrict a b v
bdd_work (bdds.Support a) v = value_of_support a v
bdd_work (bdds.AtLeast a z) v = value_of_one kinds.Add kinds.Bdd (λ y. int_le z y) a v
bdd_work (bdds.Pattern a) v = value_of_one kinds.Add kinds.Bdd (λ z. not (is_zero z)) a v
bdd_work (bdds.CoverOf a) v = cover_work v.vars a v

-- what makes an ADD of values in range

abbrev pub add_takes : AddMaking Edge → View → Type 0
add_takes (adds.Constant z) v = IsLeafValue z
add_takes (adds.FromBdd a) v = Is kinds.Bdd v a
add_takes (adds.Min a b) v = AreTwo kinds.Add v a b
add_takes (adds.Max a b) v = AreTwo kinds.Add v a b
add_takes (adds.Threshold a b) v = AreTwo kinds.Add v a b
add_takes (adds.AddIte a b c) v = AreThree kinds.Add v a b c

abbrev pub add_answer : AddMaking Edge → View → View → Edge → Type 0
add_answer (adds.Constant z) v w e = Denotes kinds.Add w e (constant z)
add_answer (adds.FromBdd a) v w e = Denotes kinds.Add w e (from_truth (bdd_at v a))
add_answer (adds.Min a b) v w e = Denotes kinds.Add w e (lesser (add_at v a) (add_at v b))
add_answer (adds.Max a b) v w e = Denotes kinds.Add w e (greater (add_at v a) (add_at v b))
add_answer (adds.Threshold a b) v w e = Denotes kinds.Add w e (threshold (add_at v a) (add_at v b))
add_answer (adds.AddIte a b c) v w e = Denotes kinds.Add w e (if_then_else (bdd_at v a) (add_at v b) (add_at v c))

abbrev pub add_work : AddMaking Edge → View → Denoted → Type 0
add_work (adds.Constant z) v = value_of_constant z
add_work (adds.FromBdd a) v = value_of_one kinds.Bdd kinds.Add (λ b. if b then pos 1 else pos 0) a v
add_work (adds.Min a b) v = value_of_two kinds.Add (λ a b. if int_le a b then a else b) a b v
add_work (adds.Max a b) v = value_of_two kinds.Add (λ a b. if int_le b a then a else b) a b v
add_work (adds.Threshold a b) v = value_of_two kinds.Add (λ a b. if int_le b a then a else pos 0) a b v
add_work (adds.AddIte a b c) v = value_of_three kinds.Add a b c v

-- what makes an ADD whose values may be out of range

abbrev pub exact_takes : ExactMaking Edge → View → Type 0
exact_takes (exacts.Plus a b) v = AreTwo kinds.Add v a b
exact_takes (exacts.Minus a b) v = AreTwo kinds.Add v a b
exact_takes (exacts.Times a b) v = AreTwo kinds.Add v a b
exact_takes (exacts.SumOver a x) v = Is kinds.Add v a × IsVariable kinds.Add v x

-- the function that answers it where each of its values is in range
abbrev pub exact_value : ExactMaking Edge → View → ℕ → ℤ
exact_value (exacts.Plus a b) v = plus (add_at v a) (add_at v b)
exact_value (exacts.Minus a b) v = minus (add_at v a) (add_at v b)
exact_value (exacts.Times a b) v = times (add_at v a) (add_at v b)
exact_value (exacts.SumOver a x) v = sum_over (add_at v a) x

abbrev pub exact_work : ExactMaking Edge → View → Denoted → Type 0
exact_work (exacts.Plus a b) v = value_of_two kinds.Add (λ a b. a +ℤ b) a b v
exact_work (exacts.Minus a b) v = value_of_two kinds.Add (λ a b. a -ℤ b) a b v
exact_work (exacts.Times a b) v = value_of_two kinds.Add (λ a b. a *ℤ b) a b v
exact_work (exacts.SumOver a x) v = value_of_sum a x v

-- what makes a ZDD

abbrev pub zdd_takes : ZddMaking Edge → View → Type 0
zdd_takes zdds.Empty v = Unit {0}
zdd_takes zdds.Base v = Unit {0}
zdd_takes (zdds.Single x) v = IsElement v x
zdd_takes (zdds.Union a b) v = AreTwo kinds.Zdd v a b
zdd_takes (zdds.Meet a b) v = AreTwo kinds.Zdd v a b
zdd_takes (zdds.Diff a b) v = AreTwo kinds.Zdd v a b
zdd_takes (zdds.Subset1 a x) v = Is kinds.Zdd v a × IsElement v x
zdd_takes (zdds.Subset0 a x) v = Is kinds.Zdd v a × IsElement v x
zdd_takes (zdds.Change a x) v = Is kinds.Zdd v a × IsElement v x
zdd_takes (zdds.Product a b) v = AreTwo kinds.Zdd v a b
zdd_takes (zdds.Quotient a b) v = AreTwo kinds.Zdd v a b
zdd_takes (zdds.Isop a b) v = AreTwo kinds.Bdd v a b × HasLiterals v

-- the edge is that of an irredundant cover between two bounds
pub record Covers (v w : View) (lower upper e : Edge) : Type 0 where
  pub is : Is kinds.Zdd w e
  pub irredundant : IsIrredundant v.vars v.elements (bdd_at v lower) (bdd_at v upper) (family_at w e)

abbrev pub zdd_answer : ZddMaking Edge → View → View → Edge → Type 0
zdd_answer zdds.Empty v w e = Denotes kinds.Zdd w e empty
zdd_answer zdds.Base v w e = Denotes kinds.Zdd w e base
zdd_answer (zdds.Single x) v w e = Denotes kinds.Zdd w e (single x)
zdd_answer (zdds.Union a b) v w e = Denotes kinds.Zdd w e (union (family_at v a) (family_at v b))
zdd_answer (zdds.Meet a b) v w e = Denotes kinds.Zdd w e (meet (family_at v a) (family_at v b))
zdd_answer (zdds.Diff a b) v w e = Denotes kinds.Zdd w e (diff (family_at v a) (family_at v b))
zdd_answer (zdds.Subset1 a x) v w e = Denotes kinds.Zdd w e (subset1 (family_at v a) x)
zdd_answer (zdds.Subset0 a x) v w e = Denotes kinds.Zdd w e (subset0 (family_at v a) x)
zdd_answer (zdds.Change a x) v w e = Denotes kinds.Zdd w e (change (family_at v a) x)
zdd_answer (zdds.Product a b) v w e = Denotes kinds.Zdd w e (product (2 ^ v.elements) (family_at v a) (family_at v b))
zdd_answer (zdds.Quotient a b) v w e = Denotes kinds.Zdd w e (quotient (2 ^ v.elements) (family_at v a) (family_at v b))
zdd_answer (zdds.Isop a b) v w e = Covers v w a b e

abbrev pub zdd_work : ZddMaking Edge → View → Denoted → Type 0
zdd_work zdds.Empty v = λ f. ⊥
zdd_work zdds.Base v = λ f. ⊥
zdd_work (zdds.Single x) v = value_of_single x
zdd_work (zdds.Union a b) v = value_of_two kinds.Zdd (λ a b. a || b) a b v
zdd_work (zdds.Meet a b) v = value_of_two kinds.Zdd (λ a b. a && b) a b v
zdd_work (zdds.Diff a b) v = value_of_two kinds.Zdd (λ a b. a && not b) a b v
zdd_work (zdds.Subset1 a x) v = subset_work subset1 (first_element + x) a v
zdd_work (zdds.Subset0 a x) v = subset_work subset0 (first_element + x) a v
zdd_work (zdds.Change a x) v = subset_work change (first_element + x) a v
zdd_work (zdds.Product a b) v = product_work a b v
zdd_work (zdds.Quotient a b) v = quotient_work a b v
-- none where the bounds are apart
zdd_work (zdds.Isop a b) v = λ f. Implies (bdd_at v a) (bdd_at v b) × isop_work a b v f

-- all kinds together

abbrev pub takes : Making Edge (List ℕ) (List (ℕ × Edge)) → View → Type 0
takes (makings.Bdd making) v = bdd_takes making v
takes (makings.Add making) v = add_takes making v
takes (makings.Exact making) v = exact_takes making v
takes (makings.Zdd making) v = zdd_takes making v

abbrev pub answer : Making Edge (List ℕ) (List (ℕ × Edge)) → View → View → Edge → Type 0
answer (makings.Bdd making) v w e = bdd_answer making v w e
answer (makings.Add making) v w e = add_answer making v w e
answer (makings.Exact making) v w e = Denotes kinds.Add w e (exact_value making v)
answer (makings.Zdd making) v w e = zdd_answer making v w e

-- it is told as out of range, since a value of the function is
abbrev pub exceeds : Making Edge (List ℕ) (List (ℕ × Edge)) → View → Type 0
exceeds (makings.Exact making) v = Overflows kinds.Add (exact_value making v)
exceeds _ v = ⊥

-- the first of two bounds is not below the second
abbrev pub is_apart : Making Edge (List ℕ) (List (ℕ × Edge)) → View → Type 0
is_apart (makings.Zdd (zdds.Isop a b)) v = Implies (bdd_at v a) (bdd_at v b) → ⊥
is_apart _ v = ⊥

abbrev pub work : Making Edge (List ℕ) (List (ℕ × Edge)) → View → Denoted → Type 0
work (makings.Bdd making) v = bdd_work making v
work (makings.Add making) v = add_work making v
work (makings.Exact making) v = exact_work making v
work (makings.Zdd making) v = zdd_work making v

-- why it made nothing
abbrev pub unmade : Making Edge (List ℕ) (List (ℕ × Edge)) → View → Unmade → Type 0
unmade making v Overflow = exceeds making v
unmade making v Apart = is_apart making v

-- what is told: an edge that answers it, or why there is none
abbrev pub told_by : Making Edge (List ℕ) (List (ℕ × Edge)) → View → View → Result Edge Unmade → Type 0
told_by making v w told = MatchResult told (answer making v w) (unmade making v)

-- as what it may be told in place of a function
abbrev pub unmade_as : {R V P : Type 0} → Making R V P → Option Unmade
unmade_as (makings.Exact making) = Some Overflow
unmade_as (makings.Zdd (zdds.Isop a b)) = Some Apart
unmade_as _ = None

-- how many levels the scratch has to have room for: those of both orders, where a run goes along both
abbrev pub levels_wanted : {R V P : Type 0} → Making R V P → View → ℕ
levels_wanted (makings.Bdd (bdds.CoverOf a)) v = max v.vars v.elements
levels_wanted (makings.Zdd (zdds.Isop a b)) v = max v.vars v.elements
levels_wanted making v = levels (kind_made making) v

-- an operator's run, in the scratch that the store lends
abbrev pub ServesMaking : Making Edge (List ℕ) (List (ℕ × Edge)) → View → View → Result Edge Halt → Type 0
ServesMaking making v w outcome = Serves (answer making v w) (exceeds making v) (work making v) (v.room < levels_wanted making v) (v.room ≤ w.room) v w outcome

-- What it promises of the store before it, the store after it and what it made: the store only grew, and stayed as it is where bounds
-- were told as apart; what is told is right; what was stored are parts of the work, up to complement, and so is what was due where no
-- slot was free; want of memory comes where the scratch is too short, or where the store may want memory.
pub record RunsMaking (making : Making Edge (List ℕ) (List (ℕ × Edge))) (old new : View) (made : Result (Result Edge Unmade) Stop) : Type 0 where
  pub grown : Grown old new
  pub room : old.room ≤ new.room
  pub told : IfOk made (told_by making old new)
  pub still : made ≡ Ok (Err Apart) → Kept old new
  pub stored : Adds (work making old) old new
  pub memory : IsErrOf made stops.Memory → (old.room < levels_wanted making old) ⊎ (old.may_want_memory ≡ true)
  pub full : IsErrOf made stops.Full → Rose old new
  pub due : IsErrOf made stops.Full → IsWork new (work making old) new.due
