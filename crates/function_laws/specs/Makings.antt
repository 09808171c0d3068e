-- What makes a function: what it takes, of what kind it is, and what comes of it.
use Rattle.std.specs.Prelude.{◌==◌, ℕ, ◌*◌, ◌^◌, ℤ, Bool, true, false, not, ◌&&◌, if◌then◌else◌, nat_le, nat_lt, List, [], ◌∷◌, map, Option, Some, option_map, option_and_then}
use Rattle.std.specs.List.{list_all, list_any}
use Rattle.edge_bits.specs.declared.edges.Kind.{Kind}
use Rattle.edge_bits.specs.declared.edges.Kind.TheVariants as kinds
use Rattle.function_laws.specs.declared.history.Name.{Name}
use Rattle.function_laws.specs.declared.history.Function.{Function}
use Rattle.function_laws.specs.declared.history.Function.TheVariants.{Bdd, Add, Zdd}
use Rattle.function_laws.specs.declared.making.Making.{Making}
use Rattle.function_laws.specs.declared.making.Making.TheVariants as makings
use Rattle.function_laws.specs.declared.making.BddMaking.TheVariants as bdds
use Rattle.function_laws.specs.declared.making.AddMaking.TheVariants as adds
use Rattle.function_laws.specs.declared.making.ExactMaking.TheVariants as exacts
use Rattle.function_laws.specs.declared.making.ZddMaking.TheVariants as zdds
use Rattle.function_laws.specs.Lists.{list_of, truth}
use Rattle.function_laws.specs.Values as values
use Rattle.function_laws.specs.Numbers as numbers
use Rattle.function_laws.specs.Families as families
use Rattle.function_laws.specs.Functions as lists
use Rattle.function_laws.specs.IrredundantCovers.{cover_value}
use Rattle.function_laws.specs.Outcomes.{Outcome, makes, restricts, covers, is_apart, as_add, as_bdd, as_zdd, in_range, when, with_one, with_two, with_three}
use Rattle.function_laws.specs.Tables.{Sizes}

-- What an operation takes: a function of a kind, by what stands for it; a variable, an element, a value that a leaf may have, any
-- number, or a truth value; some variables; pairs of a variable and a function, a BDD, that is put for it; or elements enough for the
-- two literals of each variable that there may be.
pub data Taken (R : Type 0) : Type 0 where
  function : Kind → R → Taken R
  variable : ℕ → Taken R
  element : ℕ → Taken R
  value : ℤ → Taken R
  number : ℤ → Taken R
  bit : Bool → Taken R
  variables : List ℕ → Taken R
  pairs : List (ℕ × R) → Taken R
  literals : Taken R

-- what it takes, in order
abbrev pub taken : {R : Type 0} → Making R (List ℕ) (List (ℕ × R)) → List (Taken R)
taken (makings.Bdd bdds.One) = []
taken (makings.Bdd bdds.Zero) = []
taken (makings.Bdd (bdds.Var v)) = variable v ∷ []
taken (makings.Bdd (bdds.Not a)) = function kinds.Bdd a ∷ []
taken (makings.Bdd (bdds.And a b)) = function kinds.Bdd a ∷ function kinds.Bdd b ∷ []
taken (makings.Bdd (bdds.Or a b)) = function kinds.Bdd a ∷ function kinds.Bdd b ∷ []
taken (makings.Bdd (bdds.Xor a b)) = function kinds.Bdd a ∷ function kinds.Bdd b ∷ []
taken (makings.Bdd (bdds.Ite a b c)) = function kinds.Bdd a ∷ function kinds.Bdd b ∷ function kinds.Bdd c ∷ []
taken (makings.Bdd (bdds.Cofactor a v b)) = function kinds.Bdd a ∷ variable v ∷ bit b ∷ []
taken (makings.Bdd (bdds.Exists a vs)) = function kinds.Bdd a ∷ variables vs ∷ []
taken (makings.Bdd (bdds.Forall a vs)) = function kinds.Bdd a ∷ variables vs ∷ []
taken (makings.Bdd (bdds.AndExists a b vs)) = function kinds.Bdd a ∷ function kinds.Bdd b ∷ variables vs ∷ []
taken (makings.Bdd (bdds.Compose a v b)) = function kinds.Bdd a ∷ variable v ∷ function kinds.Bdd b ∷ []
taken (makings.Bdd (bdds.VectorCompose a ps)) = function kinds.Bdd a ∷ pairs ps ∷ []
taken (makings.Bdd (bdds.Restrict a b)) = function kinds.Bdd a ∷ function kinds.Bdd b ∷ []
taken (makings.Bdd (bdds.Support a)) = function kinds.Bdd a ∷ []
taken (makings.Bdd (bdds.AtLeast a w)) = function kinds.Add a ∷ number w ∷ []
taken (makings.Bdd (bdds.Pattern a)) = function kinds.Add a ∷ []
taken (makings.Bdd (bdds.CoverOf a)) = literals ∷ function kinds.Zdd a ∷ []
taken (makings.Add (adds.Constant w)) = value w ∷ []
taken (makings.Add (adds.FromBdd a)) = function kinds.Bdd a ∷ []
taken (makings.Add (adds.Min a b)) = function kinds.Add a ∷ function kinds.Add b ∷ []
taken (makings.Add (adds.Max a b)) = function kinds.Add a ∷ function kinds.Add b ∷ []
taken (makings.Add (adds.Threshold a b)) = function kinds.Add a ∷ function kinds.Add b ∷ []
taken (makings.Add (adds.AddIte a b c)) = function kinds.Bdd a ∷ function kinds.Add b ∷ function kinds.Add c ∷ []
taken (makings.Exact (exacts.Plus a b)) = function kinds.Add a ∷ function kinds.Add b ∷ []
taken (makings.Exact (exacts.Minus a b)) = function kinds.Add a ∷ function kinds.Add b ∷ []
taken (makings.Exact (exacts.Times a b)) = function kinds.Add a ∷ function kinds.Add b ∷ []
taken (makings.Exact (exacts.SumOver a v)) = function kinds.Add a ∷ variable v ∷ []
taken (makings.Zdd zdds.Empty) = []
taken (makings.Zdd zdds.Base) = []
taken (makings.Zdd (zdds.Single e)) = element e ∷ []
taken (makings.Zdd (zdds.Union a b)) = function kinds.Zdd a ∷ function kinds.Zdd b ∷ []
taken (makings.Zdd (zdds.Meet a b)) = function kinds.Zdd a ∷ function kinds.Zdd b ∷ []
taken (makings.Zdd (zdds.Diff a b)) = function kinds.Zdd a ∷ function kinds.Zdd b ∷ []
taken (makings.Zdd (zdds.Subset1 a e)) = function kinds.Zdd a ∷ element e ∷ []
taken (makings.Zdd (zdds.Subset0 a e)) = function kinds.Zdd a ∷ element e ∷ []
taken (makings.Zdd (zdds.Change a e)) = function kinds.Zdd a ∷ element e ∷ []
taken (makings.Zdd (zdds.Product a b)) = function kinds.Zdd a ∷ function kinds.Zdd b ∷ []
taken (makings.Zdd (zdds.Quotient a b)) = function kinds.Zdd a ∷ function kinds.Zdd b ∷ []
taken (makings.Zdd (zdds.Isop a b)) = literals ∷ function kinds.Bdd a ∷ function kinds.Bdd b ∷ []

-- the kind of what it makes
abbrev pub kind_made : {R V P : Type 0} → Making R V P → Kind
kind_made (makings.Bdd making) = kinds.Bdd
kind_made (makings.Add making) = kinds.Add
kind_made (makings.Exact making) = kinds.Add
kind_made (makings.Zdd making) = kinds.Zdd

-- the same of what f, g and h give for each that stands for a function, for some variables and for pairs
abbrev pub mapped : {R S V W P Q : Type 0} → (R → S) → (V → W) → (P → Q) → Making R V P → Making S W Q
mapped f g h (makings.Bdd bdds.One) = makings.Bdd bdds.One
mapped f g h (makings.Bdd bdds.Zero) = makings.Bdd bdds.Zero
mapped f g h (makings.Bdd (bdds.Var v)) = makings.Bdd (bdds.Var v)
mapped f g h (makings.Bdd (bdds.Not a)) = makings.Bdd (bdds.Not (f a))
mapped f g h (makings.Bdd (bdds.And a b)) = makings.Bdd (bdds.And (f a) (f b))
mapped f g h (makings.Bdd (bdds.Or a b)) = makings.Bdd (bdds.Or (f a) (f b))
mapped f g h (makings.Bdd (bdds.Xor a b)) = makings.Bdd (bdds.Xor (f a) (f b))
mapped f g h (makings.Bdd (bdds.Ite a b c)) = makings.Bdd (bdds.Ite (f a) (f b) (f c))
mapped f g h (makings.Bdd (bdds.Cofactor a v b)) = makings.Bdd (bdds.Cofactor (f a) v b)
mapped f g h (makings.Bdd (bdds.Exists a vs)) = makings.Bdd (bdds.Exists (f a) (g vs))
mapped f g h (makings.Bdd (bdds.Forall a vs)) = makings.Bdd (bdds.Forall (f a) (g vs))
mapped f g h (makings.Bdd (bdds.AndExists a b vs)) = makings.Bdd (bdds.AndExists (f a) (f b) (g vs))
mapped f g h (makings.Bdd (bdds.Compose a v b)) = makings.Bdd (bdds.Compose (f a) v (f b))
mapped f g h (makings.Bdd (bdds.VectorCompose a ps)) = makings.Bdd (bdds.VectorCompose (f a) (h ps))
mapped f g h (makings.Bdd (bdds.Restrict a b)) = makings.Bdd (bdds.Restrict (f a) (f b))
mapped f g h (makings.Bdd (bdds.Support a)) = makings.Bdd (bdds.Support (f a))
mapped f g h (makings.Bdd (bdds.AtLeast a w)) = makings.Bdd (bdds.AtLeast (f a) w)
mapped f g h (makings.Bdd (bdds.Pattern a)) = makings.Bdd (bdds.Pattern (f a))
mapped f g h (makings.Bdd (bdds.CoverOf a)) = makings.Bdd (bdds.CoverOf (f a))
mapped f g h (makings.Add (adds.Constant w)) = makings.Add (adds.Constant w)
mapped f g h (makings.Add (adds.FromBdd a)) = makings.Add (adds.FromBdd (f a))
mapped f g h (makings.Add (adds.Min a b)) = makings.Add (adds.Min (f a) (f b))
mapped f g h (makings.Add (adds.Max a b)) = makings.Add (adds.Max (f a) (f b))
mapped f g h (makings.Add (adds.Threshold a b)) = makings.Add (adds.Threshold (f a) (f b))
mapped f g h (makings.Add (adds.AddIte a b c)) = makings.Add (adds.AddIte (f a) (f b) (f c))
mapped f g h (makings.Exact (exacts.Plus a b)) = makings.Exact (exacts.Plus (f a) (f b))
mapped f g h (makings.Exact (exacts.Minus a b)) = makings.Exact (exacts.Minus (f a) (f b))
mapped f g h (makings.Exact (exacts.Times a b)) = makings.Exact (exacts.Times (f a) (f b))
mapped f g h (makings.Exact (exacts.SumOver a v)) = makings.Exact (exacts.SumOver (f a) v)
mapped f g h (makings.Zdd zdds.Empty) = makings.Zdd zdds.Empty
mapped f g h (makings.Zdd zdds.Base) = makings.Zdd zdds.Base
mapped f g h (makings.Zdd (zdds.Single e)) = makings.Zdd (zdds.Single e)
mapped f g h (makings.Zdd (zdds.Union a b)) = makings.Zdd (zdds.Union (f a) (f b))
mapped f g h (makings.Zdd (zdds.Meet a b)) = makings.Zdd (zdds.Meet (f a) (f b))
mapped f g h (makings.Zdd (zdds.Diff a b)) = makings.Zdd (zdds.Diff (f a) (f b))
mapped f g h (makings.Zdd (zdds.Subset1 a e)) = makings.Zdd (zdds.Subset1 (f a) e)
mapped f g h (makings.Zdd (zdds.Subset0 a e)) = makings.Zdd (zdds.Subset0 (f a) e)
mapped f g h (makings.Zdd (zdds.Change a e)) = makings.Zdd (zdds.Change (f a) e)
mapped f g h (makings.Zdd (zdds.Product a b)) = makings.Zdd (zdds.Product (f a) (f b))
mapped f g h (makings.Zdd (zdds.Quotient a b)) = makings.Zdd (zdds.Quotient (f a) (f b))
mapped f g h (makings.Zdd (zdds.Isop a b)) = makings.Zdd (zdds.Isop (f a) (f b))

-- the same of names, where each that stands for a function has this one
abbrev pub named : {R : Type 0} → (R → Name) → Making R (List ℕ) (List (ℕ × R)) → Making Name (List ℕ) (List (ℕ × Name))
named name making = mapped name (λ vars. vars) (map (λ pair. (pair.0, name pair.1))) making

-- it may need new nodes
abbrev pub needs_nodes : {R V P : Type 0} → Making R V P → Bool
needs_nodes (makings.Bdd bdds.One) = false
needs_nodes (makings.Bdd bdds.Zero) = false
needs_nodes (makings.Bdd (bdds.Var v)) = false
needs_nodes (makings.Bdd (bdds.Not a)) = false
needs_nodes (makings.Zdd zdds.Empty) = false
needs_nodes (makings.Zdd zdds.Base) = false
needs_nodes _ = true

abbrev pub are_distinct : List ℕ → Bool
are_distinct [] = true
are_distinct (v ∷ vs) = not (list_any (λ u. u == v) vs) && are_distinct vs

-- each pair with what its name stands for
abbrev pub bdds_of : (Name → Option Function) → List (ℕ × Name) → Option (List (ℕ × List Bool))
bdds_of live [] = Some []
bdds_of live (pair ∷ more) = option_and_then (λ f. option_map (λ rest. (pair.0, f) ∷ rest) (bdds_of live more)) (as_bdd (live pair.1))

-- there are as many elements as literals of the greatest number of variables
abbrev pub has_literals : Sizes → Bool
has_literals z = nat_le (2 * z.most_variables) z.elements

-- the function of a cover
abbrev pub cover_function : Sizes → List Bool → List Bool
cover_function z p = list_of (2 ^ z.variables) (cover_value z.variables z.elements (truth p))

-- a cover between two functions, if the first is below the second
abbrev pub covered : List Bool → List Bool → Outcome
covered lower upper = if lists.leq_of lower upper then covers lower upper else is_apart

-- What comes of it, by what the names stand for; none where the caller's conditions don't hold
abbrev pub comes_of : Sizes → (Name → Option Function) → Making Name (List ℕ) (List (ℕ × Name)) → Option Outcome
comes_of z live (makings.Bdd bdds.One) = Some (makes (Bdd (list_of (2 ^ z.variables) (values.constant true))))
comes_of z live (makings.Bdd bdds.Zero) = Some (makes (Bdd (list_of (2 ^ z.variables) (values.constant false))))
comes_of z live (makings.Bdd (bdds.Var v)) = when (nat_lt v z.variables) (Some (makes (Bdd (list_of (2 ^ z.variables) (values.projection v)))))
comes_of z live (makings.Bdd (bdds.Not a)) = with_one (as_bdd (live a)) (λ f. makes (Bdd (lists.not_of f)))
comes_of z live (makings.Bdd (bdds.And a b)) = with_two (as_bdd (live a)) (as_bdd (live b)) (λ f g. makes (Bdd (lists.and_of f g)))
comes_of z live (makings.Bdd (bdds.Or a b)) = with_two (as_bdd (live a)) (as_bdd (live b)) (λ f g. makes (Bdd (lists.or_of f g)))
comes_of z live (makings.Bdd (bdds.Xor a b)) = with_two (as_bdd (live a)) (as_bdd (live b)) (λ f g. makes (Bdd (lists.xor_of f g)))
comes_of z live (makings.Bdd (bdds.Ite a b c)) = with_three (as_bdd (live a)) (as_bdd (live b)) (as_bdd (live c)) (λ f g h. makes (Bdd (lists.ite_of f g h)))
comes_of z live (makings.Bdd (bdds.Cofactor a v b)) = when (nat_lt v z.variables) (with_one (as_bdd (live a)) (λ f. makes (Bdd (lists.cofactor_of f v b))))
comes_of z live (makings.Bdd (bdds.Exists a vs)) = when (list_all (λ v. nat_lt v z.variables) vs) (with_one (as_bdd (live a)) (λ f. makes (Bdd (lists.exists_of f vs))))
comes_of z live (makings.Bdd (bdds.Forall a vs)) = when (list_all (λ v. nat_lt v z.variables) vs) (with_one (as_bdd (live a)) (λ f. makes (Bdd (lists.forall_of f vs))))
comes_of z live (makings.Bdd (bdds.AndExists a b vs)) =
    when (list_all (λ v. nat_lt v z.variables) vs) (with_two (as_bdd (live a)) (as_bdd (live b)) (λ f g. makes (Bdd (lists.and_exists_of f g vs))))
comes_of z live (makings.Bdd (bdds.Compose a v b)) =
    when (nat_lt v z.variables) (with_two (as_bdd (live a)) (as_bdd (live b)) (λ f g. makes (Bdd (lists.compose_of f v g))))
comes_of z live (makings.Bdd (bdds.VectorCompose a ps)) =
    when (list_all (λ pair. nat_lt pair.0 z.variables) ps && are_distinct (map (λ pair. pair.0) ps))
    (with_two (as_bdd (live a)) (bdds_of live ps) (λ f gs. makes (Bdd (lists.vector_compose_of f gs))))
comes_of z live (makings.Bdd (bdds.Restrict a b)) = with_two (as_bdd (live a)) (as_bdd (live b)) restricts
comes_of z live (makings.Bdd (bdds.Support a)) = with_one (as_bdd (live a)) (λ f. makes (Bdd (lists.support_of z.variables f)))
comes_of z live (makings.Bdd (bdds.AtLeast a w)) = with_one (as_add (live a)) (λ f. makes (Bdd (lists.at_least_of f w)))
comes_of z live (makings.Bdd (bdds.Pattern a)) = with_one (as_add (live a)) (λ f. makes (Bdd (lists.pattern_of f)))
comes_of z live (makings.Bdd (bdds.CoverOf a)) = when (has_literals z) (with_one (as_zdd (live a)) (λ p. makes (Bdd (cover_function z p))))
comes_of z live (makings.Add (adds.Constant w)) = when (numbers.is_value w) (Some (makes (Add (list_of (2 ^ z.variables) (values.constant w)))))
comes_of z live (makings.Add (adds.FromBdd a)) = with_one (as_bdd (live a)) (λ f. makes (Add (lists.from_bdd_of f)))
comes_of z live (makings.Add (adds.Min a b)) = with_two (as_add (live a)) (as_add (live b)) (λ f g. makes (Add (lists.on_numbers numbers.lesser f g)))
comes_of z live (makings.Add (adds.Max a b)) = with_two (as_add (live a)) (as_add (live b)) (λ f g. makes (Add (lists.on_numbers numbers.greater f g)))
comes_of z live (makings.Add (adds.Threshold a b)) = with_two (as_add (live a)) (as_add (live b)) (λ f g. makes (Add (lists.on_numbers numbers.threshold f g)))
comes_of z live (makings.Add (adds.AddIte a b c)) = with_three (as_bdd (live a)) (as_add (live b)) (as_add (live c)) (λ f g h. makes (Add (lists.add_ite_of f g h)))
comes_of z live (makings.Exact (exacts.Plus a b)) = with_two (as_add (live a)) (as_add (live b)) (λ f g. in_range (lists.plus_of f g))
comes_of z live (makings.Exact (exacts.Minus a b)) = with_two (as_add (live a)) (as_add (live b)) (λ f g. in_range (lists.minus_of f g))
comes_of z live (makings.Exact (exacts.Times a b)) = with_two (as_add (live a)) (as_add (live b)) (λ f g. in_range (lists.times_of f g))
comes_of z live (makings.Exact (exacts.SumOver a v)) = when (nat_lt v z.variables) (with_one (as_add (live a)) (λ f. in_range (lists.sum_of f v)))
comes_of z live (makings.Zdd zdds.Empty) = Some (makes (Zdd (list_of (2 ^ z.elements) families.empty)))
comes_of z live (makings.Zdd zdds.Base) = Some (makes (Zdd (list_of (2 ^ z.elements) families.base)))
comes_of z live (makings.Zdd (zdds.Single e)) = when (nat_lt e z.elements) (Some (makes (Zdd (list_of (2 ^ z.elements) (families.single e)))))
comes_of z live (makings.Zdd (zdds.Union a b)) = with_two (as_zdd (live a)) (as_zdd (live b)) (λ p q. makes (Zdd (lists.union_of p q)))
comes_of z live (makings.Zdd (zdds.Meet a b)) = with_two (as_zdd (live a)) (as_zdd (live b)) (λ p q. makes (Zdd (lists.meet_of p q)))
comes_of z live (makings.Zdd (zdds.Diff a b)) = with_two (as_zdd (live a)) (as_zdd (live b)) (λ p q. makes (Zdd (lists.diff_of p q)))
comes_of z live (makings.Zdd (zdds.Subset1 a e)) = when (nat_lt e z.elements) (with_one (as_zdd (live a)) (λ p. makes (Zdd (lists.on_of p e))))
comes_of z live (makings.Zdd (zdds.Subset0 a e)) = when (nat_lt e z.elements) (with_one (as_zdd (live a)) (λ p. makes (Zdd (lists.off_of p e))))
comes_of z live (makings.Zdd (zdds.Change a e)) = when (nat_lt e z.elements) (with_one (as_zdd (live a)) (λ p. makes (Zdd (lists.flip_of p e))))
comes_of z live (makings.Zdd (zdds.Product a b)) = with_two (as_zdd (live a)) (as_zdd (live b)) (λ p q. makes (Zdd (lists.product_of p q)))
comes_of z live (makings.Zdd (zdds.Quotient a b)) = with_two (as_zdd (live a)) (as_zdd (live b)) (λ p q. makes (Zdd (lists.quotient_of p q)))
comes_of z live (makings.Zdd (zdds.Isop a b)) = when (has_literals z) (with_two (as_bdd (live a)) (as_bdd (live b)) covered)
