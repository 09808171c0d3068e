-- What an operation takes, what stands for functions in what makes one, and the same with other things that stand for them.
use Rattle.std.specs.Prelude.{◌≡◌, ℕ, ◌<◌, ◌≤◌, ◌*◌, true, List, [], ◌∷◌, map, All}
use Rattle.std.specs.Borrow.{Bor}
use Rattle.edge_bits.specs.Words.{IsLeafValue}
use Rattle.edge_bits.specs.declared.edges.Kind.{Kind}
use Rattle.edge_bits.specs.declared.edges.Kind.TheVariants as kinds
use Rattle.function_laws.specs.declared.making.Making.{Making}
use Rattle.function_laws.specs.declared.making.Making.TheVariants as makings
use Rattle.function_laws.specs.declared.making.BddMaking.TheVariants as bdds
use Rattle.function_laws.specs.Makings.{Taken, function, variable, element, value, number, bit, variables, pairs, literals, are_distinct, mapped}

-- The conditions of what an operation takes, over at most so many variables, so many that there are, and so many elements, and by what
-- stands for a function of which kind: a variable or an element is one of these, a value is one of a leaf, no variable is put twice, and
-- elements are enough for the two literals of each variable that there may be.
abbrev pub CanTake : {R : Type 0} → (Kind → R → Type 0) → ℕ → ℕ → ℕ → Taken R → Type 0
CanTake is most vars elements (function k a) = is k a
CanTake is most vars elements (variable v) = v < vars
CanTake is most vars elements (element e) = e < elements
CanTake is most vars elements (value z) = IsLeafValue z
CanTake is most vars elements (number z) = Unit {0}
CanTake is most vars elements (bit b) = Unit {0}
CanTake is most vars elements (variables vs) = All (λ v. v < vars) vs
CanTake is most vars elements (pairs ps) = All (λ pair. pair.0 < vars) ps × All (λ pair. is kinds.Bdd pair.1) ps × (are_distinct (map (λ pair. pair.0) ps) ≡ true)
CanTake is most vars elements literals = 2 * most ≤ elements

abbrev pub CanTakeAll : {R : Type 0} → (Kind → R → Type 0) → ℕ → ℕ → ℕ → List (Taken R) → Type 0
CanTakeAll is most vars elements [] = Unit {0}
CanTakeAll is most vars elements (one ∷ more) = CanTake is most vars elements one × CanTakeAll is most vars elements more

-- with what some variables and some pairs are as lists
abbrev pub with_lists : {R V P : Type 0} → (V → List ℕ) → (P → List (ℕ × R)) → Making R V P → Making R (List ℕ) (List (ℕ × R))
with_lists listed paired making = mapped (λ a. a) listed paired making

-- with the lists that are lent
abbrev pub of_lent : {R : Type 0} → Making R (Bor (List ℕ)) (Bor (List (ℕ × R))) → Making R (List ℕ) (List (ℕ × R))
of_lent making = with_lists (λ vars. vars.now) (λ pairs. pairs.now) making

-- a variable with what is given for the function that is put for it
abbrev pub with_given : {R S : Type 0} → (R → S) → ℕ × R → ℕ × S
with_given gives pair = (pair.0, gives pair.1)

-- with what is given for each thing that stands for a function
abbrev pub renamed_by : {R S : Type 0} → (R → S) → Making R (List ℕ) (List (ℕ × R)) → Making S (List ℕ) (List (ℕ × S))
renamed_by gives making = mapped gives (λ vars. vars) (map (with_given gives)) making

-- the variables with the functions that are put for them
abbrev pub pairs_in : {R V P : Type 0} → Making R V (List P) → List P
pairs_in (makings.Bdd (bdds.VectorCompose a ps)) = ps
pairs_in _ = []
