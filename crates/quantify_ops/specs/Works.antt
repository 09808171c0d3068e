-- What the quantifiers may store: the product of their variables, and their value, also with any parts of the operands in the operands' places.
use Rattle.std.specs.Prelude.{◌≡◌, ℕ, Bool, List, ◌⊎◌}
use Rattle.std.specs.List.{All}
use Rattle.edge_bits.specs.declared.edges.Edge.{Edge}
use Rattle.edge_bits.specs.declared.edges.Kind.TheVariants.{Bdd}
use Rattle.function_laws.specs.Cubes.{cube_of}
use Rattle.function_laws.specs.Values.{conjunction, exists_all, forall_all, support}
use Rattle.function_laws.specs.Kinds.{Denoted, BddFunction}
use Rattle.node_store.specs.Views.{View, AreTwo, Is, IsVariable, bdd_at}
use Rattle.node_store.specs.Work.{IsPart}

-- the operands and the variables are of the store
pub record HasVariables (w : View) (f : Edge) (vars : List ℕ) : Type 0 where
  pub operand : Is Bdd w f
  pub in_range : All (IsVariable Bdd w) vars

pub record HaveVariables (w : View) (f g : Edge) (vars : List ℕ) : Type 0 where
  pub operands : AreTwo Bdd w f g
  pub in_range : All (IsVariable Bdd w) vars

abbrev pub value_of_exists : Edge → List ℕ → View → Denoted → Type 0
value_of_exists f vars w F = (a : ℕ → Bool) × (IsPart Bdd w (bdd_at w f) a × (F ≡ BddFunction (exists_all a vars)))

abbrev pub value_of_forall : Edge → List ℕ → View → Denoted → Type 0
value_of_forall f vars w F = (a : ℕ → Bool) × (IsPart Bdd w (bdd_at w f) a × (F ≡ BddFunction (forall_all a vars)))

abbrev pub value_of_and_exists : Edge → Edge → List ℕ → View → Denoted → Type 0
value_of_and_exists f g vars w F =
    (a b : ℕ → Bool) × (IsPart Bdd w (bdd_at w f) a × IsPart Bdd w (bdd_at w g) b × (F ≡ BddFunction (exists_all (conjunction a b) vars)))

-- with the product of the variables
abbrev pub work_of_exists : Edge → List ℕ → View → Denoted → Type 0
work_of_exists f vars w F = value_of_exists f vars w F ⊎ (F ≡ BddFunction (cube_of vars))

abbrev pub work_of_forall : Edge → List ℕ → View → Denoted → Type 0
work_of_forall f vars w F = value_of_forall f vars w F ⊎ (F ≡ BddFunction (cube_of vars))

abbrev pub work_of_and_exists : Edge → Edge → List ℕ → View → Denoted → Type 0
work_of_and_exists f g vars w F = value_of_and_exists f g vars w F ⊎ (F ≡ BddFunction (cube_of vars))

-- what a support stores: its value
abbrev pub value_of_support : Edge → View → Denoted → Type 0
value_of_support f w F = F ≡ BddFunction (support w.vars (bdd_at w f))
