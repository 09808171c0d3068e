-- Tasks of one function of which the cofactor by a literal is asked.
use Rattle.std.specs.Prelude.{◌≡◌, ◌≢◌, ℕ, ◌-◌, ◌<◌, Bool}
use Rattle.edge_bits.specs.declared.edges.Edge.{Edge}
use Rattle.edge_bits.specs.declared.edges.Kind.TheVariants.{Bdd}
use Rattle.function_laws.specs.Values.{cofactor}
use Rattle.function_laws.specs.Kinds.{Denoted, BddFunction}
use Rattle.node_store.specs.Views.{View, Denotes, Is, IsVariable, Permanent, Splits, bdd_at}
use Rattle.node_store.specs.Memo.{literal}
use Rattle.node_store.specs.Three.{IsPartOrComplement}
use Rattle.node_store.specs.declared.operator.Task.{Task}
use Rattle.ite_core.specs.declared.cofactors.Found.{Found}
use Rattle.ite_core.specs.declared.cofactors.Found.TheVariants.{Answer, Parts}

abbrev pub cofactor_at : View → Edge → ℕ → Bool → ℕ → Bool
cofactor_at w f v b = cofactor (bdd_at w f) v b

-- the function and the variable are of the store
pub record HasCofactor (w : View) (f : Edge) (v : ℕ) : Type 0 where
  pub edge : Is Bdd w f
  pub in_range : IsVariable Bdd w v

-- the work of a call is its value
abbrev pub value_of_cofactor : Edge → ℕ → Bool → View → Denoted → Type 0
value_of_cofactor f v b w F = F ≡ BddFunction (cofactor_at w f v b)

-- a task of the call with this function, variable and bit, and with their literal
pub record CofactorDue (f : Edge) (v : ℕ) (b : Bool) (l : Edge) (w : View) (t : Task) : Type 0 where
  pub literal : Denotes Bdd w l (literal v b)
  pub permanent : Permanent w
  pub root : HasCofactor w f v
  pub edge : Is Bdd w t.f
  pub part : IsPartOrComplement Bdd w (cofactor_at w f v b) (cofactor_at w t.f v b)

abbrev pub CofactorAnswers : ℕ → Bool → View → Task → Edge → Type 0
CofactorAnswers v b w t e = Denotes Bdd w e (cofactor_at w t.f v b)

-- the task's function splits at another variable
pub record CofactorSplits (v : ℕ) (w : View) (t : Task) (x : ℕ) (hi lo : Task) : Type 0 where
  pub in_range : IsVariable Bdd w x
  pub apart : x ≢ v
  pub splits : Splits Bdd w x (bdd_at w t.f) hi.f lo.f

abbrev pub one_depth : View → Task → ℕ
one_depth w t = w.vars - w.top t.f.index

-- the function splits at its top variable, which stands above the one that is set
pub record SplitsAbove (w : View) (f : Edge) (v x : ℕ) (hi lo : Edge) : Type 0 where
  pub in_range : IsVariable Bdd w x
  pub apart : x ≢ v
  pub splits : Splits Bdd w x (bdd_at w f) hi lo
  pub here : w.top f.index ≡ w.level x
  pub within : w.level x < w.vars
  pub hi_top : w.level x < w.top hi.index
  pub lo_top : w.level x < w.top lo.index

-- the cofactor, or the parts at the top variable
abbrev pub IsFound : View → Edge → ℕ → Bool → Found → Type 0
IsFound w f v b (Answer e) = Denotes Bdd w e (cofactor_at w f v b)
IsFound w f v b (Parts x hi lo) = SplitsAbove w f v x hi lo
