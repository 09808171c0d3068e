-- Tasks of a cover's function, and what they may store.
use Rattle.std.specs.Prelude.{◌≡◌, ℕ, ◌/◌, ◌%◌, ◌<◌, ◌≤◌, ◌==◌, nat_lt, max, if◌then◌else◌, Bool, ◌⊎◌, Result}
use Rattle.computed_cache.specs.declared.Key.{Key}
use Rattle.edge_bits.specs.declared.edges.Edge.{Edge}
use Rattle.edge_bits.specs.declared.edges.Kind.TheVariants.{Bdd, Zdd}
use Rattle.function_laws.specs.IrredundantCovers.{cover_value}
use Rattle.function_laws.specs.Kinds.{Denoted, BddFunction}
use Rattle.function_laws.specs.Values.{conjunction}
use Rattle.node_store.specs.Memo.{last_of, literal}
use Rattle.node_store.specs.Operations.{Serves}
use Rattle.node_store.specs.Views.{View, Denotes, Is, IsVariable, Permanent, Splits, family_at}
use Rattle.node_store.specs.Work.{IsPart}
use Rattle.node_store.specs.declared.numbers.TheConstants as numbers
use Rattle.node_store.specs.declared.operator.Halt.{Halt}
use Rattle.node_store.specs.declared.operator.Task.{Task}

-- the first n numbers are variables of the store
abbrev pub AreVariables : View → ℕ → Type 0
AreVariables w n = (v : ℕ) → v < n → IsVariable Bdd w v

-- the function of a cover over n variables, of the store's elements
abbrev pub cover_at : ℕ → View → (ℕ → Bool) → ℕ → Bool
cover_at n w p = cover_value n w.elements p

-- the family is of the store, and so are the variables
pub record HasCover (n : ℕ) (w : View) (p : Edge) : Type 0 where
  pub family : Is Zdd w p
  pub variables : AreVariables w n

-- a function times the literal that an element is; as it is where that is beyond the literals of n variables
abbrev pub narrowed : ℕ → ℕ → (ℕ → Bool) → ℕ → Bool
narrowed n e f = if nat_lt (e / 2) n then conjunction f (literal (e / 2) (e % 2 == 0)) else f

-- the function, or that times the literal of one of n variables
abbrev pub IsTimesLiteral : ℕ → (ℕ → Bool) → Denoted → Type 0
IsTimesLiteral n f F = (F ≡ BddFunction f) ⊎ ((v : ℕ) × (b : Bool) × (v < n) × (F ≡ BddFunction (conjunction f (literal v b))))

-- the work of a call: the functions of the parts of the cover, also times a literal
abbrev pub cover_work : ℕ → Edge → View → Denoted → Type 0
cover_work n p w F = (q : ℕ → Bool) × (IsPart Zdd w (family_at w p) q × IsTimesLiteral n (cover_at n w q) F)

-- a task of the call with this family, and with the edge that tells how many variables there are
pub record CoverDue (n : ℕ) (p last : Edge) (w : View) (t : Task) : Type 0 where
  pub permanent : Permanent w
  pub tells : Denotes Bdd w last (last_of n)
  pub root : HasCover n w p
  pub family : Is Zdd w t.f
  pub part : IsPart Zdd w (family_at w p) (family_at w t.f)

abbrev pub CoverAnswers : ℕ → View → Task → Edge → Type 0
CoverAnswers n w t e = Denotes Bdd w e (cover_at n w (family_at w t.f))

-- a task's family splits at an element
pub record CoverSplits (w : View) (t : Task) (x : ℕ) (hi lo : Task) : Type 0 where
  pub in_range : IsVariable Zdd w x
  pub splits : Splits Zdd w x (family_at w t.f) hi.f lo.f

abbrev pub cover_key : Edge → Edge → Key
cover_key f last = record { op = numbers.COVER_OF; f = f; g = last; h = f }

-- in the scratch that the store lends, which has room for the levels of both orders
abbrev pub CoverCalls : (Edge → Type 0) → (Denoted → Type 0) → View → View → Result Edge Halt → Type 0
CoverCalls answer work old new outcome = Serves answer ⊥ work (old.room < max old.vars old.elements) (old.room ≤ new.room) old new outcome
