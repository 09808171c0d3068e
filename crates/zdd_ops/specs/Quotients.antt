-- Tasks of a quotient of two families.
use Rattle.std.specs.Prelude.{◌≡◌, ℕ, ◌^◌, ◌<◌, Bool, true, false, ◌⊎◌, Option, Some, None}
use Rattle.computed_cache.specs.declared.Key.{Key}
use Rattle.edge_bits.specs.declared.edges.Edge.{Edge}
use Rattle.edge_bits.specs.declared.edges.Kind.TheVariants.{Zdd}
use Rattle.function_laws.specs.Families.{quotient}
use Rattle.function_laws.specs.Kinds.{Denoted, ZddFamily}
use Rattle.node_store.specs.declared.numbers.TheConstants as numbers
use Rattle.node_store.specs.Views.{View, AreTwo, Denotes, IsBelow, IsInner, IsVariable, NotBothLeaves, Permanent, Splits, family_at}
use Rattle.node_store.specs.Work.{IsPart}
use Rattle.node_store.specs.declared.binary.Branch.{Branch}
use Rattle.node_store.specs.declared.operator.Task.{Task}
use Rattle.zdd_ops.specs.declared.quotients.Divisor.{Divisor}
use Rattle.zdd_ops.specs.declared.quotients.Divisor.TheVariants.{Has, Lacks}

-- some combination is a member
abbrev pub HasMember : (ℕ → Bool) → Type 0
HasMember q = (b : ℕ) × (q b ≡ true)

-- the quotient of two families, among the combinations of the store's elements
abbrev pub quotient_at : View → (ℕ → Bool) → (ℕ → Bool) → ℕ → Bool
quotient_at w p q = quotient (2 ^ w.elements) p q

-- a task of the call with these operands: of a part of the one and a part of the other
pub record QuotientDue (p q : Edge) (w : View) (t : Task) : Type 0 where
  pub permanent : Permanent w
  pub roots : AreTwo Zdd w p q
  pub two : AreTwo Zdd w t.f t.g
  pub f_part : IsPart Zdd w (family_at w p) (family_at w t.f)
  pub g_part : IsPart Zdd w (family_at w q) (family_at w t.g)

abbrev pub QuotientAnswers : View → Task → Edge → Type 0
QuotientAnswers w t e = Denotes Zdd w e (quotient_at w (family_at w t.f) (family_at w t.g))

-- no member has the element
pub record LacksIt (w : View) (e : Edge) (v : ℕ) : Type 0 where
  pub above : w.level v < w.top e.index
  pub below : IsBelow Zdd w v (family_at w e)

-- both tasks are by the divisor
pub record AreByIt (t hi lo : Task) : Type 0 where
  pub hi_same : hi.g ≡ t.g
  pub lo_same : lo.g ≡ t.g

-- a task splits at an element: the divisor splits too, or lacks it
pub record QuotientSplits (w : View) (t : Task) (v : ℕ) (hi lo : Task) : Type 0 where
  pub in_range : IsVariable Zdd w v
  pub within : w.level v < w.elements
  pub f : Splits Zdd w v (family_at w t.f) hi.f lo.f
  pub g : (LacksIt w t.g v × AreByIt t hi lo) ⊎ IsInner Zdd w t.g (family_at w t.g) v hi.g lo.g

-- a quotient of a part of one family by a part of the other
pub record IsQuotientOfParts (p q : Edge) (w : View) (r : ℕ → Bool) : Type 0 where
  pub first : ℕ → Bool
  pub second : ℕ → Bool
  pub f_part : IsPart Zdd w (family_at w p) first
  pub g_part : IsPart Zdd w (family_at w q) second
  pub is : r ≡ quotient_at w first second

-- the work of a call: quotients of parts of its operands
abbrev pub quotient_work : Edge → Edge → View → Denoted → Type 0
quotient_work p q w F = (r : ℕ → Bool) × (F ≡ ZddFamily r) × IsQuotientOfParts p q w r

-- the answer of a terminal case; else the operands are not both leaves
abbrev pub IsQuotientTerminal : View → Edge → Edge → Option Edge → Type 0
IsQuotientTerminal w f g (Some e) = Denotes Zdd w e (quotient_at w (family_at w f) (family_at w g))
IsQuotientTerminal w f g None = NotBothLeaves Zdd w f g

abbrev pub quotient_key : Edge → Edge → Key
quotient_key f g = record { op = numbers.QUOTIENT; f = f; g = g; h = f }

-- how a divisor stands to an element
abbrev pub IsDivided : View → Edge → ℕ → Divisor → Type 0
IsDivided w e v (Has g1 g0) = IsInner Zdd w e (family_at w e) v g1 g0
IsDivided w e v Lacks = LacksIt w e v

-- the two parts of a task
pub record IsSplitTask (w : View) (t : Task) (v : ℕ) (b : Branch) : Type 0 where
  pub task : b.task ≡ t
  pub flip : b.flip ≡ false
  pub var : b.var ≡ v
  pub splits : QuotientSplits w t v b.hi b.lo
  pub f1_top : w.level v < w.top b.hi.f.index
  pub f0_top : w.level v < w.top b.lo.f.index
  pub g1_top : w.level v < w.top b.hi.g.index
  pub g0_top : w.level v < w.top b.lo.g.index
