-- Tasks of a product of two families.
use Rattle.std.specs.Prelude.{◌≡◌, ℕ, ◌^◌, ◌<◌, nat_lt, Bool, true, false, ◌⊎◌, Option, Some, None, if◌then◌else◌}
use Rattle.edge_bits.specs.declared.edges.Edge.{Edge}
use Rattle.edge_bits.specs.declared.edges.Kind.TheVariants.{Zdd}
use Rattle.edge_bits.specs.Reading.{element_of}
use Rattle.computed_cache.specs.declared.Key.{Key}
use Rattle.function_laws.specs.Families.{product, subset1, union}
use Rattle.function_laws.specs.Kinds.{Denoted, ZddFamily, part_at}
use Rattle.node_store.specs.declared.numbers.TheConstants as numbers
use Rattle.node_store.specs.Two.{two_depth}
use Rattle.node_store.specs.Views.{View, AreTwo, CanPart, Denotes, IsTop, NotBothLeaves, Permanent, Splits, family_at}
use Rattle.node_store.specs.Work.{IsPart}
use Rattle.node_store.specs.declared.operator.Frame.{Frame}
use Rattle.node_store.specs.declared.operator.Task.{Task}
use Rattle.node_store.specs.declared.operator.Wait.{Wait}
use Rattle.node_store.specs.declared.operator.Wait.TheVariants.{Only, First, Second, Third, Fourth}
use Rattle.zdd_ops.specs.declared.products.Quarters.{Quarters}

-- the product of two families, among the combinations of the store's elements
abbrev pub product_at : View → (ℕ → Bool) → (ℕ → Bool) → ℕ → Bool
product_at w p q = product (2 ^ w.elements) p q

-- a task of the call with these operands: of a part of the one and a part of the other
pub record ProductDue (p q : Edge) (w : View) (t : Task) : Type 0 where
  pub permanent : Permanent w
  pub roots : AreTwo Zdd w p q
  pub two : AreTwo Zdd w t.f t.g
  pub f_part : IsPart Zdd w (family_at w p) (family_at w t.f)
  pub g_part : IsPart Zdd w (family_at w q) (family_at w t.g)

-- the product that a task asks
abbrev pub asked_by : View → Task → ℕ → Bool
asked_by w t = product_at w (family_at w t.f) (family_at w t.g)

-- its members with an element, without it
abbrev pub with_element : View → Task → ℕ → ℕ → Bool
with_element w t v = subset1 (asked_by w t) (element_of v)

abbrev pub ProductAnswers : View → Task → Edge → Type 0
ProductAnswers w t e = Denotes Zdd w e (asked_by w t)

-- both families of a task, split at the first element of either
pub record ProductSplits (w : View) (t : Task) (v : ℕ) : Type 0 where
  pub top : IsTop Zdd w t.f t.g v
  pub f1 : Edge
  pub f0 : Edge
  pub g1 : Edge
  pub g0 : Edge
  pub f : Splits Zdd w v (family_at w t.f) f1 f0
  pub g : Splits Zdd w v (family_at w t.g) g1 g0

-- the product of a part of a task's first family and a part of its second: of the members with the element (true), without
-- it, or of those that lack it (false)
abbrev pub quarter : View → Task → ℕ → Bool → Bool → ℕ → Bool
quarter w t v b c = product_at w (part_at Zdd (family_at w t.f) v b) (part_at Zdd (family_at w t.g) v c)

-- the task of that product
pub record IsQuarter (p q : Edge) (w : View) (t : Task) (v : ℕ) (b c : Bool) (u : Task) : Type 0 where
  pub due : ProductDue p q w u
  pub less : two_depth Zdd w u < two_depth Zdd w t
  pub f : family_at w u.f ≡ part_at Zdd (family_at w t.f) v b
  pub g : family_at w u.g ≡ part_at Zdd (family_at w t.g) v c

-- the answer of one part is computed, and those before it are there
abbrev pub ProductWaitIs : Edge → Edge → View → Task → ℕ → Task → Wait → Type 0
ProductWaitIs p q w t v child (First later) = IsQuarter p q w t v true true child × IsQuarter p q w t v true false later
ProductWaitIs p q w t v child (Second a) = IsQuarter p q w t v true false child × Denotes Zdd w a (quarter w t v true true)
ProductWaitIs p q w t v child (Third a b) = IsQuarter p q w t v false true child × Denotes Zdd w a (quarter w t v true true) × Denotes Zdd w b (quarter w t v true false)
ProductWaitIs p q w t v child (Fourth a b c) =
    IsQuarter p q w t v false false child × Denotes Zdd w a (quarter w t v true true) × Denotes Zdd w b (quarter w t v true false) × Denotes Zdd w c (quarter w t v false true)
ProductWaitIs p q w t v child Only = ⊥

-- a frame that waits for the answer of one of its task's four parts
pub record ProductWaits (p q : Edge) (w : View) (root : Task) (frame : Frame) (child : Task) : Type 0 where
  pub same : frame.task ≡ root
  pub splits : ProductSplits w frame.task frame.var
  pub wait : ProductWaitIs p q w frame.task frame.var child frame.wait

-- all four parts of a task have their answers
pub record AreQuarters (p q : Edge) (w : View) (t : Task) (v : ℕ) (a : Quarters) : Type 0 where
  pub due : ProductDue p q w t
  pub splits : ProductSplits w t v
  pub then_then : Denotes Zdd w a.then_then (quarter w t v true true)
  pub then_else : Denotes Zdd w a.then_else (quarter w t v true false)
  pub else_then : Denotes Zdd w a.else_then (quarter w t v false true)
  pub else_else : Denotes Zdd w a.else_else (quarter w t v false false)

-- a product of a part of one family and a part of the other
pub record IsProductOfParts (p q : Edge) (w : View) (r : ℕ → Bool) : Type 0 where
  pub first : ℕ → Bool
  pub second : ℕ → Bool
  pub f_part : IsPart Zdd w (family_at w p) first
  pub g_part : IsPart Zdd w (family_at w q) second
  pub is : r ≡ product_at w first second

-- the union of two families of some kind
pub record IsUnionOf (P : (ℕ → Bool) → Type 0) (r : ℕ → Bool) : Type 0 where
  pub one : ℕ → Bool
  pub other : ℕ → Bool
  pub one_is : P one
  pub other_is : P other
  pub is : r ≡ union one other

-- the work of a call: products of parts of its operands, and unions of two of these
abbrev pub product_work : Edge → Edge → View → Denoted → Type 0
product_work p q w F = (r : ℕ → Bool) × (F ≡ ZddFamily r) × (IsProductOfParts p q w r ⊎ IsUnionOf (IsProductOfParts p q w) r)

-- the answer of a terminal case; else the operands are not both leaves
abbrev pub IsProductTerminal : View → Edge → Edge → Option Edge → Type 0
IsProductTerminal w f g (Some e) = Denotes Zdd w e (product_at w (family_at w f) (family_at w g))
IsProductTerminal w f g None = NotBothLeaves Zdd w f g

-- the key of a product, with the operand of the lesser slot first
abbrev pub product_key : Edge → Edge → Key
product_key f g =
    if nat_lt f.index g.index then record { op = numbers.PRODUCT; f = f; g = g; h = f } else record { op = numbers.PRODUCT; f = g; g = f; h = g }

-- what is asked for the parts of both families of a task
pub record CanPartBoth (w : View) (t : Task) (v : ℕ) : Type 0 where
  pub f : CanPart Zdd w t.f v
  pub g : CanPart Zdd w t.g v
