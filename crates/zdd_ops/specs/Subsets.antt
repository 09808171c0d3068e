-- Tasks of a family and an element, for an operation by one element.
use Rattle.std.proofs.Common.{◌≡◌, ℕ, ◌-◌, ◌<◌, Bool, refl, ap, sym, ◌∙◌, arith}
use Rattle.edge_bits.specs.declared.edges.Edge.{Edge}
use Rattle.edge_bits.specs.declared.edges.Kind.TheVariants.{Zdd}
use Rattle.edge_bits.specs.Reading.{element_of}
use Rattle.function_laws.specs.Kinds.{Denoted, ZddFamily}
use Rattle.node_store.specs.Views.{View, Denotes, Grown, Is, IsInner, IsVariable, Permanent, Splits, family_at}
use Rattle.node_store.specs.ViewLaws.{Denotes-grown, Denotes-lasts, Is-grown, IsVariable-grown, Permanent-grown, Splits-grown, level-grown, top-grown, values_at-grown}
use Rattle.node_store.specs.Work.{IsPart}
use Rattle.node_store.specs.WorkLaws.{IsPart-grown}
use Rattle.node_store.specs.declared.operator.Task.{Task}
use Rattle.zdd_ops.specs.declared.subsets.Standing.{Standing}
use Rattle.zdd_ops.specs.declared.subsets.Standing.TheVariants.{Here, Above}

-- an operation by one element
abbrev pub ElementOperation : Type 0
ElementOperation = (ℕ → Bool) → ℕ → ℕ → Bool

-- what it makes of the family of an edge and the element with this variable number
abbrev pub subset_at : ElementOperation → ℕ → View → Edge → ℕ → Bool
subset_at part v w e = part (family_at w e) (element_of v)

-- the family and the element are of the store
pub record HasElement (w : View) (p : Edge) (v : ℕ) : Type 0 where
  pub family : Is Zdd w p
  pub element : IsVariable Zdd w v

-- a task of the call on this family
pub record SubsetDue (part : ElementOperation) (v : ℕ) (root : Edge) (w : View) (t : Task) : Type 0 where
  pub permanent : Permanent w
  pub element : IsVariable Zdd w v
  pub of_root : Is Zdd w root
  pub family : Is Zdd w t.f
  pub is_part : IsPart Zdd w (subset_at part v w root) (subset_at part v w t.f)

abbrev pub SubsetAnswers : ElementOperation → ℕ → View → Task → Edge → Type 0
SubsetAnswers part v w t e = Denotes Zdd w e (subset_at part v w t.f)

-- a task splits at an element above
pub record SubsetSplits (v : ℕ) (w : View) (t : Task) (x : ℕ) (hi lo : Task) : Type 0 where
  pub in_range : IsVariable Zdd w x
  pub above : w.level x < w.level v
  pub f : Splits Zdd w x (family_at w t.f) hi.f lo.f

abbrev pub subset_depth : View → Task → ℕ
subset_depth w t = w.elements - w.top t.f.index

-- the work of a call is its value
abbrev pub subset_work : ElementOperation → ℕ → Edge → View → Denoted → Type 0
subset_work part v p w F = F ≡ ZddFamily (subset_at part v w p)

-- where an element stands to a family
abbrev pub IsStanding : View → Edge → ℕ → Standing → Type 0
IsStanding w e v (Here hi lo) = Splits Zdd w v (family_at w e) hi lo
IsStanding w e v (Above x hi lo) = IsInner Zdd w e (family_at w e) x hi lo × (w.level x < w.level v)

-- all this lasts while the store grows
module _ (part : ElementOperation) (v : ℕ) (p : Edge) (a b : View) where
  pub subset_at-grown : {e : Edge} → Grown a b → Is Zdd a e → subset_at part v b e ≡ subset_at part v a e
  subset_at-grown m d = rw (values_at-grown Zdd m d) refl

  pub SubsetDue-stays : (t : Task) → Grown a b → SubsetDue part v p a t → SubsetDue part v p b t
  SubsetDue-stays t m d = record {
    permanent = Permanent-grown m d.permanent;
    element = IsVariable-grown Zdd m v d.element;
    of_root = Is-grown Zdd m d.of_root;
    family = Is-grown Zdd m d.family;
    is_part = rw (subset_at-grown m d.of_root, subset_at-grown m d.family) (IsPart-grown Zdd m (subset_at part v a p) (subset_at part v a t.f) d.is_part);
  }

  pub SubsetAnswers-stay : (t : Task) (e : Edge) → Grown a b → SubsetDue part v p a t → SubsetAnswers part v a t e → SubsetAnswers part v b t e
  SubsetAnswers-stay t e m d is = rw (subset_at-grown m d.family) (Denotes-grown Zdd m is)

  pub SubsetSplits-stay : (t : Task) (x : ℕ) (hi lo : Task) → Grown a b → SubsetDue part v p a t → SubsetSplits v a t x hi lo → SubsetSplits v b t x hi lo
  SubsetSplits-stay t x hi lo m d s =
      let lx = level-grown m x in let lv = level-grown m v in let h = s.above in
      record { in_range = IsVariable-grown Zdd m x s.in_range; above = omega arith; f = rw (values_at-grown Zdd m d.family) (Splits-grown Zdd m s.f) }

  pub subset_depth-stays : (t : Task) → Grown a b → SubsetDue part v p a t → subset_depth b t ≡ subset_depth a t
  subset_depth-stays t m d = rw (m.elements, top-grown Zdd m d.family) refl

  pub subset_work-stays : (F : Denoted) → Grown a b → Is Zdd a p → subset_work part v p a F → subset_work part v p b F
  subset_work-stays F m d is = is ∙ ap ZddFamily (sym (subset_at-grown m d))

pub HasElement-grown : {a b : View} {p : Edge} {v : ℕ} → Grown a b → HasElement a p v → HasElement b p v
HasElement-grown {a} {b} {p} {v} m d = record { family = Is-grown Zdd m d.family; element = IsVariable-grown Zdd m v d.element }

-- a call's answer and its work, by the family at its start
pub subset_at-lasts : (part : ElementOperation) (v : ℕ) (p : Edge) (a b c d : View) (e : Edge) → Grown a b → Grown c d → HasElement a p v → Denotes Zdd c e (subset_at part v b p) → Denotes Zdd d e (subset_at part v a p)
subset_at-lasts part v p a b c d e before after has is = Denotes-lasts Zdd after (subset_at-grown part v p a b before has.family) is

pub subset_work-back : (part : ElementOperation) (v : ℕ) (p : Edge) (a b : View) (F : Denoted) → Grown a b → HasElement a p v → subset_work part v p b F → subset_work part v p a F
subset_work-back part v p a b F m has is = is ∙ ap ZddFamily (subset_at-grown part v p a b m has.family)
