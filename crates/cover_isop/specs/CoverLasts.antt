-- What is true of tasks of a cover's function stays true while a store grows.
use Rattle.std.proofs.Common.{◌≡◌, ℕ, Bool, refl, ap, sym, ◌∙◌, subst}
use Rattle.edge_bits.specs.declared.edges.Edge.{Edge}
use Rattle.edge_bits.specs.declared.edges.Kind.TheVariants.{Bdd, Zdd}
use Rattle.function_laws.specs.IrredundantCovers.{cover_value}
use Rattle.function_laws.specs.Kinds.{Denoted}
use Rattle.node_store.specs.Views.{View, Grown, Is, family_at}
use Rattle.node_store.specs.ViewLaws.{Denotes-grown, Denotes-lasts, Is-grown, IsVariable-grown, Permanent-grown, Splits-grown, top-grown, values_at-grown}
use Rattle.node_store.specs.Work.{IsPart}
use Rattle.node_store.specs.WorkLaws.{IsPart-back, IsPart-grown}
use Rattle.node_store.specs.declared.operator.Task.{Task}
use Rattle.zdd_ops.specs.Subsets.{subset_depth}
use Rattle.cover_isop.specs.Covers.{AreVariables, CoverAnswers, CoverDue, CoverSplits, HasCover, IsTimesLiteral, cover_at, cover_work}

pub AreVariables-grown : {v w : View} (n : ℕ) → Grown v w → AreVariables v n → AreVariables w n
AreVariables-grown n m few x below = IsVariable-grown Bdd m x (few x below)

pub HasCover-grown : {v w : View} {n : ℕ} {p : Edge} → Grown v w → HasCover n v p → HasCover n w p
HasCover-grown {v} {w} {n} m d = record { family = Is-grown Zdd m d.family; variables = AreVariables-grown n m d.variables }

pub cover_at-grown : {v w : View} (n : ℕ) (p : ℕ → Bool) → Grown v w → cover_at n w p ≡ cover_at n v p
cover_at-grown n p m = ap (λ k. cover_value n k p) m.elements

pub cover-grown : {v w : View} {p : Edge} (n : ℕ) → Grown v w → Is Zdd v p → cover_at n w (family_at w p) ≡ cover_at n v (family_at v p)
cover-grown {v} {w} {p} n m d = ap (cover_at n w) (values_at-grown Zdd m d) ∙ cover_at-grown n (family_at v p) m

part-grown : {v w : View} {p q : Edge} → Grown v w → Is Zdd v p → Is Zdd v q → IsPart Zdd v (family_at v p) (family_at v q) → IsPart Zdd w (family_at w p) (family_at w q)
part-grown {v} {w} {p} {q} m dp dq part = rw (values_at-grown Zdd m dp, values_at-grown Zdd m dq) (IsPart-grown Zdd m (family_at v p) (family_at v q) part)

pub CoverDue-stays : (n : ℕ) (p last : Edge) (v w : View) (t : Task) → Grown v w → CoverDue n p last v t → CoverDue n p last w t
CoverDue-stays n p last v w t m d = record {
  permanent = Permanent-grown m d.permanent;
  tells = Denotes-grown Bdd m d.tells;
  root = HasCover-grown m d.root;
  family = Is-grown Zdd m d.family;
  part = part-grown m d.root.family d.family d.part;
}

pub CoverAnswers-stay : (n : ℕ) (v w : View) (t : Task) (e : Edge) → Grown v w → Is Zdd v t.f → CoverAnswers n v t e → CoverAnswers n w t e
CoverAnswers-stay n v w t e m d a = Denotes-lasts Bdd m (sym (cover-grown n m d)) a

pub CoverSplits-stay : (v w : View) (t : Task) (x : ℕ) (hi lo : Task) → Grown v w → Is Zdd v t.f → CoverSplits v t x hi lo → CoverSplits w t x hi lo
CoverSplits-stay v w t x hi lo m d s = record { in_range = IsVariable-grown Zdd m x s.in_range; splits = rw (values_at-grown Zdd m d) (Splits-grown Zdd m s.splits) }

pub cover_depth-stays : (v w : View) (t : Task) → Grown v w → Is Zdd v t.f → subset_depth w t ≡ subset_depth v t
cover_depth-stays v w t m d = rw (m.elements, top-grown Zdd m d) refl

-- what may be stored, told from a later view and from an earlier one
same_work : (n : ℕ) (f g : ℕ → Bool) (F : Denoted) → f ≡ g → IsTimesLiteral n f F → IsTimesLiteral n g F
same_work n f g F same is = subst (λ h. IsTimesLiteral n h F) same is

pub cover_work-stays : (n : ℕ) (p : Edge) (v w : View) (F : Denoted) → Grown v w → HasCover n v p → cover_work n p v F → cover_work n p w F
cover_work-stays n p v w F m d (q, (part, is)) = (
  q,
  (rw (values_at-grown Zdd m d.family) (IsPart-grown Zdd m (family_at v p) q part), same_work n (cover_at n v q) (cover_at n w q) F (sym (cover_at-grown n q m)) is),
)

pub cover_work-back : (n : ℕ) (p : Edge) (v w : View) (F : Denoted) → Grown v w → HasCover n v p → cover_work n p w F → cover_work n p v F
cover_work-back n p v w F m d (q, (part, is)) = (
  q,
  (
    IsPart-back Zdd m (family_at v p) q (subst (λ f. IsPart Zdd w f q) (values_at-grown Zdd m d.family) part),
    same_work n (cover_at n w q) (cover_at n v q) F (cover_at-grown n q m) is,
  ),
)
