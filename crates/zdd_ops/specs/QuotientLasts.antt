-- Tasks of a quotient last while the store grows.
use Rattle.std.proofs.Common.{◌≡◌, ℕ, Bool, inl, inr, refl, sym, ◌∙◌, subst, arith}
use Rattle.edge_bits.specs.declared.edges.Edge.{Edge}
use Rattle.edge_bits.specs.declared.edges.Kind.TheVariants.{Zdd}
use Rattle.function_laws.specs.Kinds.{Denoted}
use Rattle.node_store.specs.Views.{View, AreTwo, Denotes, Grown, Is, IsInner, family_at}
use Rattle.node_store.specs.ViewLaws.{Denotes-grown, Denotes-lasts, IsBelow-grown, IsVariable-back, IsVariable-grown, Permanent-grown, Splits-grown, level-grown, top-grown, values_at-grown}
use Rattle.node_store.specs.TwoLaws.{AreTwo-grown}
use Rattle.node_store.specs.Work.{IsPart}
use Rattle.node_store.specs.WorkLaws.{IsPart-back, IsPart-grown}
use Rattle.node_store.specs.declared.operator.Task.{Task}
use Rattle.zdd_ops.specs.Quotients.{LacksIt, QuotientAnswers, QuotientDue, QuotientSplits, quotient_at, quotient_work}

-- an opened node lasts
pub IsInner-grown : (a b : View) (e : Edge) (x : ℕ) (hi lo : Edge) → Grown a b → Is Zdd a e → IsInner Zdd a e (family_at a e) x hi lo → IsInner Zdd b e (family_at b e) x hi lo
IsInner-grown a b e x hi lo m d i =
    let lx = level-grown m x in let n = m.elements in let t = top-grown Zdd m d in
    let th = top-grown Zdd m i.splits.hi_is in let tl = top-grown Zdd m i.splits.lo_is in
    let here = i.here in let within = i.within in let ht = i.hi_top in let lt = i.lo_top in
    record {
      in_range = IsVariable-grown Zdd m x i.in_range;
      splits = rw (values_at-grown Zdd m d) (Splits-grown Zdd m i.splits);
      proper = rw (values_at-grown Zdd m i.splits.hi_is) i.proper;
      here = omega arith;
      within = omega arith;
      alone = λ u un same. i.alone u (IsVariable-back Zdd m u un) (let lu = level-grown m u in omega arith);
      hi_top = omega arith;
      lo_top = omega arith;
    }

pub LacksIt-grown : (a b : View) (e : Edge) (v : ℕ) → Grown a b → Is Zdd a e → LacksIt a e v → LacksIt b e v
LacksIt-grown a b e v m d l =
    let lv = level-grown m v in let t = top-grown Zdd m d in let x = l.above in
    record { above = omega arith; below = rw (values_at-grown Zdd m d) (IsBelow-grown Zdd v (family_at a e) m l.below) }

module _ (a b : View) (m : Grown a b) where
  pub quotient-grown : (p q : ℕ → Bool) → quotient_at b p q ≡ quotient_at a p q
  quotient-grown p q = rw (m.elements) refl

  pub quotient_of-grown : (f g : Edge) → AreTwo Zdd a f g → quotient_at b (family_at b f) (family_at b g) ≡ quotient_at a (family_at a f) (family_at a g)
  quotient_of-grown f g d = rw (values_at-grown Zdd m d.first, values_at-grown Zdd m d.second) (quotient-grown (family_at a f) (family_at a g))

  part-grown : (e f : Edge) → Is Zdd a e → Is Zdd a f → IsPart Zdd a (family_at a e) (family_at a f) → IsPart Zdd b (family_at b e) (family_at b f)
  part-grown e f de df p = rw (values_at-grown Zdd m de, values_at-grown Zdd m df) (IsPart-grown Zdd m (family_at a e) (family_at a f) p)

pub QuotientDue-stays : (p q : Edge) (a b : View) (t : Task) → Grown a b → QuotientDue p q a t → QuotientDue p q b t
QuotientDue-stays p q a b t m d = record {
  permanent = Permanent-grown m d.permanent;
  roots = AreTwo-grown Zdd m d.roots;
  two = AreTwo-grown Zdd m d.two;
  f_part = part-grown a b m p t.f d.roots.first d.two.first d.f_part;
  g_part = part-grown a b m q t.g d.roots.second d.two.second d.g_part;
}

pub QuotientAnswers-stay : (a b : View) (t : Task) (e : Edge) → Grown a b → AreTwo Zdd a t.f t.g → QuotientAnswers a t e → QuotientAnswers b t e
QuotientAnswers-stay a b t e m d is = rw (quotient_of-grown a b m t.f t.g d) (Denotes-grown Zdd m is)

pub QuotientSplits-stay : (a b : View) (t : Task) (v : ℕ) (hi lo : Task) → Grown a b → AreTwo Zdd a t.f t.g → QuotientSplits a t v hi lo → QuotientSplits b t v hi lo
QuotientSplits-stay a b t v hi lo m d s = record {
  in_range = IsVariable-grown Zdd m v s.in_range;
  within = let lv = level-grown m v in let n = m.elements in let x = s.within in omega arith;
  f = rw (values_at-grown Zdd m d.first) (Splits-grown Zdd m s.f);
  g = elim s.g [
    | inl l ↦ inl (LacksIt-grown a b t.g v m d.second l.0, l.1)
    | inr i ↦ inr (IsInner-grown a b t.g v hi.g lo.g m d.second i)
  ];
}

pub quotient_work-stays : (p q : Edge) (a b : View) (F : Denoted) → Grown a b → AreTwo Zdd a p q → quotient_work p q a F → quotient_work p q b F
quotient_work-stays p q a b F m d (r, is, i) = (
  r,
  is,
  record {
    first = i.first;
    second = i.second;
    f_part = rw (values_at-grown Zdd m d.first) (IsPart-grown Zdd m (family_at a p) i.first i.f_part);
    g_part = rw (values_at-grown Zdd m d.second) (IsPart-grown Zdd m (family_at a q) i.second i.g_part);
    is = i.is ∙ sym (quotient-grown a b m i.first i.second);
  },
)

-- a call's answer and its work, by the operands at its start
pub quotient-lasts : (p q : Edge) (a b c d : View) (e : Edge) → Grown a b → Grown c d → AreTwo Zdd a p q → Denotes Zdd c e (quotient_at b (family_at b p) (family_at b q)) → Denotes Zdd d e (quotient_at a (family_at a p) (family_at a q))
quotient-lasts p q a b c d e before after two is = Denotes-lasts Zdd after (quotient_of-grown a b before p q two) is

pub quotient_work-back : (p q : Edge) (a w : View) (F : Denoted) → Grown a w → AreTwo Zdd a p q → quotient_work p q w F → quotient_work p q a F
quotient_work-back p q a w F m d (r, is, i) = (
  r,
  is,
  record {
    first = i.first;
    second = i.second;
    f_part = IsPart-back Zdd m (family_at a p) i.first (subst (λ f. IsPart Zdd w f i.first) (values_at-grown Zdd m d.first) i.f_part);
    g_part = IsPart-back Zdd m (family_at a q) i.second (subst (λ f. IsPart Zdd w f i.second) (values_at-grown Zdd m d.second) i.g_part);
    is = i.is ∙ quotient-grown a w m i.first i.second;
  },
)
