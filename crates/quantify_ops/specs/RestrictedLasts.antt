-- What is true of tasks of a restriction stays true while a store grows.
use Rattle.std.proofs.Common.{ℕ, Bool, inl, inr, ◌∙◌, ap, sym}
use Rattle.edge_bits.specs.declared.edges.Edge.{Edge}
use Rattle.edge_bits.specs.declared.edges.Kind.TheVariants.{Bdd}
use Rattle.function_laws.specs.Values.{exists_all}
use Rattle.function_laws.specs.Kinds.{Denoted, BddFunction}
use Rattle.node_store.specs.Two.{two_depth}
use Rattle.node_store.specs.TwoLaws.{AreTwo-grown, TwoSplits-stay, two_depth-stays}
use Rattle.node_store.specs.Views.{View, AreTwo, Grown, Is, bdd_at}
use Rattle.node_store.specs.ViewLaws.{Grown-trans, Is-grown, IsVariable-back, IsVariable-grown, Permanent-grown, level-grown, values_at-grown}
use Rattle.node_store.specs.Waiting.{Waiting-stays}
use Rattle.node_store.specs.WorkLaws.{IsPart-grown}
use Rattle.node_store.specs.declared.operator.Frame.{Frame}
use Rattle.node_store.specs.declared.operator.Task.{Task}
use Rattle.quantify_ops.specs.Restricted.{AreFreeAbove, IsPartOfBoth, both_whole, both_opposite, both_cut, both_lifted, Restricted, IsPartRestricted, work_of_restrict, IsCondition, RestrictDue, RestrictAnswers, RestrictParts, RestrictSplits, OnlyWaits, RestrictWaits}

AreFreeAbove-grown : (v w : View) (x : ℕ) (a b : ℕ → Bool) → Grown v w → AreFreeAbove v x a b → AreFreeAbove w x a b
AreFreeAbove-grown v w x a b m free u un lt = free u (IsVariable-back Bdd m u un) (rw (sym (level-grown m u), sym (level-grown m x)) lt)

AreFreeAbove-back : (v w : View) (x : ℕ) (a b : ℕ → Bool) → Grown v w → AreFreeAbove w x a b → AreFreeAbove v x a b
AreFreeAbove-back v w x a b m free u un lt = free u (IsVariable-grown Bdd m u un) (rw (level-grown m u, level-grown m x) lt)

pub IsPartOfBoth-grown : (v w : View) (f c a b : ℕ → Bool) → Grown v w → IsPartOfBoth v f c a b → IsPartOfBoth w f c a b
IsPartOfBoth-grown v w f c _ _ m both_whole = both_whole
IsPartOfBoth-grown v w f c _ _ m (both_opposite a b p) = both_opposite a b (IsPartOfBoth-grown v w f c a b m p)
IsPartOfBoth-grown v w f c _ _ m (both_cut a b x bit xn above p) = both_cut a b x bit (IsVariable-grown Bdd m x xn) (AreFreeAbove-grown v w x a b m above) (IsPartOfBoth-grown v w f c a b m p)
IsPartOfBoth-grown v w f c _ _ m (both_lifted a b x xn above free p) = both_lifted a b x (IsVariable-grown Bdd m x xn) (AreFreeAbove-grown v w x a b m above) free (IsPartOfBoth-grown v w f c a b m p)

pub IsPartOfBoth-back : (v w : View) (f c a b : ℕ → Bool) → Grown v w → IsPartOfBoth w f c a b → IsPartOfBoth v f c a b
IsPartOfBoth-back v w f c _ _ m both_whole = both_whole
IsPartOfBoth-back v w f c _ _ m (both_opposite a b p) = both_opposite a b (IsPartOfBoth-back v w f c a b m p)
IsPartOfBoth-back v w f c _ _ m (both_cut a b x bit xn above p) = both_cut a b x bit (IsVariable-back Bdd m x xn) (AreFreeAbove-back v w x a b m above) (IsPartOfBoth-back v w f c a b m p)
IsPartOfBoth-back v w f c _ _ m (both_lifted a b x xn above free p) = both_lifted a b x (IsVariable-back Bdd m x xn) (AreFreeAbove-back v w x a b m above) free (IsPartOfBoth-back v w f c a b m p)

pub IsPartRestricted-stays : (f c : Edge) (v w : View) (F : Denoted) → Grown v w → AreTwo Bdd v f c → IsPartRestricted f c v F → IsPartRestricted f c w F
IsPartRestricted-stays f c v w F m d i = record {
  a = i.a;
  b = i.b;
  r = i.r;
  parts = rw (values_at-grown Bdd m d.first, values_at-grown Bdd m d.second) (IsPartOfBoth-grown v w (bdd_at v f) (bdd_at v c) i.a i.b m i.parts);
  restriction = i.restriction;
  is = i.is;
}

pub work_of_restrict-stays : (f c : Edge) (v w : View) (F : Denoted) → Grown v w → AreTwo Bdd v f c → work_of_restrict f c v F → work_of_restrict f c w F
work_of_restrict-stays f c v w F m d (inl i) = inl (IsPartRestricted-stays f c v w F m d i)
work_of_restrict-stays f c v w F m d (inr (vars, is)) = inr (vars, is ∙ ap (λ g. BddFunction (exists_all g vars)) (sym (values_at-grown Bdd m d.second)))

pub IsCondition-grown : (c : Edge) (v w : View) (d : Edge) → Grown v w → Is Bdd v c → IsCondition c v d → IsCondition c w d
IsCondition-grown c v w d m root i = record {
  edge = Is-grown Bdd m i.edge;
  somewhere = rw (values_at-grown Bdd m i.edge) i.somewhere;
  vars = i.vars;
  part = rw (values_at-grown Bdd m root, values_at-grown Bdd m i.edge) (IsPart-grown Bdd m (exists_all (bdd_at v c) i.vars) (bdd_at v d) i.part);
}

pub RestrictDue-stays : (f c : Edge) (v w : View) (t : Task) → Grown v w → RestrictDue f c v t → RestrictDue f c w t
RestrictDue-stays f c v w t m d = record {
  permanent = Permanent-grown m d.permanent;
  roots = AreTwo-grown Bdd m d.roots;
  edge = Is-grown Bdd m d.edge;
  condition = IsCondition-grown c v w t.g m d.roots.second d.condition;
  parts = rw (values_at-grown Bdd m d.roots.first, values_at-grown Bdd m d.roots.second, values_at-grown Bdd m d.edge, values_at-grown Bdd m d.condition.edge)
      (IsPartOfBoth-grown v w (bdd_at v f) (bdd_at v c) (bdd_at v t.f) (bdd_at v t.g) m d.parts);
}

pub RestrictAnswers-stay : (v w : View) (t : Task) (e : Edge) → Grown v w → AreTwo Bdd v t.f t.g → RestrictAnswers v t e → RestrictAnswers w t e
RestrictAnswers-stay v w t e m d a = record {
  answer = Is-grown Bdd m a.answer;
  restriction = rw (values_at-grown Bdd m d.first, values_at-grown Bdd m d.second, values_at-grown Bdd m a.answer) a.restriction;
}

-- the operands of a task
pub operands : (f c : Edge) (w : View) (t : Task) → RestrictDue f c w t → AreTwo Bdd w t.f t.g
operands f c w t d = record { first = d.edge; second = d.condition.edge }

pub RestrictParts-stay : (v w : View) (t : Task) (x : ℕ) (a b : Task) → Grown v w → AreTwo Bdd v t.f t.g → RestrictParts v t x a b → RestrictParts w t x a b
RestrictParts-stay v w t x a b m d s = record {
  two = TwoSplits-stay Bdd v w t x a b m d s.two;
  apart = rw (values_at-grown Bdd m s.two.f.hi_is, values_at-grown Bdd m s.two.f.lo_is) s.apart;
}

pub RestrictSplits-stay : (v w : View) (t : Task) (x : ℕ) (a b : Task) → Grown v w → AreTwo Bdd v t.f t.g → RestrictSplits v t x a b → RestrictSplits w t x a b
RestrictSplits-stay v w t x a b m d s = record {
  parts = RestrictParts-stay v w t x a b m d s.parts;
  hi_somewhere = rw (values_at-grown Bdd m s.parts.two.g.hi_is) s.hi_somewhere;
  lo_somewhere = rw (values_at-grown Bdd m s.parts.two.g.lo_is) s.lo_somewhere;
}

pub OnlyWaits-stay : (f c : Edge) (v w : View) (t : Task) (frame : Frame) (u : Task) → Grown v w → OnlyWaits f c v t frame u → OnlyWaits f c w t frame u
OnlyWaits-stay f c v w t frame u m q = record {
  only = q.only;
  due = RestrictDue-stays f c v w frame.task m q.due;
  leads = record { gives = λ x e late a. q.leads.gives x e (Grown-trans m late) a; over = λ x late bad. bad };
  passes = record { gives = λ x e late a. q.passes.gives x e (Grown-trans m late) a; over = λ x late bad. bad };
}

pub RestrictWaits-stay : (f c : Edge) (v w : View) (t : Task) (frame : Frame) (u : Task) → Grown v w → RestrictDue f c v t → RestrictWaits f c v t frame u → RestrictWaits f c w t frame u
RestrictWaits-stay f c v w t frame u m d (inl q) = inl (OnlyWaits-stay f c v w t frame u m q)
RestrictWaits-stay f c v w t frame u m d (inr q) = inr (Waiting-stays (RestrictDue f c) RestrictAnswers (λ w t. ⊥) RestrictSplits (two_depth Bdd) (RestrictDue-stays f c)
    (λ v w t e m d. RestrictAnswers-stay v w t e m (operands f c v t d)) (λ v w t x a b m d. RestrictSplits-stay v w t x a b m (operands f c v t d))
    (λ v w t m d. two_depth-stays Bdd v w t m (operands f c v t d)) v w t frame u m d q)

-- what it stores, told from an earlier view
pub work_of_restrict-back : (v w : View) (f c : Edge) → Grown v w → AreTwo Bdd v f c → (F : Denoted) → work_of_restrict f c w F → work_of_restrict f c v F
work_of_restrict-back v w f c m d F (inl i) = inl (record {
  a = i.a;
  b = i.b;
  r = i.r;
  parts = IsPartOfBoth-back v w (bdd_at v f) (bdd_at v c) i.a i.b m (rw (values_at-grown Bdd m d.first, values_at-grown Bdd m d.second) at i.parts);
  restriction = i.restriction;
  is = i.is;
})
work_of_restrict-back v w f c m d F (inr (vars, is)) = inr (vars, is ∙ ap (λ g. BddFunction (exists_all g vars)) (values_at-grown Bdd m d.second))

-- a call's answer, by the operands at its start
pub Restricted-lasts : (f c : Edge) (u v w x : View) (e : Edge) → Grown u v → Grown w x → AreTwo Bdd u f c → Restricted v w f c e → Restricted u x f c e
Restricted-lasts f c u v w x e m n two is = record {
  answer = Is-grown Bdd n is.answer;
  restricts = rw (sym m.vars, sym (values_at-grown Bdd m two.first), sym (values_at-grown Bdd m two.second), values_at-grown Bdd n is.answer) is.restricts;
  restriction = rw (sym (values_at-grown Bdd m two.first), sym (values_at-grown Bdd m two.second), values_at-grown Bdd n is.answer) is.restriction;
}
