-- What is asked of the quantifiers, what they answer and what they may store, while a store grows.
use Rattle.std.proofs.Common.{◌≡◌, ℕ, List, inl, inr, get_or, refl, ap, ◌∙◌, subst}
use Rattle.std.specs.List.{All}
use Rattle.edge_bits.specs.declared.edges.Edge.{Edge}
use Rattle.edge_bits.specs.declared.edges.Kind.TheVariants.{Bdd}
use Rattle.function_laws.specs.Values.{exists_all, support}
use Rattle.function_laws.specs.Kinds.{Denoted, BddFunction}
use Rattle.node_store.specs.TwoLaws.{AreTwo-grown}
use Rattle.node_store.specs.ViewLaws.{Denotes-lasts, Is-grown, IsVariable-grown, values_at-grown}
use Rattle.node_store.specs.Views.{View, AreTwo, Denotes, Grown, Is, IsVariable, bdd_at}
use Rattle.node_store.specs.Work.{IsPart}
use Rattle.node_store.specs.WorkLaws.{IsPart-back}
use Rattle.quantify_ops.specs.Quantified.{both_at}
use Rattle.quantify_ops.specs.Works.{HasVariables, HaveVariables, value_of_and_exists, value_of_support, work_of_and_exists, work_of_exists}

pub in_range_lasts : (v w : View) (vars : List ℕ) → Grown v w → All (IsVariable Bdd v) vars → All (IsVariable Bdd w) vars
in_range_lasts v w vars m h k d below = IsVariable-grown Bdd m (get_or vars k d) (h k d below)

pub HasVariables-grown : (f : Edge) (vars : List ℕ) (v w : View) → Grown v w → HasVariables v f vars → HasVariables w f vars
HasVariables-grown f vars v w m d = record { operand = Is-grown Bdd m d.operand; in_range = in_range_lasts v w vars m d.in_range }

pub HaveVariables-grown : (f g : Edge) (vars : List ℕ) (v w : View) → Grown v w → HaveVariables v f g vars → HaveVariables w f g vars
HaveVariables-grown f g vars v w m d = record { operands = AreTwo-grown Bdd m d.operands; in_range = in_range_lasts v w vars m d.in_range }

-- the values, told from an earlier view
pub one_back : (v w : View) (f : Edge) (vars : List ℕ) → Grown v w → Is Bdd v f → exists_all (bdd_at w f) vars ≡ exists_all (bdd_at v f) vars
one_back v w f vars m d = ap (λ h. exists_all h vars) (values_at-grown Bdd m d)

pub both_back : (v w : View) (f g : Edge) (vars : List ℕ) → Grown v w → AreTwo Bdd v f g → exists_all (both_at w f g) vars ≡ exists_all (both_at v f g) vars
both_back v w f g vars m two = rw (values_at-grown Bdd m two.first, values_at-grown Bdd m two.second) refl

pub support_stays : (v w : View) (f : Edge) → Grown v w → Is Bdd v f → support w.vars (bdd_at w f) ≡ support v.vars (bdd_at v f)
support_stays v w f m d = rw (m.vars, values_at-grown Bdd m d) refl

pub exists-lasts : (f : Edge) (vars : List ℕ) (u v w x : View) (e : Edge) → Grown u v → Grown w x → HasVariables u f vars
    → Denotes Bdd w e (exists_all (bdd_at v f) vars) → Denotes Bdd x e (exists_all (bdd_at u f) vars)
exists-lasts f vars u v w x e before after d a = Denotes-lasts Bdd after (one_back u v f vars before d.operand) a

pub and_exists-lasts : (f g : Edge) (vars : List ℕ) (u v w x : View) (e : Edge) → Grown u v → Grown w x → HaveVariables u f g vars
    → Denotes Bdd w e (exists_all (both_at v f g) vars) → Denotes Bdd x e (exists_all (both_at u f g) vars)
and_exists-lasts f g vars u v w x e before after d a = Denotes-lasts Bdd after (both_back u v f g vars before d.operands) a

pub support-lasts : (f : Edge) (u v w x : View) (e : Edge) → Grown u v → Grown w x → Is Bdd u f
    → Denotes Bdd w e (support v.vars (bdd_at v f)) → Denotes Bdd x e (support u.vars (bdd_at u f))
support-lasts f u v w x e before after d a = Denotes-lasts Bdd after (support_stays u v f before d) a

-- what is stored, told from an earlier view
pub work_back : (v w : View) (f g : Edge) (vars : List ℕ) → Grown v w → AreTwo Bdd v f g → (F : Denoted) → value_of_and_exists f g vars w F → value_of_and_exists f g vars v F
work_back v w f g vars m two F (a, b, (part_f, part_g, is)) = (
  a,
  b,
  (
    IsPart-back Bdd m (bdd_at v f) a (subst (λ h. IsPart Bdd w h a) (values_at-grown Bdd m two.first) part_f),
    IsPart-back Bdd m (bdd_at v g) b (subst (λ h. IsPart Bdd w h b) (values_at-grown Bdd m two.second) part_g),
    is,
  ),
)

pub work_of_and_exists-back : (v w : View) (f g : Edge) (vars : List ℕ) → Grown v w → AreTwo Bdd v f g → (F : Denoted) → work_of_and_exists f g vars w F → work_of_and_exists f g vars v F
work_of_and_exists-back v w f g vars m two F (inl value) = inl (work_back v w f g vars m two F value)
work_of_and_exists-back v w f g vars m two F (inr is) = inr is

pub work_of_exists-back : (v w : View) (f : Edge) (vars : List ℕ) → Grown v w → Is Bdd v f → (F : Denoted) → work_of_exists f vars w F → work_of_exists f vars v F
work_of_exists-back v w f vars m d F (inl (a, (part, is))) =
    inl (a, (IsPart-back Bdd m (bdd_at v f) a (subst (λ h. IsPart Bdd w h a) (values_at-grown Bdd m d) part), is))
work_of_exists-back v w f vars m d F (inr is) = inr is

pub value_of_support-back : (v w : View) (f : Edge) → Grown v w → Is Bdd v f → (F : Denoted) → value_of_support f w F → value_of_support f v F
value_of_support-back v w f m d F is = is ∙ ap BddFunction (support_stays v w f m d)
