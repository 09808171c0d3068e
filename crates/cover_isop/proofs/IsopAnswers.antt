-- Morreale's answers that need no further call, and those that are kept.
use Rattle.std.proofs.Common.{◌≡◌, ℕ, ◌^◌, ◌<◌, Bool, true, false, refl, sym, ap, ◌∙◌, subst, arith}
use Rattle.edge_bits.specs.Permanent.{truth_edge}
use Rattle.edge_bits.specs.declared.edges.Edge.{Edge}
use Rattle.edge_bits.specs.declared.edges.Kind.TheVariants.{Bdd}
use Rattle.computed_cache.specs.declared.Key.{Key}
use Rattle.function_laws.specs.Families.{base, empty}
use Rattle.function_laws.specs.MorrealeCalls.{Interval, holds_everywhere, holds_nowhere}
use Rattle.function_laws.specs.Values.{constant}
use Rattle.function_laws.proofs.ListLemmas.{all_below-true}
use Rattle.node_store.specs.Memo.{FamilyHolds, MemoHolds}
use Rattle.node_store.specs.Operands.{IsOperand}
use Rattle.node_store.specs.Views.{View, AreTwo, IsKey, Permanent, bdd_at}
use Rattle.node_store.specs.ViewLaws.{Denotes-truth, values_at-is}
use Rattle.node_store.specs.declared.operator.Task.{Task}
use Rattle.node_store.specs.declared.parts.Operand.{Operand}
use Rattle.cover_isop.specs.Isops.{MorrealeAnswers, MorrealeDue, Shows, bounds_at, cover_in, morreale_depth, morreale_key, number_of, order_in}
use Rattle.cover_isop.proofs.EdgeSteps.{some-is}
use Rattle.cover_isop.proofs.MorrealeLaws.{everywhere-base, nowhere-empty}

truth-is : (w : View) (e : Edge) (b : Bool) → Permanent w → e ≡ truth_edge b → bdd_at w e ≡ constant b
truth-is w e b p is = ap (bdd_at w) is ∙ values_at-is Bdd (Denotes-truth w p b)

pub Nothing-is : (w : View) (t : Task) → Permanent w → t.f ≡ truth_edge false → cover_in w (bounds_at w t.f t.g) ≡ empty
Nothing-is w t p is = nowhere-empty w.vars w.elements (order_in w) (bounds_at w t.f t.g)
    (ap (holds_nowhere w.vars) (truth-is w t.f false p is) ∙ all_below-true (2 ^ w.vars) (λ k. true) (λ k below. refl))

pub Everything-is : (w : View) (t : Task) (o : Operand) → Permanent w → IsOperand Bdd w o → o.edge ≡ t.f → (t.f ≡ truth_edge false → ⊥) → t.g ≡ truth_edge true → cover_in w (bounds_at w t.f t.g) ≡ base
Everything-is w t o p d same some is = everywhere-base w.vars w.elements (order_in w) (bounds_at w t.f t.g)
    (subst (λ (e : Edge). holds_nowhere w.vars (bdd_at w e) ≡ false) same (some-is w o.edge o.opened d.is d.opens (λ bad. some (sym same ∙ bad))))
    (ap (holds_everywhere w.vars) (truth-is w t.g true p is) ∙ all_below-true (2 ^ w.vars) (λ k. true) (λ k below. refl))

pub Shown : (family : Bool) (w : View) (t : Task) (p : ℕ → Bool) (e : Edge) → cover_in w (bounds_at w t.f t.g) ≡ p → Shows family w p e → MorrealeAnswers family w t e
Shown family w t p e is shows = subst (λ q. Shows family w q e) (sym is) shows

-- the memo
pub Isop-key : (family : Bool) (w : View) (f g : Edge) → AreTwo Bdd w f g → IsKey w (morreale_key family f g)
Isop-key true w f g d = record { least = omega arith; most = omega arith; f = (Bdd, d.first); g = (Bdd, d.second); h = (Bdd, d.first) }
Isop-key false w f g d = record { least = omega arith; most = omega arith; f = (Bdd, d.first); g = (Bdd, d.second); h = (Bdd, d.first) }

pub Isop-hit : (family : Bool) (w : View) (f g e : Edge) → MemoHolds w (morreale_key family f g) e → Shows family w (cover_in w (bounds_at w f g)) e
unfolding FamilyHolds
Isop-hit true w f g e h = h.answer
Isop-hit false w f g e h = h.answer

pub Isop-kept : (family : Bool) (w : View) (f g e : Edge) → AreTwo Bdd w f g → Shows family w (cover_in w (bounds_at w f g)) e → MemoHolds w (morreale_key family f g) e
unfolding FamilyHolds
Isop-kept true w f g e d is = record { lower = d.first; upper = d.second; answer = is }
Isop-kept false w f g e d is = record { lower = d.first; upper = d.second; answer = is }

-- a key by the number that a sort of answers has
pub key-is : (family : Bool) (op : ℕ) (f g : Edge) (key : Key) → key ≡ record { op = op; f = f; g = g; h = f } → op ≡ number_of family → key ≡ morreale_key family f g
key-is family op f g key is same = is ∙ ap (λ n. record { op = n; f = f; g = g; h = f }) same

-- a further call's answer, and a frame that stands for the task that was made into it
pub Shown-as : (family : Bool) (w : View) (b : Interval) (c : Task) (e : Edge) → bounds_at w c.f c.g ≡ b → MorrealeAnswers family w c e → Shows family w (cover_in w b) e
Shown-as family w b c e is shows = subst (λ (a : Interval). Shows family w (cover_in w a) e) is shows

pub Isop-due-as : (l u : Edge) (w : View) (t root : Task) → t ≡ root → MorrealeDue l u w root → MorrealeDue l u w t
Isop-due-as l u w t root same d = subst (MorrealeDue l u w) (sym same) d

pub Isop-less-as : (w : View) (t root c : Task) → t ≡ root → morreale_depth w c < morreale_depth w t → morreale_depth w c < morreale_depth w root
Isop-less-as w t root c same less = subst (λ (x : Task). morreale_depth w c < morreale_depth w x) same less
