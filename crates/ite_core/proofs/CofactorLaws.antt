-- Cofactors by a variable, step by step.
use Rattle.std.proofs.Common.{◌≡◌, ◌≢◌, ℕ, ◌<◌, Bool, true, false, not, cond, ℤ, Some, ◌⊎◌, inl, inr, refl, ap, sym, ◌∙◌, subst, arith}
use Rattle.edge_bits.specs.declared.edges.Edge.{Edge}
use Rattle.edge_bits.specs.declared.edges.Kind.TheVariants.{Bdd}
use Rattle.function_laws.specs.Values.{cofactor, choice, projection, IsFree}
use Rattle.function_laws.proofs.ValueLemmas.{cofactor-free, cofactor-choice_other}
use Rattle.function_laws.proofs.ComposeLemmas.{IsFree-cofactor_any}
use Rattle.node_store.specs.Edges.{flip_if}
use Rattle.function_laws.specs.Kinds.{BddFunction}
use Rattle.node_store.specs.KindLaws.{part-joined}
use Rattle.node_store.specs.Views.{View, Denotes, Is, IsBelow, IsVariable, Grown, Splits, CanMake, IsInner, IsLeaf, IsKey, bdd_at, node_values}
use Rattle.node_store.specs.ViewLaws.{Grown-trans, Denotes-flip, Is-grown, Is-from, IsBelow-inner, IsVariable-grown, Splits-grown, level-grown, top-grown, values_at-grown, values_at-is}
use Rattle.node_store.specs.declared.numbers.TheConstants as numbers
use Rattle.node_store.specs.Memo.{CofactorHolds, literal}
use Rattle.node_store.specs.Splits.{Branches}
use Rattle.node_store.specs.Three.{IsFlipped, IsPartOrComplement}
use Rattle.node_store.specs.ThreeLaws.{IsPartOrComplement-grown}
use Rattle.node_store.specs.Work.{IsWork, Moves}
use Rattle.node_store.specs.WorkLaws.{IsWork-edge, IsWork-due}
use Rattle.node_store.specs.declared.binary.Branch.{Branch}
use Rattle.node_store.specs.declared.operator.Task.{Task}
use Rattle.node_store.proofs.Literals.{same_literal}
use Rattle.node_store.proofs.ThreeParts.{IsFlipped-answer, IsFlipped-part, IsPartOrComplement-half}
use Rattle.node_store.proofs.ThreeWork.{part_of_either}
use Rattle.node_store.proofs.TwoParts.{Lacks-leaf}
use Rattle.ite_core.specs.Cofactors.{cofactor_at, HasCofactor, value_of_cofactor, CofactorDue, CofactorAnswers, CofactorSplits, one_depth, SplitsAbove}
use Rattle.ite_core.specs.CofactorLasts.{cofactor_at-grown, CofactorDue-stays}

-- what opening the function tells
pub found_free : (w : View) (f : Edge) (x : ℕ) (b : Bool) → Is Bdd w f → IsFree (bdd_at w f) x → Denotes Bdd w f (cofactor_at w f x b)
found_free w f x b d free = subst (λ g. Denotes Bdd w f g) (sym (cofactor-free (bdd_at w f) x b free)) d

pub found_leaf : (v w : View) (f : Edge) (x : ℕ) (b : Bool) (z : ℤ) → Grown v w → Is Bdd v f → IsLeaf Bdd w f (bdd_at v f) z → Denotes Bdd w f (cofactor_at w f x b)
found_leaf v w f x b z m d i = found_free w f x b (Is-grown Bdd m d) (subst (λ g. IsFree g x) (sym (values_at-grown Bdd m d)) (Lacks-leaf Bdd f (bdd_at v f) z i.leaf x))

found_own : (v w : View) (f : Edge) (x top : ℕ) (b : Bool) (hi lo : Edge) → Grown v w → Is Bdd v f → top ≡ x → IsInner Bdd w f (bdd_at v f) top hi lo → cofactor_at w f x b ≡ cond b (bdd_at w hi) (bdd_at w lo)
found_own v w f x top b hi lo m d same i =
    let j = subst (λ y. IsInner Bdd w f (bdd_at v f) y hi lo) same i in
    ap (λ g. cofactor g x b) (values_at-grown Bdd m d ∙ j.splits.is)
    ∙ part-joined Bdd x (bdd_at w hi) (bdd_at w lo) b (j.splits.hi_below x j.in_range (omega arith)) (j.splits.lo_below x j.in_range (omega arith))

pub found_hi : (v w : View) (f : Edge) (x top : ℕ) (b : Bool) (hi lo : Edge) → Grown v w → Is Bdd v f → top ≡ x → b ≡ true → IsInner Bdd w f (bdd_at v f) top hi lo → Denotes Bdd w hi (cofactor_at w f x b)
found_hi v w f x top b hi lo m d same bit i = rw (found_own v w f x top b hi lo m d same i, bit) i.splits.hi_is

pub found_lo : (v w : View) (f : Edge) (x top : ℕ) (b : Bool) (hi lo : Edge) → Grown v w → Is Bdd v f → top ≡ x → b ≡ false → IsInner Bdd w f (bdd_at v f) top hi lo → Denotes Bdd w lo (cofactor_at w f x b)
found_lo v w f x top b hi lo m d same bit i = rw (found_own v w f x top b hi lo m d same i, bit) i.splits.lo_is

-- the variable stands above the top
pub found_above : (v w y : View) (f : Edge) (x top : ℕ) (b : Bool) (hi lo : Edge) → Grown v w → Grown w y → Is Bdd v f → IsVariable Bdd v x → IsInner Bdd w f (bdd_at v f) top hi lo → w.level x < w.level top
    → Denotes Bdd y f (cofactor_at y f x b)
found_above v w y f x top b hi lo m n d vn i lt =
    let all = Grown-trans m n in
    found_free y f x b (Is-grown Bdd all d) (subst (λ g. IsFree g x) (sym (values_at-grown Bdd all d)) (IsBelow-inner Bdd x i lt x (IsVariable-grown Bdd m x vn) (omega arith)))

pub SplitsAbove-from : (v w y : View) (f : Edge) (x top : ℕ) (hi lo : Edge) → Grown v w → Grown w y → Is Bdd v f → IsInner Bdd w f (bdd_at v f) top hi lo → (top ≡ x → ⊥) → SplitsAbove y f x top hi lo
SplitsAbove-from v w y f x top hi lo m n d i ne =
    let tf = top-grown Bdd n (Is-grown Bdd m d) in let th = top-grown Bdd n i.splits.hi_is in let tl = top-grown Bdd n i.splits.lo_is in
    let l = level-grown n top in let vars = n.vars in
    let here = i.here in let within = i.within in let a = i.hi_top in let b = i.lo_top in
    record {
      in_range = IsVariable-grown Bdd n top i.in_range;
      apart = ne;
      splits = rw (values_at-grown Bdd (Grown-trans m n) d) (Splits-grown Bdd n i.splits);
      here = omega arith;
      within = omega arith;
      hi_top = omega arith;
      lo_top = omega arith;
    }

SplitsAbove-grown : {v w : View} (f : Edge) (y x : ℕ) (hi lo : Edge) → Grown v w → Is Bdd v f → SplitsAbove v f y x hi lo → SplitsAbove w f y x hi lo
SplitsAbove-grown f y x hi lo n d i =
    let tf = top-grown Bdd n d in let th = top-grown Bdd n i.splits.hi_is in let tl = top-grown Bdd n i.splits.lo_is in
    let l = level-grown n x in let vars = n.vars in
    let here = i.here in let within = i.within in let a = i.hi_top in let b = i.lo_top in
    record {
      in_range = IsVariable-grown Bdd n x i.in_range;
      apart = i.apart;
      splits = rw (values_at-grown Bdd n d) (Splits-grown Bdd n i.splits);
      here = omega arith;
      within = omega arith;
      hi_top = omega arith;
      lo_top = omega arith;
    }

-- the regular edge to a function's slot
pub regular_is : (w : View) (e r : Edge) → r ≡ record { index = e.index; complement = false } → Is Bdd w e → Is Bdd w r
regular_is w e r same d = rw same (by_complement e.index e.complement d)
  where
    by_complement : (i : ℕ) (c : Bool) → Is Bdd w (record { index = i; complement = c }) → Is Bdd w (record { index = i; complement = false })
    by_complement i true d = Is-from Bdd (Denotes-flip d)
    by_complement i false d = d

pub regular_flipped : (w : View) (e r : Edge) → r ≡ record { index = e.index; complement = false } → Is Bdd w e → IsFlipped Bdd e.complement (bdd_at w e) (bdd_at w r)
regular_flipped w e r same d = rw same (by_complement e.index e.complement d)
  where
    by_complement : (i : ℕ) (c : Bool) → Is Bdd w (record { index = i; complement = c }) → IsFlipped Bdd c (bdd_at w (record { index = i; complement = c })) (bdd_at w (record { index = i; complement = false }))
    by_complement i true d = values_at-is Bdd (Denotes-flip d)
    by_complement i false d = refl

flipped_cofactor : (c : Bool) (f g : ℕ → Bool) (x : ℕ) (b : Bool) → IsFlipped Bdd c f g → IsFlipped Bdd c (cofactor f x b) (cofactor g x b)
flipped_cofactor true f g x b is = ap (λ h. cofactor h x b) is
flipped_cofactor false f g x b is = ap (λ h. cofactor h x b) is

regular_cofactor : (w : View) (e r : Edge) (x : ℕ) (b : Bool) → r ≡ record { index = e.index; complement = false } → Is Bdd w e → IsFlipped Bdd e.complement (cofactor_at w e x b) (cofactor_at w r x b)
regular_cofactor w e r x b same d = flipped_cofactor e.complement (bdd_at w e) (bdd_at w r) x b (regular_flipped w e r same d)

-- an answer for the regular edge
pub regular_answer : (w : View) (f r e : Edge) (x : ℕ) (b : Bool) → r ≡ record { index = f.index; complement = false } → Is Bdd w f → Denotes Bdd w e (cofactor_at w r x b) → Denotes Bdd w (flip_if f.complement e) (cofactor_at w f x b)
regular_answer w f r e x b same d a = IsFlipped-answer Bdd f.complement w e (cofactor_at w f x b) (cofactor_at w r x b) (regular_cofactor w f r x b same d) a

-- the key
pub IsKey-literal : (w : View) (f l : Edge) (v : ℕ) (b : Bool) → Denotes Bdd w l (literal v b) → Is Bdd w f → IsKey w (record { op = numbers.COFACTOR; f = f; g = l; h = f })
IsKey-literal w f l v b is d = record { least = omega arith; most = omega arith; f = (Bdd, d); g = (Bdd, Is-from Bdd is); h = (Bdd, d) }

-- the literal from the projection
pub literal_from : (w : View) (v : ℕ) (b c : Bool) (p e : Edge) → Denotes Bdd w p (projection v) → c ≡ not b → e ≡ flip_if c p → Denotes Bdd w e (literal v b)
literal_from w v b c p e is flip same = rw (same, flip) (by_bit b)
  where
    by_bit : (b : Bool) → Denotes Bdd w (flip_if (not b) p) (literal v b)
    by_bit true = is
    by_bit false = Denotes-flip is

-- what stands under the key
pub Cofactor-hit : (w : View) (f l : Edge) (v : ℕ) (b : Bool) (e : Edge) → Denotes Bdd w l (literal v b) → CofactorHolds w (record { op = numbers.COFACTOR; f = f; g = l; h = f }) e → Denotes Bdd w e (cofactor_at w f v b)
Cofactor-hit w f l v b e is h =
    let both : literal h.variable h.bit ≡ literal v b = sym (values_at-is Bdd h.literal) ∙ values_at-is Bdd is in
    let named = same_literal h.variable v h.bit b both in
    subst (λ c. Denotes Bdd w e (cofactor_at w f v c)) named.1 (subst (λ x. Denotes Bdd w e (cofactor_at w f x h.bit)) named.0 h.answer)

-- the two parts
below_cofactor : (w : View) (x : ℕ) (f : ℕ → Bool) (v : ℕ) (b : Bool) → IsBelow Bdd w x f → IsBelow Bdd w x (cofactor f v b)
below_cofactor w x f v b below u un le = IsFree-cofactor_any f u v b (below u un le)

Cofactor-is : (w : View) (t hi lo : Edge) (x v : ℕ) (b : Bool) → x ≢ v → Splits Bdd w x (bdd_at w t) hi lo → cofactor_at w t v b ≡ choice x (cofactor_at w hi v b) (cofactor_at w lo v b)
Cofactor-is w t hi lo x v b apart s = ap (λ g. cofactor g v b) s.is ∙ cofactor-choice_other (bdd_at w hi) (bdd_at w lo) x v b apart

half : (w : View) (f : Edge) (v : ℕ) (b : Bool) (l : Edge) (t hi lo : Task) (x : ℕ) (which : Bool) → CofactorDue f v b l w t → CofactorSplits v w t x hi lo
    → IsPartOrComplement Bdd w (cofactor_at w f v b) (cond which (cofactor_at w hi.f v b) (cofactor_at w lo.f v b))
half w f v b l t hi lo x which d s =
    IsPartOrComplement-half Bdd w x (cofactor_at w f v b) (cofactor_at w t.f v b) (cofactor_at w hi.f v b) (cofactor_at w lo.f v b) which s.in_range
    (Cofactor-is w t.f hi.f lo.f x v b s.apart s.splits) (below_cofactor w x (bdd_at w hi.f) v b s.splits.hi_below) (below_cofactor w x (bdd_at w lo.f) v b s.splits.lo_below) d.part

-- from the view where the task was asked to the last one
pub Cofactor-branches : (f : Edge) (v : ℕ) (b : Bool) (l : Edge) (w0 w1 w : View) (root : Task) (r hi lo : Edge) (x : ℕ) (br : Branch) → CofactorDue f v b l w0 root → Grown w0 w1 → Grown w1 w
    → r ≡ record { index = root.f.index; complement = false } → SplitsAbove w1 r v x hi lo
    → br.task.f ≡ r → br.flip ≡ root.f.complement → br.var ≡ x → br.hi.f ≡ hi → br.lo.f ≡ lo
    → Branches (CofactorDue f v b l) (CofactorAnswers v b) (λ x t. ⊥) (CofactorSplits v) one_depth w root br
Cofactor-branches f v b l w0 w1 w root r hi lo x br due0 m0 m1 regular above1 st sf sv sh sl =
    let m = Grown-trans m0 m1 in
    let due = CofactorDue-stays f v b l w0 w root m due0 in
    let is_r = regular_is w root.f r regular due.edge in
    let above = SplitsAbove-grown r v x hi lo m1 (regular_is w1 root.f r regular (Is-grown Bdd m0 due0.edge)) above1 in
    let flipped = regular_cofactor w root.f r v b regular due.edge in
    let due2 : CofactorDue f v b l w br.task = record {
      literal = due.literal;
      permanent = due.permanent;
      root = due.root;
      edge = rw st is_r;
      part = rw st (IsFlipped-part Bdd root.f.complement w (cofactor_at w f v b) (cofactor_at w root.f v b) (cofactor_at w r v b) flipped due.part);
    } in
    let splits : CofactorSplits v w br.task br.var br.hi br.lo = record { in_range = rw sv above.in_range; apart = rw sv above.apart; splits = rw (st, sv, sh, sl) above.splits } in
    let index : r.index ≡ root.f.index = ap (λ e. e.index) regular in
    let top : w.top root.f.index ≡ w.level x = rw (sym index) above.here in
    let hi_top : w.level x < w.top br.hi.f.index = rw sh above.hi_top in
    let lo_top : w.level x < w.top br.lo.f.index = rw sl above.lo_top in
    let within = above.within in
    record {
      due = due2;
      leads = record {
        gives = λ y e late a. rw sf (regular_answer y root.f r e v b regular (Is-grown Bdd late due.edge) (subst (λ z. Denotes Bdd y e (cofactor_at y z v b)) st a));
        over = λ y late bad. bad;
      };
      splits = splits;
      hi_due = record { literal = due.literal; permanent = due.permanent; root = due.root; edge = splits.splits.hi_is; part = half w f v b l br.task br.hi br.lo br.var true due2 splits };
      lo_due = record { literal = due.literal; permanent = due.permanent; root = due.root; edge = splits.splits.lo_is; part = half w f v b l br.task br.hi br.lo br.var false due2 splits };
      hi_less = omega arith;
      lo_less = omega arith;
    }

-- the node of both answers
pub Cofactor-can_make : (v : ℕ) (b : Bool) {w : View} {t hi lo : Task} {x : ℕ} {e0 e1 : Edge} → CofactorSplits v w t x hi lo → CofactorAnswers v b w hi e0 → CofactorAnswers v b w lo e1 → CanMake Bdd w x e0 e1
Cofactor-can_make v b {w} {t} {hi} {lo} {x} s a0 a1 = record {
  in_range = s.in_range;
  hi_is = Is-from Bdd a0;
  lo_is = Is-from Bdd a1;
  hi_below = rw (values_at-is Bdd a0) (below_cofactor w x (bdd_at w hi.f) v b s.splits.hi_below);
  lo_below = rw (values_at-is Bdd a1) (below_cofactor w x (bdd_at w lo.f) v b s.splits.lo_below);
}

pub Cofactor-node : (v : ℕ) (b : Bool) {w : View} {t hi lo : Task} {x : ℕ} {e0 e1 : Edge} → CofactorSplits v w t x hi lo → CofactorAnswers v b w hi e0 → CofactorAnswers v b w lo e1
    → node_values Bdd w x e0 e1 ≡ cofactor_at w t.f v b
Cofactor-node v b {w} {t} {hi} {lo} {x} s a0 a1 = rw (values_at-is Bdd a0, values_at-is Bdd a1) (sym (Cofactor-is w t.f hi.f lo.f x v b s.apart s.splits))

pub Cofactor-joined : (v : ℕ) (b : Bool) {w y : View} {t hi lo : Task} {x : ℕ} {e0 e1 e : Edge} → Is Bdd w t.f → CofactorSplits v w t x hi lo → CofactorAnswers v b w hi e0 → CofactorAnswers v b w lo e1
    → Grown w y → Denotes Bdd y e (node_values Bdd w x e0 e1) → CofactorAnswers v b y t e
Cofactor-joined v b {w} {y} {t} {hi} {lo} {x} {e0} {e1} {e} d s a0 a1 m is = rw (cofactor_at-grown v b m d, sym (Cofactor-node v b s a0 a1)) is

module _ (f : Edge) (v : ℕ) (b : Bool) (l : Edge) where
  later : (u w : View) (t : Task) → CofactorDue f v b l u t → Grown u w → IsPartOrComplement Bdd w (cofactor_at w f v b) (cofactor_at u t.f v b)
  later u w t d m = rw (cofactor_at-grown v b m d.root.edge) (IsPartOrComplement-grown Bdd (cofactor_at u f v b) (cofactor_at u t.f v b) m d.part)

  -- a task's value was stored, or due
  pub Cofactor-moved : (u w : View) (t : Task) (e : Edge) → CofactorDue f v b l u t → Grown u w → ((s : ℕ) → w.made s ≡ true → (u.made s ≡ true) ⊎ (e.index ≡ s))
      → Denotes Bdd w e (cofactor_at u t.f v b) → Moves (λ w. HasCofactor w f v) (value_of_cofactor f v b) u w
  Cofactor-moved u w t e d m made is = record {
    grown = m;
    work = λ roots s here. elim (made s here) [
      | inl old ↦ inl old
      | inr same ↦ inr (subst (λ x. IsWork w (value_of_cofactor f v b w) (w.content x)) same
          (part_of_either Bdd w (cofactor_at w f v b) (cofactor_at u t.f v b) (w.content e.index)
          (λ r p. IsWork-edge Bdd w (λ F. F ≡ BddFunction r) e r (cofactor_at u t.f v b) refl p is) (later u w t d m)))
    ];
  }

  pub Cofactor-refused : (u w : View) (t : Task) → CofactorDue f v b l u t → Grown u w → w.due ≡ Some (BddFunction (cofactor_at u t.f v b)) → IsWork w (value_of_cofactor f v b w) w.due
  Cofactor-refused u w t d m is = part_of_either Bdd w (cofactor_at w f v b) (cofactor_at u t.f v b) w.due
      (λ r p. IsWork-due Bdd w (λ F. F ≡ BddFunction r) r (cofactor_at u t.f v b) refl p is) (later u w t d m)
