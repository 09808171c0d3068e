-- Composition by a variable, step by step.
use Rattle.std.proofs.Common.{◌≡◌, ◌≢◌, ℕ, ◌<◌, ◌≤◌, Bool, true, false, cond, ℤ, Option, Some, ◌⊎◌, inl, inr, refl, ap, sym, ◌∙◌, subst, arith}
use Rattle.edge_bits.specs.declared.edges.Edge.{Edge}
use Rattle.edge_bits.specs.declared.edges.Kind.TheVariants.{Bdd}
use Rattle.function_laws.specs.Values.{IsFree, choice, cofactor, composed, if_then_else, projection}
use Rattle.function_laws.proofs.ComposeLemmas.{composed-choice, composed-free, composed-own, IsFree-composed}
use Rattle.function_laws.proofs.ValueLemmas.{cofactor-choice_false, cofactor-choice_true, cofactor-free, IsFree-choice_other}
use Rattle.node_store.specs.Edges.{flip_if}
use Rattle.function_laws.specs.Kinds.{Denoted, BddFunction}
use Rattle.node_store.specs.Memo.{ComposeHolds}
use Rattle.node_store.specs.declared.numbers.TheConstants as numbers
use Rattle.node_store.specs.Splits.{Branches}
use Rattle.node_store.specs.Three.{AreThree, IsFlipped, IsPartOrComplement, value_of_three}
use Rattle.node_store.specs.ThreeLaws.{IsPartOrComplement-grown}
use Rattle.node_store.specs.Two.{TwoSplits, two_depth}
use Rattle.node_store.specs.TwoLaws.{AreTwo-grown}
use Rattle.node_store.specs.Views.{View, AreTwo, CanMake, Denotes, Grown, Is, IsBelow, IsInner, IsKey, IsLeaf, IsVariable, Splits, bdd_at, node_values, NotBothLeaves}
use Rattle.node_store.specs.ViewLaws.{Grown-trans, Denotes-flip, Is-from, Is-grown, IsBelow-inner, IsVariable-grown, Splits-grown, level-grown, top-grown, values_at-grown, values_at-is}
use Rattle.node_store.specs.Work.{whole, IsWork, Adds, Moves}
use Rattle.node_store.specs.WorkLaws.{IsWork-due, IsWork-edge}
use Rattle.node_store.specs.declared.binary.Branch.{Branch}
use Rattle.node_store.specs.declared.operator.Task.{Task}
use Rattle.node_store.specs.declared.parts.Halves.{Halves}
use Rattle.node_store.proofs.ThreeParts.{IsFlipped-answer, IsFlipped-part, IsPartOrComplement-half}
use Rattle.node_store.proofs.Literals.{same_variable}
use Rattle.node_store.proofs.ThreeWork.{part_of_either}
use Rattle.node_store.proofs.TwoParts.{Lacks-leaf}
use Rattle.ite_core.proofs.CofactorLaws.{regular_is}
use Rattle.ite_core.proofs.ImplicationLaws.{IsCompared}
use Rattle.quantify_ops.specs.Composed.{composed_at, AreComposed, value_of_compose, IsPartOrBelow, ComposeDue, ComposeAnswers, SplitsAround, ComposeSplits, IsAbove, IsFound, IsOwn}
use Rattle.quantify_ops.specs.declared.composition.Found.{Found}
use Rattle.quantify_ops.specs.declared.composition.Found.TheVariants.{Free, Own, Above}
use Rattle.quantify_ops.specs.ComposedLasts.{composed_at-grown, ComposeDue-stays}
use Rattle.quantify_ops.proofs.ProductLaws.{IsWork-part}

-- what the top node tells
pub found_leaf : (v w : View) (f : Edge) (x : ℕ) (z : ℤ) → Grown v w → Is Bdd v f → IsLeaf Bdd w f (bdd_at v f) z → IsFree (bdd_at w f) x
found_leaf v w f x z m d i = subst (λ g. IsFree g x) (sym (values_at-grown Bdd m d)) (Lacks-leaf Bdd f (bdd_at v f) z i.leaf x)

pub found_own : (v w : View) (f hi lo : Edge) (x top : ℕ) → Grown v w → Is Bdd v f → top ≡ x → IsInner Bdd w f (bdd_at v f) top hi lo → IsOwn w f x hi lo
found_own v w f hi lo x top m d same i =
    let j = subst (λ y. IsInner Bdd w f (bdd_at v f) y hi lo) same i in
    record { splits = rw (values_at-grown Bdd m d) j.splits; here = j.here; within = j.within; hi_top = j.hi_top; lo_top = j.lo_top }

pub found_below : (v w y : View) (f hi lo : Edge) (x top : ℕ) → Grown v w → Grown w y → Is Bdd v f → IsVariable Bdd v x → IsInner Bdd w f (bdd_at v f) top hi lo → w.level x < w.level top → IsFree (bdd_at y f) x
found_below v w y f hi lo x top m n d vn i lt =
    subst (λ g. IsFree g x) (sym (values_at-grown Bdd (Grown-trans m n) d)) (IsBelow-inner Bdd x i lt x (IsVariable-grown Bdd m x vn) (omega arith))

-- a node's function depends on its variable
choice_depends : (f h l : ℕ → Bool) (v : ℕ) → f ≡ choice v h l → IsFree h v → IsFree l v → h ≢ l → IsFree f v → ⊥
choice_depends f h l v is first second apart free =
    apart (sym (cofactor-free h v true first) ∙ sym (cofactor-choice_true h l v) ∙ ap (λ g. cofactor g v true) (sym is) ∙ cofactor-free f v true free
    ∙ sym (cofactor-free f v false free) ∙ ap (λ g. cofactor g v false) is ∙ cofactor-choice_false h l v ∙ cofactor-free l v false second)

pub found_above : (v w y : View) (f hi lo : Edge) (x top : ℕ) → Grown v w → Grown w y → Is Bdd v f → IsVariable Bdd v x → IsInner Bdd w f (bdd_at v f) top hi lo → (top ≡ x → ⊥) → w.level top ≤ w.level x → IsAbove y f x
found_above v w y f hi lo x top m n d xn i apart le =
    let t = top-grown Bdd n (Is-grown Bdd m d) in let lx = level-grown n x in let lt = level-grown n top in let here = i.here in
    let strict : (w.level x ≡ w.level top) → ⊥ = λ same. apart (sym (i.alone x (IsVariable-grown Bdd m x xn) same)) in
    let s = i.splits in
    record {
      upper = top;
      in_range = IsVariable-grown Bdd n top i.in_range;
      depends = rw (values_at-grown Bdd (Grown-trans m n) d)
          (choice_depends (bdd_at v f) (bdd_at w hi) (bdd_at w lo) top s.is (s.hi_below top i.in_range (omega arith)) (s.lo_below top i.in_range (omega arith)) i.proper);
      here = omega arith;
      higher = omega (arith, strict);
    }

IsAbove-grown : {v w : View} {f : Edge} {x : ℕ} → Grown v w → Is Bdd v f → IsAbove v f x → IsAbove w f x
IsAbove-grown {v} {w} {f} {x} m d i =
    let t = top-grown Bdd m d in let lx = level-grown m x in let lt = level-grown m i.upper in let here = i.here in let higher = i.higher in
    record { upper = i.upper; in_range = IsVariable-grown Bdd m i.upper i.in_range; depends = rw (values_at-grown Bdd m d) i.depends; here = omega arith; higher = omega arith }

IsOwn-grown : {v w : View} {f hi lo : Edge} {x : ℕ} → Grown v w → Is Bdd v f → IsOwn v f x hi lo → IsOwn w f x hi lo
IsOwn-grown {v} {w} {f} {hi} {lo} {x} m d i =
    let t = top-grown Bdd m d in let th = top-grown Bdd m i.splits.hi_is in let tl = top-grown Bdd m i.splits.lo_is in let l = level-grown m x in let vars = m.vars in
    let a = i.here in let b = i.within in let c = i.hi_top in let e = i.lo_top in
    record { splits = rw (values_at-grown Bdd m d) (Splits-grown Bdd m i.splits); here = omega arith; within = omega arith; hi_top = omega arith; lo_top = omega arith }

-- the regular edge to a function's slot
regular_composed : (w : View) (e r g : Edge) (x : ℕ) → r ≡ record { index = e.index; complement = false } → Is Bdd w e → IsFlipped Bdd e.complement (composed_at w e x g) (composed_at w r x g)
regular_composed w e r g x same d = rw same (by_complement e.index e.complement d)
  where
    by_complement : (i : ℕ) (c : Bool) → Is Bdd w (record { index = i; complement = c })
        → IsFlipped Bdd c (composed_at w (record { index = i; complement = c }) x g) (composed_at w (record { index = i; complement = false }) x g)
    by_complement i true d = ap (λ h. composed h x (bdd_at w g)) (values_at-is Bdd (Denotes-flip d))
    by_complement i false d = refl

pub regular_answer : (w : View) (f r g e : Edge) (x : ℕ) → r ≡ record { index = f.index; complement = false } → Is Bdd w f → Denotes Bdd w e (composed_at w r x g) → Denotes Bdd w (flip_if f.complement e) (composed_at w f x g)
regular_answer w f r g e x same d a = IsFlipped-answer Bdd f.complement w e (composed_at w f x g) (composed_at w r x g) (regular_composed w f r g x same d) a

-- a function that doesn't depend on the variable
pub free_answer : (w : View) (f g : Edge) (x : ℕ) → Is Bdd w f → IsFree (bdd_at w f) x → Denotes Bdd w f (composed_at w f x g)
free_answer w f g x d free = subst (λ h. Denotes Bdd w f h) (sym (composed-free (bdd_at w f) (bdd_at w g) x free)) d

-- the key
pub IsKey-projection : (w : View) (f g p : Edge) (x : ℕ) → Denotes Bdd w p (projection x) → AreTwo Bdd w f g → IsKey w (record { op = numbers.COMPOSE; f = f; g = g; h = p })
IsKey-projection w f g p x is d = record { least = omega arith; most = omega arith; f = (Bdd, d.first); g = (Bdd, d.second); h = (Bdd, Is-from Bdd is) }

pub Compose-hit : (w : View) (f g p : Edge) (x : ℕ) (e : Edge) → Denotes Bdd w p (projection x) → ComposeHolds w (record { op = numbers.COMPOSE; f = f; g = g; h = p }) e → Denotes Bdd w e (composed_at w f x g)
Compose-hit w f g p x e is h =
    let same = same_variable h.variable x (sym (values_at-is Bdd h.projection) ∙ values_at-is Bdd is) in
    subst (λ y. Denotes Bdd w e (composed_at w f y g)) same h.answer

-- what is left where neither is free nor own
pub is_above : (w : View) (f : Edge) (v : ℕ) (found : Found) → IsFound w f v found → (found ≡ Free → ⊥) → ((hi lo : Edge) → found ≡ Own hi lo → ⊥) → IsAbove w f v
is_above w f v Free is not_free not_own = absurd (not_free refl)
is_above w f v (Own hi lo) is not_free not_own = absurd (not_own hi lo refl)
is_above w f v Above is not_free not_own = is

-- the regular task's operands
pub regular_two : (v w : View) (f g r : Edge) (t : Task) → r ≡ record { index = f.index; complement = false } → t.f ≡ r → t.g ≡ g → AreTwo Bdd v f g → Grown v w → AreTwo Bdd w t.f t.g
regular_two v w f g r t same sf sg d m = let two = AreTwo-grown Bdd m d in rw (sf, sg) (record { first = regular_is w f r same two.first; second = two.second })

-- not both are leaves where the first depends on a variable
pub inner_above : (v w : View) (r : Edge) (t : Task) (x : ℕ) → Grown v w → t.f ≡ r → Is Bdd v r → IsAbove v r x → NotBothLeaves Bdd w t.f t.g
inner_above v w r t x m sf d above y z leaf other =
    let now = IsAbove-grown m d above in now.depends (subst (λ e. IsFree (bdd_at w e) now.upper) sf (Lacks-leaf Bdd t.f (bdd_at w t.f) y leaf.leaf now.upper))

-- the two parts at another variable
module _ (w : View) (v x : ℕ) (t hi lo : Task) (apart : x ≢ v) (s : TwoSplits Bdd w t x hi lo) where
  pub parts_are : composed_at w t.f v t.g ≡ choice x (composed_at w hi.f v hi.g) (composed_at w lo.f v lo.g)
  parts_are = rw (s.f.is, s.g.is) (composed-choice (bdd_at w hi.f) (bdd_at w lo.f) (bdd_at w hi.g) (bdd_at w lo.g) x v apart)

  pub hi_below : IsBelow Bdd w x (composed_at w hi.f v hi.g)
  hi_below u un le = IsFree-composed (bdd_at w hi.f) (bdd_at w hi.g) u v (s.f.hi_below u un le) (s.g.hi_below u un le)

  pub lo_below : IsBelow Bdd w x (composed_at w lo.f v lo.g)
  lo_below u un le = IsFree-composed (bdd_at w lo.f) (bdd_at w lo.g) u v (s.f.lo_below u un le) (s.g.lo_below u un le)

  pub half : (f : ℕ → Bool) (b : Bool) → IsPartOrComplement Bdd w f (composed_at w t.f v t.g) → IsPartOrComplement Bdd w f (cond b (composed_at w hi.f v hi.g) (composed_at w lo.f v lo.g))
  half f b part = IsPartOrComplement-half Bdd w x f (composed_at w t.f v t.g) (composed_at w hi.f v hi.g) (composed_at w lo.f v lo.g) b s.in_range parts_are hi_below lo_below part

-- a task that isn't below the variable is part of the call's value
not_below : (f : Edge) (v : ℕ) (g : Edge) (w : View) (t : Task) → w.top t.f.index ≤ w.level v → IsPartOrBelow f v g w t → IsPartOrComplement Bdd w (composed_at w f v g) (composed_at w t.f v t.g)
not_below f v g w t le (inl part) = part
not_below f v g w t le (inr below) = absurd (omega arith)

-- from the view where the task was asked to the last one
module _ (f : Edge) (v : ℕ) (g p : Edge) (w0 w1 w : View) (root : Task) (r : Edge) (due0 : ComposeDue f v g p w0 root) (m0 : Grown w0 w1) (m1 : Grown w1 w)
    (regular : r ≡ record { index = root.f.index; complement = false }) (br : Branch) (sf : br.task.f ≡ r) (sg : br.task.g ≡ root.g) (flip : br.flip ≡ root.f.complement) where
  due : ComposeDue f v g p w root
  due = ComposeDue-stays f v g p w0 w root (Grown-trans m0 m1) due0

  is_r0 : Is Bdd w1 r
  is_r0 = regular_is w1 root.f r regular (Is-grown Bdd m0 due0.two.first)

  two_r : AreTwo Bdd w r root.g
  two_r = record { first = regular_is w root.f r regular due.two.first; second = due.two.second }

  index : r.index ≡ root.f.index
  index = ap (λ e. e.index) regular

  part_r : w.top r.index ≤ w.level v → IsPartOrComplement Bdd w (composed_at w f v g) (composed_at w br.task.f v br.task.g)
  part_r le = rw (sf, sg) (IsFlipped-part Bdd root.f.complement w (composed_at w f v g) (composed_at w root.f v root.g) (composed_at w r v root.g)
      (regular_composed w root.f r root.g v regular due.two.first) (not_below f v g w root (rw (sym index) le) due.place))

  due_r : w.top r.index ≤ w.level v → ComposeDue f v g p w br.task
  due_r le = record { projection = due.projection; permanent = due.permanent; root = due.root; two = rw (sf, sg) two_r; place = inl (part_r le) }

  gives : (y : View) (e : Edge) → Grown w y → ComposeAnswers v y br.task e → ComposeAnswers v y root (flip_if br.flip e)
  gives y e late a = rw flip (regular_answer y root.f r root.g e v regular (Is-grown Bdd late due.two.first) (rw (sf, sg) at a))

  depth_r : two_depth Bdd w br.task ≡ two_depth Bdd w root
  depth_r = rw (sf, sg, index) refl

  pub Compose-own : (hi lo : Edge) → IsOwn w1 r v hi lo → br.var ≡ v → br.hi.f ≡ hi → br.hi.g ≡ hi → br.lo.f ≡ lo → br.lo.g ≡ lo
      → Branches (ComposeDue f v g p) (ComposeAnswers v) (λ x t. ⊥) (ComposeSplits f v g) (two_depth Bdd) w root br
  Compose-own hi lo own1 sv shf shg slf slg =
      let own = IsOwn-grown m1 is_r0 own1 in
      let here = own.here in let within = own.within in let hi_top = own.hi_top in let lo_top = own.lo_top in
      let le : w.top r.index ≤ w.level v = omega arith in
      let top : w.top root.f.index ≡ w.level v = rw (sym index) own.here in
      let hi_two : AreTwo Bdd w br.hi.f br.hi.g = rw (shf, shg) (record { first = own.splits.hi_is; second = own.splits.hi_is }) in
      let lo_two : AreTwo Bdd w br.lo.f br.lo.g = rw (slf, slg) (record { first = own.splits.lo_is; second = own.splits.lo_is }) in
      record {
        due = due_r le;
        leads = record { gives = gives; over = λ y late bad. bad };
        splits = record { part = part_r le; in_range = rw sv due.root.in_range; hi_is = hi_two; lo_is = lo_two; around = inl (sv, rw (sv, sf, shf, slf) own.splits) };
        hi_due = record { projection = due.projection; permanent = due.permanent; root = due.root; two = hi_two; place = inr (rw shf hi_top) };
        lo_due = record { projection = due.projection; permanent = due.permanent; root = due.root; two = lo_two; place = inr (rw slf lo_top) };
        hi_less = rw (shf, shg) (omega arith);
        lo_less = rw (slf, slg) (omega arith);
      }

  not_own : IsAbove w r v → (x : ℕ) (hi lo : Edge) → Splits Bdd w x (bdd_at w r) hi lo → x ≢ v
  not_own above x hi lo s same =
      let le : w.level above.upper ≤ w.level x = let l = ap w.level same in let h = above.higher in omega arith in
      let apart : x ≢ above.upper = λ e. let l = ap w.level (sym same ∙ e) in let h = above.higher in omega arith in
      above.depends (subst (λ h. IsFree h above.upper) (sym s.is)
      (IsFree-choice_other (bdd_at w hi) (bdd_at w lo) x above.upper apart (s.hi_below above.upper above.in_range le) (s.lo_below above.upper above.in_range le)))

  pub Compose-above : (b : Halves) (t : Task) → t.f ≡ r → t.g ≡ root.g → IsAbove w1 r v → IsCompared w t b → br.var ≡ b.top.var → br.hi ≡ b.hi → br.lo ≡ b.lo
      → Branches (ComposeDue f v g p) (ComposeAnswers v) (λ x t. ⊥) (ComposeSplits f v g) (two_depth Bdd) w root br
  Compose-above b t tf tg above1 c sv sh sl =
      let above = IsAbove-grown m1 is_r0 above1 in
      let here = above.here in let higher = above.higher in
      let le : w.top r.index ≤ w.level v = omega arith in
      let split_r : Splits Bdd w b.top.var (bdd_at w r) b.hi.f b.lo.f = subst (λ e. Splits Bdd w b.top.var (bdd_at w e) b.hi.f b.lo.f) tf c.splits.f in
      let split_g : Splits Bdd w b.top.var (bdd_at w root.g) b.hi.g b.lo.g = subst (λ e. Splits Bdd w b.top.var (bdd_at w e) b.hi.g b.lo.g) tg c.splits.g in
      let s : TwoSplits Bdd w br.task br.var br.hi br.lo = record { in_range = rw sv c.splits.in_range; f = rw (sf, sv, sh, sl) split_r; g = rw (sg, sv, sh, sl) split_g } in
      let depth : two_depth Bdd w t ≡ two_depth Bdd w root = rw (tf, tg, index) refl in
      let apart : br.var ≢ v = rw sv (not_own above b.top.var b.hi.f b.lo.f split_r) in
      let hi_two : AreTwo Bdd w br.hi.f br.hi.g = record { first = s.f.hi_is; second = s.g.hi_is } in
      let lo_two : AreTwo Bdd w br.lo.f br.lo.g = record { first = s.f.lo_is; second = s.g.lo_is } in
      record {
        due = due_r le;
        leads = record { gives = gives; over = λ y late bad. bad };
        splits = record { part = part_r le; in_range = s.in_range; hi_is = hi_two; lo_is = lo_two; around = inr (apart, s) };
        hi_due = record {
          projection = due.projection;
          permanent = due.permanent;
          root = due.root;
          two = hi_two;
          place = inl (half w v br.var br.task br.hi br.lo apart s (composed_at w f v g) true (part_r le));
        };
        lo_due = record {
          projection = due.projection;
          permanent = due.permanent;
          root = due.root;
          two = lo_two;
          place = inl (half w v br.var br.task br.hi br.lo apart s (composed_at w f v g) false (part_r le));
        };
        hi_less = subst (λ n. two_depth Bdd w br.hi < n) depth (rw sh c.hi_less);
        lo_less = subst (λ n. two_depth Bdd w br.lo < n) depth (rw sl c.lo_less);
      }

-- the answers of both parts at the variable itself
module _ (v : ℕ) (w : View) (t hi lo : Task) (e0 e1 : Edge) (in_range : IsVariable Bdd w v) (s : Splits Bdd w v (bdd_at w t.f) hi.f lo.f) (a0 : ComposeAnswers v w hi e0) (a1 : ComposeAnswers v w lo e1) where
  free_hi : IsFree (bdd_at w hi.f) v
  free_hi = s.hi_below v in_range (omega arith)

  free_lo : IsFree (bdd_at w lo.f) v
  free_lo = s.lo_below v in_range (omega arith)

  pub own_value : if_then_else (bdd_at w t.g) (bdd_at w e0) (bdd_at w e1) ≡ composed_at w t.f v t.g
  own_value = rw (values_at-is Bdd a0, values_at-is Bdd a1, composed-free (bdd_at w hi.f) (bdd_at w hi.g) v free_hi, composed-free (bdd_at w lo.f) (bdd_at w lo.g) v free_lo)
      (sym (ap (λ h. composed h v (bdd_at w t.g)) s.is ∙ composed-own (bdd_at w hi.f) (bdd_at w lo.f) (bdd_at w t.g) v free_hi free_lo))

  pub own_three : Is Bdd w t.g → AreThree Bdd w t.g e0 e1
  own_three d = record { condition = d; first = Is-from Bdd a0; second = Is-from Bdd a1 }

-- and at another one
module _ (v : ℕ) (w : View) (t hi lo : Task) (x : ℕ) (e0 e1 : Edge) (apart : x ≢ v) (s : TwoSplits Bdd w t x hi lo) (a0 : ComposeAnswers v w hi e0) (a1 : ComposeAnswers v w lo e1) where
  pub Compose-can_make : CanMake Bdd w x e0 e1
  Compose-can_make = record {
    in_range = s.in_range;
    hi_is = Is-from Bdd a0;
    lo_is = Is-from Bdd a1;
    hi_below = rw (values_at-is Bdd a0) (hi_below w v x t hi lo apart s);
    lo_below = rw (values_at-is Bdd a1) (lo_below w v x t hi lo apart s);
  }

  pub Compose-node : node_values Bdd w x e0 e1 ≡ composed_at w t.f v t.g
  Compose-node = rw (values_at-is Bdd a0, values_at-is Bdd a1) (sym (parts_are w v x t hi lo apart s))

-- which of both it is
pub is_own : (v : ℕ) (w : View) (t : Task) (x : ℕ) (hi lo : Task) → SplitsAround v w t x hi lo → x ≡ v → Splits Bdd w v (bdd_at w t.f) hi.f lo.f
is_own v w t x hi lo (inl own) same = subst (λ y. Splits Bdd w y (bdd_at w t.f) hi.f lo.f) own.0 own.1
is_own v w t x hi lo (inr other) same = absurd (other.0 same)

pub is_other : (v : ℕ) (w : View) (t : Task) (x : ℕ) (hi lo : Task) → SplitsAround v w t x hi lo → (x ≡ v → ⊥) → TwoSplits Bdd w t x hi lo
is_other v w t x hi lo (inl own) apart = absurd (apart own.0)
is_other v w t x hi lo (inr other) apart = other.1

-- the answer of a task, from that at the view before
pub answer_now : (v : ℕ) (u w : View) (t : Task) (e : Edge) (h : ℕ → Bool) → Grown u w → AreTwo Bdd u t.f t.g → h ≡ composed_at u t.f v t.g → Denotes Bdd w e h → ComposeAnswers v w t e
answer_now v u w t e h m d is den = rw (composed_at-grown v m d, sym is) den

-- what stores the value of a task
module _ (f : Edge) (v : ℕ) (g : Edge) (u w : View) (root : AreComposed u f v g) (m : Grown u w) (h : ℕ → Bool) (part : IsPartOrComplement Bdd u (composed_at u f v g) h) where
  pub Compose-refused : (o : Option Denoted) → IsWork w (λ F. F ≡ BddFunction h) o → IsWork w (value_of_compose f v g w) o
  Compose-refused o i = part_of_either Bdd w (composed_at w f v g) h o (λ r q. IsWork-part w r h o q i)
      (rw (composed_at-grown v m root.two) (IsPartOrComplement-grown Bdd (composed_at u f v g) h m part))

  pub Compose-moved : Adds (λ F. F ≡ BddFunction h) u w → Moves (λ w. AreComposed w f v g) (value_of_compose f v g) u w
  Compose-moved adds = record { grown = m; work = λ roots s here. elim (adds s here) [ inl old ↦ inl old | inr i ↦ inr (Compose-refused (w.content s) i) ] }

pub made_adds : (u w : View) (e : Edge) (h : ℕ → Bool) → ((s : ℕ) → w.made s ≡ true → (u.made s ≡ true) ⊎ (e.index ≡ s)) → Denotes Bdd w e h → Adds (λ F. F ≡ BddFunction h) u w
made_adds u w e h made is s here = elim (made s here) [
  | inl old ↦ inl old
  | inr same ↦ inr (subst (λ x. IsWork w (λ F. F ≡ BddFunction h) (w.content x)) same (IsWork-edge Bdd w (λ F. F ≡ BddFunction h) e h h refl whole is))
]

-- a join, at the variable itself and at another one
pub other_node : (f : Edge) (v : ℕ) (g p : Edge) (u : View) (t hi lo : Task) (x : ℕ) (e0 e1 : Edge) → ComposeDue f v g p u t → ComposeSplits f v g u t x hi lo → ComposeAnswers v u hi e0 → ComposeAnswers v u lo e1 → (x ≡ v → ⊥) → CanMake Bdd u x e0 e1
other_node f v g p u t hi lo x e0 e1 d s a0 a1 apart = Compose-can_make v u t hi lo x e0 e1 apart (is_other v u t x hi lo s.around apart) a0 a1

module _ (f : Edge) (v : ℕ) (g p : Edge) (u w : View) (t hi lo : Task) (x : ℕ) (e0 e1 : Edge) (d : ComposeDue f v g p u t) (s : ComposeSplits f v g u t x hi lo) (a0 : ComposeAnswers v u hi e0) (a1 : ComposeAnswers v u lo e1) (m : Grown u w) where
  module _ (same : x ≡ v) where
    chosen_is : if_then_else (bdd_at u t.g) (bdd_at u e0) (bdd_at u e1) ≡ composed_at u t.f v t.g
    chosen_is = own_value v u t hi lo e0 e1 d.root.in_range (is_own v u t x hi lo s.around same) a0 a1

    chosen_part : IsPartOrComplement Bdd u (composed_at u f v g) (if_then_else (bdd_at u t.g) (bdd_at u e0) (bdd_at u e1))
    chosen_part = subst (λ h. IsPartOrComplement Bdd u (composed_at u f v g) h) (sym chosen_is) s.part

    pub own_moved : Adds (value_of_three Bdd t.g e0 e1 u) u w → Moves (λ w. AreComposed w f v g) (value_of_compose f v g) u w
    own_moved adds = Compose-moved f v g u w d.root m (if_then_else (bdd_at u t.g) (bdd_at u e0) (bdd_at u e1)) chosen_part adds

    pub own_refused : (o : Option Denoted) → IsWork w (value_of_three Bdd t.g e0 e1 u) o → IsWork w (value_of_compose f v g w) o
    own_refused o i = Compose-refused f v g u w d.root m (if_then_else (bdd_at u t.g) (bdd_at u e0) (bdd_at u e1)) chosen_part o i

    pub own_answer : (e : Edge) → Denotes Bdd w e (if_then_else (bdd_at u t.g) (bdd_at u e0) (bdd_at u e1)) → ComposeAnswers v w t e
    own_answer e den = answer_now v u w t e (if_then_else (bdd_at u t.g) (bdd_at u e0) (bdd_at u e1)) m d.two chosen_is den

  module _ (apart : x ≡ v → ⊥) where
    two : TwoSplits Bdd u t x hi lo
    two = is_other v u t x hi lo s.around apart

    node_is : node_values Bdd u x e0 e1 ≡ composed_at u t.f v t.g
    node_is = Compose-node v u t hi lo x e0 e1 apart two a0 a1

    node_part : IsPartOrComplement Bdd u (composed_at u f v g) (node_values Bdd u x e0 e1)
    node_part = subst (λ h. IsPartOrComplement Bdd u (composed_at u f v g) h) (sym node_is) s.part

    pub other_moved : (e : Edge) → ((k : ℕ) → w.made k ≡ true → (u.made k ≡ true) ⊎ (e.index ≡ k)) → Denotes Bdd w e (node_values Bdd u x e0 e1) → Moves (λ w. AreComposed w f v g) (value_of_compose f v g) u w
    other_moved e made den = Compose-moved f v g u w d.root m (node_values Bdd u x e0 e1) node_part (made_adds u w e (node_values Bdd u x e0 e1) made den)

    pub other_refused : w.due ≡ Some (BddFunction (node_values Bdd u x e0 e1)) → IsWork w (value_of_compose f v g w) w.due
    other_refused due = Compose-refused f v g u w d.root m (node_values Bdd u x e0 e1) node_part w.due
        (IsWork-due Bdd w (λ F. F ≡ BddFunction (node_values Bdd u x e0 e1)) (node_values Bdd u x e0 e1) (node_values Bdd u x e0 e1) refl whole due)

    pub other_answer : (e : Edge) → Denotes Bdd w e (node_values Bdd u x e0 e1) → ComposeAnswers v w t e
    other_answer e den = answer_now v u w t e (node_values Bdd u x e0 e1) m d.two node_is den

-- the answer of the call's own task
pub root_answer : (u w : View) (f g : Edge) (t : Task) (v : ℕ) (e : Edge) → Grown u w → AreTwo Bdd u f g → t.f ≡ f → t.g ≡ g → ComposeAnswers v w t e → Denotes Bdd w e (composed_at u f v g)
root_answer u w f g t v e m d sf sg a = rw (sym (composed_at-grown v m d)) (rw (sf, sg) at a)
