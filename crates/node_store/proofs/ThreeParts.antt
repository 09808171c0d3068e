-- The parts of tasks of if-then-else, and the nodes of their answers.
use Rattle.std.proofs.Common.{◌≡◌, ℕ, ◌<◌, ◌≤◌, Bool, true, false, cond, inl, inr, ℤ, refl, ap, sym, ◌∙◌, subst, arith}
use Rattle.std.specs.Prelude.{min, nat_le, if◌then◌else◌, Option, Some, None}
use Rattle.edge_bits.specs.declared.edges.Edge.{Edge}
use Rattle.edge_bits.specs.declared.edges.Kind.{Kind}
use Rattle.edge_bits.specs.declared.edges.Kind.TheVariants.{Bdd, Add, Zdd}
use Rattle.edge_bits.specs.Assignments.{set_bit}
use Rattle.edge_bits.specs.Permanent.{true_slot}
use Rattle.function_laws.specs.Values.{if_then_else, negation, choice, IsFree}
use Rattle.function_laws.proofs.ValueLemmas.{ite-choice}
use Rattle.function_laws.specs.Kinds.{ValueOf, Lacks, joined_at}
use Rattle.node_store.specs.Edges.{flip_if}
use Rattle.node_store.specs.Views.{View, levels, IsVariable, Denotes, values_at, IsBelow, Grown, CanMake, PartsAt, node_values, IsLeafOf, logic_one, logic_zero}
use Rattle.node_store.specs.ViewLaws.{Grown-trans, Is-from, values_at-is, Denotes-flip, top-grown, levels-grown}
use Rattle.node_store.specs.Work.{IsPart}
use Rattle.node_store.specs.WorkLaws.{IsPart-half, IsPart-not}
use Rattle.node_store.specs.Splits.{Leads, Branches}
use Rattle.node_store.specs.Three.{IsOnVariables, ite_at, AreThree, ThreeAnswers, ThreeSplits, least_top, three_depth, complement_of, IsPartOrComplement, ThreeDue, IsFlipped, IsNormal, IsTopAt, HasTop, IsBranch}
use Rattle.node_store.specs.ThreeLaws.{ite_at-grown, ThreeDue-stays}
use Rattle.node_store.specs.Tops.{TopIs, upper_of}
use Rattle.node_store.specs.declared.binary.Branch.{Branch}
use Rattle.node_store.specs.declared.operator.Task.{Task}
use Rattle.node_store.specs.Operands.{IsSplitThree}
use Rattle.node_store.specs.declared.parts.Halves.{Halves}
use Rattle.node_store.specs.declared.parts.Top.{Top}
use Rattle.node_store.proofs.ComplementWork.{negation-negation}

-- a variable of the kind is one of BDDs
pub bdd_variable : (k : Kind) → IsOnVariables k → (w : View) (v : ℕ) → IsVariable k w v → IsVariable Bdd w v
bdd_variable Bdd on w v h = h
bdd_variable Add on w v h = h
bdd_variable Zdd on w v h = absurd on

pub variable_of : (k : Kind) → IsOnVariables k → (w : View) (v : ℕ) → IsVariable Bdd w v → IsVariable k w v
variable_of Bdd on w v h = h
variable_of Add on w v h = h
variable_of Zdd on w v h = absurd on

pub bdd_levels : (k : Kind) → IsOnVariables k → (w : View) → levels k w ≡ levels Bdd w
bdd_levels Bdd on w = refl
bdd_levels Add on w = refl
bdd_levels Zdd on w = absurd on

-- place by place
pub ite-joined : (k : Kind) → IsOnVariables k → (v : ℕ) (f f' : ℕ → Bool) (g g' h h' : ℕ → ValueOf k)
    → if_then_else (choice v f f') (joined_at k v g g') (joined_at k v h h') ≡ joined_at k v (if_then_else f g h) (if_then_else f' g' h')
ite-joined Bdd on v f f' g g' h h' = ite-choice f f' g g' h h' v
ite-joined Add on v f f' g g' h h' = ite-choice f f' g g' h h' v
ite-joined Zdd on v f f' g g' h h' = absurd on

free-ite : {X : Type 0} (v : ℕ) (f : ℕ → Bool) (g h : ℕ → X) → IsFree f v → IsFree g v → IsFree h v → IsFree (if_then_else f g h) v
free-ite v f g h p q r = λ x b. ap (λ c. cond c (g (set_bit x v b)) (h (set_bit x v b))) (p x b) ∙ ap (λ y. cond (f x) y (h (set_bit x v b))) (q x b) ∙ ap (λ y. cond (f x) (g x) y) (r x b)

pub Lacks-ite : (k : Kind) → IsOnVariables k → (v : ℕ) (f : ℕ → Bool) (g h : ℕ → ValueOf k) → IsFree f v → Lacks k g v → Lacks k h v → Lacks k (if_then_else f g h) v
Lacks-ite Bdd on v f g h p q r = free-ite v f g h p q r
Lacks-ite Add on v f g h p q r = free-ite v f g h p q r
Lacks-ite Zdd on v f g h p q r = absurd on

pub IsBelow-ite : (k : Kind) → IsOnVariables k → (w : View) (v : ℕ) (f : ℕ → Bool) (g h : ℕ → ValueOf k) → IsBelow Bdd w v f → IsBelow k w v g → IsBelow k w v h → IsBelow k w v (if_then_else f g h)
IsBelow-ite k on w v f g h p q r u un le = Lacks-ite k on u f g h (p u (bdd_variable k on w u un) le) (q u un le) (r u un le)

-- the parts of a function, or of its complement
pub IsPartOrComplement-half : (k : Kind) (w : View) (v : ℕ) (f g h l : ℕ → ValueOf k) (b : Bool) → IsVariable k w v → g ≡ joined_at k v h l → IsBelow k w v h → IsBelow k w v l
    → IsPartOrComplement k w f g → IsPartOrComplement k w f (cond b h l)
IsPartOrComplement-half k w v f g h l b vn is hb lb p = elim p [
  | inl q ↦ inl (IsPart-half k w v f g h l b vn is hb lb q)
  | inr q ↦ inr (IsPart-half k w v (complement_of k f) g h l b vn is hb lb q)
]

pub IsFlipped-part : (k : Kind) (flip : Bool) (w : View) (r f g : ℕ → ValueOf k) → IsFlipped k flip f g → IsPartOrComplement k w r f → IsPartOrComplement k w r g
IsFlipped-part k false w r f g is p = rw is p
IsFlipped-part Bdd true w r f g is p = rw is (elim p [
  | inl q ↦ inr (IsPart-not w r f q)
  | inr q ↦ inl (subst (λ x. IsPart Bdd w x (negation f)) (sym (negation-negation r)) (IsPart-not w (negation r) f q))
])
IsFlipped-part Add true w r f g is p = absurd is
IsFlipped-part Zdd true w r f g is p = absurd is

pub IsFlipped-answer : (k : Kind) (flip : Bool) (w : View) (e : Edge) (f g : ℕ → ValueOf k) → IsFlipped k flip f g → Denotes k w e g → Denotes k w (flip_if flip e) f
IsFlipped-answer k false w e f g is d = subst (λ x. Denotes k w e x) is d
IsFlipped-answer Bdd true w e f g is d = subst (λ x. Denotes Bdd w (flip_if true e) x) (ap negation is ∙ sym (negation-negation f)) (Denotes-flip d)
IsFlipped-answer Add true w e f g is d = absurd is
IsFlipped-answer Zdd true w e f g is d = absurd is

-- the two parts of a task
pub Three-is : (k : Kind) → IsOnVariables k → {w : View} {t hi lo : Task} {x : ℕ} → ThreeSplits k w t x hi lo
    → ite_at k w t.f t.g t.h ≡ joined_at k x (ite_at k w hi.f hi.g hi.h) (ite_at k w lo.f lo.g lo.h)
Three-is k on {w} {t} {hi} {lo} {x} s = rw (s.f.is, s.g.is, s.h.is)
    (ite-joined k on x (values_at Bdd w hi.f) (values_at Bdd w lo.f) (values_at k w hi.g) (values_at k w lo.g) (values_at k w hi.h) (values_at k w lo.h))

pub Three-hi_below : (k : Kind) → IsOnVariables k → {w : View} {t hi lo : Task} {x : ℕ} → ThreeSplits k w t x hi lo → IsBelow k w x (ite_at k w hi.f hi.g hi.h)
Three-hi_below k on {w} {t} {hi} {lo} {x} s = IsBelow-ite k on w x (values_at Bdd w hi.f) (values_at k w hi.g) (values_at k w hi.h) s.f.hi_below s.g.hi_below s.h.hi_below

pub Three-lo_below : (k : Kind) → IsOnVariables k → {w : View} {t hi lo : Task} {x : ℕ} → ThreeSplits k w t x hi lo → IsBelow k w x (ite_at k w lo.f lo.g lo.h)
Three-lo_below k on {w} {t} {hi} {lo} {x} s = IsBelow-ite k on w x (values_at Bdd w lo.f) (values_at k w lo.g) (values_at k w lo.h) s.f.lo_below s.g.lo_below s.h.lo_below

half : (k : Kind) → IsOnVariables k → (f g h : Edge) (w : View) (t hi lo : Task) (x : ℕ) (b : Bool) → ThreeDue k f g h w t → ThreeSplits k w t x hi lo
    → IsPartOrComplement k w (ite_at k w f g h) (cond b (ite_at k w hi.f hi.g hi.h) (ite_at k w lo.f lo.g lo.h))
half k on f g h w t hi lo x b d s =
    IsPartOrComplement-half k w x (ite_at k w f g h) (ite_at k w t.f t.g t.h) (ite_at k w hi.f hi.g hi.h) (ite_at k w lo.f lo.g lo.h) b s.in_range
    (Three-is k on s) (Three-hi_below k on s) (Three-lo_below k on s) d.part

pub ThreeDue-hi : (k : Kind) → IsOnVariables k → (f g h : Edge) (w : View) (t hi lo : Task) (x : ℕ) → ThreeDue k f g h w t → ThreeSplits k w t x hi lo → ThreeDue k f g h w hi
ThreeDue-hi k on f g h w t hi lo x d s = record {
  permanent = d.permanent;
  roots = d.roots;
  three = record { condition = s.f.hi_is; first = s.g.hi_is; second = s.h.hi_is };
  part = half k on f g h w t hi lo x true d s;
}

pub ThreeDue-lo : (k : Kind) → IsOnVariables k → (f g h : Edge) (w : View) (t hi lo : Task) (x : ℕ) → ThreeDue k f g h w t → ThreeSplits k w t x hi lo → ThreeDue k f g h w lo
ThreeDue-lo k on f g h w t hi lo x d s = record {
  permanent = d.permanent;
  roots = d.roots;
  three = record { condition = s.f.lo_is; first = s.g.lo_is; second = s.h.lo_is };
  part = half k on f g h w t hi lo x false d s;
}

-- the node of both answers
pub Three-can_make : (k : Kind) → IsOnVariables k → {w : View} {t hi lo : Task} {x : ℕ} {a b : Edge}
    → ThreeSplits k w t x hi lo → ThreeAnswers k w hi a → ThreeAnswers k w lo b → CanMake k w x a b
Three-can_make k on {w} {t} {hi} {lo} {x} {a} {b} s da db = record {
  in_range = s.in_range;
  hi_is = Is-from k da;
  lo_is = Is-from k db;
  hi_below = rw (values_at-is k da) (Three-hi_below k on s);
  lo_below = rw (values_at-is k db) (Three-lo_below k on s);
}

pub Three-node : (k : Kind) → IsOnVariables k → {w : View} {t hi lo : Task} {x : ℕ} {a b : Edge}
    → ThreeSplits k w t x hi lo → ThreeAnswers k w hi a → ThreeAnswers k w lo b → node_values k w x a b ≡ ite_at k w t.f t.g t.h
Three-node k on {w} {t} {hi} {lo} {x} {a} {b} s da db = rw (values_at-is k da, values_at-is k db) (sym (Three-is k on s))

pub Three-joined : (k : Kind) → IsOnVariables k → {w y : View} {t hi lo : Task} {x : ℕ} {a b e : Edge}
    → AreThree k w t.f t.g t.h → ThreeSplits k w t x hi lo → ThreeAnswers k w hi a → ThreeAnswers k w lo b → Grown w y → Denotes k y e (node_values k w x a b) → ThreeAnswers k y t e
Three-joined k on {w} {y} {t} {hi} {lo} {x} {a} {b} {e} d s da db m is = rw (ite_at-grown k m d, sym (Three-node k on s da db)) is

-- the upper one of two top variables
pub HasTop-upper : (k : Kind) (w : View) (m n : ℕ) (a b : Option Top) → HasTop k w m a → HasTop k w n b → HasTop k w (min m n) (upper_of a b)
HasTop-upper k w m n None None p q = omega arith
HasTop-upper k w m n None (Some b) p q =
    let here = q.here in let within = q.within in
    record { in_range = q.in_range; level = q.level; here = omega arith; within = q.within }
HasTop-upper k w m n (Some a) None p q =
    let here = p.here in let within = p.within in
    record { in_range = p.in_range; level = p.level; here = omega arith; within = p.within }
HasTop-upper k w m n (Some a) (Some b) p q = by_test (nat_le a.level b.level) refl
  where
    by_test : (c : Bool) → nat_le a.level b.level ≡ c → IsTopAt k w (min m n) (if c then a else b)
    by_test true t =
        let le : a.level ≤ b.level = grind (arith, t) in
        let x = p.here in let y = q.here in let u = p.level in let v = q.level in
        record { in_range = p.in_range; level = p.level; here = omega arith; within = p.within }
    by_test false t =
        let lt : b.level < a.level = grind (arith, t) in
        let x = p.here in let y = q.here in let u = p.level in let v = q.level in
        record { in_range = q.in_range; level = q.level; here = omega arith; within = q.within }

pub HasTop-from : (k : Kind) (w : View) (e : Edge) (f : ℕ → ValueOf k) (t : Option Top) → TopIs k w e f t → HasTop k w (w.top e.index) t
HasTop-from k w e f (Some t) p = record { in_range = p.in_range; level = p.level; here = p.here; within = p.within }
HasTop-from k w e f None p = p.1.here

pub HasTop-bdd : (k : Kind) → IsOnVariables k → (w : View) (n : ℕ) (t : Option Top) → HasTop Bdd w n t → HasTop k w n t
HasTop-bdd k on w n (Some t) p = record { in_range = variable_of k on w t.var p.in_range; level = p.level; here = p.here; within = rw (bdd_levels k on w) p.within }
HasTop-bdd k on w n None p = p ∙ sym (bdd_levels k on w)

-- a leaf of BDDs stands in slot 0
pub bdd_leaf_index : (e : Edge) (f : ℕ → Bool) (x : ℤ) → IsLeafOf Bdd e f x → e.index ≡ true_slot
bdd_leaf_index _ _ _ logic_one = refl
bdd_leaf_index _ _ _ logic_zero = refl

-- there is no top only where the condition is a leaf
pub no_top : (w : View) (f : Edge) (F : ℕ → Bool) (a b : Option Top) → TopIs Bdd w f F a → upper_of a b ≡ None → f.index ≡ true_slot
no_top w f F None b p is = bdd_leaf_index f F p.0 p.1.leaf
no_top w f F (Some a) None p is = cc
no_top w f F (Some a) (Some b) p is = cc

-- the parts of each operand at the top variable
pub Three-halves : (k : Kind) → IsOnVariables k → (w : View) (t : Task) (h : Halves) → IsTopAt k w (least_top w t) h.top
    → PartsAt Bdd w t.f (values_at Bdd w t.f) h.top.var h.hi.f h.lo.f → PartsAt k w t.g (values_at k w t.g) h.top.var h.hi.g h.lo.g → PartsAt k w t.h (values_at k w t.h) h.top.var h.hi.h h.lo.h
    → IsSplitThree k w t h
Three-halves k on w t h p pf pg ph =
    let hf = pf.hi_top in let lf = pf.lo_top in let hg = pg.hi_top in let lg = pg.lo_top in let hh = ph.hi_top in let lh = ph.lo_top in
    let here = p.here in let within = p.within in
    record {
      splits = record { in_range = p.in_range; f = pf.splits; g = pg.splits; h = ph.splits };
      hi_less = omega arith;
      lo_less = omega arith;
    }

-- the two parts of a task's normal form
pub Three-branches : (k : Kind) → IsOnVariables k → (f g h : Edge) (v w : View) (root t : Task) (flip : Bool) (b : Branch)
    → ThreeDue k f g h v root → Grown v w → IsNormal k v root.f root.g root.h t flip → IsBranch k w t flip b
    → Branches (ThreeDue k f g h) (ThreeAnswers k) (λ x t. ⊥) (ThreeSplits k) (three_depth k) w root b
Three-branches k on f g h v w root t flip b due m n i =
    let due2 : ThreeDue k f g h w b.task = rw i.task (ThreeDue-stays k f g h v w t m (record {
      permanent = due.permanent;
      roots = due.roots;
      three = n.three;
      part = IsFlipped-part k flip v (ite_at k v f g h) (ite_at k v root.f root.g root.h) (ite_at k v t.f t.g t.h) n.same due.part;
    })) in
    let hi = i.hi_less in let lo = i.lo_less in
    let le : three_depth k w b.task ≤ three_depth k w root = rw i.task (depth_stays k v w root t m due.three n.three n.depth) in
    record {
      due = due2;
      leads = rw (i.flip, i.task) (leads k v w root t flip m due.three n);
      splits = i.splits;
      hi_due = ThreeDue-hi k on f g h w b.task b.hi b.lo b.var due2 i.splits;
      lo_due = ThreeDue-lo k on f g h w b.task b.hi b.lo b.var due2 i.splits;
      hi_less = omega arith;
      lo_less = omega arith;
    }
  where
    depth_stays : (k : Kind) (v w : View) (root t : Task) → Grown v w → AreThree k v root.f root.g root.h → AreThree k v t.f t.g t.h
        → three_depth k v t ≤ three_depth k v root → three_depth k w t ≤ three_depth k w root
    depth_stays k v w root t m d e le =
        rw (levels-grown k m, top-grown Bdd m d.condition, top-grown k m d.first, top-grown k m d.second, top-grown Bdd m e.condition, top-grown k m e.first, top-grown k m e.second) le

    leads : (k : Kind) (v w : View) (root t : Task) (flip : Bool) → Grown v w → AreThree k v root.f root.g root.h → IsNormal k v root.f root.g root.h t flip
        → Leads (ThreeAnswers k) (λ x t. ⊥) w root flip t
    leads k v w root t flip m d n = record {
      gives = λ x e late a. let all = Grown-trans m late in
          IsFlipped-answer k flip x e (ite_at k x root.f root.g root.h) (ite_at k x t.f t.g t.h) (rw (ite_at-grown k all d, ite_at-grown k all n.three) n.same) a;
      over = λ x late bad. bad;
    }
