-- The parts of tasks of two functions, and the nodes of their answers.
use Rattle.std.proofs.Common.{◌≡◌, ℕ, zero, suc, eqb, ◌-◌, ◌<◌, ◌≤◌, true, false, inl, inr, ℤ, refl, ap, sym, ◌∙◌, subst, arith}
use Rattle.std.specs.Prelude.{nat_lt}
use Rattle.std.proofs.lemmas.Nat.Bits.{bit_at-zero}
use Rattle.edge_bits.specs.Permanent.{first_element}
use Rattle.edge_bits.specs.declared.edges.Edge.{Edge}
use Rattle.edge_bits.specs.declared.edges.Kind.{Kind}
use Rattle.edge_bits.specs.declared.edges.Kind.TheVariants.{Bdd, Add, Zdd}
use Rattle.edge_bits.specs.Assignments.{bit}
use Rattle.edge_bits.specs.Reading.{element_of}
use Rattle.function_laws.specs.Families.{base, IsWithout}
use Rattle.function_laws.proofs.ValueLemmas.{everywhere}
use Rattle.function_laws.specs.Kinds.{ValueOf, Lacks, absent_part, KeepsAbsent}
use Rattle.node_store.specs.Views.{View, levels, IsVariable, Denotes, Is, values_at, IsBelow, Grown, Splits, CanMake, node_values, IsInner, IsLeaf, IsLeafOf, logic_one, logic_zero, number, no_member, only_base, Permanent, PartsAt, IsTop, AreTwo}
use Rattle.node_store.specs.ViewLaws.{Denotes-empty, Is-from, IsBelow-inner, Splits-absent, Splits-grown, level-grown, top-grown, values_at-is}
use Rattle.node_store.specs.Two.{place_at, IsOrderFor, TwoAnswers, TwoSplits, two_depth, TwoDue, Overflows}
use Rattle.node_store.specs.Parts.{absent_edge}
use Rattle.node_store.specs.Splits.{Leads, Branches}
use Rattle.node_store.specs.Operands.{HalvesOfTwo}
use Rattle.node_store.specs.declared.operator.Task.{Task}
use Rattle.node_store.specs.declared.parts.Halves.{Halves}
use Rattle.node_store.specs.declared.binary.Branch.{Branch}
use Rattle.node_store.specs.TwoLaws.{place_at-grown, TwoDue-stays, Two-is, Two-hi_below, Two-lo_below, TwoDue-hi, TwoDue-lo}

-- the node of both answers
pub Two-can_make : (k : Kind) (op : ValueOf k → ValueOf k → ValueOf k) → KeepsAbsent k op → {w : View} {t hi lo : Task} {x : ℕ} {a b : Edge}
    → TwoSplits k w t x hi lo → TwoAnswers k op w hi a → TwoAnswers k op w lo b → CanMake k w x a b
Two-can_make k op keeps {w} {t} {hi} {lo} {x} {a} {b} s da db = record {
  in_range = s.in_range;
  hi_is = Is-from k da;
  lo_is = Is-from k db;
  hi_below = rw (values_at-is k da) (Two-hi_below k op keeps s);
  lo_below = rw (values_at-is k db) (Two-lo_below k op keeps s);
}

pub Two-node : (k : Kind) (op : ValueOf k → ValueOf k → ValueOf k) {w : View} {t hi lo : Task} {x : ℕ} {a b : Edge}
    → TwoSplits k w t x hi lo → TwoAnswers k op w hi a → TwoAnswers k op w lo b → node_values k w x a b ≡ place_at k op w t.f t.g
Two-node k op {w} {t} {hi} {lo} {x} {a} {b} s da db = rw (values_at-is k da, values_at-is k db) (sym (Two-is k op s))

pub Two-joined : (k : Kind) (op : ValueOf k → ValueOf k → ValueOf k) {w y : View} {t hi lo : Task} {x : ℕ} {a b e : Edge}
    → AreTwo k w t.f t.g → TwoSplits k w t x hi lo → TwoAnswers k op w hi a → TwoAnswers k op w lo b → Grown w y → Denotes k y e (node_values k w x a b) → TwoAnswers k op y t e
Two-joined k op {w} {y} {t} {hi} {lo} {x} {a} {b} {e} d s da db m is = rw (place_at-grown k op m d, sym (Two-node k op s da db)) is

-- the operands in another order
pub place_order : (k : Kind) (op : ValueOf k → ValueOf k → ValueOf k) (w : View) (f g a b : Edge) → IsOrderFor op f g a b → place_at k op w a b ≡ place_at k op w f g
place_order k op w f g a b is = elim is [
  | inl p ↦ rw (p.0, p.1) refl
  | inr p ↦ rw (p.0, p.1) (everywhere (place_at k op w g f) (place_at k op w f g) (λ x. p.2 (values_at k w g x) (values_at k w f x)))
]

pub AreTwo-order : (k : Kind) (op : ValueOf k → ValueOf k → ValueOf k) (w : View) (f g a b : Edge) → IsOrderFor op f g a b → AreTwo k w f g → AreTwo k w a b
AreTwo-order k op w f g a b is d = elim is [
  | inl p ↦ record { first = rw p.0 d.first; second = rw p.1 d.second }
  | inr p ↦ record { first = rw p.0 d.second; second = rw p.1 d.first }
]

pub TwoDue-order : (k : Kind) (op : ValueOf k → ValueOf k → ValueOf k) (f g : Edge) (w : View) (t u : Task) → IsOrderFor op t.f t.g u.f u.g → TwoDue k op f g w t → TwoDue k op f g w u
TwoDue-order k op f g w t u is d = record {
  permanent = d.permanent;
  roots = d.roots;
  two = AreTwo-order k op w t.f t.g u.f u.g is d.two;
  part = rw (place_order k op w t.f t.g u.f u.g is) d.part;
}

pub two_depth-order : (k : Kind) (op : ValueOf k → ValueOf k → ValueOf k) (w : View) (t u : Task) → IsOrderFor op t.f t.g u.f u.g → two_depth k w u ≡ two_depth k w t
two_depth-order k op w t u is = elim is [
  | inl p ↦ rw (p.0, p.1) refl
  | inr p ↦ rw (p.0, p.1) (omega arith)
]

pub Leads-order : (k : Kind) (op : ValueOf k → ValueOf k → ValueOf k) (w : View) (t u : Task) → IsOrderFor op t.f t.g u.f u.g
    → Leads (TwoAnswers k op) (λ x t. Overflows k (place_at k op x t.f t.g)) w t false u
Leads-order k op w t u is = record {
  gives = λ x e m a. rw (sym (place_order k op x t.f t.g u.f u.g is)) a;
  over = λ x m h. subst (Overflows k) (place_order k op x t.f t.g u.f u.g is) h;
}

-- leaves are below each variable
pub bit-zero : (e : ℕ) → bit 0 e ≡ false
bit-zero e = ap (λ (n : ℕ). eqb n 1) (bit_at-zero e)

-- no member of Base has an element
pub base-without : (e : ℕ) → IsWithout base e
base-without e zero has = let no : false ≡ true = sym (bit-zero e) ∙ has in cc
base-without e (suc a) has = grind arith

pub Lacks-leaf : (k : Kind) (e : Edge) (f : ℕ → ValueOf k) (x : ℤ) → IsLeafOf k e f x → (v : ℕ) → Lacks k f v
Lacks-leaf _ _ _ _ logic_one v = λ k b. refl
Lacks-leaf _ _ _ _ logic_zero v = λ k b. refl
Lacks-leaf _ _ _ _ (number e x) v = λ k b. refl
Lacks-leaf _ _ _ _ no_member v = λ a has. refl
Lacks-leaf _ _ _ _ only_base v = base-without (element_of v)

-- the then part of a function that lacks the variable
pub absent-is : (k : Kind) (w : View) → Permanent w → (v : ℕ) (e : Edge) → IsVariable k w v → Is k w e → Denotes k w (absent_edge v e) (absent_part k (values_at k w e))
absent-is Bdd w p v e vn d = let low : nat_lt v first_element ≡ true = grind (arith, vn.0) in rw low d
absent-is Add w p v e vn d = let low : nat_lt v first_element ≡ true = grind (arith, vn.0) in rw low d
absent-is Zdd w p v e vn d = let high : nat_lt v first_element ≡ false = grind (arith, vn.0) in rw high (Denotes-empty w p)

pub absent-top : (k : Kind) (w : View) → Permanent w → (v : ℕ) (e : Edge) → IsVariable k w v → w.level v < levels k w → w.level v < w.top e.index → w.level v < w.top (absent_edge v e).index
absent-top Bdd w p v e vn lt h = let low : nat_lt v first_element ≡ true = grind (arith, vn.0) in rw low h
absent-top Add w p v e vn lt h = let low : nat_lt v first_element ≡ true = grind (arith, vn.0) in rw low h
absent-top Zdd w p v e vn lt h = let high : nat_lt v first_element ≡ false = grind (arith, vn.0) in rw (high, p.empty_top) lt

PartsAt-absent : (k : Kind) (w : View) → Permanent w → (v : ℕ) (e : Edge) (f : ℕ → ValueOf k) → IsVariable k w v → Is k w e → values_at k w e ≡ f → IsBelow k w v f
    → w.level v < levels k w → w.level v < w.top e.index → PartsAt k w e f v (absent_edge v e) e
PartsAt-absent k w p v e f vn d same below lt h = record {
  splits = subst (λ x. Splits k w v x (absent_edge v e) e) same (Splits-absent k d (absent-is k w p v e vn d) (rw same below) vn);
  hi_top = absent-top k w p v e vn lt h;
  lo_top = h;
}

pub PartsAt-inner : (k : Kind) (w : View) → Permanent w → (v : ℕ) (e : Edge) (f : ℕ → ValueOf k) (u : ℕ) (hi lo : Edge) → IsVariable k w v → Is k w e → values_at k w e ≡ f
    → IsInner k w e f u hi lo → w.level v ≤ w.top e.index → w.level v < levels k w → (u ≡ v → ⊥) → PartsAt k w e f v (absent_edge v e) e
PartsAt-inner k w p v e f u hi lo vn d same i le within ne =
    let here = i.here in
    let apart : w.level v ≡ w.level u → ⊥ = λ h. ne (sym (i.alone v vn h)) in
    let lt : w.level v < w.top e.index = omega arith in
    let lt2 : w.level v < w.level u = omega arith in
    PartsAt-absent k w p v e f vn d same (IsBelow-inner k v i lt2) within lt

pub PartsAt-leaf : (k : Kind) (w : View) → Permanent w → (v : ℕ) (e : Edge) (f : ℕ → ValueOf k) (x : ℤ) → IsVariable k w v → Is k w e → values_at k w e ≡ f
    → IsLeaf k w e f x → w.level v < levels k w → PartsAt k w e f v (absent_edge v e) e
PartsAt-leaf k w p v e f x vn d same i within =
    let here = i.here in
    let lt : w.level v < w.top e.index = omega arith in
    PartsAt-absent k w p v e f vn d same (λ u un le. Lacks-leaf k e f x i.leaf u) within lt

pub PartsAt-grown : (k : Kind) {v w : View} {e hi lo : Edge} {f : ℕ → ValueOf k} {x : ℕ} → Grown v w → PartsAt k v e f x hi lo → PartsAt k w e f x hi lo
PartsAt-grown k {v} {w} {e} {hi} {lo} {f} {x} g p =
    let h = p.hi_top in let l = p.lo_top in
    let th = top-grown k g p.splits.hi_is in let tl = top-grown k g p.splits.lo_is in let lv = level-grown g x in
    record { splits = Splits-grown k g p.splits; hi_top = omega arith; lo_top = omega arith }

-- the two parts of a task at its top variable, in the view where both are known
pub Two-branches : (k : Kind) (op : ValueOf k → ValueOf k → ValueOf k) → KeepsAbsent k op → (f g : Edge) (w : View) (t : Task) (b : Branch)
    → TwoDue k op f g w t → IsOrderFor op t.f t.g b.task.f b.task.g → b.flip ≡ false → IsTop k w b.task.f b.task.g b.var
    → PartsAt k w b.task.f (values_at k w b.task.f) b.var b.hi.f b.lo.f → PartsAt k w b.task.g (values_at k w b.task.g) b.var b.hi.g b.lo.g
    → Branches (TwoDue k op f g) (TwoAnswers k op) (λ x t. Overflows k (place_at k op x t.f t.g)) (TwoSplits k) (two_depth k) w t b
Two-branches k op keeps f g w t b due is flip top pf pg =
    let touches = top.touches in let af = top.above_f in let ag = top.above_g in let within = top.within in
    let hf = pf.hi_top in let lf = pf.lo_top in let hg = pg.hi_top in let lg = pg.lo_top in
    let same = two_depth-order k op w t b.task is in
    let here : two_depth k w b.task ≡ levels k w - w.level b.var = elim touches [ inl h ↦ omega arith | inr h ↦ omega arith ] in
    let due2 = TwoDue-order k op f g w t b.task is due in
    let splits : TwoSplits k w b.task b.var b.hi b.lo = record { in_range = top.in_range; f = pf.splits; g = pg.splits } in
    record {
      due = due2;
      leads = subst (λ c. Leads (TwoAnswers k op) (λ x t. Overflows k (place_at k op x t.f t.g)) w t c b.task) (sym flip) (Leads-order k op w t b.task is);
      splits = splits;
      hi_due = TwoDue-hi k op keeps f g w b.task b.hi b.lo b.var due2 splits;
      lo_due = TwoDue-lo k op keeps f g w b.task b.hi b.lo b.var due2 splits;
      hi_less = omega arith;
      lo_less = omega arith;
    }

-- the parts of a call's task whose operands were arranged
pub Two-split : (k : Kind) (op : ValueOf k → ValueOf k → ValueOf k) → KeepsAbsent k op → (f g : Edge) (v w : View) (t u : Task) (h : Halves)
    → TwoDue k op f g v t → IsOrderFor op t.f t.g u.f u.g → Grown v w → HalvesOfTwo k w u.f u.g h
    → Branches (TwoDue k op f g) (TwoAnswers k op) (λ x t. Overflows k (place_at k op x t.f t.g)) (TwoSplits k) (two_depth k) w t (record { task = u; flip = false; var = h.top.var; hi = h.hi; lo = h.lo })
Two-split k op keeps f g v w t u h due is m p =
    Two-branches k op keeps f g w t (record { task = u; flip = false; var = h.top.var; hi = h.hi; lo = h.lo }) (TwoDue-stays k op f g v w t m due) is refl p.top p.f p.g

pub PartsAt-own : (k : Kind) (w : View) (v : ℕ) (e : Edge) (f : ℕ → ValueOf k) (u : ℕ) (hi lo : Edge) → u ≡ v → IsInner k w e f u hi lo → PartsAt k w e f v hi lo
PartsAt-own k w v e f u hi lo same i = subst (λ x. PartsAt k w e f x hi lo) same (record { splits = i.splits; hi_top = i.hi_top; lo_top = i.lo_top })
