-- Facts that last while a store grows.
use Rattle.std.proofs.Common.{◌≡◌, ◌≢◌, ℕ, ◌<◌, Bool, true, false, not, Option, Some, None, pos, refl, ap, sym, ◌∙◌, subst, arith}
use Rattle.edge_bits.specs.Permanent.{base_slot, empty_edge, empty_slot, one_slot, true_slot, truth_edge, zero_slot}
use Rattle.edge_bits.specs.declared.edges.Edge.{Edge}
use Rattle.edge_bits.specs.declared.edges.Kind.{Kind}
use Rattle.edge_bits.specs.declared.edges.Kind.TheVariants.{Bdd, Add, Zdd}
use Rattle.function_laws.specs.Values.{constant, negation}
use Rattle.function_laws.specs.Families.{empty, base}
use Rattle.function_laws.proofs.ValueLemmas.{everywhere}
use Rattle.function_laws.specs.Kinds.{Denoted, BddFunction, AddFunction, ZddFamily, ValueOf, function_of, values_of, absent_part, KeepsAbsent, place, flipped}
use Rattle.node_store.specs.KindLaws.{values_of-function, Apart, Lacks-joined, Lacks-place, Lacks-absent, joined-absent, Fits-joined, flipped-function, flipped-some}
use Rattle.node_store.specs.Views.{View, levels, IsVariable, IsBeyond, function_at, values_at, Denotes, Is, IsBelow, Grown, Kept, Splits, CanMake, IsInner, node_values, Permanent, IsProjection}
use Rattle.node_store.specs.Edges.{flip_if}

pub Grown-refl : (a : View) → Grown a a
Grown-refl a = record { vars = refl; elements = refl; slots = refl; level = refl; content = λ s f h. h; top = λ s f h. refl; made = λ s h. h; fulls = omega arith; counts = refl; generations = refl; holds = refl; wants = λ h. h }

pub Grown-trans : {a b c : View} → Grown a b → Grown b c → Grown a c
Grown-trans p q = record {
  vars = q.vars ∙ p.vars;
  elements = q.elements ∙ p.elements;
  slots = q.slots ∙ p.slots;
  level = q.level ∙ p.level;
  content = λ s f h. q.content s f (p.content s f h);
  top = λ s f h. q.top s f (p.content s f h) ∙ p.top s f h;
  made = λ s h. q.made s (p.made s h);
  fulls = omega arith;
  counts = q.counts ∙ p.counts;
  generations = q.generations ∙ p.generations;
  holds = q.holds ∙ p.holds;
  wants = λ h. p.wants (q.wants h);
}

pub Kept-refl : (a : View) → Kept a a
Kept-refl a = record { grown = Grown-refl a; made = refl; fulls = refl; due = refl }

pub Kept-trans : {a b c : View} → Kept a b → Kept b c → Kept a c
Kept-trans p q = record { grown = Grown-trans p.grown q.grown; made = q.made ∙ p.made; fulls = q.fulls ∙ p.fulls; due = q.due ∙ p.due }

-- the store's sizes and levels stay
pub IsBeyond-grown : (k : Kind) {a b : View} → Grown a b → (v : ℕ) → IsBeyond k b v → IsBeyond k a v
IsBeyond-grown Bdd g v h = rw (sym g.vars) h
IsBeyond-grown Add g v h = rw (sym g.vars) h
IsBeyond-grown Zdd g v h = rw (sym g.elements) h

pub IsVariable-grown : (k : Kind) {a b : View} → Grown a b → (v : ℕ) → IsVariable k a v → IsVariable k b v
IsVariable-grown Bdd g v h = (h.0, rw g.vars h.1)
IsVariable-grown Add g v h = (h.0, rw g.vars h.1)
IsVariable-grown Zdd g v h = (h.0, rw g.elements h.1)

pub IsVariable-back : (k : Kind) {a b : View} → Grown a b → (v : ℕ) → IsVariable k b v → IsVariable k a v
IsVariable-back Bdd g v h = (h.0, rw (sym g.vars) h.1)
IsVariable-back Add g v h = (h.0, rw (sym g.vars) h.1)
IsVariable-back Zdd g v h = (h.0, rw (sym g.elements) h.1)

pub levels-grown : (k : Kind) {a b : View} → Grown a b → levels k b ≡ levels k a
levels-grown Bdd g = g.vars
levels-grown Add g = g.vars
levels-grown Zdd g = g.elements

pub level-grown : {a b : View} → Grown a b → (v : ℕ) → b.level v ≡ a.level v
level-grown g v = ap (λ (f : ℕ → ℕ). f v) g.level

-- what is denoted stays
pub Denotes-grown : (k : Kind) {a b : View} {e : Edge} {f : ℕ → ValueOf k} → Grown a b → Denotes k a e f → Denotes k b e f
Denotes-grown k {a} {b} {e} {f} g d = record {
  is = flipped-function k e.complement (a.content e.index) (b.content e.index) f d.is (g.content e.index);
  beyond = λ v h. d.beyond v (IsBeyond-grown k g v h);
  fits = d.fits;
}

-- an answer lasts, under each name of its function
pub Denotes-lasts : (k : Kind) {a b : View} {e : Edge} {f g : ℕ → ValueOf k} → Grown a b → f ≡ g → Denotes k a e f → Denotes k b e g
Denotes-lasts k {a} {b} {e} m same d = subst (λ x. Denotes k b e x) same (Denotes-grown k m d)

pub values_at-is : (k : Kind) {a : View} {e : Edge} {f : ℕ → ValueOf k} → Denotes k a e f → values_at k a e ≡ f
values_at-is k {a} {e} {f} d = ap (values_of k) d.is ∙ values_of-function k f

pub Is-from : (k : Kind) {a : View} {e : Edge} {f : ℕ → ValueOf k} → Denotes k a e f → Is k a e
Is-from k {a} {e} {f} d = subst (λ h. Denotes k a e h) (sym (values_at-is k d)) d

pub values_at-grown : (k : Kind) {a b : View} {e : Edge} → Grown a b → Is k a e → values_at k b e ≡ values_at k a e
values_at-grown k g d = values_at-is k (Denotes-grown k g d)

pub Is-grown : (k : Kind) {a b : View} {e : Edge} → Grown a b → Is k a e → Is k b e
Is-grown k g d = Is-from k (Denotes-grown k g d)

pub top-grown : (k : Kind) {a b : View} {e : Edge} {f : ℕ → ValueOf k} → Grown a b → Denotes k a e f → b.top e.index ≡ a.top e.index
top-grown k {a} {b} {e} {f} g d = let s = flipped-some e.complement (a.content e.index) (function_of k f) d.is in g.top e.index s.0 s.1

pub IsBelow-grown : (k : Kind) {a b : View} (v : ℕ) (f : ℕ → ValueOf k) → Grown a b → IsBelow k a v f → IsBelow k b v f
IsBelow-grown k {a} {b} v f g h u un le = h u (IsVariable-back k g u un) (rw (sym (level-grown g u), sym (level-grown g v)) le)

pub Splits-grown : (k : Kind) {a b : View} {v : ℕ} {f : ℕ → ValueOf k} {hi lo : Edge} → Grown a b → Splits k a v f hi lo → Splits k b v f hi lo
Splits-grown k {a} {b} {v} {f} {hi} {lo} g s = record {
  hi_is = Is-grown k g s.hi_is;
  lo_is = Is-grown k g s.lo_is;
  is = rw (values_at-grown k g s.hi_is, values_at-grown k g s.lo_is) s.is;
  hi_below = rw (values_at-grown k g s.hi_is) (IsBelow-grown k v (values_at k a hi) g s.hi_below);
  lo_below = rw (values_at-grown k g s.lo_is) (IsBelow-grown k v (values_at k a lo) g s.lo_below);
}

-- two variables of the store are two, and so are one of the store and one beyond
pub Apart-variables : (k : Kind) (w : View) (u v : ℕ) → IsVariable k w u → IsVariable k w v → u ≢ v → Apart k u v
Apart-variables Bdd w u v hu hv ne = ne
Apart-variables Add w u v hu hv ne = ne
Apart-variables Zdd w u v hu hv ne = λ e. ne (omega (arith, e, hu.0, hv.0))

pub Apart-beyond : (k : Kind) (w : View) (u v : ℕ) → IsBeyond k w u → IsVariable k w v → Apart k u v
Apart-beyond Bdd w u v hu hv = λ e. omega (arith, e, hu, hv.1)
Apart-beyond Add w u v hu hv = λ e. omega (arith, e, hu, hv.1)
Apart-beyond Zdd w u v hu hv = λ e. omega (arith, e, hu, hv.0, hv.1)

-- a function below the variable splits into its absent part and itself
pub Splits-absent : (k : Kind) {a : View} {v : ℕ} {e hi : Edge} → Is k a e → Denotes k a hi (absent_part k (values_at k a e)) → IsBelow k a v (values_at k a e)
    → IsVariable k a v → Splits k a v (values_at k a e) hi e
Splits-absent k {a} {v} {e} {hi} d dh h vn = let is = values_at-is k dh in record {
  hi_is = Is-from k dh;
  lo_is = d;
  is = rw is (sym (joined-absent k v (values_at k a e) (h v vn (omega arith))));
  hi_below = rw is (λ u un le. Lacks-absent k u (values_at k a e) (h u un le));
  lo_below = h;
}

-- a function whose variable stands lower is below
pub IsBelow-inner : (k : Kind) {a : View} {e : Edge} {f : ℕ → ValueOf k} {v : ℕ} {hi lo : Edge} (u : ℕ) → IsInner k a e f v hi lo → a.level u < a.level v → IsBelow k a u f
IsBelow-inner k {a} {e} {f} {v} {hi} {lo} u i lt x xn le =
    let below : a.level x < a.level v = omega arith in
    let ne : x ≢ v = λ same. let l = ap a.level same in omega arith in
    rw i.splits.is (Lacks-joined k x v (values_at k a hi) (values_at k a lo) (Apart-variables k a x v xn i.in_range ne)
    (i.splits.hi_below x xn (omega arith)) (i.splits.lo_below x xn (omega arith)))

pub IsBelow-place : (k : Kind) (op : ValueOf k → ValueOf k → ValueOf k) → KeepsAbsent k op → (a : View) (v : ℕ) (f g : ℕ → ValueOf k)
    → IsBelow k a v f → IsBelow k a v g → IsBelow k a v (place op f g)
IsBelow-place k op keeps a v f g p q u un le = Lacks-place k op keeps u f g (p u un le) (q u un le)

-- what a node denotes
pub Denotes-node : (k : Kind) {a : View} {v : ℕ} {hi lo : Edge} → CanMake k a v hi lo → (b : View) (e : Edge)
    → function_at b e ≡ Some (function_of k (node_values k a v hi lo)) → Grown a b → Denotes k b e (node_values k a v hi lo)
Denotes-node k {a} {v} {hi} {lo} c b e is g = record {
  is = is;
  beyond = λ u h. let x = IsBeyond-grown k g u h in
      Lacks-joined k u v (values_at k a hi) (values_at k a lo) (Apart-beyond k a u v x c.in_range) (c.hi_is.beyond u x) (c.lo_is.beyond u x);
  fits = Fits-joined k v (values_at k a hi) (values_at k a lo) c.hi_is.fits c.lo_is.fits;
}

-- a complement denotes the complement
pub flipped-not : (c : Bool) (o : Option Denoted) (f : ℕ → Bool) → flipped c o ≡ Some (BddFunction f) → flipped (not c) o ≡ Some (BddFunction (negation f))
flipped-not false o f h = ap (flipped true) h
flipped-not true (Some (BddFunction g)) f h =
    let is : negation g ≡ f = ap (values_of Bdd) h in
    ap (λ x. Some (BddFunction x)) (everywhere g (negation (negation g)) (λ k. twice (g k)) ∙ ap negation is)
  where
    twice : (b : Bool) → b ≡ not (not b)
    twice true = refl
    twice false = refl
flipped-not true (Some (AddFunction g)) f h = cc
flipped-not true (Some (ZddFamily g)) f h = cc
flipped-not true None f h = cc

pub Denotes-flip : {w : View} {e : Edge} {f : ℕ → Bool} → Denotes Bdd w e f → Denotes Bdd w (flip_if true e) (negation f)
Denotes-flip {w} {e} {f} d = record {
  is = flipped-not e.complement (w.content e.index) f d.is;
  beyond = λ v h k b. ap not (d.beyond v h k b);
  fits = tt;
}

-- the permanent slots
pub Permanent-grown : {a b : View} → Grown a b → Permanent a → Permanent b
Permanent-grown g p = record {
  one = g.content true_slot (BddFunction (constant true)) p.one;
  empty = g.content empty_slot (ZddFamily empty) p.empty;
  base = g.content base_slot (ZddFamily base) p.base;
  add_zero = g.content zero_slot (AddFunction (constant (pos 0))) p.add_zero;
  add_one = g.content one_slot (AddFunction (constant (pos 1))) p.add_one;
  one_top = g.top true_slot (BddFunction (constant true)) p.one ∙ p.one_top ∙ sym g.vars;
  empty_top = g.top empty_slot (ZddFamily empty) p.empty ∙ p.empty_top ∙ sym g.elements;
  base_top = g.top base_slot (ZddFamily base) p.base ∙ p.base_top ∙ sym g.elements;
  add_zero_top = g.top zero_slot (AddFunction (constant (pos 0))) p.add_zero ∙ p.add_zero_top ∙ sym g.vars;
  add_one_top = g.top one_slot (AddFunction (constant (pos 1))) p.add_one ∙ p.add_one_top ∙ sym g.vars;
}

pub IsProjection-grown : {a b : View} {v : ℕ} {e : Edge} → Grown a b → IsProjection a v e → IsProjection b v e
IsProjection-grown {a} {b} {v} g p = record { denotes = Denotes-grown Bdd g p.denotes; top = top-grown Bdd g p.denotes ∙ p.top ∙ sym (level-grown g v) }

pub Denotes-truth : (w : View) → Permanent w → (b : Bool) → Denotes Bdd w (truth_edge b) (constant b)
Denotes-truth w p true = record { is = p.one; beyond = λ v h k b. refl; fits = tt }
Denotes-truth w p false = record { is = ap (flipped true) p.one; beyond = λ v h k b. refl; fits = tt }

pub Denotes-empty : (w : View) → Permanent w → Denotes Zdd w empty_edge empty
Denotes-empty w p = record { is = p.empty; beyond = λ v h a has. refl; fits = tt }
