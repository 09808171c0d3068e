-- The steps of Morreale's calls, from view to view.
use Rattle.std.proofs.Common.{◌≡◌, ◌≢◌, ℕ, ◌<◌, ◌≤◌, Bool, true, false, ◌||◌, Result, sym, ap, ap₂, ◌∙◌, subst, arith}
use Rattle.edge_bits.specs.declared.edges.Edge.{Edge}
use Rattle.edge_bits.specs.declared.edges.Kind.TheVariants.{Bdd}
use Rattle.function_laws.specs.Kinds.{BddFunction}
use Rattle.function_laws.specs.MorrealeCalls.{Interval, depends_at, interval, left_high, left_low, less}
use Rattle.function_laws.specs.Values.{cofactor, conjunction, disjunction}
use Rattle.function_laws.proofs.DistinctLemmas.{In}
use Rattle.function_laws.proofs.ValueLemmas.{cofactor-choice_false, cofactor-choice_true, cofactor-free}
use Rattle.node_store.specs.Operations.{RunsTo, halts}
use Rattle.node_store.specs.TwoLaws.{AreTwo-grown}
use Rattle.node_store.specs.Views.{View, AreTwo, Denotes, Grown, Is, IsVariable, Splits, bdd_at}
use Rattle.node_store.specs.ViewLaws.{Denotes-lasts, Is-from, Is-grown, Permanent-grown, values_at-grown, values_at-is}
use Rattle.node_store.specs.declared.grow.Stop.{Stop}
use Rattle.node_store.specs.declared.operator.Task.{Task}
use Rattle.cover_isop.specs.Isops.{AreSides, Does, IsCallIn, IsFurther, IsHalf, IsSplit, MorrealeDue, Shows, both_at, bounds_at, cover_in, function_in, half_at, high_at, left_of, low_at, order_in}
use Rattle.cover_isop.specs.IsopLasts.{HasBounds-grown, IsSplit-grown, MorrealeDue-stays, Shows-grown, both_at-grown, bounds-grown, call-in-grown, cover-in-grown, function-in-grown, high_at-grown, low_at-grown}
use Rattle.cover_isop.specs.declared.calls.Sides.{Sides}
use Rattle.cover_isop.proofs.CallSteps.{Stepped, high-call, high-fewer, high-left-work, low-call, low-fewer, low-left-work, lower-work, step, third-call, third-fewer, upper-work}
use Rattle.cover_isop.proofs.DoesLaws.{value_does}
use Rattle.cover_isop.proofs.LevelOrders.{by_level-has, by_level-once, by_level-rises, by_level-within}
use Rattle.cover_isop.proofs.MorrealeLaws.{LacksBoth, depends_splits, split_is}

-- both parts are the cofactors
pub hi-is : (w : View) (f : ℕ → Bool) (x : ℕ) (hi lo : Edge) → IsVariable Bdd w x → Splits Bdd w x f hi lo → bdd_at w hi ≡ cofactor f x true
hi-is w f x hi lo vn s = sym (ap (λ (g : ℕ → Bool). cofactor g x true) s.is ∙ cofactor-choice_true (bdd_at w hi) (bdd_at w lo) x ∙ cofactor-free (bdd_at w hi) x true (s.hi_below x vn (omega arith)))

pub lo-is : (w : View) (f : ℕ → Bool) (x : ℕ) (hi lo : Edge) → IsVariable Bdd w x → Splits Bdd w x f hi lo → bdd_at w lo ≡ cofactor f x false
lo-is w f x hi lo vn s = sym (ap (λ (g : ℕ → Bool). cofactor g x false) s.is ∙ cofactor-choice_false (bdd_at w hi) (bdd_at w lo) x ∙ cofactor-free (bdd_at w lo) x false (s.lo_below x vn (omega arith)))

same_half : (f g h a b c : ℕ → Bool) → f ≡ a → g ≡ b → h ≡ c → interval (less f g) h ≡ interval (less a b) c
same_half f g h a b c p q r = ap₂ (λ x y. interval (less x y) h) p q ∙ ap (λ y. interval (less a b) y) r

-- a task that has these edges
pub task-two : (w : View) (b : Interval) (c : Task) (e f : Edge) → c.f ≡ e → c.g ≡ f → Denotes Bdd w e b.lower → Denotes Bdd w f b.upper → AreTwo Bdd w c.f c.g
task-two w b c e f p q de df = record { first = rw p (Is-from Bdd de); second = rw q (Is-from Bdd df) }

pub task-bounds : (w : View) (b : Interval) (c : Task) (e f : Edge) → c.f ≡ e → c.g ≡ f → Denotes Bdd w e b.lower → Denotes Bdd w f b.upper → bounds_at w c.f c.g ≡ interval b.lower b.upper
task-bounds w b c e f p q de df = ap₂ (λ x y. bounds_at w x y) p q ∙ ap₂ interval (values_at-is Bdd de) (values_at-is Bdd df)

module _ (l u : Edge) (w : View) (t : Task) (x : ℕ) (d : MorrealeDue l u w t) (s : IsSplit w t x) where
  depends : (depends_at w.vars (bdd_at w t.f) x || depends_at w.vars (bdd_at w t.g) x) ≡ true
  depends = depends_splits w.vars (bounds_at w t.f t.g) x d.bounds.two.first.beyond d.bounds.two.second.beyond s.top.in_range.1 s.depends

  clear : (v : ℕ) → In v (order_in w) → w.level v ≤ w.level x → v ≢ x → LacksBoth (bounds_at w t.f t.g) v
  clear v i le other =
      let vn : IsVariable Bdd w v = d.root.variables v (by_level-within w.vars w.level v i) in
      let ne : w.level v ≡ w.level x → ⊥ = λ same. other (s.alone v vn same) in
      s.above v vn (omega (arith, le, ne))

  pub stepped : Stepped w.vars w.elements (order_in w) w.level (bounds_at w l u) (bounds_at w t.f t.g) x
  stepped = step w.vars w.elements (order_in w) w.level (bounds_at w l u) (bounds_at w t.f t.g) x (by_level-once w.vars w.level) (by_level-rises w.vars w.level) d.call
      (by_level-has w.vars w.level x s.top.in_range.1 s.top.within) s.depends depends (split_is w.vars (bounds_at w t.f t.g) x s.some s.not_all depends) clear

  further : (b : Interval) → IsCallIn w (bounds_at w l u) b → left_of w.vars (order_in w) b < left_of w.vars (order_in w) (bounds_at w t.f t.g) → (c : Task) → AreTwo Bdd w c.f c.g → bounds_at w c.f c.g ≡ b → IsFurther l u w t b c
  further b call fewer c two is = record {
    due = record {
      permanent = d.permanent;
      root = d.root;
      bounds = record { variables = d.root.variables; literals = d.root.literals; two = two };
      call = subst (IsCallIn w (bounds_at w l u)) (sym is) call;
    };
    less = subst (λ (a : Interval). left_of w.vars (order_in w) a < left_of w.vars (order_in w) (bounds_at w t.f t.g)) (sym is) fewer;
    is = is;
  }

  pub low-is-call : IsCallIn w (bounds_at w l u) (low_at w t x)
  low-is-call = low-call w.vars w.elements (order_in w) w.level (bounds_at w l u) (bounds_at w t.f t.g) x (by_level-once w.vars w.level) (by_level-within w.vars w.level) stepped

  pub high-is-call : IsCallIn w (bounds_at w l u) (high_at w t x)
  high-is-call = high-call w.vars w.elements (order_in w) w.level (bounds_at w l u) (bounds_at w t.f t.g) x (by_level-once w.vars w.level) (by_level-within w.vars w.level) stepped

  pub both-is-call : IsCallIn w (bounds_at w l u) (both_at w t x)
  both-is-call = third-call w.vars w.elements (order_in w) w.level (bounds_at w l u) (bounds_at w t.f t.g) x (by_level-once w.vars w.level) (by_level-within w.vars w.level) stepped

  pub Low-further : (c : Task) → AreTwo Bdd w c.f c.g → bounds_at w c.f c.g ≡ low_at w t x → IsFurther l u w t (low_at w t x) c
  Low-further = further (low_at w t x) low-is-call (low-fewer w.vars w.elements (order_in w) w.level (bounds_at w l u) (bounds_at w t.f t.g) x (by_level-once w.vars w.level) (by_level-within w.vars w.level) stepped)

  pub High-further : (c : Task) → AreTwo Bdd w c.f c.g → bounds_at w c.f c.g ≡ high_at w t x → IsFurther l u w t (high_at w t x) c
  High-further = further (high_at w t x) high-is-call (high-fewer w.vars w.elements (order_in w) w.level (bounds_at w l u) (bounds_at w t.f t.g) x (by_level-once w.vars w.level) (by_level-within w.vars w.level) stepped)

  pub Both-further : (c : Task) → AreTwo Bdd w c.f c.g → bounds_at w c.f c.g ≡ both_at w t x → IsFurther l u w t (both_at w t x) c
  Both-further = further (both_at w t x) both-is-call (third-fewer w.vars w.elements (order_in w) w.level (bounds_at w l u) (bounds_at w t.f t.g) x (by_level-once w.vars w.level) (by_level-within w.vars w.level) stepped)

-- the same in a later view, for a task of edges that denote the call's bounds
module _ (l u : Edge) (w v : View) (t : Task) (x : ℕ) (m : Grown w v) (d : MorrealeDue l u w t) (s : IsSplit w t x) (c : Task) (e f : Edge) (ce : c.f ≡ e) (cf : c.g ≡ f) where
  later : MorrealeDue l u v t
  later = MorrealeDue-stays l u w v t m d

  split-later : IsSplit v t x
  split-later = IsSplit-grown m t x d.bounds.two s

  pub Low-later : Denotes Bdd v e (low_at w t x).lower → Denotes Bdd v f (low_at w t x).upper → IsFurther l u v t (low_at v t x) c
  Low-later de df = Low-further l u v t x later split-later c (task-two v (low_at w t x) c e f ce cf de df) (task-bounds v (low_at w t x) c e f ce cf de df ∙ sym (low_at-grown l u w v t x m d.bounds.two))

  pub High-later : Denotes Bdd v e (high_at w t x).lower → Denotes Bdd v f (high_at w t x).upper → IsFurther l u v t (high_at v t x) c
  High-later de df = High-further l u v t x later split-later c (task-two v (high_at w t x) c e f ce cf de df) (task-bounds v (high_at w t x) c e f ce cf de df ∙ sym (high_at-grown l u w v t x m d.bounds.two))

  pub Both-later : Denotes Bdd v e (both_at w t x).lower → Denotes Bdd v f (both_at w t x).upper → IsFurther l u v t (both_at v t x) c
  Both-later de df = Both-further l u v t x later split-later c (task-two v (both_at w t x) c e f ce cf de df) (task-bounds v (both_at w t x) c e f ce cf de df ∙ sym (both_at-grown l u w v t x m d.bounds.two))

-- the steps towards the calls, from the sides of a task
module _ (l u : Edge) (w : View) (t : Task) (x : ℕ) (d : MorrealeDue l u w t) (s : IsSplit w t x) (sd : Sides) (a : AreSides w t x sd) where
  pub low-half-is : half_at w sd.lo.f sd.lo.g sd.hi.g ≡ low_at w t x
  low-half-is = same_half (bdd_at w sd.lo.f) (bdd_at w sd.hi.g) (bdd_at w sd.lo.g) (cofactor (bdd_at w t.f) x false) (cofactor (bdd_at w t.g) x true) (cofactor (bdd_at w t.g) x false)
      (lo-is w (bdd_at w t.f) x sd.hi.f sd.lo.f s.top.in_range a.lower) (hi-is w (bdd_at w t.g) x sd.hi.g sd.lo.g s.top.in_range a.upper) (lo-is w (bdd_at w t.g) x sd.hi.g sd.lo.g s.top.in_range a.upper)

  pub high-half-is : half_at w sd.hi.f sd.hi.g sd.lo.g ≡ high_at w t x
  high-half-is = same_half (bdd_at w sd.hi.f) (bdd_at w sd.lo.g) (bdd_at w sd.hi.g) (cofactor (bdd_at w t.f) x true) (cofactor (bdd_at w t.g) x false) (cofactor (bdd_at w t.g) x true)
      (hi-is w (bdd_at w t.f) x sd.hi.f sd.lo.f s.top.in_range a.lower) (lo-is w (bdd_at w t.g) x sd.hi.g sd.lo.g s.top.in_range a.upper) (hi-is w (bdd_at w t.g) x sd.hi.g sd.lo.g s.top.in_range a.upper)

  pub Low-half : IsHalf l u w sd.lo.f sd.lo.g sd.hi.g
  Low-half = record {
    permanent = d.permanent;
    root = d.root;
    two = record { first = a.lower.lo_is; second = a.upper.lo_is };
    other_is = a.upper.hi_is;
    call = subst (IsCallIn w (bounds_at w l u)) (sym low-half-is) (low-is-call l u w t x d s);
  }

  pub High-half : IsHalf l u w sd.hi.f sd.hi.g sd.lo.g
  High-half = record {
    permanent = d.permanent;
    root = d.root;
    two = record { first = a.lower.hi_is; second = a.upper.hi_is };
    other_is = a.upper.lo_is;
    call = subst (IsCallIn w (bounds_at w l u)) (sym high-half-is) (high-is-call l u w t x d s);
  }

  module _ (v : View) (m : Grown w v) where
    pub Low-two : AreTwo Bdd v sd.lo.f sd.hi.g
    Low-two = record { first = Is-grown Bdd m a.lower.lo_is; second = Is-grown Bdd m a.upper.hi_is }

    pub High-two : AreTwo Bdd v sd.hi.f sd.lo.g
    High-two = record { first = Is-grown Bdd m a.lower.hi_is; second = Is-grown Bdd m a.upper.lo_is }

    pub Upper-two : AreTwo Bdd v sd.lo.g sd.hi.g
    Upper-two = record { first = Is-grown Bdd m a.upper.lo_is; second = Is-grown Bdd m a.upper.hi_is }

    pub Low-upper : Denotes Bdd v sd.lo.g (low_at w t x).upper
    Low-upper = Denotes-lasts Bdd m (lo-is w (bdd_at w t.g) x sd.hi.g sd.lo.g s.top.in_range a.upper) a.upper.lo_is

    pub High-upper : Denotes Bdd v sd.hi.g (high_at w t x).upper
    High-upper = Denotes-lasts Bdd m (hi-is w (bdd_at w t.g) x sd.hi.g sd.lo.g s.top.in_range a.upper) a.upper.hi_is

    lower-lo : bdd_at v sd.lo.f ≡ cofactor (bdd_at w t.f) x false
    lower-lo = values_at-grown Bdd m a.lower.lo_is ∙ lo-is w (bdd_at w t.f) x sd.hi.f sd.lo.f s.top.in_range a.lower

    lower-hi : bdd_at v sd.hi.f ≡ cofactor (bdd_at w t.f) x true
    lower-hi = values_at-grown Bdd m a.lower.hi_is ∙ hi-is w (bdd_at w t.f) x sd.hi.f sd.lo.f s.top.in_range a.lower

    pub Low-does : {y : View} {O : Type 0} (r : Result Edge Stop) → RunsTo (λ e. Denotes Bdd y e (less (bdd_at v sd.lo.f) (bdd_at v sd.hi.g))) O (λ F. F ≡ BddFunction (less (bdd_at v sd.lo.f) (bdd_at v sd.hi.g))) v y (halts r)
        → Does (λ e. Denotes Bdd y e (low_at w t x).lower) l u v y r
    Low-does r run = value_does l u Bdd (low_at w t x).lower r d.root (HasBounds-grown m d.root) m (lower-work w.vars w.elements (order_in w) (bounds_at w l u) (low_at w t x) (low-is-call l u w t x d s))
        (ap₂ less lower-lo (values_at-is Bdd High-upper)) run

    pub High-does : {y : View} {O : Type 0} (r : Result Edge Stop) → RunsTo (λ e. Denotes Bdd y e (less (bdd_at v sd.hi.f) (bdd_at v sd.lo.g))) O (λ F. F ≡ BddFunction (less (bdd_at v sd.hi.f) (bdd_at v sd.lo.g))) v y (halts r)
        → Does (λ e. Denotes Bdd y e (high_at w t x).lower) l u v y r
    High-does r run = value_does l u Bdd (high_at w t x).lower r d.root (HasBounds-grown m d.root) m (lower-work w.vars w.elements (order_in w) (bounds_at w l u) (high_at w t x) (high-is-call l u w t x d s))
        (ap₂ less lower-hi (values_at-is Bdd Low-upper)) run

    -- what the answers leave of each half
    module _ (g : Edge) where
      pub Left-two : (f : Edge) {h : ℕ → Bool} → Is Bdd w f → Denotes Bdd v g h → AreTwo Bdd v f g
      Left-two f is dg = record { first = Is-grown Bdd m is; second = Is-from Bdd dg }

      pub Low-left-does : {y : View} {O : Type 0} (r : Result Edge Stop) → Denotes Bdd v g (function_in w (low_at w t x))
          → RunsTo (λ e. Denotes Bdd y e (less (bdd_at v sd.lo.f) (bdd_at v g))) O (λ F. F ≡ BddFunction (less (bdd_at v sd.lo.f) (bdd_at v g))) v y (halts r)
          → Does (λ e. Denotes Bdd y e (left_low (bounds_at w t.f t.g) x (function_in w (low_at w t x)))) l u v y r
      Low-left-does r dg run = value_does l u Bdd (left_low (bounds_at w t.f t.g) x (function_in w (low_at w t x))) r d.root (HasBounds-grown m d.root) m
          (low-left-work w.vars w.elements (order_in w) w.level (bounds_at w l u) (bounds_at w t.f t.g) x (by_level-once w.vars w.level) (by_level-within w.vars w.level) (stepped l u w t x d s))
          (ap₂ less lower-lo (values_at-is Bdd dg)) run

      pub High-left-does : {y : View} {O : Type 0} (r : Result Edge Stop) → Denotes Bdd v g (function_in w (high_at w t x))
          → RunsTo (λ e. Denotes Bdd y e (less (bdd_at v sd.hi.f) (bdd_at v g))) O (λ F. F ≡ BddFunction (less (bdd_at v sd.hi.f) (bdd_at v g))) v y (halts r)
          → Does (λ e. Denotes Bdd y e (left_high (bounds_at w t.f t.g) x (function_in w (high_at w t x)))) l u v y r
      High-left-does r dg run = value_does l u Bdd (left_high (bounds_at w t.f t.g) x (function_in w (high_at w t x))) r d.root (HasBounds-grown m d.root) m
          (high-left-work w.vars w.elements (order_in w) w.level (bounds_at w l u) (bounds_at w t.f t.g) x (by_level-once w.vars w.level) (by_level-within w.vars w.level) (stepped l u w t x d s))
          (ap₂ less lower-hi (values_at-is Bdd dg)) run

    -- the bounds of the third call
    pub Lower-does : {y : View} {O : Type 0} (e f : Edge) (r : Result Edge Stop) → Denotes Bdd v e (left_low (bounds_at w t.f t.g) x (function_in w (low_at w t x)))
        → Denotes Bdd v f (left_high (bounds_at w t.f t.g) x (function_in w (high_at w t x)))
        → RunsTo (λ h. Denotes Bdd y h (disjunction (bdd_at v e) (bdd_at v f))) O (λ F. F ≡ BddFunction (disjunction (bdd_at v e) (bdd_at v f))) v y (halts r)
        → Does (λ h. Denotes Bdd y h (both_at w t x).lower) l u v y r
    Lower-does e f r de df run = value_does l u Bdd (both_at w t x).lower r d.root (HasBounds-grown m d.root) m (lower-work w.vars w.elements (order_in w) (bounds_at w l u) (both_at w t x) (both-is-call l u w t x d s))
        (ap₂ disjunction (values_at-is Bdd de) (values_at-is Bdd df)) run

    pub Upper-does : {y : View} {O : Type 0} (r : Result Edge Stop) → RunsTo (λ h. Denotes Bdd y h (conjunction (bdd_at v sd.lo.g) (bdd_at v sd.hi.g))) O (λ F. F ≡ BddFunction (conjunction (bdd_at v sd.lo.g) (bdd_at v sd.hi.g))) v y (halts r)
        → Does (λ h. Denotes Bdd y h (both_at w t x).upper) l u v y r
    Upper-does r run = value_does l u Bdd (both_at w t x).upper r d.root (HasBounds-grown m d.root) m (upper-work w.vars w.elements (order_in w) (bounds_at w l u) (both_at w t x) (both-is-call l u w t x d s))
        (ap₂ conjunction (values_at-is Bdd Low-upper) (values_at-is Bdd High-upper)) run

-- a half in a later view
module _ {w v : View} (m : Grown w v) where
  pub half-grown : {a b c : Edge} → AreTwo Bdd w a b → Is Bdd w c → half_at v a b c ≡ half_at w a b c
  half-grown {a} {b} {c} d e = same_half (bdd_at v a) (bdd_at v c) (bdd_at v b) (bdd_at w a) (bdd_at w c) (bdd_at w b) (values_at-grown Bdd m d.first) (values_at-grown Bdd m e) (values_at-grown Bdd m d.second)

  pub IsHalf-grown : {l u a b c : Edge} → IsHalf l u w a b c → IsHalf l u v a b c
  IsHalf-grown {l} {u} {a} {b} {c} h = record {
    permanent = Permanent-grown m h.permanent;
    root = HasBounds-grown m h.root;
    two = AreTwo-grown Bdd m h.two;
    other_is = Is-grown Bdd m h.other_is;
    call = subst (λ (y : Interval). IsCallIn v (bounds_at v l u) y) (sym (half-grown h.two h.other_is))
        (subst (λ (y : Interval). IsCallIn v y (half_at w a b c)) (sym (bounds-grown m h.root.two)) (call-in-grown m (bounds_at w l u) (half_at w a b c) h.call));
  }

  pub shows-half : (family : Bool) {a b c : Edge} (e : Edge) → AreTwo Bdd w a b → Is Bdd w c → Shows family w (cover_in w (half_at w a b c)) e → Shows family v (cover_in v (half_at v a b c)) e
  shows-half family {a} {b} {c} e d is shows =
      subst (λ (y : Interval). Shows family v (cover_in v y) e) (sym (half-grown d is))
      (subst (λ (p : ℕ → Bool). Shows family v p e) (sym (cover-in-grown m (half_at w a b c))) (Shows-grown m family (cover_in w (half_at w a b c)) e shows))

  pub function-half : {a b c : Edge} → AreTwo Bdd w a b → Is Bdd w c → function_in v (half_at v a b c) ≡ function_in w (half_at w a b c)
  function-half {a} {b} {c} d is = ap (function_in v) (half-grown d is) ∙ function-in-grown m (half_at w a b c)
