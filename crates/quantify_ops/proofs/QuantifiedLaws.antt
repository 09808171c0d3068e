-- A quantified conjunction, step by step.
use Rattle.std.proofs.Common.{◌≡◌, ◌≢◌, ℕ, ℤ, suc, ◌-◌, ◌<◌, ◌≤◌, max, Bool, true, false, not, cond, ◌&&◌, ◌⊎◌, inl, inr, Some, Result, Ok, Err, IfOk, refl, sym, ap, ◌∙◌, subst, arith}
use Rattle.std.specs.Prelude.{IsOkAnd}
use Rattle.std.proofs.lemmas.Bool.{cases_lt}
use Rattle.std.proofs.Math.Bool.{and-true, and_comm, and_self}
use Rattle.edge_bits.specs.Permanent.{truth_edge}
use Rattle.edge_bits.specs.declared.edges.Edge.{Edge}
use Rattle.edge_bits.specs.declared.edges.Kind.TheVariants.{Bdd}
use Rattle.function_laws.specs.Cubes.{IsCube, IsExists}
use Rattle.function_laws.specs.Values.{IsFree, choice, conjunction, constant, disjunction, projection}
use Rattle.function_laws.proofs.CubeLemmas.{part-lacks, times-depends, IsExists-absent, IsExists-choice, IsExists-constant, IsExists-none, IsExists-quantified, IsExists-settled, IsFree-exists}
use Rattle.function_laws.proofs.ValueLemmas.{everywhere, IsFree-place}
use Rattle.node_store.specs.Edges.{flip_if}
use Rattle.function_laws.specs.Kinds.{Denoted, BddFunction}
use Rattle.node_store.specs.KindLaws.{Lacks-joined}
use Rattle.node_store.specs.declared.numbers.TheConstants as numbers
use Rattle.node_store.specs.Splits.{BothAnswered, Leads}
use Rattle.node_store.specs.Operands.{HalvesOfTwo}
use Rattle.node_store.specs.Three.{three_depth}
use Rattle.node_store.specs.Two.{IsOrderOf, TwoSplits}
use Rattle.node_store.specs.TwoLaws.{Two-is, Two-hi_below, Two-lo_below}
use Rattle.node_store.proofs.TwoParts.{PartsAt-grown}
use Rattle.node_store.specs.Views.{AreTwo, CanMake, Denotes, Grown, Is, IsLeaf, IsLeafOf, IsVariable, Kept, NotBothLeaves, PartsAt, Permanent, Splits, View, bdd_at}
use Rattle.node_store.specs.ViewLaws.{Grown-refl, Is-from, IsVariable-grown, level-grown, values_at-is, values_at-grown, top-grown}
use Rattle.node_store.specs.Work.{whole, IsWork, Adds, Moves}
use Rattle.node_store.specs.WorkLaws.{IsPart-half, IsWork-due, IsWork-grown, Moves-both, Moves-kept, Moves-made}
use Rattle.node_store.specs.declared.operator.Frame.{Frame}
use Rattle.node_store.specs.declared.operator.Halt.{Halt}
use Rattle.node_store.specs.declared.operator.Task.{Task}
use Rattle.node_store.specs.declared.parts.Halves.{Halves}
use Rattle.node_store.specs.declared.operator.Wait.{Wait}
use Rattle.node_store.specs.declared.operator.Wait.TheVariants.{First, Only, Second}
use Rattle.ite_core.proofs.Terminals.{truth_at}
use Rattle.quantify_ops.specs.Quantified.{both_at, AreQuantified, IsFreeAbove, StandsAbove, IsQuantifiedValue, QuantifiedDue, QuantifiedAnswers, IsLeft, IsLeftAbove, IsLeftBelow, QuantifiedSplits, IsRest, FirstAnswered, IsKeyOf, IsSkip, IsSplit, PartWaits, QuantifiedWaits, SkipWaits}
use Rattle.quantify_ops.specs.QuantifiedLasts.{AreQuantified-grown, IsQuantifiedValue-stays, QuantifiedDue-stays, QuantifiedAnswers-stay, QuantifiedSplits-stay}

-- a function that splits at a variable is free of those above
free_above : (w : View) (x : ℕ) (f : ℕ → Bool) (hi lo : Edge) → IsVariable Bdd w x → Splits Bdd w x f hi lo → (u : ℕ) → IsVariable Bdd w u → w.level u < w.level x → IsFree f u
free_above w x f hi lo xn s u un lt =
    let apart : u ≢ x = λ e. let same = ap w.level e in omega arith in
    subst (λ g. IsFree g u) (sym s.is) (Lacks-joined Bdd u x (bdd_at w hi) (bdd_at w lo) apart (s.hi_below u un (omega arith)) (s.lo_below u un (omega arith)))

-- below the split
half_free : (w : View) (x level : ℕ) (f : ℕ → Bool) (hi lo : Edge) (b : Bool) → IsVariable Bdd w x → Splits Bdd w x f hi lo → IsFreeAbove w level f
    → IsFreeAbove w (max level (suc (w.level x))) (cond b (bdd_at w hi) (bdd_at w lo))
half_free w x level f hi lo b xn s free u un lt = elim (cases_lt (w.level u) level) [
  | inl above ↦ part-lacks x u f (bdd_at w hi) (bdd_at w lo) b s.is (s.hi_below x xn (omega arith)) (s.lo_below x xn (omega arith)) (free u un above)
  | inr from ↦ let le : w.level u ≤ w.level x = omega arith in by_part b (s.hi_below u un le) (s.lo_below u un le)
]
  where
    by_part : (b : Bool) → IsFree (bdd_at w hi) u → IsFree (bdd_at w lo) u → IsFree (cond b (bdd_at w hi) (bdd_at w lo)) u
    by_part true p q = p
    by_part false p q = q

top_free : (w : View) (x level : ℕ) (f : ℕ → Bool) (hi lo : Edge) → IsVariable Bdd w x → Splits Bdd w x f hi lo → IsFreeAbove w level f → IsFreeAbove w (max level (w.level x)) f
top_free w x level f hi lo xn s free u un lt = elim (cases_lt (w.level u) level) [
  | inl above ↦ free u un above
  | inr from ↦ let higher : w.level u < w.level x = omega arith in free_above w x f hi lo xn s u un higher
]

both_free : (w : View) (level : ℕ) (f g : Edge) → IsFreeAbove w level (bdd_at w f) → IsFreeAbove w level (bdd_at w g) → IsFreeAbove w level (both_at w f g)
both_free w level f g p q u un lt = IsFree-place (λ a b. a && b) (bdd_at w f) (bdd_at w g) u (p u un lt) (q u un lt)

-- what is left of the product, below the top variable and below its own
left_top : (w : View) (level under : ℕ) (c d e : ℕ → Bool) → StandsAbove w level d c → StandsAbove w under e d → StandsAbove w (max level under) e c
left_top w level under c d e p q a h free is =
    p a h (λ u un lt. let l : w.level u < max level under = omega arith in free u un l) (q a h (λ u un lt. let l : w.level u < max level under = omega arith in free u un l) is)

left_part : (w : View) (level x : ℕ) (c d e : ℕ → Bool) → IsVariable Bdd w x → IsCube e → StandsAbove w (max level (w.level x)) d c → IsLeft x d e → StandsAbove w (max level (suc (w.level x))) e c
left_part w level x c d e xn q p step a h free is =
    p a h (λ u un lt. let l : w.level u < max level (suc (w.level x)) = omega arith in free u un l) (elim step [
      | inl times ↦ subst (λ f. IsExists f a h) (sym times) (IsExists-absent x e a h q (let l : w.level x < max level (suc (w.level x)) = omega arith in free x xn l) is)
      | inr same ↦ subst (λ f. IsExists f a h) (sym same.0) is
    ])

-- the parts of a task, and the same task without the product's top variable
module _ (f g c : Edge) (w : View) (t : Task) (b : Halves) (r : Edge) (due : QuantifiedDue f g c w t) (h : HalvesOfTwo Bdd w t.f t.g b) where
  abbrev x : ℕ
  x = b.top.var

  hi_task : Task
  hi_task = record { f = b.hi.f; g = b.hi.g; h = r }

  lo_task : Task
  lo_task = record { f = b.lo.f; g = b.lo.g; h = r }

  above_both : IsFreeAbove w (w.level x) (both_at w t.f t.g)
  above_both = both_free w (w.level x) t.f t.g (free_above w x (bdd_at w t.f) b.hi.f b.lo.f h.top.in_range h.f.splits) (free_above w x (bdd_at w t.g) b.hi.g b.lo.g h.top.in_range h.g.splits)

  pub step_split : IsLeftBelow w t.h x r → IsSplit f g c w t (record { task = t; flip = false; var = x; hi = record { f = b.hi.f; g = b.hi.g; h = r }; lo = record { f = b.lo.f; g = b.lo.g; h = r } })
  step_split left =
      let s : TwoSplits Bdd w t x b.hi b.lo = record { in_range = h.top.in_range; f = h.f.splits; g = h.g.splits } in
      let leads_same : StandsAbove w (max due.level (w.level x)) (bdd_at w t.h) (bdd_at w c) = left_top w due.level (w.level x) (bdd_at w c) (bdd_at w t.h) (bdd_at w t.h) due.left (λ a h free is. is) in
      let left_same = left_part w due.level x (bdd_at w c) (bdd_at w t.h) (bdd_at w r) s.in_range left.left.cube leads_same left.step in
      let touches = h.top.touches in let af = h.top.above_f in let ag = h.top.above_g in let within = h.top.within in
      let hf = h.f.hi_top in let lf = h.f.lo_top in let hg = h.g.hi_top in let lg = h.g.lo_top in let from = left.from in let lower = left.lower in
      let here : three_depth Bdd w t ≡ w.vars - w.level x = elim touches [ inl e ↦ omega arith | inr e ↦ omega arith ] in
      record {
        branches = record {
          due = due;
          leads = record { gives = λ y e late a. a; over = λ y late bad. bad };
          splits = record { two = record { in_range = s.in_range; f = s.f; g = s.g }; above = left.above; left = left.left; step = left.step; same = refl };
          hi_due = record {
            permanent = due.permanent;
            roots = due.roots;
            operands = record { two = record { first = s.f.hi_is; second = s.g.hi_is }; cube = left.left };
            part_f = IsPart-half Bdd w x (bdd_at w f) (bdd_at w t.f) (bdd_at w b.hi.f) (bdd_at w b.lo.f) true s.in_range s.f.is s.f.hi_below s.f.lo_below due.part_f;
            part_g = IsPart-half Bdd w x (bdd_at w g) (bdd_at w t.g) (bdd_at w b.hi.g) (bdd_at w b.lo.g) true s.in_range s.g.is s.g.hi_below s.g.lo_below due.part_g;
            level = max due.level (suc (w.level x));
            free_f = half_free w x due.level (bdd_at w t.f) b.hi.f b.lo.f true s.in_range s.f due.free_f;
            free_g = half_free w x due.level (bdd_at w t.g) b.hi.g b.lo.g true s.in_range s.g due.free_g;
            left = left_same;
          };
          lo_due = record {
            permanent = due.permanent;
            roots = due.roots;
            operands = record { two = record { first = s.f.lo_is; second = s.g.lo_is }; cube = left.left };
            part_f = IsPart-half Bdd w x (bdd_at w f) (bdd_at w t.f) (bdd_at w b.hi.f) (bdd_at w b.lo.f) false s.in_range s.f.is s.f.hi_below s.f.lo_below due.part_f;
            part_g = IsPart-half Bdd w x (bdd_at w g) (bdd_at w t.g) (bdd_at w b.hi.g) (bdd_at w b.lo.g) false s.in_range s.g.is s.g.hi_below s.g.lo_below due.part_g;
            level = max due.level (suc (w.level x));
            free_f = half_free w x due.level (bdd_at w t.f) b.hi.f b.lo.f false s.in_range s.f due.free_f;
            free_g = half_free w x due.level (bdd_at w t.g) b.hi.g b.lo.g false s.in_range s.g due.free_g;
            left = left_same;
          };
          hi_less = omega arith;
          lo_less = omega arith;
        };
        plain = refl;
      }

  pub step_skip : IsLeftAbove w t.h x r → IsSkip f g c w t (record { f = t.f; g = t.g; h = r })
  step_skip left =
      let touches = h.top.touches in let af = h.top.above_f in let ag = h.top.above_g in let within = h.top.within in let above = left.above in let lower = left.lower in
      record {
        passes = record {
          gives = λ y e late a.
              let is = rw (values_at-grown Bdd late due.operands.two.first, values_at-grown Bdd late due.operands.two.second, values_at-grown Bdd late left.left.edge) at a.exists in
              record {
                answer = a.answer;
                exists = rw (values_at-grown Bdd late due.operands.cube.edge, values_at-grown Bdd late due.operands.two.first, values_at-grown Bdd late due.operands.two.second)
                    (left.stands (both_at w t.f t.g) (bdd_at y e) above_both is);
              };
          over = λ y m bad. bad;
        };
        due = record {
          permanent = due.permanent;
          roots = due.roots;
          operands = record { two = due.operands.two; cube = left.left };
          part_f = due.part_f;
          part_g = due.part_g;
          level = max due.level (w.level x);
          free_f = top_free w x due.level (bdd_at w t.f) b.hi.f b.lo.f h.top.in_range h.f.splits due.free_f;
          free_g = top_free w x due.level (bdd_at w t.g) b.hi.g b.lo.g h.top.in_range h.g.splits due.free_g;
          left = left_top w due.level (w.level x) (bdd_at w c) (bdd_at w t.h) (bdd_at w r) due.left left.stands;
        };
        less = omega arith;
      }

-- the parts of two functions, later
pub halves_later : (v w : View) (f g : Edge) (b : Halves) → Grown v w → AreTwo Bdd v f g → HalvesOfTwo Bdd v f g b → HalvesOfTwo Bdd w f g b
halves_later v w f g b m d h =
    let x = b.top.var in
    let level = level-grown m x in let top_f = top-grown Bdd m d.first in let top_g = top-grown Bdd m d.second in let vars = m.vars in
    let within = h.top.within in let af = h.top.above_f in let ag = h.top.above_g in
    record {
      top = record {
        in_range = IsVariable-grown Bdd m x h.top.in_range;
        within = omega arith;
        above_f = omega arith;
        above_g = omega arith;
        touches = elim h.top.touches [ inl e ↦ inl (omega arith) | inr e ↦ inr (omega arith) ];
      };
      level = h.level ∙ sym level;
      f = subst (λ (a : ℕ → Bool). PartsAt Bdd w f a x b.hi.f b.lo.f) (sym (values_at-grown Bdd m d.first)) (PartsAt-grown Bdd m h.f);
      g = subst (λ (a : ℕ → Bool). PartsAt Bdd w g a x b.hi.g b.lo.g) (sym (values_at-grown Bdd m d.second)) (PartsAt-grown Bdd m h.g);
    }

-- which frame waits
pub part_waits : (f g c : Edge) (w : View) (root : Task) (frame : Frame) (child : Task) → (frame.wait ≡ Only → ⊥) → QuantifiedWaits f g c w root frame child → PartWaits f g c w root frame child
part_waits f g c w root frame child other (inl q) = absurd (other q.only)
part_waits f g c w root frame child other (inr q) = q

pub skip_waits : (f g c : Edge) (w : View) (root : Task) (frame : Frame) (child : Task) → frame.wait ≡ Only → QuantifiedWaits f g c w root frame child → SkipWaits w root frame child
skip_waits f g c w root frame child is (inl q) = q
skip_waits f g c w root frame child is (inr q) = absurd (rw is at q.waiting.wait)

pub not_first : (wait : Wait) (later : Task) → wait ≡ First later → wait ≡ Only → ⊥
not_first wait later is only = let bad : First later ≡ Only = sym is ∙ only in cc

pub not_second : (wait : Wait) (hi : Edge) → wait ≡ Second hi → wait ≡ Only → ⊥
not_second wait hi is only = let bad : Second hi ≡ Only = sym is ∙ only in cc

-- an answer of a task below the top variable is one of the task
pub leads_plain : (w x : View) (root task : Task) (flip : Bool) (e : Edge) → Leads QuantifiedAnswers (λ w t. ⊥) w root flip task → flip ≡ false → Grown w x → QuantifiedAnswers x task e → QuantifiedAnswers x root e
leads_plain w x root task flip e leads plain m a = subst (λ c. QuantifiedAnswers x root (flip_if c e)) plain (leads.gives x e m a)

-- a conjunction that is known to be constant
pub known_answer : (w : View) (t : Task) (b : Bool) (e : Edge) → both_at w t.f t.g ≡ constant b → Denotes Bdd w e (constant b) → QuantifiedAnswers w t e
known_answer w t b e is d = record { answer = Is-from Bdd d; exists = rw (is, values_at-is Bdd d) (IsExists-constant (bdd_at w t.h) b) }

-- nothing is left to quantify
pub unquantified_value : (w : View) → Permanent w → (t : Task) (f g : Edge) → t.h.index ≡ 0 → t.f ≡ f → t.g ≡ g → IsExists (bdd_at w t.h) (both_at w t.f t.g) (both_at w f g)
unquantified_value w p t f g zero sf sg = rw (sf, sg, truth_at w p t.h zero) (IsExists-none (constant (not t.h.complement)) (both_at w f g) (λ v k b. refl))

-- the keys
pub key_exists : (w : View) (t : Task) (f : Edge) → AreQuantified w t.f t.g t.h → Is Bdd w f → both_at w t.f t.g ≡ bdd_at w f → IsKeyOf w t (record { op = numbers.EXISTS; f = f; g = t.h; h = f })
key_exists w t f d df same = record {
  is_key = record { least = omega arith; most = omega arith; f = (Bdd, df); g = (Bdd, d.cube.edge); h = (Bdd, df) };
  keeps = λ e a. record { f = df; cube = d.cube.edge; answer = a.answer; exists = subst (λ x. IsExists (bdd_at w t.h) x (bdd_at w e)) same a.exists };
  hit = λ e h. record { answer = h.answer; exists = subst (λ x. IsExists (bdd_at w t.h) x (bdd_at w e)) (sym same) h.exists };
}

pub both_same : (w : View) (f g : Edge) → f ≡ g → both_at w f g ≡ bdd_at w f
both_same w f g same = ap (λ e. both_at w f e) (sym same) ∙ everywhere (both_at w f f) (bdd_at w f) (λ k. and_self (bdd_at w f k))

pub both_first : (w : View) → Permanent w → (f g : Edge) → f ≡ truth_edge true → both_at w f g ≡ bdd_at w g
both_first w p f g one = ap (λ h. conjunction h (bdd_at w g)) (truth_at w p f (ap (λ e. e.index) one) ∙ ap (λ e. constant (not e.complement)) one)

pub both_second : (w : View) → Permanent w → (f g : Edge) → g ≡ truth_edge true → both_at w f g ≡ bdd_at w f
both_second w p f g one =
    ap (λ h. conjunction (bdd_at w f) h) (truth_at w p g (ap (λ e. e.index) one) ∙ ap (λ e. constant (not e.complement)) one)
    ∙ everywhere (conjunction (bdd_at w f) (constant true)) (bdd_at w f) (λ k. and-true (bdd_at w f k))

key_and : (w : View) (t : Task) (f g : Edge) → AreQuantified w t.f t.g t.h → AreTwo Bdd w f g → both_at w t.f t.g ≡ both_at w f g → IsKeyOf w t (record { op = numbers.AND_EXISTS; f = f; g = g; h = t.h })
key_and w t f g d two same = record {
  is_key = record { least = omega arith; most = omega arith; f = (Bdd, two.first); g = (Bdd, two.second); h = (Bdd, d.cube.edge) };
  keeps = λ e a. record { f = two.first; g = two.second; cube = d.cube.edge; answer = a.answer; exists = subst (λ x. IsExists (bdd_at w t.h) x (bdd_at w e)) same a.exists };
  hit = λ e h. record { answer = h.answer; exists = subst (λ x. IsExists (bdd_at w t.h) x (bdd_at w e)) (sym same) h.exists };
}

pub key_ordered : (w : View) (t o : Task) → IsOrderOf t.f t.g o → AreQuantified w t.f t.g t.h → IsKeyOf w t (record { op = numbers.AND_EXISTS; f = o.f; g = o.g; h = t.h })
key_ordered w t o order d = elim order [
  | inl p ↦ key_and w t o.f o.g d (record { first = rw p.0 d.two.first; second = rw p.1 d.two.second }) (rw (p.0, p.1) refl)
  | inr p ↦ key_and w t o.f o.g d (record { first = rw p.0 d.two.second; second = rw p.1 d.two.first })
      (rw (p.0, p.1) (everywhere (both_at w t.f t.g) (both_at w t.g t.f) (λ k. and_comm (bdd_at w t.f k) (bdd_at w t.g k))))
]

-- the value of both parts' answers
module _ (w : View) (t hi lo : Task) (x : ℕ) (s : QuantifiedSplits w t x hi lo) where
  whole_is : both_at w t.f t.g ≡ choice x (both_at w hi.f hi.g) (both_at w lo.f lo.g)
  whole_is = Two-is Bdd (λ a b. a && b) s.two

  free_hi : IsFree (both_at w hi.f hi.g) x
  free_hi = Two-hi_below Bdd (λ a b. a && b) tt s.two x s.two.in_range (omega arith)

  free_lo : IsFree (both_at w lo.f lo.g) x
  free_lo = Two-lo_below Bdd (λ a b. a && b) tt s.two x s.two.in_range (omega arith)

  second : (b : Edge) → QuantifiedAnswers w lo b → IsExists (bdd_at w hi.h) (both_at w lo.f lo.g) (bdd_at w b)
  second b is = subst (λ e. IsExists (bdd_at w e) (both_at w lo.f lo.g) (bdd_at w b)) s.same is.exists

  -- the variable is quantified
  depends : (r : Edge) → IsRest w t.h x r → bdd_at w t.h ≡ conjunction (projection x) (bdd_at w hi.h)
  depends r rest = elim s.step [
    | inl times ↦ times
    | inr same ↦ absurd (times-depends x (bdd_at w r) rest.left.cube (subst (λ f. IsFree f x) rest.is same.1))
  ]

  pub quantified_value : (a b r : Edge) → IsRest w t.h x r → QuantifiedAnswers w hi a → QuantifiedAnswers w lo b → IsExists (bdd_at w t.h) (both_at w t.f t.g) (disjunction (bdd_at w a) (bdd_at w b))
  quantified_value a b r rest is_a is_b = rw (depends r rest, whole_is)
      (IsExists-quantified x (bdd_at w hi.h) (both_at w hi.f hi.g) (both_at w lo.f lo.g) (bdd_at w a) (bdd_at w b) s.left.cube free_hi free_lo is_a.exists (second b is_b))

  pub settled_value : (a r : Edge) → IsRest w t.h x r → bdd_at w a ≡ constant true → QuantifiedAnswers w hi a → QuantifiedAnswers w t a
  settled_value a r rest one is_a = record {
    answer = is_a.answer;
    exists = rw (depends r rest, whole_is, one)
        (IsExists-settled x (bdd_at w hi.h) (both_at w hi.f hi.g) (both_at w lo.f lo.g) s.left.cube free_hi free_lo (subst (λ h. IsExists (bdd_at w hi.h) (both_at w hi.f hi.g) h) one is_a.exists));
  }

  -- it isn't
  pub choice_value : (a b : Edge) → IsFree (bdd_at w t.h) x → QuantifiedAnswers w hi a → QuantifiedAnswers w lo b → IsExists (bdd_at w t.h) (both_at w t.f t.g) (choice x (bdd_at w a) (bdd_at w b))
  choice_value a b free is_a is_b = elim s.step [
    | inl times ↦ absurd (times-depends x (bdd_at w hi.h) s.left.cube (subst (λ f. IsFree f x) times free))
    | inr same ↦ rw whole_is (IsExists-choice x (bdd_at w t.h) (both_at w hi.f hi.g) (both_at w lo.f lo.g) (bdd_at w a) (bdd_at w b) free
        (subst (λ c. IsExists c (both_at w hi.f hi.g) (bdd_at w a)) (sym same.0) is_a.exists)
        (subst (λ c. IsExists c (both_at w lo.f lo.g) (bdd_at w b)) (sym same.0) (second b is_b)))
  ]

  pub quantified_node : (a b : Edge) → QuantifiedAnswers w hi a → QuantifiedAnswers w lo b → CanMake Bdd w x a b
  quantified_node a b is_a is_b = record {
    in_range = s.two.in_range;
    hi_is = is_a.answer;
    lo_is = is_b.answer;
    hi_below = λ u un le. IsFree-exists (bdd_at w hi.h) (both_at w hi.f hi.g) (bdd_at w a) u is_a.exists (Two-hi_below Bdd (λ a b. a && b) tt s.two u un le);
    lo_below = λ u un le. IsFree-exists (bdd_at w hi.h) (both_at w lo.f lo.g) (bdd_at w b) u (second b is_b) (Two-lo_below Bdd (λ a b. a && b) tt s.two u un le);
  }

-- parts that have their answers keep them
lo_operands : (w : View) (t hi lo : Task) (x : ℕ) → QuantifiedSplits w t x hi lo → AreQuantified w lo.f lo.g lo.h
lo_operands w t hi lo x s = record { two = record { first = s.two.f.lo_is; second = s.two.g.lo_is }; cube = rw s.same s.left }

hi_operands : (w : View) (t hi lo : Task) (x : ℕ) → QuantifiedSplits w t x hi lo → AreQuantified w hi.f hi.g hi.h
hi_operands w t hi lo x s = record { two = record { first = s.two.f.hi_is; second = s.two.g.hi_is }; cube = s.left }

module _ (f g c : Edge) where
  pub BothAnswered-grown : (v w : View) (t : Task) (x : ℕ) (a b : Edge) (hi lo : Task) → Grown v w
      → BothAnswered (QuantifiedDue f g c) QuantifiedAnswers QuantifiedSplits v t x a b hi lo → BothAnswered (QuantifiedDue f g c) QuantifiedAnswers QuantifiedSplits w t x a b hi lo
  BothAnswered-grown v w t x a b hi lo m p = record {
    due = QuantifiedDue-stays f g c v w t m p.due;
    splits = QuantifiedSplits-stay v w t x hi lo m p.due.operands p.splits;
    hi_is = QuantifiedAnswers-stay v w hi a m (hi_operands v t hi lo x p.splits) p.hi_is;
    lo_is = QuantifiedAnswers-stay v w lo b m (lo_operands v t hi lo x p.splits) p.lo_is;
  }

  pub FirstAnswered-grown : (v w : View) (t : Task) (x : ℕ) (a : Edge) (hi lo : Task) → Grown v w → FirstAnswered f g c v t x a hi lo → FirstAnswered f g c w t x a hi lo
  FirstAnswered-grown v w t x a hi lo m p = record {
    due = QuantifiedDue-stays f g c v w t m p.due;
    splits = QuantifiedSplits-stay v w t x hi lo m p.due.operands p.splits;
    first_is = QuantifiedAnswers-stay v w hi a m (hi_operands v t hi lo x p.splits) p.first_is;
  }

  -- a task's value is of the work
  value : (w : View) (t : Task) (h : ℕ → Bool) → QuantifiedDue f g c w t → IsExists (bdd_at w t.h) (both_at w t.f t.g) h → IsQuantifiedValue f g c w (BddFunction h)
  value w t h d is = record {
    a = bdd_at w t.f;
    b = bdd_at w t.g;
    h = h;
    part_f = d.part_f;
    part_g = d.part_g;
    exists = d.left (both_at w t.f t.g) h (both_free w d.level t.f t.g d.free_f d.free_g) is;
    is = refl;
  }

  module _ (v w : View) (t : Task) (h : ℕ → Bool) (d : QuantifiedDue f g c v t) (m : Grown v w) (is : IsExists (bdd_at v t.h) (both_at v t.f t.g) h) where
    later : IsQuantifiedValue f g c w (BddFunction h)
    later = IsQuantifiedValue-stays f g c v w (BddFunction h) m d.roots (value v t h d is)

    all_of : (F : Denoted) → F ≡ BddFunction h → IsQuantifiedValue f g c w F
    all_of F same = subst (λ x. IsQuantifiedValue f g c w x) (sym same) later

    Quantified-answer : (e : Edge) → Denotes Bdd w e h → QuantifiedAnswers w t e
    Quantified-answer e den = record {
      answer = Is-from Bdd den;
      exists = rw (values_at-grown Bdd m d.operands.cube.edge, values_at-grown Bdd m d.operands.two.first, values_at-grown Bdd m d.operands.two.second, values_at-is Bdd den) is;
    }

    -- it was stored, or due, in a node or in a run
    Quantified-made : (e : Edge) → ((s : ℕ) → w.made s ≡ true → (v.made s ≡ true) ⊎ (e.index ≡ s)) → Denotes Bdd w e h → Moves (λ w. AreQuantified w f g c) (IsQuantifiedValue f g c) v w
    Quantified-made e made den = Moves-made Bdd (λ w. AreQuantified w f g c) (IsQuantifiedValue f g c) v w e h h m made (λ roots. later) whole den

    pub Quantified-node : (r : Result Edge Halt) → ((s : ℕ) → w.made s ≡ true → (v.made s ≡ true) ⊎ IsOkAnd r (λ e. e.index ≡ s)) → IfOk r (λ e. Denotes Bdd w e h)
        → Moves (λ w. AreQuantified w f g c) (IsQuantifiedValue f g c) v w
    Quantified-node (Ok e) made den = Quantified-made e made den
    Quantified-node (Err e) made den = record { grown = m; work = λ roots s here. elim (made s here) [ inl old ↦ inl old | inr bad ↦ absurd bad ] }

    pub Quantified-answers : (r : Result Edge Halt) → IfOk r (λ e. Denotes Bdd w e h) → IfOk r (QuantifiedAnswers w t)
    Quantified-answers (Ok e) den = Quantified-answer e den
    Quantified-answers (Err e) den = den

    pub Quantified-added : Adds (λ F. F ≡ BddFunction h) v w → Moves (λ w. AreQuantified w f g c) (IsQuantifiedValue f g c) v w
    Quantified-added adds = record {
      grown = m;
      work = λ roots s here. elim (adds s here) [
        | inl old ↦ inl old
        | inr i ↦ inr (IsWork-grown (Grown-refl w) (λ F. F ≡ BddFunction h) (IsQuantifiedValue f g c w) all_of (w.content s) i)
      ];
    }

    pub Quantified-due : w.due ≡ Some (BddFunction h) → IsWork w (IsQuantifiedValue f g c w) w.due
    Quantified-due due = IsWork-due Bdd w (IsQuantifiedValue f g c w) h h later whole due

    pub Quantified-refused : IsWork w (λ F. F ≡ BddFunction h) w.due → IsWork w (IsQuantifiedValue f g c w) w.due
    Quantified-refused i = IsWork-grown (Grown-refl w) (λ F. F ≡ BddFunction h) (IsQuantifiedValue f g c w) all_of w.due i

  -- calls that make nothing, before and after
  pub moved_after : (u v w : View) → Kept u v → Moves (λ w. AreQuantified w f g c) (IsQuantifiedValue f g c) v w → Moves (λ w. AreQuantified w f g c) (IsQuantifiedValue f g c) u w
  moved_after u v w k p = Moves-both (λ w. AreQuantified w f g c) (IsQuantifiedValue f g c) (λ v w m d. AreQuantified-grown m d) (IsQuantifiedValue-stays f g c) u v w
      (Moves-kept (λ w. AreQuantified w f g c) (IsQuantifiedValue f g c) u v k) p

  pub moved_before : (u v w : View) → Moves (λ w. AreQuantified w f g c) (IsQuantifiedValue f g c) u v → Kept v w → Moves (λ w. AreQuantified w f g c) (IsQuantifiedValue f g c) u w
  moved_before u v w p k = Moves-both (λ w. AreQuantified w f g c) (IsQuantifiedValue f g c) (λ v w m d. AreQuantified-grown m d) (IsQuantifiedValue-stays f g c) u v w
      p (Moves-kept (λ w. AreQuantified w f g c) (IsQuantifiedValue f g c) v w k)

-- operands that were not both leaves before
pub leaves_back : (v w : View) (f g : Edge) (x y : ℤ) → Grown v w → AreTwo Bdd v f g → NotBothLeaves Bdd v f g → IsLeaf Bdd w f (bdd_at w f) x × IsLeaf Bdd w g (bdd_at w g) y → ⊥
leaves_back v w f g x y m two never leaves = never x y (back f x two.first leaves.0) (back g y two.second leaves.1)
  where
    back : (e : Edge) (z : ℤ) → Is Bdd v e → IsLeaf Bdd w e (bdd_at w e) z → IsLeaf Bdd v e (bdd_at v e) z
    back e z d i = record { leaf = subst (λ h. IsLeafOf Bdd e h z) (values_at-grown Bdd m d) i.leaf; here = sym (top-grown Bdd m d) ∙ i.here ∙ m.vars }

-- nothing was stored
pub Quantified-none : (f g c : Edge) (v w : View) → Grown v w → ((s : ℕ) → w.made s ≡ true → (v.made s ≡ true) ⊎ ⊥) → Moves (λ w. AreQuantified w f g c) (IsQuantifiedValue f g c) v w
Quantified-none f g c v w m made = record { grown = m; work = λ roots s here. elim (made s here) [ inl old ↦ inl old | inr bad ↦ absurd bad ] }
