-- Whether a function implies another, step by step.
use Rattle.std.proofs.Common.{◌≡◌, ℕ, ◌-◌, ◌<◌, Bool, true, false, not, cond, inl, inr, refl, ap, sym, ◌∙◌, arith}
use Rattle.std.proofs.lemmas.Bool.{both_ways}
use Rattle.edge_bits.specs.Permanent.{truth_edge}
use Rattle.edge_bits.specs.declared.edges.Edge.{Edge}
use Rattle.edge_bits.specs.declared.edges.Kind.TheVariants.{Bdd}
use Rattle.edge_bits.specs.Assignments.{bit, set_bit}
use Rattle.function_laws.specs.Values.{choice, constant, IsFree}
use Rattle.node_store.specs.KindLaws.{part-joined}
use Rattle.node_store.specs.Memo.{Implies, Tells}
use Rattle.node_store.specs.Splits.{Leads}
use Rattle.node_store.specs.Two.{TwoSplits, two_depth}
use Rattle.node_store.specs.Operands.{HalvesOfTwo}
use Rattle.node_store.specs.Views.{View, NotBothLeaves, Permanent, bdd_at}
use Rattle.node_store.specs.declared.operator.Task.{Task}
use Rattle.node_store.specs.declared.parts.Halves.{Halves}
use Rattle.node_store.proofs.ThreeParts.{bdd_leaf_index}
use Rattle.ite_core.specs.Implications.{ImplicationDue, ImplicationAnswers}
use Rattle.ite_core.proofs.Terminals.{truth_at}

-- terminal cases
pub tells_yes : (f g : ℕ → Bool) → Implies f g → Tells f g (truth_edge true)
tells_yes f g h = record { yes = true; is = refl; says = (λ _. h, λ _. refl) }

pub tells_no : (f g : ℕ → Bool) → (Implies f g → ⊥) → Tells f g (truth_edge false)
tells_no f g h = record { yes = false; is = refl; says = (λ bad. let no : false ≡ true = bad in cc, λ is. absurd (h is)) }

pub equal_tell : (w : View) (f g : Edge) → f ≡ g → Tells (bdd_at w f) (bdd_at w g) (truth_edge true)
equal_tell w f g same = tells_yes (bdd_at w f) (bdd_at w g) (λ k holds. rw (sym same) holds)

pub false_tells : (w : View) → Permanent w → (f g : Edge) → f.index ≡ 0 → f.complement ≡ true → Tells (bdd_at w f) (bdd_at w g) (truth_edge true)
false_tells w p f g zero flip =
    let is : bdd_at w f ≡ constant false = truth_at w p f zero ∙ ap (λ c. constant (not c)) flip in
    tells_yes (bdd_at w f) (bdd_at w g) (λ k holds. absurd (both_ways (bdd_at w f k) (ap (λ (x : ℕ → Bool). x k) is) holds))

-- the first is true, so that the answer is the second
pub constant_tells : (w : View) → Permanent w → (f g : Edge) → f.index ≡ 0 → f.complement ≡ false → g.index ≡ 0 → Tells (bdd_at w f) (bdd_at w g) (truth_edge (not g.complement))
constant_tells w p f g fz plain gz =
    let one : bdd_at w f ≡ constant true = truth_at w p f fz ∙ ap (λ c. constant (not c)) plain in
    rw (one, truth_at w p g gz) (by_value (not g.complement))
  where
    by_value : (b : Bool) → Tells (constant true) (constant b) (truth_edge b)
    by_value true = tells_yes (constant true) (constant true) (λ k holds. refl)
    by_value false = tells_no (constant true) (constant false) (λ h. both_ways false refl (h 0 refl))

pub second_tells : (w : View) → Permanent w → (f g : Edge) → g.index ≡ 0 → g.complement ≡ false → Tells (bdd_at w f) (bdd_at w g) (truth_edge true)
second_tells w p f g zero plain =
    let is : bdd_at w g ≡ constant true = truth_at w p g zero ∙ ap (λ c. constant (not c)) plain in
    tells_yes (bdd_at w f) (bdd_at w g) (λ k holds. ap (λ (x : ℕ → Bool). x k) is)

pub not_second : (w : View) (f g : Edge) → (g.index ≡ 0 → ⊥) → NotBothLeaves Bdd w f g
not_second w f g ne x y i j = ne (bdd_leaf_index g (bdd_at w g) y j.leaf)

-- an implication of two choices is that of both parts
from_choice : (x : ℕ) (b : Bool) (f1 f0 g1 g0 : ℕ → Bool) → IsFree f1 x → IsFree f0 x → IsFree g1 x → IsFree g0 x → Implies (choice x f1 f0) (choice x g1 g0) → Implies (cond b f1 f0) (cond b g1 g0)
from_choice x b f1 f0 g1 g0 p q r s h k holds =
    let f_is = ap (λ (y : ℕ → Bool). y k) (part-joined Bdd x f1 f0 b p q) in
    let g_is = ap (λ (y : ℕ → Bool). y k) (part-joined Bdd x g1 g0 b r s) in
    sym g_is ∙ h (set_bit k x b) (f_is ∙ holds)

to_choice : (x : ℕ) (f1 f0 g1 g0 : ℕ → Bool) → Implies f1 g1 → Implies f0 g0 → Implies (choice x f1 f0) (choice x g1 g0)
to_choice x f1 f0 g1 g0 p q k holds = by_bit (bit k x) (f1 k) (f0 k) (g1 k) (g0 k) (p k) (q k) holds
  where
    by_bit : (b a c d e : Bool) → (a ≡ true → d ≡ true) → (c ≡ true → e ≡ true) → cond b a c ≡ true → cond b d e ≡ true
    by_bit true a c d e p q h = p h
    by_bit false a c d e p q h = q h

-- the answer of both parts
both_tell : (f g : ℕ → Bool) (x : ℕ) (f1 f0 g1 g0 : ℕ → Bool) → IsFree f1 x → IsFree f0 x → IsFree g1 x → IsFree g0 x → f ≡ choice x f1 f0 → g ≡ choice x g1 g0
    → (a b : Edge) → Tells f1 g1 a → Tells f0 g0 b → Tells f g (cond a.complement a b)
both_tell f g x f1 f0 g1 g0 p q r s f_is g_is a b ta tb = rw (f_is, g_is) (by_answer ta.yes ta.is ta.says)
  where
    by_answer : (yes : Bool) → a ≡ truth_edge yes → (yes ≡ true → Implies f1 g1) × (Implies f1 g1 → yes ≡ true) → Tells (choice x f1 f0) (choice x g1 g0) (cond a.complement a b)
    by_answer true is says = rw is (record {
      yes = tb.yes;
      is = tb.is;
      says = (λ holds. to_choice x f1 f0 g1 g0 (says.0 refl) (tb.says.0 holds), λ h. tb.says.1 (from_choice x false f1 f0 g1 g0 p q r s h));
    })
    by_answer false is says = rw is (tells_no (choice x f1 f0) (choice x g1 g0) (λ h. let no : false ≡ true = says.1 (from_choice x true f1 f0 g1 g0 p q r s h) in both_ways false refl no))

pub Implication-joined : (w : View) (t hi lo : Task) (x : ℕ) (a b : Edge) → TwoSplits Bdd w t x hi lo → ImplicationAnswers w hi a → ImplicationAnswers w lo b → ImplicationAnswers w t (cond a.complement a b)
Implication-joined w t hi lo x a b s ta tb =
    both_tell (bdd_at w t.f) (bdd_at w t.g) x (bdd_at w hi.f) (bdd_at w lo.f) (bdd_at w hi.g) (bdd_at w lo.g)
    (s.f.hi_below x s.in_range (omega arith)) (s.f.lo_below x s.in_range (omega arith)) (s.g.hi_below x s.in_range (omega arith)) (s.g.lo_below x s.in_range (omega arith))
    s.f.is s.g.is a b ta tb

-- a first part that doesn't hold settles the answer
pub Implication-settled : (w : View) (t hi lo : Task) (x : ℕ) (a : Edge) → a.complement ≡ true → TwoSplits Bdd w t x hi lo → ImplicationAnswers w hi a → ImplicationAnswers w t a
Implication-settled w t hi lo x a flip s ta = rw s.f.is (rw s.g.is (by_answer ta.yes ta.is ta.says))
  where
    by_answer : (yes : Bool) → a ≡ truth_edge yes → (yes ≡ true → Implies (bdd_at w hi.f) (bdd_at w hi.g)) × (Implies (bdd_at w hi.f) (bdd_at w hi.g) → yes ≡ true)
        → Tells (choice x (bdd_at w hi.f) (bdd_at w lo.f)) (choice x (bdd_at w hi.g) (bdd_at w lo.g)) a
    by_answer true is says = let no : false ≡ true = sym (ap (λ e. e.complement) is) ∙ flip in absurd (both_ways false refl no)
    by_answer false is says = rw is (tells_no (choice x (bdd_at w hi.f) (bdd_at w lo.f)) (choice x (bdd_at w hi.g) (bdd_at w lo.g)) (λ h.
        let no : false ≡ true = says.1 (from_choice x true (bdd_at w hi.f) (bdd_at w lo.f) (bdd_at w hi.g) (bdd_at w lo.g)
        (s.f.hi_below x s.in_range (omega arith)) (s.f.lo_below x s.in_range (omega arith)) (s.g.hi_below x s.in_range (omega arith)) (s.g.lo_below x s.in_range (omega arith)) h) in both_ways false refl no))

-- what the constant says
pub told : (f g : ℕ → Bool) (e : Edge) → Tells f g e → (not e.complement ≡ true → Implies f g) × (Implies f g → not e.complement ≡ true)
told f g e t = by_answer t.yes t.is t.says
  where
    by_answer : (yes : Bool) → e ≡ truth_edge yes → (yes ≡ true → Implies f g) × (Implies f g → yes ≡ true) → (not e.complement ≡ true → Implies f g) × (Implies f g → not e.complement ≡ true)
    by_answer true is says = rw is says
    by_answer false is says = rw is says

-- the parts at the top variable lie lower
pub record IsCompared (w : View) (t : Task) (h : Halves) : Type 0 where
  pub splits : TwoSplits Bdd w t h.top.var h.hi h.lo
  pub hi_less : two_depth Bdd w h.hi < two_depth Bdd w t
  pub lo_less : two_depth Bdd w h.lo < two_depth Bdd w t

pub compared : (w : View) (t : Task) (h : Halves) → HalvesOfTwo Bdd w t.f t.g h → IsCompared w t h
compared w t h halves =
    let touches = halves.top.touches in let af = halves.top.above_f in let ag = halves.top.above_g in let within = halves.top.within in
    let hf = halves.f.hi_top in let lf = halves.f.lo_top in let hg = halves.g.hi_top in let lg = halves.g.lo_top in
    let here : two_depth Bdd w t ≡ w.vars - w.level h.top.var = elim touches [ inl e ↦ omega arith | inr e ↦ omega arith ] in
    record {
      splits = record { in_range = halves.top.in_range; f = halves.f.splits; g = halves.g.splits };
      hi_less = omega arith;
      lo_less = omega arith;
    }

pub ImplicationDue-hi : (w : View) (t hi lo : Task) (x : ℕ) → Permanent w → TwoSplits Bdd w t x hi lo → ImplicationDue w hi
ImplicationDue-hi w t hi lo x p s = record { permanent = p; two = record { first = s.f.hi_is; second = s.g.hi_is } }

pub ImplicationDue-lo : (w : View) (t hi lo : Task) (x : ℕ) → Permanent w → TwoSplits Bdd w t x hi lo → ImplicationDue w lo
ImplicationDue-lo w t hi lo x p s = record { permanent = p; two = record { first = s.f.lo_is; second = s.g.lo_is } }

pub Leads-itself : (w : View) (t u : Task) → u ≡ t → Leads ImplicationAnswers (λ w t. ⊥) w t false u
Leads-itself w t u same = record { gives = λ x e m a. rw (sym same) a; over = λ x m bad. bad }
