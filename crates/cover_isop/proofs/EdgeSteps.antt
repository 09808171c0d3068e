-- Both bounds of a task, opened and parted.
use Rattle.std.proofs.Common.{◌≡◌, ℕ, ◌^◌, ◌<◌, Bool, true, false, true≢false, not, ◌&&◌, ◌⊎◌, inl, inr, List, [], ◌∷◌, Option, Some, None, ℤ, Result, refl, sym, ap, ◌∙◌, subst, arith}
use Rattle.std.proofs.lemmas.Bool.{not-true}
use Rattle.std.specs.Prelude.{nat_le, if◌then◌else◌}
use Rattle.edge_bits.specs.Assignments.{set_bit}
use Rattle.edge_bits.specs.Permanent.{truth_edge}
use Rattle.edge_bits.specs.declared.edges.Edge.{Edge}
use Rattle.edge_bits.specs.declared.edges.Kind.TheVariants.{Bdd}
use Rattle.function_laws.specs.Families.{base}
use Rattle.function_laws.specs.Kinds.{BddFunction}
use Rattle.function_laws.specs.MorrealeCalls.{Interval, holds_everywhere, holds_nowhere, less, morreale}
use Rattle.function_laws.specs.Values.{IsFree, conjunction, constant, negation}
use Rattle.function_laws.proofs.ListLemmas.{true-all_below}
use Rattle.function_laws.proofs.ValueLemmas.{cofactor-free}
use Rattle.function_laws.proofs.WidthLemmas.{same_everywhere}
use Rattle.node_store.specs.Edges.{flip_if}
use Rattle.node_store.specs.Operands.{IsOperand, leaf_value}
use Rattle.node_store.specs.Operations.{RunsTo}
use Rattle.node_store.specs.Tops.{TopIs, upper_of}
use Rattle.node_store.specs.Two.{value_of_two}
use Rattle.node_store.specs.Views.{View, AreTwo, CanPart, Denotes, Grown, Is, IsInner, IsLeafOf, IsTop, IsVariable, Opens, PartsAt, bdd_at, logic_one, logic_zero}
use Rattle.node_store.specs.ViewLaws.{Denotes-flip, IsBelow-inner, Is-from, values_at-grown, values_at-is}
use Rattle.node_store.specs.declared.grow.Opened.{Opened}
use Rattle.node_store.specs.declared.grow.Opened.TheVariants.{Inner, Leaf}
use Rattle.node_store.specs.declared.operator.Halt.{Halt}
use Rattle.node_store.specs.declared.operator.Task.{Task}
use Rattle.node_store.specs.declared.parts.Operand.{Operand}
use Rattle.node_store.specs.declared.parts.Top.{Top}
use Rattle.node_store.proofs.Operands.{leaf_of, no_upper, upper_is}
use Rattle.node_store.proofs.Running.{Serves-named}
use Rattle.node_store.proofs.TwoParts.{Lacks-leaf, PartsAt-grown}
use Rattle.cover_isop.specs.Isops.{AreSides, IsSplit, bounds_at, cover_in, order_in}
use Rattle.cover_isop.specs.declared.calls.Sides.{Sides}
use Rattle.cover_isop.proofs.IsopSteps.{hi-is, lo-is}
use Rattle.cover_isop.proofs.MorrealeLaws.{LacksBoth, end-base, lacks_splits, skip-answer}

-- a function without another
pub not-is : (w : View) (g not_g : Edge) → not_g ≡ flip_if true g → Is Bdd w g → Denotes Bdd w not_g (negation (bdd_at w g))
not-is w g not_g is d = rw is (Denotes-flip d)

pub less-two : (w : View) (f g not_g : Edge) → not_g ≡ flip_if true g → AreTwo Bdd w f g → AreTwo Bdd w f not_g
less-two w f g not_g is d = record { first = d.first; second = Is-from Bdd (not-is w g not_g is d.second) }

pub less-runs : {w v : View} {O P : Type 0} (f g not_g : Edge) (r : Result Edge Halt) → not_g ≡ flip_if true g → AreTwo Bdd w f g → (O → P)
    → RunsTo (λ e. Denotes Bdd v e (conjunction (bdd_at w f) (bdd_at w not_g))) O (value_of_two Bdd (λ a b. a && b) f not_g w) w v r
    → RunsTo (λ e. Denotes Bdd v e (less (bdd_at w f) (bdd_at w g))) P (λ F. F ≡ BddFunction (less (bdd_at w f) (bdd_at w g))) w v r
less-runs {w} {v} f g not_g r is d over run =
    let same : conjunction (bdd_at w f) (bdd_at w not_g) ≡ less (bdd_at w f) (bdd_at w g) = ap (conjunction (bdd_at w f)) (values_at-is Bdd (not-is w g not_g is d.second)) in
    Serves-named (λ e is. subst (Denotes Bdd v e) same is) over (λ F told. told ∙ ap BddFunction same) run

-- a constant is opened as a leaf
module _ (w : View) (e : Edge) where
  inner-differs : (v : ℕ) (hi lo : Edge) → IsInner Bdd w e (bdd_at w e) v hi lo → IsFree (bdd_at w e) v → ⊥
  inner-differs v hi lo i free = i.proper (hi-is w (bdd_at w e) v hi lo i.in_range i.splits ∙ cofactor-free (bdd_at w e) v true free ∙ sym (cofactor-free (bdd_at w e) v false free) ∙ sym (lo-is w (bdd_at w e) v hi lo i.in_range i.splits))

  leaf-edge : (b : Bool) (f : ℕ → Bool) (x : ℤ) → IsLeafOf Bdd e f x → f ≡ constant b → e ≡ truth_edge b
  leaf-edge b _ x leaf same = by_leaf b e x leaf same
    where
      by_leaf : (b : Bool) (e : Edge) {f : ℕ → Bool} (x : ℤ) → IsLeafOf Bdd e f x → f ≡ constant b → e ≡ truth_edge b
      by_leaf true _ _ logic_one same = refl
      by_leaf false _ _ logic_one same = absurd (true≢false (ap (λ (f : ℕ → Bool). f 0) same))
      by_leaf true _ _ logic_zero same = absurd (true≢false (sym (ap (λ (f : ℕ → Bool). f 0) same)))
      by_leaf false _ _ logic_zero same = refl

  constant-edge : (b : Bool) (opened : Opened) → Opens Bdd w e (bdd_at w e) opened → bdd_at w e ≡ constant b → e ≡ truth_edge b
  constant-edge b (Leaf x) i same = leaf-edge b (bdd_at w e) x i.leaf same
  constant-edge b (Inner v hi lo) i same = absurd (inner-differs v hi lo i (λ k c. ap (λ (f : ℕ → Bool). f (set_bit k v c)) same ∙ sym (ap (λ (f : ℕ → Bool). f k) same)))

  -- free of what stands above its top
  opened-above : (u : ℕ) (opened : Opened) → Opens Bdd w e (bdd_at w e) opened → IsVariable Bdd w u → w.level u < w.top e.index → IsFree (bdd_at w e) u
  opened-above u (Leaf x) i un lt = Lacks-leaf Bdd e (bdd_at w e) x i.leaf u
  opened-above u (Inner v hi lo) i un lt = IsBelow-inner Bdd u i (let h = i.here in omega (arith, lt, h)) u un (omega arith)

not_true : (b : Bool) → (b ≡ true → ⊥) → b ≡ false
not_true true h = absurd (h refl)
not_true false h = refl

-- a bound that isn't nothing, and one that isn't everything
pub some-is : (w : View) (e : Edge) (opened : Opened) → Is Bdd w e → Opens Bdd w e (bdd_at w e) opened → (e ≡ truth_edge false → ⊥) → holds_nowhere w.vars (bdd_at w e) ≡ false
some-is w e opened d i other = not_true (holds_nowhere w.vars (bdd_at w e)) (λ none. other (constant-edge w e false opened i
    (same_everywhere w.vars (bdd_at w e) (constant false) d.beyond (λ v le k c. refl) (λ k below. not-true (bdd_at w e k) (true-all_below (2 ^ w.vars) k (λ j. not (bdd_at w e j)) none below)))))

pub not-all-is : (w : View) (e : Edge) (opened : Opened) → Is Bdd w e → Opens Bdd w e (bdd_at w e) opened → (e ≡ truth_edge true → ⊥) → holds_everywhere w.vars (bdd_at w e) ≡ false
not-all-is w e opened d i other = not_true (holds_everywhere w.vars (bdd_at w e)) (λ all. other (constant-edge w e true opened i
    (same_everywhere w.vars (bdd_at w e) (constant true) d.beyond (λ v le k c. refl) (λ k below. true-all_below (2 ^ w.vars) k (bdd_at w e) all below))))

-- an operand's node is of its top variable
abbrev Node : View → Edge → ℕ → Type 0
Node w e v = (hi : Edge) × (lo : Edge) × IsInner Bdd w e (bdd_at w e) v hi lo

node-of : (w : View) (o : Operand) (t : Top) → IsOperand Bdd w o → o.top ≡ Some t → Node w o.edge t.var
node-of w o t p is = by_case o.opened p.opens (rw is at p.top)
  where
    by_case : (opened : Opened) → Opens Bdd w o.edge (bdd_at w o.edge) opened → TopIs Bdd w o.edge (bdd_at w o.edge) (Some t) → Node w o.edge t.var
    by_case (Leaf x) i top = let a = i.here in let b = top.here in let c = top.within in absurd (omega (arith, a, b, c))
    by_case (Inner v hi lo) i top =
        (hi, lo, subst (λ y. IsInner Bdd w o.edge (bdd_at w o.edge) y hi lo) (sym (i.alone t.var top.in_range (sym top.here ∙ i.here))) i)

-- the upper one is of the one or of the other
upper-one : (a b : Option Top) (t : Top) → upper_of a b ≡ Some t → (a ≡ Some t) ⊎ (b ≡ Some t)
upper-one None b t is = inr is
upper-one (Some a) None t is = inl is
upper-one (Some a) (Some b) t is = at (nat_le a.level b.level) is
  where
    at : (c : Bool) → Some (if c then a else b) ≡ Some t → (Some a ≡ Some t) ⊎ (Some b ≡ Some t)
    at true same = inl same
    at false same = inr same

-- the topmost variable of two operands
module _ (w : View) (f g : Operand) (p : IsOperand Bdd w f) (q : IsOperand Bdd w g) (some : f.edge ≡ truth_edge false → ⊥) (not_all : g.edge ≡ truth_edge true → ⊥) where
  pub First-split : (h : Edge) (t : Top) → upper_of f.top g.top ≡ Some t → IsSplit w (record { f = f.edge; g = g.edge; h = h }) t.var
  First-split h t is = at (upper-one f.top g.top t is)
    where
      top : IsTop Bdd w f.edge g.edge t.var
      top = upper_is Bdd w f g p q t is

      with_node : ((u : ℕ) → IsVariable Bdd w u → w.level u ≡ w.level t.var → u ≡ t.var) → (IsFree (bdd_at w f.edge) t.var → IsFree (bdd_at w g.edge) t.var → ⊥) → IsSplit w (record { f = f.edge; g = g.edge; h = h }) t.var
      with_node alone depends = record {
        some = some-is w f.edge f.opened p.is p.opens some;
        not_all = not-all-is w g.edge g.opened q.is q.opens not_all;
        top = top;
        alone = alone;
        depends = depends;
        above = λ u un lt. (
          opened-above w f.edge u f.opened p.opens un (let a = top.above_f in omega (arith, lt, a)),
          opened-above w g.edge u g.opened q.opens un (let a = top.above_g in omega (arith, lt, a)),
        );
      }

      at : (f.top ≡ Some t) ⊎ (g.top ≡ Some t) → IsSplit w (record { f = f.edge; g = g.edge; h = h }) t.var
      at (inl here) = let n = node-of w f t p here in with_node n.2.alone (λ free other. inner-differs w f.edge t.var n.0 n.1 n.2 free)
      at (inr here) = let n = node-of w g t q here in with_node n.2.alone (λ other free. inner-differs w g.edge t.var n.0 n.1 n.2 free)

  all-skipped : (n m : ℕ) (order : List ℕ) (b : Interval) → ((v : ℕ) → LacksBoth b v) → holds_nowhere n b.lower ≡ false → morreale n m order b ≡ base
  all-skipped n m [] b lacks some = end-base n m b some
  all-skipped n m (x ∷ rest) b lacks some = skip-answer n m x rest b (lacks_splits n b x (lacks x)) ∙ all-skipped n m rest b lacks some

  pub First-none : upper_of f.top g.top ≡ None → cover_in w (bounds_at w f.edge g.edge) ≡ base
  First-none none =
      let both = no_upper f.top g.top none in
      all-skipped w.vars w.elements (order_in w) (bounds_at w f.edge g.edge)
      (λ v. (Lacks-leaf Bdd f.edge (bdd_at w f.edge) (leaf_value f.opened) (leaf_of Bdd w f p both.0).leaf v, Lacks-leaf Bdd g.edge (bdd_at w g.edge) (leaf_value g.opened) (leaf_of Bdd w g q both.1).leaf v))
      (some-is w f.edge f.opened p.is p.opens some)

-- both bounds, parted one after the other
pub can-lower : (w : View) (t : Task) (x : ℕ) → AreTwo Bdd w t.f t.g → IsTop Bdd w t.f t.g x → CanPart Bdd w t.f x
can-lower w t x d top = record { edge = d.first; in_range = top.in_range; above = top.above_f; within = top.within }

pub can-upper : (w : View) (t : Task) (x : ℕ) → AreTwo Bdd w t.f t.g → IsTop Bdd w t.f t.g x → CanPart Bdd w t.g x
can-upper w t x d top = record { edge = d.second; in_range = top.in_range; above = top.above_g; within = top.within }

pub Sides-are : (v w : View) (t : Task) (x : ℕ) (s : Sides) → Grown v w → Is Bdd v t.f → PartsAt Bdd v t.f (bdd_at v t.f) x s.hi.f s.lo.f → PartsAt Bdd w t.g (bdd_at w t.g) x s.hi.g s.lo.g → AreSides w t x s
Sides-are v w t x s m d pf pg = record {
  lower = (let now : PartsAt Bdd w t.f (bdd_at w t.f) x s.hi.f s.lo.f = subst (λ (f : ℕ → Bool). PartsAt Bdd w t.f f x s.hi.f s.lo.f) (sym (values_at-grown Bdd m d)) (PartsAt-grown Bdd m pf) in now.splits);
  upper = pg.splits;
}
