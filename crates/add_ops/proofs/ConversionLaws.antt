-- Conversions of the values of one function, step by step.
use Rattle.std.proofs.Common.{◌≡◌, ℕ, ℤ, true, false, Option, Some, None, ◌⊎◌, ap, sym, ◌∙◌, subst, arith}
use Rattle.std.specs.Prelude.{IfSome}
use Rattle.edge_bits.specs.declared.edges.Edge.{Edge}
use Rattle.edge_bits.specs.declared.edges.Kind.{Kind}
use Rattle.edge_bits.specs.declared.edges.Kind.TheVariants.{Bdd, Add, Zdd}
use Rattle.function_laws.proofs.ValueLemmas.{place_one}
use Rattle.function_laws.specs.Kinds.{ValueOf, function_of, joined_at, Lacks}
use Rattle.node_store.specs.Splits.{Branches}
use Rattle.node_store.specs.Three.{IsOnVariables}
use Rattle.node_store.specs.Views.{View, CanMake, Denotes, Grown, Is, IsBelow, IsInner, IsLeaf, IsLeafOf, IsVariable, node_values, values_at}
use Rattle.node_store.specs.ViewLaws.{Grown-trans, Is-from, Is-grown, IsVariable-grown, Splits-grown, levels-grown, top-grown, values_at-grown, values_at-is}
use Rattle.node_store.specs.Work.{IsWork, Moves}
use Rattle.node_store.specs.WorkLaws.{IsPart-grown, IsPart-half, IsWork-due, Moves-made}
use Rattle.node_store.specs.declared.operator.Task.{Task}
use Rattle.add_ops.specs.Conversions.{converted, converted_at, value_of_one, OneDue, OneAnswers, OneSplits, one_depth}
use Rattle.add_ops.specs.ConversionLasts.{converted_at-grown, OneDue-stays}

-- kinds that depend on variables have the same ones
variable_of : (j k : Kind) → IsOnVariables j → IsOnVariables k → (w : View) (v : ℕ) → IsVariable j w v → IsVariable k w v
variable_of Bdd Bdd on_j on_k w v h = h
variable_of Bdd Add on_j on_k w v h = h
variable_of Add Bdd on_j on_k w v h = h
variable_of Add Add on_j on_k w v h = h
variable_of Zdd k on_j on_k w v h = absurd on_j
variable_of Bdd Zdd on_j on_k w v h = absurd on_k
variable_of Add Zdd on_j on_k w v h = absurd on_k

-- an operation on values keeps what doesn't depend on a variable, and goes into both parts
Lacks-converted : (j k : Kind) → IsOnVariables j → IsOnVariables k → (op : ValueOf j → ValueOf k) (f : ℕ → ValueOf j) (v : ℕ) → Lacks j f v → Lacks k (converted op f) v
Lacks-converted Bdd Bdd on_j on_k op f v h = λ x b. ap op (h x b)
Lacks-converted Bdd Add on_j on_k op f v h = λ x b. ap op (h x b)
Lacks-converted Add Bdd on_j on_k op f v h = λ x b. ap op (h x b)
Lacks-converted Add Add on_j on_k op f v h = λ x b. ap op (h x b)
Lacks-converted Zdd k on_j on_k op f v h = absurd on_j
Lacks-converted Bdd Zdd on_j on_k op f v h = absurd on_k
Lacks-converted Add Zdd on_j on_k op f v h = absurd on_k

joined-converted : (j k : Kind) → IsOnVariables j → IsOnVariables k → (op : ValueOf j → ValueOf k) (v : ℕ) (f g : ℕ → ValueOf j) → converted op (joined_at j v f g) ≡ joined_at k v (converted op f) (converted op g)
joined-converted Bdd Bdd on_j on_k op v f g = place_one op f g v
joined-converted Bdd Add on_j on_k op v f g = place_one op f g v
joined-converted Add Bdd on_j on_k op v f g = place_one op f g v
joined-converted Add Add on_j on_k op v f g = place_one op f g v
joined-converted Zdd k on_j on_k op v f g = absurd on_j
joined-converted Bdd Zdd on_j on_k op v f g = absurd on_k
joined-converted Add Zdd on_j on_k op v f g = absurd on_k

module _ (j k : Kind) (on_j : IsOnVariables j) (on_k : IsOnVariables k) (op : ValueOf j → ValueOf k) where
  IsBelow-converted : (w : View) (v : ℕ) (f : ℕ → ValueOf j) → IsBelow j w v f → IsBelow k w v (converted op f)
  IsBelow-converted w v f below u un le = Lacks-converted j k on_j on_k op f u (below u (variable_of k j on_k on_j w u un) le)

  -- the two parts
  One-is : {w : View} {t hi lo : Task} {x : ℕ} → OneSplits j w t x hi lo → converted_at j k op w t.f ≡ joined_at k x (converted_at j k op w hi.f) (converted_at j k op w lo.f)
  One-is {w} {t} {hi} {lo} {x} s = ap (converted op) s.splits.is ∙ joined-converted j k on_j on_k op x (values_at j w hi.f) (values_at j w lo.f)

  hi_below : {w : View} {t hi lo : Task} {x : ℕ} → OneSplits j w t x hi lo → IsBelow k w x (converted_at j k op w hi.f)
  hi_below {w} {t} {hi} {lo} {x} s = IsBelow-converted w x (values_at j w hi.f) s.splits.hi_below

  lo_below : {w : View} {t hi lo : Task} {x : ℕ} → OneSplits j w t x hi lo → IsBelow k w x (converted_at j k op w lo.f)
  lo_below {w} {t} {hi} {lo} {x} s = IsBelow-converted w x (values_at j w lo.f) s.splits.lo_below

  OneDue-hi : (f : Edge) (w : View) (t hi lo : Task) (x : ℕ) → OneDue j k op f w t → OneSplits j w t x hi lo → OneDue j k op f w hi
  OneDue-hi f w t hi lo x d s = record {
    permanent = d.permanent;
    root = d.root;
    edge = s.splits.hi_is;
    part = IsPart-half k w x (converted_at j k op w f) (converted_at j k op w t.f) (converted_at j k op w hi.f) (converted_at j k op w lo.f) true
        (variable_of j k on_j on_k w x s.in_range) (One-is s) (hi_below s) (lo_below s) d.part;
  }

  OneDue-lo : (f : Edge) (w : View) (t hi lo : Task) (x : ℕ) → OneDue j k op f w t → OneSplits j w t x hi lo → OneDue j k op f w lo
  OneDue-lo f w t hi lo x d s = record {
    permanent = d.permanent;
    root = d.root;
    edge = s.splits.lo_is;
    part = IsPart-half k w x (converted_at j k op w f) (converted_at j k op w t.f) (converted_at j k op w hi.f) (converted_at j k op w lo.f) false
        (variable_of j k on_j on_k w x s.in_range) (One-is s) (hi_below s) (lo_below s) d.part;
  }

  -- from the view where the task was asked to the last one
  pub One-branches : (f : Edge) (v0 v1 w : View) (t a b : Task) (x : ℕ) (hi lo : Edge) → OneDue j k op f v0 t → Grown v0 v1 → IsInner j v1 t.f (values_at j v0 t.f) x hi lo → Grown v1 w → a.f ≡ hi → b.f ≡ lo
      → Branches (OneDue j k op f) (OneAnswers j k op) (λ w t. ⊥) (OneSplits j) (one_depth j) w t (record { task = t; flip = false; var = x; hi = a; lo = b })
  One-branches f v0 v1 w t a b x hi lo due0 m0 i m1 sa sb =
      let m = Grown-trans m0 m1 in
      let due = OneDue-stays j k op f v0 w t m due0 in
      let splits : OneSplits j w t x a b = record { in_range = IsVariable-grown j m1 x i.in_range; splits = rw (sa, sb, values_at-grown j m due0.edge) (Splits-grown j m1 i.splits) } in
      let top = top-grown j m1 (Is-grown j m0 due0.edge) in let th = top-grown j m1 i.splits.hi_is in let tl = top-grown j m1 i.splits.lo_is in
      let n = levels-grown j m1 in let here = i.here in let within = i.within in let hi_top = i.hi_top in let lo_top = i.lo_top in
      record {
        due = due;
        leads = record { gives = λ y e late is. is; over = λ y late bad. bad };
        splits = splits;
        hi_due = OneDue-hi f w t a b x due splits;
        lo_due = OneDue-lo f w t a b x due splits;
        hi_less = rw sa (omega arith);
        lo_less = rw sb (omega arith);
      }

  -- the node of both answers
  pub One-can_make : {w : View} {t hi lo : Task} {x : ℕ} {e0 e1 : Edge} → OneSplits j w t x hi lo → OneAnswers j k op w hi e0 → OneAnswers j k op w lo e1 → CanMake k w x e0 e1
  One-can_make {w} {t} {hi} {lo} {x} s a0 a1 = record {
    in_range = variable_of j k on_j on_k w x s.in_range;
    hi_is = Is-from k a0;
    lo_is = Is-from k a1;
    hi_below = rw (values_at-is k a0) (hi_below s);
    lo_below = rw (values_at-is k a1) (lo_below s);
  }

  pub One-node : {w : View} {t hi lo : Task} {x : ℕ} {e0 e1 : Edge} → OneSplits j w t x hi lo → OneAnswers j k op w hi e0 → OneAnswers j k op w lo e1 → node_values k w x e0 e1 ≡ converted_at j k op w t.f
  One-node s a0 a1 = rw (values_at-is k a0, values_at-is k a1) (sym (One-is s))

  pub One-joined : {w y : View} {t hi lo : Task} {x : ℕ} {e0 e1 e : Edge} → Is j w t.f → OneSplits j w t x hi lo → OneAnswers j k op w hi e0 → OneAnswers j k op w lo e1
      → Grown w y → Denotes k y e (node_values k w x e0 e1) → OneAnswers j k op y t e
  One-joined d s a0 a1 m is = rw (converted_at-grown j k op m d, sym (One-node s a0 a1)) is

module _ (j k : Kind) (op : ValueOf j → ValueOf k) (f : Edge) where
  -- a task's value was stored, or due
  pub One-moved : (v w : View) (t : Task) (e : Edge) → OneDue j k op f v t → Grown v w → ((s : ℕ) → w.made s ≡ true → (v.made s ≡ true) ⊎ (e.index ≡ s))
      → Denotes k w e (converted_at j k op v t.f) → Moves (λ w. Is j w f) (value_of_one j k op f) v w
  One-moved v w t e d m made is = Moves-made k (λ w. Is j w f) (value_of_one j k op f) v w e (converted_at j k op v f) (converted_at j k op v t.f) m made
      (λ root. ap (function_of k) (sym (converted_at-grown j k op m root))) (IsPart-grown k m (converted_at j k op v f) (converted_at j k op v t.f) d.part) is

  pub One-refused : (v w : View) (t : Task) → OneDue j k op f v t → Grown v w → w.due ≡ Some (function_of k (converted_at j k op v t.f)) → IsWork w (value_of_one j k op f w) w.due
  One-refused v w t d m is = IsWork-due k w (value_of_one j k op f w) (converted_at j k op v f) (converted_at j k op v t.f)
      (ap (function_of k) (sym (converted_at-grown j k op m d.root))) (IsPart-grown k m (converted_at j k op v f) (converted_at j k op v t.f) d.part) is

-- the answer for a leaf, whose number was passed by value
pub One-leaf : (j k : Kind) (op : ValueOf j → ValueOf k) (v w : View) (t : Task) (x y : ℤ) (r : Edge) → Grown v w → Is j v t.f → IsLeaf j w t.f (values_at j v t.f) x → x ≡ y
    → (IsLeafOf j t.f (values_at j v t.f) y → Denotes k w r (converted op (values_at j v t.f))) → OneAnswers j k op w t r
One-leaf j k op v w t x y r m d i same told = rw (converted_at-grown j k op m d) (told (subst (λ z. IsLeafOf j t.f (values_at j v t.f) z) same i.leaf))

-- what is known of the value that there is
pub if_some : {X : Type 0} (P Q : X → Type 0) (r : Option X) → ((x : X) → P x → Q x) → IfSome r P → IfSome r Q
if_some P Q (Some x) more h = more x h
if_some P Q None more h = h
