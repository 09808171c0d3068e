-- What comes of the operations on functions of numbers, by the edges of their rows.
use Rattle.std.proofs.Common.{◌≡◌, ℕ, ◌<◌, length, Some, ℤ, ◌∙◌}
use Rattle.edge_bits.specs.Words.{IsLeafValue}
use Rattle.edge_bits.specs.declared.edges.Edge.{Edge}
use Rattle.edge_bits.specs.declared.edges.Kind.{Kind}
use Rattle.edge_bits.specs.declared.edges.Kind.TheVariants as kinds
use Rattle.function_laws.specs.declared.history.Name.{Name}
use Rattle.function_laws.specs.declared.history.Call.{Call}
use Rattle.function_laws.specs.declared.history.Call.TheVariants as calls
use Rattle.function_laws.specs.declared.history.Function.TheVariants.{Add}
use Rattle.function_laws.specs.Lists.{list_of, whole}
use Rattle.function_laws.specs.Outcomes.{as_add, in_range, makes, with_two}
use Rattle.function_laws.specs.Steps.{outcome}
use Rattle.function_laws.specs.declared.making.Making.TheVariants as makings
use Rattle.function_laws.specs.declared.making.BddMaking.TheVariants as bdds
use Rattle.function_laws.specs.declared.making.AddMaking.TheVariants as adds
use Rattle.function_laws.specs.declared.making.ExactMaking.TheVariants as exacts
use Rattle.function_laws.specs.Numbers.{at_least, exactly, from_truth, pattern, sum_over}
use Rattle.function_laws.specs.Tables.{Table}
use Rattle.function_laws.specs.Values.{constant, if_then_else}
use Rattle.node_store.specs.Listed.{listed_at}
use Rattle.node_store.specs.Three.{AreThree}
use Rattle.node_store.specs.Views.{View, AreTwo, Denotes, Is, IsVariable, add_at, bdd_at}
use Rattle.add_ops.proofs.OutcomeLaws.{IsOf-place, IsOf-sum, outcome-add_ite, outcome-at_least, outcome-constant, outcome-exact, outcome-from_bdd, outcome-pattern, outcome-placed, outcome-sum_over}
use Rattle.seat_guard.specs.declared.view.Draws.{Draws}
use Rattle.seat_guard.specs.Views.{Agrees}
use Rattle.dd_session.specs.Turns.{HasExact, HasValue, IsEdgeOf, IsSmall, Stands}
use Rattle.dd_session.proofs.OperationLaws.{variable_in}
use Rattle.dd_session.proofs.Outcomes.{has_value, live, vars}

-- what a row's name stands for, in a table that agrees
pub held_at : (d : Draws) (k : Kind) (a : Name) (e : Edge) → IsEdgeOf k d a e → (x : View) → Stands x d → (t : Table) → Agrees d t → t.live d.session a ≡ Some (listed_at k x e)
held_at d k a e edge x stands t agrees = live d t a k x e agrees stands (edge x stands).1

module _ (d : Draws) where
  pub told_constant : (v : ℤ) → IsLeafValue v → (x : View) → IsSmall x → Stands x d → IsLeafValue v × HasValue kinds.Add (λ u edge. Denotes kinds.Add u edge (constant v)) d x (calls.Makes (makings.Add (adds.Constant v)))
  told_constant v fits x of stands = let w = x in
      (fits, has_value kinds.Add d x (calls.Makes (makings.Add (adds.Constant v))) (constant v) (λ t agrees. outcome-constant w t.sizes t.cells (t.live d.session) (vars d t x agrees stands) v fits))

  pub told_from_bdd : (a : Name) (e : Edge) → IsEdgeOf kinds.Bdd d a e → (x : View) → IsSmall x → Stands x d
      → Is kinds.Bdd x e × HasValue kinds.Add (λ u edge. Denotes kinds.Add u edge (from_truth (bdd_at x e))) d x (calls.Makes (makings.Add (adds.FromBdd a)))
  told_from_bdd a e first x of stands = let w = x in
      ((first x stands).0, has_value kinds.Add d x (calls.Makes (makings.Add (adds.FromBdd a))) (from_truth (bdd_at x e)) (λ t agrees. outcome-from_bdd w t.sizes t.cells (t.live d.session) a e (held_at d kinds.Bdd a e first x stands t agrees)))

  pub told_add_ite : (a b c : Name) (e i j : Edge) → IsEdgeOf kinds.Bdd d a e → IsEdgeOf kinds.Add d b i → IsEdgeOf kinds.Add d c j → (x : View) → IsSmall x → Stands x d
      → AreThree kinds.Add x e i j × HasValue kinds.Add (λ u edge. Denotes kinds.Add u edge (if_then_else (bdd_at x e) (add_at x i) (add_at x j))) d x (calls.Makes (makings.Add (adds.AddIte a b c)))
  told_add_ite a b c e i j first second third x of stands = let w = x in (record { condition = (first x stands).0; first = (second x stands).0; second = (third x stands).0 }, has_value kinds.Add d x (calls.Makes (makings.Add (adds.AddIte a b c))) (if_then_else (bdd_at x e) (add_at x i) (add_at x j)) (λ t agrees. outcome-add_ite w t.sizes t.cells (t.live d.session) a b c e i j (held_at d kinds.Bdd a e first x stands t agrees) (held_at d kinds.Add b i second x stands t agrees) (held_at d kinds.Add c j third x stands t agrees)))

  -- an operation on one function of numbers
  module _ (a : Name) (e : Edge) (first : IsEdgeOf kinds.Add d a e) (x : View) (of : IsSmall x) (stands : Stands x d) where
    abbrev w₁ : View
    w₁ = x

    pub told_at_least : (v : ℤ) → Is kinds.Add w₁ e × HasValue kinds.Bdd (λ u edge. Denotes kinds.Bdd u edge (at_least (add_at w₁ e) v)) d w₁ (calls.Makes (makings.Bdd (bdds.AtLeast a v)))
    told_at_least v = ((first x stands).0, has_value kinds.Bdd d w₁ (calls.Makes (makings.Bdd (bdds.AtLeast a v))) (at_least (add_at w₁ e) v) (λ t agrees. outcome-at_least w₁ t.sizes t.cells (t.live d.session) a e (held_at d kinds.Add a e first x stands t agrees) v))

    pub told_pattern : Is kinds.Add w₁ e × HasValue kinds.Bdd (λ u edge. Denotes kinds.Bdd u edge (pattern (add_at w₁ e))) d w₁ (calls.Makes (makings.Bdd (bdds.Pattern a)))
    told_pattern = ((first x stands).0, has_value kinds.Bdd d w₁ (calls.Makes (makings.Bdd (bdds.Pattern a))) (pattern (add_at w₁ e)) (λ t agrees. outcome-pattern w₁ t.sizes t.cells (t.live d.session) a e (held_at d kinds.Add a e first x stands t agrees)))

    pub told_sum_over : (v : ℕ) → v < d.vars → (Is kinds.Add w₁ e × IsVariable kinds.Add w₁ v) × HasExact d w₁ (calls.Makes (makings.Exact (exacts.SumOver a v))) (sum_over (add_at w₁ e) v)
    told_sum_over v lt = let var = variable_in d x of stands v lt in (((first x stands).0, var), record { is_of = IsOf-sum w₁.vars v (add_at w₁ e) var.1 (first x stands).0.beyond; gives = λ t agrees. outcome-sum_over w₁ t.sizes t.cells (t.live d.session) a e (held_at d kinds.Add a e first x stands t agrees) (vars d t x agrees stands) v var.1 })

  -- and on two
  module _ (a b : Name) (e i : Edge) (first : IsEdgeOf kinds.Add d a e) (second : IsEdgeOf kinds.Add d b i) (x : View) (of : IsSmall x) (stands : Stands x d) where
    abbrev w : View
    w = x

    two : AreTwo kinds.Add w e i
    two = record { first = (first x stands).0; second = (second x stands).0 }

    -- place by place
    pub told_placed : (op : ℤ → ℤ → ℤ) (call : Call)
        → ((t : Table) → outcome t d.session call ≡ with_two (as_add (t.live d.session a)) (as_add (t.live d.session b)) (λ f g. makes (Add (list_of (length f) (λ k. op (whole f k) (whole g k))))))
        → AreTwo kinds.Add w e i × HasValue kinds.Add (λ u edge. Denotes kinds.Add u edge (λ k. op (add_at w e k) (add_at w i k))) d w call
    told_placed op call is = (
      two,
      has_value kinds.Add d w call (λ k. op (add_at w e k) (add_at w i k))
          (λ t agrees. is t ∙ outcome-placed w t.sizes t.cells (t.live d.session) a b e i (held_at d kinds.Add a e first x stands t agrees) (held_at d kinds.Add b i second x stands t agrees) op),
    )

    -- the same where values may be out of range
    pub told_exact : (op : ℤ → ℤ → ℤ) (call : Call)
        → ((t : Table) → outcome t d.session call ≡ with_two (as_add (t.live d.session a)) (as_add (t.live d.session b)) (λ f g. in_range (exactly (list_of (length f) (λ k. op (whole f k) (whole g k))))))
        → AreTwo kinds.Add w e i × HasExact d w call (λ k. op (add_at w e k) (add_at w i k))
    told_exact op call is = (
      two,
      record {
        is_of = IsOf-place op w.vars (add_at w e) (add_at w i) two.first.beyond two.second.beyond;
        gives = λ t agrees. is t ∙ outcome-exact w t.sizes t.cells (t.live d.session) a b e i (held_at d kinds.Add a e first x stands t agrees) (held_at d kinds.Add b i second x stands t agrees) op;
      },
    )
