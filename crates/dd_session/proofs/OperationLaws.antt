-- What comes of the operations, by the edges of their rows.
use Rattle.std.proofs.Common.{◌≡◌, ℕ, ◌<◌, Bool, List, Some, ap, arith, true, false, ◌^◌, ◌↔◌, map, option_map, option_and_then, [], ◌∷◌, ap₂, refl, ◌∙◌}
use Rattle.std.specs.List.{All}
use Rattle.std.proofs.lemmas.List.Elements.{All-head, All-map, All-tail}
use Rattle.seat_guard.specs.declared.view.Row.{Row}
use Rattle.quantify_ops.specs.Substituted.{AreSubstituted, IsPair, functions_of, substituted_at}
use Rattle.function_laws.proofs.ComposeLemmas.{listed as listed_pair}
use Rattle.dd_session.specs.Sessions.{IsNamed, edge_in, with_edge}
use Rattle.dd_session.proofs.Naming.{own_edge}
use Rattle.edge_bits.specs.declared.edges.Edge.{Edge}
use Rattle.edge_bits.specs.declared.edges.Kind.TheVariants as kinds
use Rattle.function_laws.specs.declared.history.Name.{Name}
use Rattle.function_laws.specs.declared.history.Call.TheVariants as calls
use Rattle.function_laws.specs.declared.making.Making.TheVariants as makings
use Rattle.function_laws.specs.declared.making.BddMaking.TheVariants as bdds
use Rattle.function_laws.specs.Functions.{leq_of}
use Rattle.function_laws.specs.Lists.{list_of}
use Rattle.function_laws.specs.Makings.{are_distinct, bdds_of}
use Rattle.function_laws.specs.Outcomes.{as_bdd, tells}
use Rattle.function_laws.proofs.BridgeLemmas.{leq_of-list_of}
use Rattle.node_store.specs.Memo.{Implies}
use Rattle.function_laws.specs.Tables.{Table}
use Rattle.function_laws.specs.Values.{exists_all, forall_all, support}
use Rattle.node_store.specs.Listed.{listed_at}
use Rattle.node_store.specs.Three.{AreThree, ite_at}
use Rattle.node_store.specs.Views.{View, AreTwo, Denotes, Is, IsVariable, bdd_at}
use Rattle.seat_guard.specs.declared.view.Draws.{Draws}
use Rattle.seat_guard.specs.Views.{Agrees}
use Rattle.shared_store.specs.declared.shared.Shared.{Shared}
use Rattle.shared_store.specs.Sharing.{view_of}
use Rattle.ite_core.specs.Cofactors.{cofactor_at}
use Rattle.ite_core.proofs.OutcomeLaws.{outcome-cofactor, outcome-ite, outcome-leq}
use Rattle.quantify_ops.specs.Composed.{composed_at}
use Rattle.quantify_ops.specs.Quantified.{both_at}
use Rattle.quantify_ops.proofs.OutcomeLaws.{outcome-and_exists, outcome-compose, outcome-exists, outcome-forall, outcome-support, outcome-vector_compose}
use Rattle.dd_session.specs.Turns.{Gives, HasValue, IsEdgeOf, IsSmall, Stands, Took}
use Rattle.dd_session.proofs.Calls.{gives_held, stands_taken}
use Rattle.dd_session.proofs.Outcomes.{has_value, live, vars}

module _ (d : Draws) where
  -- a variable of the manager is one of the store
  pub variable_in : (x : View) → IsSmall x → Stands x d → (v : ℕ) → v < d.vars → IsVariable kinds.Bdd x v
  variable_in x of stands v lt =
      let few = of.0 in
      let n : x.vars ≡ d.vars = ap (λ (p : ℕ × ℕ × ℕ). p.0) stands.counts_are in
      (omega (arith, few, n, lt), omega (arith, n, lt))

  variables_in : (x : View) → IsSmall x → Stands x d → (vs : List ℕ) → All (λ v. v < d.vars) vs → All (IsVariable kinds.Bdd x) vs
  variables_in x of stands vs all = λ k v below. variable_in x of stands _ (all k v below)

  variables_within : (x : View) → IsSmall x → Stands x d → (vs : List ℕ) → All (λ v. v < d.vars) vs → All (λ v. v < x.vars) vs
  variables_within x of stands vs all = λ k v below. (variable_in x of stands _ (all k v below)).1

  -- an operation on one row
  module _ (a : Name) (e : Edge) (first : IsEdgeOf kinds.Bdd d a e) (x : View) (of : IsSmall x) (stands : Stands x d) where
    abbrev w₁ : View
    w₁ = x

    abbrev own : (t : Table) → Agrees d t → t.live d.session a ≡ Some (listed_at kinds.Bdd w₁ e)
    own t agrees = live d t a kinds.Bdd w₁ e agrees stands (first x stands).1

    pub told_cofactor : (v : ℕ) (bit : Bool) → v < d.vars
        → (Is kinds.Bdd w₁ e × IsVariable kinds.Bdd w₁ v) × HasValue kinds.Bdd (λ u edge. Denotes kinds.Bdd u edge (cofactor_at w₁ e v bit)) d w₁ (calls.Makes (makings.Bdd (bdds.Cofactor a v bit)))
    told_cofactor v bit lt = let var = variable_in x of stands v lt in (((first x stands).0, var), has_value kinds.Bdd d w₁ (calls.Makes (makings.Bdd (bdds.Cofactor a v bit))) (cofactor_at w₁ e v bit) (λ t agrees. outcome-cofactor w₁ t.sizes t.cells (t.live d.session) (vars d t x agrees stands) a v bit e var.1 (own t agrees)))

    pub told_exists : (vs : List ℕ) → All (λ v. v < d.vars) vs
        → (Is kinds.Bdd w₁ e × All (IsVariable kinds.Bdd w₁) vs) × HasValue kinds.Bdd (λ u edge. Denotes kinds.Bdd u edge (exists_all (bdd_at w₁ e) vs)) d w₁ (calls.Makes (makings.Bdd (bdds.Exists a vs)))
    told_exists vs all = (((first x stands).0, variables_in x of stands vs all), has_value kinds.Bdd d w₁ (calls.Makes (makings.Bdd (bdds.Exists a vs))) (exists_all (bdd_at w₁ e) vs) (λ t agrees. outcome-exists w₁ t.sizes t.cells (t.live d.session) (vars d t x agrees stands) a vs e (variables_within x of stands vs all) (own t agrees)))

    pub told_forall : (vs : List ℕ) → All (λ v. v < d.vars) vs
        → (Is kinds.Bdd w₁ e × All (IsVariable kinds.Bdd w₁) vs) × HasValue kinds.Bdd (λ u edge. Denotes kinds.Bdd u edge (forall_all (bdd_at w₁ e) vs)) d w₁ (calls.Makes (makings.Bdd (bdds.Forall a vs)))
    told_forall vs all = (((first x stands).0, variables_in x of stands vs all), has_value kinds.Bdd d w₁ (calls.Makes (makings.Bdd (bdds.Forall a vs))) (forall_all (bdd_at w₁ e) vs) (λ t agrees. outcome-forall w₁ t.sizes t.cells (t.live d.session) (vars d t x agrees stands) a vs e (variables_within x of stands vs all) (own t agrees)))

    pub told_support : Is kinds.Bdd w₁ e × HasValue kinds.Bdd (λ u edge. Denotes kinds.Bdd u edge (support w₁.vars (bdd_at w₁ e))) d w₁ (calls.Makes (makings.Bdd (bdds.Support a)))
    told_support = ((first x stands).0, has_value kinds.Bdd d w₁ (calls.Makes (makings.Bdd (bdds.Support a))) (support w₁.vars (bdd_at w₁ e)) (λ t agrees. outcome-support w₁ t.sizes t.cells (t.live d.session) (vars d t x agrees stands) a e (own t agrees)))

  -- and on two
  module _ (a b : Name) (e i : Edge) (first : IsEdgeOf kinds.Bdd d a e) (second : IsEdgeOf kinds.Bdd d b i) (x : View) (of : IsSmall x) (stands : Stands x d) where
    abbrev w : View
    w = x

    two : AreTwo kinds.Bdd w e i
    two = record { first = (first x stands).0; second = (second x stands).0 }

    abbrev own_first : (t : Table) → Agrees d t → t.live d.session a ≡ Some (listed_at kinds.Bdd w e)
    own_first t agrees = live d t a kinds.Bdd w e agrees stands (first x stands).1

    abbrev own_second : (t : Table) → Agrees d t → t.live d.session b ≡ Some (listed_at kinds.Bdd w i)
    own_second t agrees = live d t b kinds.Bdd w i agrees stands (second x stands).1

    pub told_and_exists : (vs : List ℕ) → All (λ v. v < d.vars) vs
        → (AreTwo kinds.Bdd w e i × All (IsVariable kinds.Bdd w) vs) × HasValue kinds.Bdd (λ u edge. Denotes kinds.Bdd u edge (exists_all (both_at w e i) vs)) d w (calls.Makes (makings.Bdd (bdds.AndExists a b vs)))
    told_and_exists vs all = ((two, variables_in x of stands vs all), has_value kinds.Bdd d w (calls.Makes (makings.Bdd (bdds.AndExists a b vs))) (exists_all (both_at w e i) vs) (λ t agrees. outcome-and_exists w t.sizes t.cells (t.live d.session) a b e i (own_first t agrees) (own_second t agrees) (vars d t x agrees stands) vs (variables_within x of stands vs all)))

    pub told_compose : (v : ℕ) → v < d.vars
        → (AreTwo kinds.Bdd w e i × IsVariable kinds.Bdd w v) × HasValue kinds.Bdd (λ u edge. Denotes kinds.Bdd u edge (composed_at w e v i)) d w (calls.Makes (makings.Bdd (bdds.Compose a v b)))
    told_compose v lt = let var = variable_in x of stands v lt in ((two, var), has_value kinds.Bdd d w (calls.Makes (makings.Bdd (bdds.Compose a v b))) (composed_at w e v i) (λ t agrees. outcome-compose w t.sizes t.cells (t.live d.session) a b e i (own_first t agrees) (own_second t agrees) (vars d t x agrees stands) v var.1))

  -- and on three
  module _ (a b c : Name) (e i j : Edge) (first : IsEdgeOf kinds.Bdd d a e) (second : IsEdgeOf kinds.Bdd d b i) (third : IsEdgeOf kinds.Bdd d c j) (x : View) (of : IsSmall x) (stands : Stands x d) where
    abbrev w₃ : View
    w₃ = x

    pub told_ite : AreThree kinds.Bdd w₃ e i j × HasValue kinds.Bdd (λ v edge. Denotes kinds.Bdd v edge (ite_at kinds.Bdd w₃ e i j)) d w₃ (calls.Makes (makings.Bdd (bdds.Ite a b c)))
    told_ite = (record { condition = (first x stands).0; first = (second x stands).0; second = (third x stands).0 }, has_value kinds.Bdd d w₃ (calls.Makes (makings.Bdd (bdds.Ite a b c))) (ite_at kinds.Bdd w₃ e i j) (λ t agrees. outcome-ite w₃ t.sizes t.cells (t.live d.session) a b c e i j (live d t a kinds.Bdd w₃ e agrees stands (first x stands).1) (live d t b kinds.Bdd w₃ i agrees stands (second x stands).1) (live d t c kinds.Bdd w₃ j agrees stands (third x stands).1)))

-- the rows that are put for variables
edge_variables : (rows : List Row) (pairs : List (ℕ × Name)) → map (λ pair. pair.0) (map (with_edge rows) pairs) ≡ map (λ pair. pair.0) pairs
edge_variables rows [] = refl
edge_variables rows (pair ∷ pairs) = ap (λ rest. pair.0 ∷ rest) (edge_variables rows pairs)

module _ (d : Draws) (x : View) (of : IsSmall x) (stands : Stands x d) where
  abbrev w₄ : View
  w₄ = x

  pairs_live : (t : Table) (pairs : List (ℕ × Name)) → All (λ pair. IsNamed kinds.Bdd d.rows pair.1) pairs → Agrees d t
      → bdds_of (t.live d.session) pairs ≡ Some (map (listed_pair (2 ^ w₄.vars)) (functions_of w₄ (map (with_edge d.rows) pairs)))
  pairs_live t [] all agrees = refl
  pairs_live t (pair ∷ pairs) all agrees =
      let named = All-head (λ pair. IsNamed kinds.Bdd d.rows pair.1) pair pairs all in
      ap₂ (λ y o. option_and_then (λ f. option_map (λ rest. (pair.0, f) ∷ rest) o) (as_bdd y))
      (live d t pair.1 kinds.Bdd w₄ (edge_in d.rows pair.1) agrees stands (own_edge d pair.1 kinds.Bdd named x stands).1)
      (pairs_live t pairs (All-tail (λ pair. IsNamed kinds.Bdd d.rows pair.1) pair pairs all) agrees)

  pub told_vector_compose : (a : Name) (e : Edge) → IsEdgeOf kinds.Bdd d a e → (pairs : List (ℕ × Name)) → All (λ pair. pair.0 < d.vars) pairs → All (λ pair. IsNamed kinds.Bdd d.rows pair.1) pairs
      → are_distinct (map (λ pair. pair.0) pairs) ≡ true
      → AreSubstituted w₄ e (map (with_edge d.rows) pairs)
      × HasValue kinds.Bdd (λ u edge. Denotes kinds.Bdd u edge (substituted_at w₄ e (map (with_edge d.rows) pairs))) d w₄ (calls.Makes (makings.Bdd (bdds.VectorCompose a pairs)))
  told_vector_compose a e first pairs ranges named distinct =
      let within : All (λ pair. pair.0 < w₄.vars) pairs = λ k pair below. (variable_in d x of stands _ (ranges k pair below)).1 in (
        record {
          edge = (first x stands).0;
          each = All-map (IsPair w₄) (with_edge d.rows) pairs (λ k pair below. (variable_in d x of stands _ (ranges k pair below), (own_edge d _ kinds.Bdd (named k pair below) x stands).0));
          distinct = ap are_distinct (edge_variables d.rows pairs) ∙ distinct;
        },
        has_value kinds.Bdd d w₄ (calls.Makes (makings.Bdd (bdds.VectorCompose a pairs))) (substituted_at w₄ e (map (with_edge d.rows) pairs)) (λ t agrees. outcome-vector_compose w₄ t.sizes t.cells (t.live d.session) (vars d t x agrees stands) a pairs e (map (with_edge d.rows) pairs) within (All-map (λ pair. pair.0 < w₄.vars) (with_edge d.rows) pairs within) distinct (live d t a kinds.Bdd w₄ e agrees stands (first x stands).1) (pairs_live t pairs named agrees)),
      )

-- an implication, as the turn has been taken
pub gives_leq : (old held : Draws) (x : Shared) → Took old held x → old.holds ≡ false → (a b : Name) (e i : Edge) → IsEdgeOf kinds.Bdd old a e → IsEdgeOf kinds.Bdd old b i
    → (told : Bool) → (told ≡ true) ↔ Implies (bdd_at (view_of x) e) (bdd_at (view_of x) i)
    → (b' : Bool) × (told ≡ b') × Gives held (calls.Leq a b) (tells b')
gives_leq old held x took idle a b e i first second told is =
    let w = view_of x in
    let s = first (view_of x) (stands_taken old held x took) in
    let r = second (view_of x) (stands_taken old held x took) in (
      leq_of (list_of (2 ^ w.vars) (bdd_at w e)) (list_of (2 ^ w.vars) (bdd_at w i)),
      leq_of-list_of w.vars (bdd_at w e) (bdd_at w i) told s.0.beyond r.0.beyond is,
      gives_held old held x (calls.Leq a b) (tells (leq_of (list_of (2 ^ w.vars) (bdd_at w e)) (list_of (2 ^ w.vars) (bdd_at w i)))) took idle
          (λ t agrees. outcome-leq w t.sizes t.cells (t.live old.session) a b e i (live old t a kinds.Bdd w e agrees (stands_taken old held x took) s.1) (live old t b kinds.Bdd w i agrees (stands_taken old held x took) r.1)),
    )

pub two_held : (old held : Draws) (x : Shared) → Took old held x → (a b : Name) (e i : Edge) → IsEdgeOf kinds.Bdd old a e → IsEdgeOf kinds.Bdd old b i → AreTwo kinds.Bdd (view_of x) e i
two_held old held x took a b e i first second = record { first = (first (view_of x) (stands_taken old held x took)).0; second = (second (view_of x) (stands_taken old held x took)).0 }
