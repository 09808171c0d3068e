-- What a making of rows takes, its edges take.
use Rattle.std.proofs.Common.{◌≡◌, ℕ, ◌*◌, ◌<◌, ◌≤◌, List, [], ◌∷◌, map, true, refl, ap, ◌∙◌, arith}
use Rattle.std.specs.List.{All}
use Rattle.std.proofs.lemmas.List.Elements.{All-map}
use Rattle.edge_bits.specs.declared.edges.Edge.{Edge}
use Rattle.edge_bits.specs.declared.edges.Kind.{Kind}
use Rattle.edge_bits.specs.declared.edges.Kind.TheVariants as kinds
use Rattle.edge_bits.specs.declared.limits.TheConstants.{MOST_ELEMENTS, MOST_VARIABLES}
use Rattle.function_laws.specs.declared.history.Name.{Name}
use Rattle.function_laws.specs.declared.making.Making.{Making}
use Rattle.function_laws.specs.declared.making.Making.TheVariants as makings
use Rattle.function_laws.specs.declared.making.BddMaking.TheVariants as bdds
use Rattle.function_laws.specs.declared.making.AddMaking.TheVariants as adds
use Rattle.function_laws.specs.declared.making.ExactMaking.TheVariants as exacts
use Rattle.function_laws.specs.declared.making.ZddMaking.TheVariants as zdds
use Rattle.function_laws.specs.Makings.{are_distinct}
use Rattle.node_slots.specs.Stores.{IsStore}
use Rattle.node_store.specs.Three.{AreThree}
use Rattle.node_store.specs.Views.{View, AreTwo, Is, IsVariable}
use Rattle.operator_calls.specs.Making.{HasLiterals, takes}
use Rattle.operator_calls.specs.Taking.{with_given}
use Rattle.quantify_ops.specs.Substituted.{AreSubstituted, IsPair}
use Rattle.zdd_ops.specs.Elements.{IsElement}
use Rattle.store_rows.specs.MadeRows.{CanMake, by_edges}
use Rattle.store_rows.specs.RowStores.{HoldsAll, IsLiveAs, RowStoreView, edge_in, view_of}
use Rattle.store_rows.proofs.Rows.{live-is}

given_variables : (gives : Name → Edge) (pairs : List (ℕ × Name)) → map (λ pair. pair.0) (map (with_given gives) pairs) ≡ map (λ pair. pair.0) pairs
given_variables gives [] = refl
given_variables gives (pair ∷ pairs) = ap (λ rest. pair.0 ∷ rest) (given_variables gives pairs)

module _ (d : RowStoreView) (st : IsStore d.store) (held : HoldsAll (view_of d) d.rows.live) where
  abbrev v : View
  v = view_of d

  abbrev edge : Name → Edge
  edge h = edge_in d.rows.live h

  abbrev Live : Kind → Name → Type 0
  Live k h = IsLiveAs k d.rows.live h

  own : (k : Kind) (h : Name) → Live k h → Is k v (edge h)
  own k h live = live-is v d.rows.live k h live held

  two : (k : Kind) (a b : Name) → Live k a → Live k b → AreTwo k v (edge a) (edge b)
  two k a b first second = record { first = own k a first; second = own k b second }

  three : (k : Kind) (a b c : Name) → Live kinds.Bdd a → Live k b → Live k c → AreThree k v (edge a) (edge b) (edge c)
  three k a b c first second third = record { condition = own kinds.Bdd a first; first = own k b second; second = own k c third }

  variable_in : (x : ℕ) → x < v.vars → IsVariable kinds.Bdd v x
  variable_in x below = let few : v.vars ≤ MOST_VARIABLES = st.few_variables in (omega (arith, few, below), below)

  variables_in : (vs : List ℕ) → All (λ x. x < v.vars) vs → All (IsVariable kinds.Bdd v) vs
  variables_in vs all = λ k x below. variable_in _ (all k x below)

  element_in : (e : ℕ) → e < v.elements → IsElement v e
  element_in e below = let few : v.elements ≤ MOST_ELEMENTS = st.few_elements in record { few = omega (arith, few, below); in_range = below }

  literals_in : 2 * v.vars ≤ v.elements → HasLiterals v
  literals_in enough = ((λ x below. variable_in x below), enough)

  substituted : (a : Name) (ps : List (ℕ × Name)) → Live kinds.Bdd a → All (λ pair. pair.0 < v.vars) ps → All (λ pair. Live kinds.Bdd pair.1) ps → are_distinct (map (λ pair. pair.0) ps) ≡ true
      → AreSubstituted v (edge a) (map (with_given edge) ps)
  substituted a ps first ranges named distinct = record {
    edge = own kinds.Bdd a first;
    each = All-map (IsPair v) (with_given edge) ps (λ k pair below. (variable_in _ (ranges k pair below), own kinds.Bdd _ (named k pair below)));
    distinct = ap are_distinct (given_variables edge ps) ∙ distinct;
  }

  pub takes_edges : (making : Making Name (List ℕ) (List (ℕ × Name))) → CanMake d making → takes (by_edges d.rows.live making) v
  takes_edges (makings.Bdd bdds.One) can = tt
  takes_edges (makings.Bdd bdds.Zero) can = tt
  takes_edges (makings.Bdd (bdds.Var x)) can = variable_in x can.0
  takes_edges (makings.Bdd (bdds.Not a)) can = own kinds.Bdd a can.0
  takes_edges (makings.Bdd (bdds.And a b)) can = two kinds.Bdd a b can.0 can.1.0
  takes_edges (makings.Bdd (bdds.Or a b)) can = two kinds.Bdd a b can.0 can.1.0
  takes_edges (makings.Bdd (bdds.Xor a b)) can = two kinds.Bdd a b can.0 can.1.0
  takes_edges (makings.Bdd (bdds.Ite a b c)) can = three kinds.Bdd a b c can.0 can.1.0 can.1.1.0
  takes_edges (makings.Bdd (bdds.Cofactor a x bit)) can = (own kinds.Bdd a can.0, variable_in x can.1.0)
  takes_edges (makings.Bdd (bdds.Exists a vs)) can = (own kinds.Bdd a can.0, variables_in vs can.1.0)
  takes_edges (makings.Bdd (bdds.Forall a vs)) can = (own kinds.Bdd a can.0, variables_in vs can.1.0)
  takes_edges (makings.Bdd (bdds.AndExists a b vs)) can = (two kinds.Bdd a b can.0 can.1.0, variables_in vs can.1.1.0)
  takes_edges (makings.Bdd (bdds.Compose a x b)) can = (two kinds.Bdd a b can.0 can.1.1.0, variable_in x can.1.0)
  takes_edges (makings.Bdd (bdds.VectorCompose a ps)) can = substituted a ps can.0 can.1.0.0 can.1.0.1 can.1.0.2
  takes_edges (makings.Bdd (bdds.Restrict a b)) can = two kinds.Bdd a b can.0 can.1.0
  takes_edges (makings.Bdd (bdds.Support a)) can = own kinds.Bdd a can.0
  takes_edges (makings.Bdd (bdds.AtLeast a z)) can = own kinds.Add a can.0
  takes_edges (makings.Bdd (bdds.Pattern a)) can = own kinds.Add a can.0
  takes_edges (makings.Bdd (bdds.CoverOf a)) can = (own kinds.Zdd a can.1.0, literals_in can.0)
  takes_edges (makings.Add (adds.Constant z)) can = can.0
  takes_edges (makings.Add (adds.FromBdd a)) can = own kinds.Bdd a can.0
  takes_edges (makings.Add (adds.Min a b)) can = two kinds.Add a b can.0 can.1.0
  takes_edges (makings.Add (adds.Max a b)) can = two kinds.Add a b can.0 can.1.0
  takes_edges (makings.Add (adds.Threshold a b)) can = two kinds.Add a b can.0 can.1.0
  takes_edges (makings.Add (adds.AddIte a b c)) can = three kinds.Add a b c can.0 can.1.0 can.1.1.0
  takes_edges (makings.Exact (exacts.Plus a b)) can = two kinds.Add a b can.0 can.1.0
  takes_edges (makings.Exact (exacts.Minus a b)) can = two kinds.Add a b can.0 can.1.0
  takes_edges (makings.Exact (exacts.Times a b)) can = two kinds.Add a b can.0 can.1.0
  takes_edges (makings.Exact (exacts.SumOver a x)) can = (own kinds.Add a can.0, variable_in x can.1.0)
  takes_edges (makings.Zdd zdds.Empty) can = tt
  takes_edges (makings.Zdd zdds.Base) can = tt
  takes_edges (makings.Zdd (zdds.Single e)) can = element_in e can.0
  takes_edges (makings.Zdd (zdds.Union a b)) can = two kinds.Zdd a b can.0 can.1.0
  takes_edges (makings.Zdd (zdds.Meet a b)) can = two kinds.Zdd a b can.0 can.1.0
  takes_edges (makings.Zdd (zdds.Diff a b)) can = two kinds.Zdd a b can.0 can.1.0
  takes_edges (makings.Zdd (zdds.Subset1 a e)) can = (own kinds.Zdd a can.0, element_in e can.1.0)
  takes_edges (makings.Zdd (zdds.Subset0 a e)) can = (own kinds.Zdd a can.0, element_in e can.1.0)
  takes_edges (makings.Zdd (zdds.Change a e)) can = (own kinds.Zdd a can.0, element_in e can.1.0)
  takes_edges (makings.Zdd (zdds.Product a b)) can = two kinds.Zdd a b can.0 can.1.0
  takes_edges (makings.Zdd (zdds.Quotient a b)) can = two kinds.Zdd a b can.0 can.1.0
  takes_edges (makings.Zdd (zdds.Isop a b)) can = (two kinds.Bdd a b can.1.0 can.1.1.0, literals_in can.0)
