-- What comes of every making of rows: one lemma a kind of answer, and a line a making.
use Rattle.std.proofs.Common.{◌≡◌, ℕ, ◌*◌, ◌^◌, ◌<◌, ◌≤◌, Bool, true, false, cond, ℤ, pos, ◌+ℤ◌, ◌-ℤ◌, ◌*ℤ◌, int_le, length, List, Option, Some, None, Result, Ok, Err, IfOk, MatchResult, inl, arith, ap, refl, sym, subst, ◌∙◌}
use Rattle.std.proofs.Math.Nat.{zero-add}
use Rattle.std.proofs.lemmas.Bool.{false≢true}
use Rattle.std.proofs.lemmas.List.Folds.{list_all_at}
use Rattle.std.proofs.lemmas.List.Sums.{list_all-from_AllPass}
use Rattle.edge_bits.specs.declared.edges.Edge.{Edge}
use Rattle.edge_bits.specs.declared.edges.Kind.{Kind}
use Rattle.edge_bits.specs.declared.edges.Kind.TheVariants as kinds
use Rattle.function_laws.specs.declared.history.Name.{Name}
use Rattle.function_laws.specs.declared.history.Call.{Call}
use Rattle.function_laws.specs.declared.history.Call.TheVariants as calls
use Rattle.function_laws.specs.declared.history.Function.{Function}
use Rattle.function_laws.specs.declared.history.Function.TheVariants.{Add}
use Rattle.function_laws.specs.declared.history.Reply.TheVariants as replies
use Rattle.function_laws.specs.declared.making.Making.{Making}
use Rattle.function_laws.specs.declared.making.Making.TheVariants as makings
use Rattle.function_laws.specs.declared.making.BddMaking.TheVariants as bdds
use Rattle.function_laws.specs.declared.making.AddMaking.TheVariants as adds
use Rattle.function_laws.specs.declared.making.ExactMaking.TheVariants as exacts
use Rattle.function_laws.specs.declared.making.ZddMaking.TheVariants as zdds
use Rattle.function_laws.specs.Families.{base, diff, empty, meet, product, quotient, union}
use Rattle.function_laws.specs.Kinds.{Denoted, Fits, ValueOf}
use Rattle.function_laws.specs.Lists.{all_below, list_of, truth}
use Rattle.function_laws.specs.Makings.{kind_made, needs_nodes as needs_nodes_in, taken}
use Rattle.function_laws.specs.Numbers.{exactly, is_value}
use Rattle.function_laws.specs.Outcomes.{Outcome, in_range, is_apart as apart, makes, overflows, restricts}
use Rattle.function_laws.specs.Restricting.{Restricts}
use Rattle.function_laws.specs.Steps.{IsNew, Replies, needs_no_node, outcome as outcome_in}
use Rattle.function_laws.specs.Tables.{Table}
use Rattle.function_laws.specs.Values.{IsOf, conjunction, constant, disjunction, exclusive, negation, projection}
use Rattle.function_laws.proofs.BoundedRestriction.{Restricts-list_of}
use Rattle.function_laws.proofs.ListLemmas.{false-all_below, get_or-list_of, length-list_of, list_of-same, true-all_below}
use Rattle.function_laws.proofs.WidthLemmas.{same-from_lists}
use Rattle.node_store.specs.declared.grow.Stop.{Stop}
use Rattle.node_store.specs.Listed.{listed, listed_at}
use Rattle.node_store.specs.Two.{Overflows}
use Rattle.node_store.specs.Views.{View, AreTwo, Denotes, Grown, Is, bdd_at, family_at}
use Rattle.node_store.specs.ViewLaws.{Is-from}
use Rattle.ite_core.proofs.OutcomeLaws.{outcome-and, outcome-not, outcome-one, outcome-or, outcome-var, outcome-xor, outcome-zero}
use Rattle.operator_calls.specs.declared.unmade.Unmade.{Unmade}
use Rattle.operator_calls.specs.declared.unmade.Unmade.TheVariants as unmade
use Rattle.operator_calls.specs.Making.{Covers, answer, exceeds, is_apart, takes, told_by, unmade_as, work}
use Rattle.operator_calls.proofs.MakingLaws.{unmade-as}
use Rattle.operator_calls.specs.Taking.{CanTakeAll}
use Rattle.quantify_ops.specs.Restricted.{Restricted}
use Rattle.quantify_ops.proofs.OutcomeLaws.{outcome-restrict}
use Rattle.zdd_ops.proofs.OutcomeLaws.{outcome-base, outcome-diff, outcome-empty, outcome-meet, outcome-product, outcome-quotient, outcome-union}
use Rattle.seat_guard.specs.declared.view.Counts.{Counts}
use Rattle.seat_guard.specs.declared.view.Draws.{Draws}
use Rattle.seat_guard.specs.Views.{Agrees}
use Rattle.shared_store.specs.declared.shared.Shared.{Shared}
use Rattle.shared_store.specs.Sharing.{due, view_of}
use Rattle.shared_store.specs.Storing.{IsListedWork}
use Rattle.dd_session.specs.declared.answers.Placed.{Placed}
use Rattle.dd_session.specs.declared.answers.Refusal.{Refusal}
use Rattle.dd_session.specs.declared.answers.Refusal.TheVariants as refusals
use Rattle.dd_session.specs.declared.request.Adding.{Adding}
use Rattle.dd_session.specs.declared.request.Adding.TheVariants.{Made, Chosen, Taken}
use Rattle.dd_session.specs.MadeRows.{HasTaken, MakesOrTells, Refuses, adding_by, by_edges, chooses}
use Rattle.dd_session.specs.Sessions.{IsNamed, Seen, edge_in}
use Rattle.dd_session.specs.Turns.{AddsRow, Gives, HasExact, HasValue, IsEdgeOf, IsSeatOf, IsSmall, MayBeFull, Stands, Took, Tried, outcome_unmade}
use Rattle.dd_session.proofs.Calls.{agrees_before, gives_held, listed-made, session-same}
use Rattle.dd_session.proofs.CoverLaws as covers
use Rattle.dd_session.proofs.FamilyLaws as families
use Rattle.dd_session.proofs.Naming.{own_edge}
use Rattle.dd_session.proofs.NumberLaws as numbers
use Rattle.dd_session.proofs.OperationLaws as operations
use Rattle.dd_session.proofs.Outcomes.{elements, has_value, live, vars}

-- the session has what it takes
abbrev pub Has : Draws → Making Name (List ℕ) (List (ℕ × Name)) → Type 0
Has d making = CanTakeAll (λ k a. IsNamed k d.rows a) d.vars d.vars d.elements (taken making)

-- the outcome is of this function: the one that is made, or one that may be chosen
abbrev Allows : Draws → Adding → Outcome → Function → Type 0
Allows d Made o g = o ≡ makes g
Allows d Chosen o g = (t : Table) → Agrees d t → (name : Name) → IsNew t d.session name → Replies t d.session o (replies.Chose name g)
Allows d (Taken posted) o g = ⊥

-- What comes of a call, and that an operation's answers are of it: an edge, that a value is out of range, or that bounds are apart. It may
-- need a node where the operation has any work.
pub record HasOutcome (d : Draws) (v : View) (call : Call) (k : Kind) (adding : Adding) (Answer : View → Edge → Type 0) (Over IsApart : Type 0) (Work : Denoted → Type 0) : Type 0 where
  pub outcome : Outcome
  pub gives : Gives d call outcome
  pub may : (F : Denoted) → Work F → needs_no_node outcome ≡ false
  pub ok : (w : View) → Grown v w → (e : Edge) → Answer w e → Is k w e × Allows d adding outcome (listed_at k w e)
  pub over : Over → outcome ≡ overflows
  pub is_apart : IsApart → outcome ≡ apart

-- a value that the call makes
from_value : {Work : Denoted → Type 0} (k : Kind) (d : Draws) (v : View) (call : Call) (f : ℕ → ValueOf k) → HasValue k (λ u e. Denotes k u e f) d v call → HasOutcome d v call k Made (λ u e. Denotes k u e f) ⊥ ⊥ Work
from_value k d v call f has = record {
  outcome = makes (listed k v has.value);
  gives = has.gives;
  may = λ F is. refl;
  ok = λ w grown e denotes. let is = has.denotes w e denotes in (Is-from k is, ap makes (listed-made k v w e has.value grown is));
  over = λ never. absurd never;
  is_apart = λ never. absurd never;
}

-- values in range, and one out of range
needs_nodes : (o : Option (List ℤ)) → needs_no_node (in_range o) ≡ false
needs_nodes None = refl
needs_nodes (Some f) = refl

all_in_range : (n : ℕ) (f : ℕ → ℤ) → Fits kinds.Add f → in_range (exactly (list_of (2 ^ n) f)) ≡ makes (Add (list_of (2 ^ n) f))
all_in_range n f fits =
    ap (λ b. in_range (cond b (Some (list_of (2 ^ n) f)) None)) (list_all-from_AllPass is_value (list_of (2 ^ n) f) (λ k d below.
    ap is_value (get_or-list_of (2 ^ n) k f d (subst (λ m. k < m) (length-list_of (2 ^ n) f) below)) ∙ fits k))

-- a value out of range at some assignment is one at an assignment of the first n variables
out_of_range : (n : ℕ) (f : ℕ → ℤ) → IsOf n f → (x : ℕ) → is_value (f x) ≡ false → in_range (exactly (list_of (2 ^ n) f)) ≡ overflows
out_of_range n f of_f x out = by_test (all_below (2 ^ n) (λ k. is_value (f k))) refl
  where
    by_test : (b : Bool) → all_below (2 ^ n) (λ k. is_value (f k)) ≡ b → in_range (exactly (list_of (2 ^ n) f)) ≡ overflows
    by_test true all =
        let same : list_of (2 ^ n) (λ k. is_value (f k)) ≡ list_of (2 ^ n) (constant true) =
        list_of-same (2 ^ n) (λ k. is_value (f k)) (constant true) (λ k below. true-all_below (2 ^ n) k (λ k. is_value (f k)) all below) in
        let everywhere : (λ k. is_value (f k)) ≡ constant true = same-from_lists n (λ k. is_value (f k)) (constant true) (λ v from k b. ap is_value (of_f v from k b)) (λ v from k b. refl) same in
        absurd (false≢true (sym out ∙ ap (λ g. g x) everywhere))
    by_test false fails =
        let found = false-all_below (2 ^ n) (λ k. is_value (f k)) fails in
        ap (λ b. in_range (cond b (Some (list_of (2 ^ n) f)) None))
        (list_all_at is_value (list_of (2 ^ n) f) found.0 (pos 0) (subst (λ m. found.0 < m) (sym (length-list_of (2 ^ n) f)) found.1.0)
        (ap is_value (get_or-list_of (2 ^ n) found.0 f (pos 0) found.1.0) ∙ found.1.1))

-- a value that the call makes where it is in range
from_exact : {Work : Denoted → Type 0} (d : Draws) (v : View) (call : Call) (f : ℕ → ℤ) → HasExact d v call f → HasOutcome d v call kinds.Add Made (λ u e. Denotes kinds.Add u e f) (Overflows kinds.Add f) ⊥ Work
from_exact d v call f has = record {
  outcome = in_range (exactly (list_of (2 ^ v.vars) f));
  gives = has.gives;
  may = λ F is. needs_nodes (exactly (list_of (2 ^ v.vars) f));
  ok = λ w grown e is. (Is-from kinds.Add is, all_in_range v.vars f is.fits ∙ ap makes (listed-made kinds.Add v w e f grown is));
  over = λ over. out_of_range v.vars f has.is_of over.0 over.1;
  is_apart = λ never. absurd never;
}

module _ (d : Draws) (v : View) (of : IsSmall v) (stands : Stands v d) where
  abbrev edge : Name → Edge
  edge a = edge_in d.rows a

  abbrev own : (k : Kind) (a : Name) → IsNamed k d.rows a → IsEdgeOf k d a (edge a)
  own k a named = own_edge d a k named

  -- one of several functions
  restricted : {Work : Denoted → Type 0} (a b : Name) → IsNamed kinds.Bdd d.rows a → IsNamed kinds.Bdd d.rows b
      → HasOutcome d v (calls.Makes (makings.Bdd (bdds.Restrict a b))) kinds.Bdd Chosen (λ u e. Restricted v u (edge a) (edge b) e) ⊥ ⊥ Work
  restricted a b first second = record {
    outcome = restricts (list_of (2 ^ v.vars) (bdd_at v (edge a))) (list_of (2 ^ v.vars) (bdd_at v (edge b)));
    gives = λ t agrees. outcome-restrict v t.sizes t.cells (t.live d.session) a b (edge a) (edge b) (live d t a kinds.Bdd v (edge a) agrees stands (own kinds.Bdd a first v stands).1) (live d t b kinds.Bdd v (edge b) agrees stands (own kinds.Bdd b second v stands).1);
    may = λ F is. refl;
    ok = λ w grown e is.
        let list : list_of (2 ^ w.vars) (bdd_at w e) ≡ list_of (2 ^ v.vars) (bdd_at w e) = ap (λ n. list_of (2 ^ n) (bdd_at w e)) grown.vars in (
          is.answer,
          λ t agrees name new. (
            new,
            ap length list ∙ length-list_of (2 ^ v.vars) (bdd_at w e) ∙ sym (length-list_of (2 ^ v.vars) (bdd_at v (edge a))),
            subst (λ g. Restricts (length (list_of (2 ^ v.vars) (bdd_at v (edge a)))) (truth (list_of (2 ^ v.vars) (bdd_at v (edge a)))) (truth (list_of (2 ^ v.vars) (bdd_at v (edge b)))) (truth g)) (sym list)
                (Restricts-list_of v.vars (bdd_at v (edge a)) (bdd_at v (edge b)) (bdd_at w e) is.restricts),
          ),
        );
    over = λ never. absurd never;
    is_apart = λ never. absurd never;
  }

  -- a cover between two bounds, or none where they are apart
  covered : (a b : Name) → IsNamed kinds.Bdd d.rows a → IsNamed kinds.Bdd d.rows b → 2 * d.vars ≤ d.elements
      → HasOutcome d v (calls.Makes (makings.Zdd (zdds.Isop a b))) kinds.Zdd Chosen (λ u e. Covers v u (edge a) (edge b) e) ⊥ (is_apart (makings.Zdd (zdds.Isop (edge a) (edge b))) v) (work (makings.Zdd (zdds.Isop (edge a) (edge b))) v)
  covered a b first second enough =
      let s = own kinds.Bdd a first in let r = own kinds.Bdd b second in record {
        outcome = covers.between d v of stands enough a b (edge a) (edge b) s r;
        gives = covers.gives_between d v of stands enough a b (edge a) (edge b) s r;
        may = λ F is. covers.needs_some d v of stands enough a b (edge a) (edge b) s r is.0;
        ok = λ w grown e is. (is.is, covers.chosen_told d v of stands enough a b (edge a) (edge b) s r w grown e is);
        over = λ never. absurd never;
        is_apart = covers.apart_told d v of stands enough a b (edge a) (edge b) s r;
      }

  -- what a making takes, and what comes of it
  abbrev Tells : Making Name (List ℕ) (List (ℕ × Name)) → Type 0
  Tells making = takes (by_edges d.rows making) v × HasOutcome d v (calls.Makes making) (kind_made making) (adding_by (chooses making)) (answer (by_edges d.rows making) v) (exceeds (by_edges d.rows making) v) (is_apart (by_edges d.rows making) v) (work (by_edges d.rows making) v)

  value : {Work : Denoted → Type 0} (k : Kind) (T : Type 0) (call : Call) (f : ℕ → ValueOf k) → T × HasValue k (λ u e. Denotes k u e f) d v call → T × HasOutcome d v call k Made (λ u e. Denotes k u e f) ⊥ ⊥ Work
  value k T call f told = (told.0, from_value k d v call f told.1)

  -- an operation on two rows of a kind, by what comes of it
  two : {Work : Denoted → Type 0} (k : Kind) (a b : Name) → IsNamed k d.rows a → IsNamed k d.rows b → (call : Call) (f : ℕ → ValueOf k)
      → ((t : Table) → t.live d.session a ≡ Some (listed_at k v (edge a)) → t.live d.session b ≡ Some (listed_at k v (edge b)) → outcome_in t d.session call ≡ Some (makes (listed k v f)))
      → AreTwo k v (edge a) (edge b) × HasOutcome d v call k Made (λ u e. Denotes k u e f) ⊥ ⊥ Work
  two k a b first second call f comes =
      let s = own k a first v stands in
      let r = own k b second v stands in (
        record { first = s.0; second = r.0 },
        from_value k d v call f (has_value k d v call f (λ t agrees. comes t (live d t a k v (edge a) agrees stands s.1) (live d t b k v (edge b) agrees stands r.1))),
      )

  exact : {Work : Denoted → Type 0} (T : Type 0) (call : Call) (f : ℕ → ℤ) → T × HasExact d v call f → T × HasOutcome d v call kinds.Add Made (λ u e. Denotes kinds.Add u e f) (Overflows kinds.Add f) ⊥ Work
  exact T call f told = (told.0, from_exact d v call f told.1)

  pub told : (making : Making Name (List ℕ) (List (ℕ × Name))) → Has d making → Tells making
  told (makings.Bdd bdds.One) can = (tt, from_value kinds.Bdd d v _ (constant true) (has_value kinds.Bdd d v _ (constant true) (λ t agrees. outcome-one v t.sizes t.cells (t.live d.session) (vars d t v agrees stands))))
  told (makings.Bdd bdds.Zero) can = (tt, from_value kinds.Bdd d v _ (constant false) (has_value kinds.Bdd d v _ (constant false) (λ t agrees. outcome-zero v t.sizes t.cells (t.live d.session) (vars d t v agrees stands))))
  told (makings.Bdd (bdds.Var m)) can = let var = operations.variable_in d v of stands m can.0 in (var, from_value kinds.Bdd d v _ (projection m) (has_value kinds.Bdd d v _ (projection m) (λ t agrees. outcome-var v t.sizes t.cells (t.live d.session) (vars d t v agrees stands) m var.1)))
  told (makings.Bdd (bdds.Not a)) can = let s = own kinds.Bdd a can.0 v stands in (s.0, from_value kinds.Bdd d v _ (negation (bdd_at v (edge a))) (has_value kinds.Bdd d v _ (negation (bdd_at v (edge a))) (λ t agrees. outcome-not v t.sizes t.cells (t.live d.session) a (edge a) (live d t a kinds.Bdd v (edge a) agrees stands s.1))))
  told (makings.Bdd (bdds.And a b)) can = two kinds.Bdd a b can.0 can.1.0 _ (conjunction (bdd_at v (edge a)) (bdd_at v (edge b))) (λ t. outcome-and v t.sizes t.cells (t.live d.session) a b (edge a) (edge b))
  told (makings.Bdd (bdds.Or a b)) can = two kinds.Bdd a b can.0 can.1.0 _ (disjunction (bdd_at v (edge a)) (bdd_at v (edge b))) (λ t. outcome-or v t.sizes t.cells (t.live d.session) a b (edge a) (edge b))
  told (makings.Bdd (bdds.Xor a b)) can = two kinds.Bdd a b can.0 can.1.0 _ (exclusive (bdd_at v (edge a)) (bdd_at v (edge b))) (λ t. outcome-xor v t.sizes t.cells (t.live d.session) a b (edge a) (edge b))
  told (makings.Bdd (bdds.Ite a b c)) can = value kinds.Bdd _ _ _ (operations.told_ite d a b c (edge a) (edge b) (edge c) (own kinds.Bdd a can.0) (own kinds.Bdd b can.1.0) (own kinds.Bdd c can.1.1.0) v of stands)
  told (makings.Bdd (bdds.Cofactor a m bit)) can = value kinds.Bdd _ _ _ (operations.told_cofactor d a (edge a) (own kinds.Bdd a can.0) v of stands m bit can.1.0)
  told (makings.Bdd (bdds.Exists a vs)) can = value kinds.Bdd _ _ _ (operations.told_exists d a (edge a) (own kinds.Bdd a can.0) v of stands vs can.1.0)
  told (makings.Bdd (bdds.Forall a vs)) can = value kinds.Bdd _ _ _ (operations.told_forall d a (edge a) (own kinds.Bdd a can.0) v of stands vs can.1.0)
  told (makings.Bdd (bdds.AndExists a b vs)) can = value kinds.Bdd _ _ _ (operations.told_and_exists d a b (edge a) (edge b) (own kinds.Bdd a can.0) (own kinds.Bdd b can.1.0) v of stands vs can.1.1.0)
  told (makings.Bdd (bdds.Compose a m b)) can = value kinds.Bdd _ _ _ (operations.told_compose d a b (edge a) (edge b) (own kinds.Bdd a can.0) (own kinds.Bdd b can.1.1.0) v of stands m can.1.0)
  told (makings.Bdd (bdds.VectorCompose a ps)) can = value kinds.Bdd _ _ _ (operations.told_vector_compose d v of stands a (edge a) (own kinds.Bdd a can.0) ps can.1.0.0 can.1.0.1 can.1.0.2)
  told (makings.Bdd (bdds.Restrict a b)) can = (record { first = (own kinds.Bdd a can.0 v stands).0; second = (own kinds.Bdd b can.1.0 v stands).0 }, restricted a b can.0 can.1.0)
  told (makings.Bdd (bdds.Support a)) can = value kinds.Bdd _ _ _ (operations.told_support d a (edge a) (own kinds.Bdd a can.0) v of stands)
  told (makings.Bdd (bdds.AtLeast a z)) can = value kinds.Bdd _ _ _ (numbers.told_at_least d a (edge a) (own kinds.Add a can.0) v of stands z)
  told (makings.Bdd (bdds.Pattern a)) can = value kinds.Bdd _ _ _ (numbers.told_pattern d a (edge a) (own kinds.Add a can.0) v of stands)
  told (makings.Bdd (bdds.CoverOf a)) can = value kinds.Bdd _ _ _ (covers.told_cover_of d v of stands can.0 a (edge a) (own kinds.Zdd a can.1.0))
  told (makings.Add (adds.Constant z)) can = value kinds.Add _ _ _ (numbers.told_constant d z can.0 v of stands)
  told (makings.Add (adds.FromBdd a)) can = value kinds.Add _ _ _ (numbers.told_from_bdd d a (edge a) (own kinds.Bdd a can.0) v of stands)
  told (makings.Add (adds.Min a b)) can = value kinds.Add _ _ _ (numbers.told_placed d a b (edge a) (edge b) (own kinds.Add a can.0) (own kinds.Add b can.1.0) v of stands (λ y z. cond (int_le y z) y z) _ (λ t. refl))
  told (makings.Add (adds.Max a b)) can = value kinds.Add _ _ _ (numbers.told_placed d a b (edge a) (edge b) (own kinds.Add a can.0) (own kinds.Add b can.1.0) v of stands (λ y z. cond (int_le z y) y z) _ (λ t. refl))
  told (makings.Add (adds.Threshold a b)) can = value kinds.Add _ _ _ (numbers.told_placed d a b (edge a) (edge b) (own kinds.Add a can.0) (own kinds.Add b can.1.0) v of stands (λ y z. cond (int_le z y) y (pos 0)) _ (λ t. refl))
  told (makings.Add (adds.AddIte a b c)) can = value kinds.Add _ _ _ (numbers.told_add_ite d a b c (edge a) (edge b) (edge c) (own kinds.Bdd a can.0) (own kinds.Add b can.1.0) (own kinds.Add c can.1.1.0) v of stands)
  told (makings.Exact (exacts.Plus a b)) can = exact _ _ _ (numbers.told_exact d a b (edge a) (edge b) (own kinds.Add a can.0) (own kinds.Add b can.1.0) v of stands (λ y z. y +ℤ z) _ (λ t. refl))
  told (makings.Exact (exacts.Minus a b)) can = exact _ _ _ (numbers.told_exact d a b (edge a) (edge b) (own kinds.Add a can.0) (own kinds.Add b can.1.0) v of stands (λ y z. y -ℤ z) _ (λ t. refl))
  told (makings.Exact (exacts.Times a b)) can = exact _ _ _ (numbers.told_exact d a b (edge a) (edge b) (own kinds.Add a can.0) (own kinds.Add b can.1.0) v of stands (λ y z. y *ℤ z) _ (λ t. refl))
  told (makings.Exact (exacts.SumOver a m)) can = exact _ _ _ (numbers.told_sum_over d a (edge a) (own kinds.Add a can.0) v of stands m can.1.0)
  told (makings.Zdd zdds.Empty) can = (tt, from_value kinds.Zdd d v _ empty (has_value kinds.Zdd d v _ empty (λ t agrees. outcome-empty v t.sizes t.cells (t.live d.session) (elements d t v agrees stands))))
  told (makings.Zdd zdds.Base) can = (tt, from_value kinds.Zdd d v _ base (has_value kinds.Zdd d v _ base (λ t agrees. outcome-base v t.sizes t.cells (t.live d.session) (elements d t v agrees stands))))
  told (makings.Zdd (zdds.Single m)) can = value kinds.Zdd _ _ _ (families.told_single d m can.0 v of stands)
  told (makings.Zdd (zdds.Union a b)) can = two kinds.Zdd a b can.0 can.1.0 _ (union (family_at v (edge a)) (family_at v (edge b))) (λ t. outcome-union v t.sizes t.cells (t.live d.session) a b (edge a) (edge b))
  told (makings.Zdd (zdds.Meet a b)) can = two kinds.Zdd a b can.0 can.1.0 _ (meet (family_at v (edge a)) (family_at v (edge b))) (λ t. outcome-meet v t.sizes t.cells (t.live d.session) a b (edge a) (edge b))
  told (makings.Zdd (zdds.Diff a b)) can = two kinds.Zdd a b can.0 can.1.0 _ (diff (family_at v (edge a)) (family_at v (edge b))) (λ t. outcome-diff v t.sizes t.cells (t.live d.session) a b (edge a) (edge b))
  told (makings.Zdd (zdds.Subset1 a m)) can = value kinds.Zdd _ _ _ (families.told_subset1 d a (edge a) (own kinds.Zdd a can.0) m can.1.0 v of stands)
  told (makings.Zdd (zdds.Subset0 a m)) can = value kinds.Zdd _ _ _ (families.told_subset0 d a (edge a) (own kinds.Zdd a can.0) m can.1.0 v of stands)
  told (makings.Zdd (zdds.Change a m)) can = value kinds.Zdd _ _ _ (families.told_change d a (edge a) (own kinds.Zdd a can.0) m can.1.0 v of stands)
  told (makings.Zdd (zdds.Product a b)) can = two kinds.Zdd a b can.0 can.1.0 _ (product (2 ^ v.elements) (family_at v (edge a)) (family_at v (edge b))) (λ t. outcome-product v t.sizes t.cells (t.live d.session) a b (edge a) (edge b))
  told (makings.Zdd (zdds.Quotient a b)) can = two kinds.Zdd a b can.0 can.1.0 _ (quotient (2 ^ v.elements) (family_at v (edge a)) (family_at v (edge b))) (λ t. outcome-quotient v t.sizes t.cells (t.live d.session) a b (edge a) (edge b))
  told (makings.Zdd (zdds.Isop a b)) can = ((record { first = (own kinds.Bdd a can.1.0 v stands).0; second = (own kinds.Bdd b can.1.1.0 v stands).0 }, covers.literals_in d v of stands can.0), covered a b can.1.0 can.1.1.0 can.0)

-- what a try of a making leaves, by what comes of it
module _ (d e : Draws) (x y : Shared) (call : Call) (k : Kind) (adding : Adding) (making : Making Edge (List ℕ) (List (ℕ × Edge))) (Work : View → Denoted → Type 0) (made : Result (Result Edge Unmade) Stop) (c : Counts) (took : Took d e x) (idle : d.holds ≡ false)
    (tried : Tried e c (told_by making) Work x y made) (has : HasOutcome d (view_of tried.from) call k adding (answer making (view_of tried.from)) (exceeds making (view_of tried.from)) (is_apart making (view_of tried.from)) (Work (view_of tried.from))) where
  outcome_gives : Gives e call has.outcome
  outcome_gives = gives_held d e x call has.outcome took idle has.gives

  pub outcome_may_full : (f : Function) × (due y ≡ Some f) × IsListedWork (view_of tried.from) (Work (view_of tried.from)) f → MayBeFull e call
  outcome_may_full due t agrees = (has.outcome, outcome_gives t agrees, let part = due.2.1 in has.may _ part.asked)

  adds_row : (a : Adding) (g : Function) (edge : Edge) → listed_at k (view_of y) edge ≡ g → Allows d a has.outcome g → AddsRow e (view_of y) call a (record { kind = k; edge = edge })
  adds_row Made g edge is allows = subst (Gives e call) (allows ∙ ap makes (sym is)) outcome_gives
  adds_row Chosen g edge is allows = subst (λ h. Rattle.dd_session.specs.Turns.Chooses e call h) (sym is) (record { outcome = has.outcome; gives = outcome_gives; may = λ t agrees. subst (λ (s : ℕ). (name : Name) → IsNew t s name → Replies t s has.outcome (replies.Chose name g)) (sym (session-same d e x took)) (allows t (agrees_before d e x took idle t agrees)) })
  adds_row (Taken posted) g edge is allows = absurd allows

  pub outcome_makes : (r : Result (Result Edge Unmade) Stop) → IfOk r (told_by making (view_of tried.from) (view_of y))
      → IfOk r (λ told. MatchResult told (λ edge. Is k (view_of y) edge × AddsRow e (view_of y) call adding (record { kind = k; edge = edge })) (λ why. Gives e call (outcome_unmade why)))
  outcome_makes (Err s) is = tt
  outcome_makes (Ok (Err unmade.Overflow)) is = subst (Gives e call) (has.over is) outcome_gives
  outcome_makes (Ok (Err unmade.Apart)) is = subst (Gives e call) (has.is_apart is) outcome_gives
  outcome_makes (Ok (Ok edge)) is = let ok = has.ok (view_of y) tried.ran.grown edge is in (ok.0, adds_row adding (listed_at k (view_of y) edge) edge refl ok.1)

-- want of memory before anything was done
pub nothing_made : (old new : Seen) (making : Making Name (List ℕ) (List (ℕ × Name))) → new ≡ old → MakesOrTells old new making (Err refusals.Memory)
nothing_made old new making same = subst (λ (s : Seen). MakesOrTells old s making (Err refusals.Memory)) (sym same) (record {
  told = refuses (needs_nodes_in making);
  may = tt;
  stored = inl (refl, refl);
  spare = omega arith;
})
  where
    refuses : (b : Bool) → Refuses b old old (calls.Makes making) refusals.Memory
    refuses true = (refl, omega arith)
    refuses false = (refl, (refl, omega arith))

-- it is told in place of a function only as what it may be
pub told_why : (edges : Making Edge (List ℕ) (List (ℕ × Edge))) (may : Option Unmade) → unmade_as edges ≡ may → (v w : View) (made : Result (Result Edge Unmade) Stop) (r : Result (Placed (Result Name Unmade)) Refusal) → IfOk made (told_by edges v w)
    → IfOk r (λ placed. MatchResult placed.value (λ name. Unit {0}) (λ why. made ≡ Ok (Err why))) → IfOk r (λ placed. MatchResult placed.value (λ name. Unit {0}) (λ why. may ≡ Some why))
told_why edges may same v w made (Ok placed) answer told = by placed.value told
  where
    by : (value : Result Name Unmade) → MatchResult value (λ name. Unit {0}) (λ why. made ≡ Ok (Err why)) → MatchResult value (λ name. Unit {0}) (λ why. may ≡ Some why)
    by (Ok name) told = tt
    by (Err why) told = sym same ∙ unmade-as edges v why (subst (λ r. IfOk r (told_by edges v w)) told answer)
told_why edges may same v w made (Err refusal) answer told = tt

-- the same of a session's rows, by what makes it of their edges
module _ (s : Seen) (d : Draws) (seat : IsSeatOf s d) (making : Making Name (List ℕ) (List (ℕ × Name))) (edges : Making Edge (List ℕ) (List (ℕ × Edge))) (same : edges ≡ by_edges s.rows making) (has : HasTaken s making) where
  abbrev Comes : View → Making Edge (List ℕ) (List (ℕ × Edge)) → Type 0
  Comes w by = takes by w × HasOutcome d w (calls.Makes making) (kind_made making) (adding_by (chooses making)) (answer by w) (exceeds by w) (is_apart by w) (work by w)

  pub told_by_edges : (w : View) → IsSmall w → Stands w d → Comes w edges
  told_by_edges w small stands = subst (Comes w) (sym (same ∙ ap (λ (z : Seen). by_edges z.rows making) seat.is)) (told d w small stands making
      (subst (λ (p : ℕ × ℕ). CanTakeAll (λ k a. IsNamed k d.rows a) d.vars p.0 p.1 (taken making)) (λ i. (zero-add d.vars i, zero-add d.elements i)) (subst (λ (z : Seen). HasTaken z making) seat.is has)))
