-- What comes of the calls on covers, by the edges of their rows.
use Rattle.std.proofs.Common.{◌≡◌, ℕ, ◌*◌, ◌^◌, ◌≤◌, Bool, true, false, if◌then◌else◌, ap, ap₂, sym, subst, arith, ◌∙◌}
use Rattle.std.proofs.lemmas.Bool.{le-leb}
use Rattle.edge_bits.specs.declared.edges.Edge.{Edge}
use Rattle.edge_bits.specs.declared.edges.Kind.TheVariants as kinds
use Rattle.function_laws.specs.declared.history.Name.{Name}
use Rattle.function_laws.specs.declared.history.Call.TheVariants as calls
use Rattle.function_laws.specs.declared.making.Making.TheVariants as makings
use Rattle.function_laws.specs.declared.making.BddMaking.TheVariants as bdds
use Rattle.function_laws.specs.declared.making.ZddMaking.TheVariants as zdds
use Rattle.function_laws.specs.IrredundantCovers.{IsIrredundant, cover_value}
use Rattle.function_laws.specs.Functions.{leq_of}
use Rattle.function_laws.specs.Lists.{list_of, truth}
use Rattle.function_laws.specs.Makings.{covered, has_literals}
use Rattle.function_laws.specs.Outcomes.{Outcome, as_bdd, covers, is_apart, when, with_two}
use Rattle.function_laws.specs.Steps.{IsNew, Replies, needs_no_node}
use Rattle.function_laws.specs.Tables.{Table}
use Rattle.function_laws.specs.declared.history.Reply.TheVariants as replies
use Rattle.function_laws.proofs.ListLemmas.{length-list_of}
use Rattle.node_store.specs.Listed.{listed_at}
use Rattle.node_store.specs.Memo.{Implies}
use Rattle.node_store.specs.Views.{View, Denotes, Grown, Is, bdd_at, family_at}
use Rattle.cover_isop.proofs.OutcomeLaws.{outcome-cover_of}
use Rattle.operator_calls.specs.Making.{Covers, HasLiterals}
use Rattle.seat_guard.specs.declared.view.Draws.{Draws}
use Rattle.seat_guard.specs.Views.{Agrees}
use Rattle.dd_session.specs.Turns.{Gives, HasValue, IsEdgeOf, IsSmall, Stands}
use Rattle.dd_session.proofs.CoverLists.{apart_listed, covered_ordered, irredundant-listed, ordered}
use Rattle.dd_session.proofs.OperationLaws.{variable_in}
use Rattle.dd_session.proofs.Outcomes.{elements, has_value, live, vars}

module _ (d : Draws) (v : View) (of : IsSmall v) (stands : Stands v d) (enough : 2 * d.vars ≤ d.elements) where
  -- both literals of each variable are elements of the store
  pub literals_in : HasLiterals v
  literals_in =
      let n : v.vars ≡ d.vars = ap (λ (p : ℕ × ℕ × ℕ). p.0) stands.counts_are in
      let m : v.elements ≡ d.elements = ap (λ (p : ℕ × ℕ × ℕ). p.1) stands.counts_are in
      ((λ x below. variable_in d v of stands x (omega (arith, below, n))), omega (arith, enough, n, m))

  has_them : (t : Table) → Agrees d t → has_literals t.sizes ≡ true
  has_them t agrees = ap has_literals agrees.sizes_are ∙ le-leb (2 * d.vars) d.elements enough

  pub told_cover_of : (a : Name) (e : Edge) → IsEdgeOf kinds.Zdd d a e
      → (Is kinds.Zdd v e × HasLiterals v) × HasValue kinds.Bdd (λ u edge. Denotes kinds.Bdd u edge (cover_value v.vars v.elements (family_at v e))) d v (calls.Makes (makings.Bdd (bdds.CoverOf a)))
  told_cover_of a e edge = (
    ((edge v stands).0, literals_in),
    has_value kinds.Bdd d v (calls.Makes (makings.Bdd (bdds.CoverOf a))) (cover_value v.vars v.elements (family_at v e))
        (λ t agrees. outcome-cover_of v t.sizes t.cells (t.live d.session) (vars d t v agrees stands) (elements d t v agrees stands) (has_them t agrees) a e (live d t a kinds.Zdd v e agrees stands (edge v stands).1)),
  )

  -- a cover between two rows
  module _ (a b : Name) (e i : Edge) (first : IsEdgeOf kinds.Bdd d a e) (second : IsEdgeOf kinds.Bdd d b i) where
    abbrev lower : ℕ → Bool
    lower = bdd_at v e

    abbrev upper : ℕ → Bool
    upper = bdd_at v i

    abbrev pub between : Outcome
    between = covered (list_of (2 ^ v.vars) lower) (list_of (2 ^ v.vars) upper)

    pub gives_between : Gives d (calls.Makes (makings.Zdd (zdds.Isop a b))) between
    gives_between t agrees =
        ap (λ c. when c (with_two (as_bdd (t.live d.session a)) (as_bdd (t.live d.session b)) covered)) (has_them t agrees)
        ∙ ap₂ (λ x y. with_two (as_bdd x) (as_bdd y) covered) (live d t a kinds.Bdd v e agrees stands (first v stands).1) (live d t b kinds.Bdd v i agrees stands (second v stands).1)

    by_test : (c : Bool) → leq_of (list_of (2 ^ v.vars) lower) (list_of (2 ^ v.vars) upper) ≡ c → between ≡ (if c then covers (list_of (2 ^ v.vars) lower) (list_of (2 ^ v.vars) upper) else is_apart)
    by_test c is = ap (λ x. if x then covers (list_of (2 ^ v.vars) lower) (list_of (2 ^ v.vars) upper) else is_apart) is

    pub needs_some : Implies lower upper → needs_no_node between ≡ false
    needs_some implies = ap needs_no_node (by_test true (ordered v.vars lower upper (λ k below. implies k)))

    pub apart_told : (Implies lower upper → ⊥) → between ≡ is_apart
    apart_told apart = by_test false (apart_listed v.vars lower upper (first v stands).0.beyond (second v stands).0.beyond apart)

    -- whatever cover is chosen is one that may be replied
    pub chosen_told : (w : View) → Grown v w → (edge : Edge) → Covers v w e i edge → (t : Table) → Agrees d t → (name : Name) → IsNew t d.session name → Replies t d.session between (replies.Chose name (listed_at kinds.Zdd w edge))
    chosen_told w grown edge is t agrees name new =
        let p = family_at w edge in
        let n = vars d t v agrees stands in let m = elements d t v agrees stands in
        subst (λ (o : Outcome). Replies t d.session o (replies.Chose name (listed_at kinds.Zdd w edge))) (sym (by_test true (covered_ordered v.vars v.elements lower upper p is.irredundant))) (
          new,
          length-list_of (2 ^ w.elements) p ∙ ap (λ k. 2 ^ k) (grown.elements ∙ sym m),
          subst (λ (k : ℕ). IsIrredundant t.sizes.variables t.sizes.elements (truth (list_of (2 ^ v.vars) lower)) (truth (list_of (2 ^ v.vars) upper)) (truth (list_of (2 ^ k) p))) (sym grown.elements)
              (subst (λ (z : ℕ × ℕ). IsIrredundant z.0 z.1 (truth (list_of (2 ^ v.vars) lower)) (truth (list_of (2 ^ v.vars) upper)) (truth (list_of (2 ^ v.elements) p))) (λ j. (sym n j, sym m j))
              (irredundant-listed v.vars v.elements lower upper p is.irredundant)),
        )
