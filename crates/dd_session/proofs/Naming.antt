-- What names stand for, and the rows in memory that they name.
use Rattle.std.proofs.Common.{◌≡◌, Bool, true, false, cond, ◌&&◌, ◌==◌, List, [], ◌∷◌, Option, Some, None, option_map, IsSome, IfSome, IsTrue, ◌↔◌, refl, ap, ap₂, sym, subst, ◌∙◌, eq-eqb, ne_eqb, ℕ}
use mathlib.Core.Logic.{dite}
use native.Mathlib.Decide.{ℕ_discrete}
use Rattle.std.proofs.lemmas.Bool.{eqb-true}
use Rattle.edge_bits.specs.declared.edges.Edge.{Edge}
use Rattle.edge_bits.specs.declared.edges.Kind.{Kind}
use Rattle.function_laws.specs.declared.history.Name.{Name}
use Rattle.function_laws.specs.declared.history.Function.{Function}
use Rattle.function_laws.specs.SessionEntries.{Each}
use Rattle.function_laws.specs.Tables.{same_name}
use Rattle.handle_count.specs.declared.rows.Held.{Held as Live}
use Rattle.handle_count.specs.RowMaps.{RowMap, find_row}
use Rattle.node_store.specs.Listed.{listed_at}
use Rattle.node_store.specs.Views.{Is}
use Rattle.seat_guard.specs.declared.view.Held.{Held}
use Rattle.seat_guard.specs.declared.view.Row.{Row}
use Rattle.seat_guard.specs.declared.view.Draws.{Draws}
use Rattle.seat_guard.specs.Views.{stands_for}
use Rattle.shared_store.specs.Sharing.{IsHeldIn, kind_of, noted_in}
use Rattle.dd_session.specs.Sessions.{IsNamed, Seen, edge_in, edge_or, held_as}
use Rattle.dd_session.specs.Turns.{IsEdgeOf, IsSeatOf, Tied, live_as}

pub both_true : (x y : Bool) → (x && y) ≡ true → (x ≡ true) × (y ≡ true)
both_true true true e = (refl, refl)
both_true true false e = cc
both_true false y e = cc

pub same_name-refl : (name : Name) → same_name name name ≡ true
same_name-refl name = ap₂ (λ a b. a && b) (eq-eqb name.row name.row refl) (eq-eqb name.generation name.generation refl)

-- two names with one row and one generation
pub same_name-eq : (a b : Name) → same_name a b ≡ true → a ≡ b
same_name-eq a b is =
    let t = both_true (a.row == b.row) (a.generation == b.generation) is in
    let rows = eqb-true a.row b.row t.0 in
    let generations = eqb-true a.generation b.generation t.1 in λ i. record { row = rows i; generation = generations i }

-- it is told of both alike
pub same_back : (a b : Name) → same_name a b ≡ same_name b a
same_back a b = ap₂ (λ x y. x && y) (eqb-back a.row b.row) (eqb-back a.generation b.generation)
  where
    eqb-back : (m n : ℕ) → (m == n) ≡ (n == m)
    eqb-back m n = dite (ℕ_discrete m n) (λ e. eq-eqb m n e ∙ sym (eq-eqb n m (sym e))) (λ e. ne_eqb m n e ∙ sym (ne_eqb n m (λ s. e (sym s))))

abbrev nothing : (X : Type 0) → Option X
nothing X = None

pub cond_none : (X : Type 0) (b : Bool) → None ≡ cond b (nothing X) (nothing X)
cond_none X true = refl
cond_none X false = refl

-- the function of a name has an edge
pub stands_held : (rows : List Row) (name : Name) (f : Function) → stands_for rows name ≡ Some f → (held : Held) × (held_as rows name ≡ Some held) × (held.function ≡ f)
stands_held [] name f is = cc
stands_held (row ∷ rows) name f is = by (same_name name row.name) (stands_held rows name f) is
  where
    by : (b : Bool) → (stands_for rows name ≡ Some f → (held : Held) × (held_as rows name ≡ Some held) × (held.function ≡ f)) → cond b (Some row.held.function) (stands_for rows name) ≡ Some f
        → (held : Held) × (cond b (Some row.held) (held_as rows name) ≡ Some held) × (held.function ≡ f)
    by true rest is = (row.held, refl, some_same row.held.function f is)
      where
        some_same : (a b : Function) → Some a ≡ Some b → a ≡ b
        some_same a b e = cc
    by false rest is = rest is

pub held_stands : (rows : List Row) (name : Name) → stands_for rows name ≡ option_map (λ (h : Held). h.function) (held_as rows name)
held_stands [] name = refl
held_stands (row ∷ rows) name = by (same_name name row.name) (held_stands rows name)
  where
    by : (b : Bool) → stands_for rows name ≡ option_map (λ (h : Held). h.function) (held_as rows name)
        → cond b (Some row.held.function) (stands_for rows name) ≡ option_map (λ (h : Held). h.function) (cond b (Some row.held) (held_as rows name))
    by true rest = refl
    by false rest = rest

pub held_kept : (P : Held → Type 0) (rows : List Row) (name : Name) (held : Held) → Each (λ (row : Row). P row.held) rows → held_as rows name ≡ Some held → P held
held_kept P [] name held all is = cc
held_kept P (row ∷ rows) name held all is = by (same_name name row.name) (held_kept P rows name held all.1) is
  where
    by : (b : Bool) → (held_as rows name ≡ Some held → P held) → cond b (Some row.held) (held_as rows name) ≡ Some held → P held
    by true rest is = subst P (some_same row.held held is) all.0
      where
        some_same : (a b : Held) → Some a ≡ Some b → a ≡ b
        some_same a b e = cc
    by false rest is = rest is

-- a row's edge denotes what its name stands for
pub own_edge : (d : Draws) (name : Name) (k : Kind) → IsNamed k d.rows name → IsEdgeOf k d name (edge_in d.rows name)
own_edge d name k named x stands =
    let h = stands_held d.rows name named.0 named.1 in
    let kind : kind_of h.0.function ≡ k = ap kind_of h.2 ∙ named.2 in
    let same : edge_in d.rows name ≡ h.0.edge = ap edge_or h.1 in
    let kept : IsHeldIn x h.0 = held_kept (IsHeldIn x) d.rows name h.0 stands.rows_kept h.1 in
    let w = x in
    subst (λ (y : Kind × Edge). Is y.0 w y.1 × (option_map (noted_in w) (stands_for d.rows name) ≡ Some (listed_at y.0 w y.1))) (λ i. (kind i, sym same i))
    (kept.0, ap (option_map (noted_in w)) (held_stands d.rows name ∙ ap (option_map (λ (z : Held). z.function)) h.1) ∙ ap Some (sym kept.1))

-- in each seat that is seen as the session
pub edge_seen : (s : Seen) (d : Draws) → IsSeatOf s d → (k : Kind) (name : Name) (e : Edge) → e ≡ edge_in s.rows name → IsNamed k s.rows name → IsEdgeOf k d name e
edge_seen s d seat k name e is named =
    let rows : s.rows ≡ d.rows = ap (λ (z : Seen). z.rows) seat.is in
    subst (IsEdgeOf k d name) (sym (is ∙ ap (λ rs. edge_in rs name) rows)) (own_edge d name k (subst (λ rs. IsNamed k rs name) rows named))

module _ (d : Draws) (rows : RowMap) (name : Name) (tied : Tied d rows) where
  -- a name that stands for something finds a row
  pub finds_row : (k : Kind) → IsNamed k d.rows name → (h : Held) × (held_as d.rows name ≡ Some h) × (find_row rows.live name ≡ Some (live_as name h)) × (kind_of h.function ≡ k)
  finds_row k named =
      let h = stands_held d.rows name named.0 named.1 in
      (h.0, h.1, tied.found name ∙ ap (option_map (live_as name)) h.1, ap kind_of h.2 ∙ named.2)

  pub finds_some : (k : Kind) × IsNamed k d.rows name → IsSome (find_row rows.live name)
  finds_some named = subst IsSome (sym (finds_row named.0 named.1).2) refl

  pub kind_found : (k k' : Kind) → IsNamed k d.rows name → IfSome (find_row rows.live name) (λ held. k' ≡ held.kind) → k' ≡ k
  kind_found k k' named is = let h = finds_row k named in subst (λ (o : Option Live). IfSome o (λ held. k' ≡ held.kind)) h.2 is ∙ h.3

  pub edge_found : (e : Edge) → (k : Kind) × IsNamed k d.rows name → IfSome (find_row rows.live name) (λ held. e ≡ held.edge) → e ≡ edge_in d.rows name
  edge_found e named is =
      let h = finds_row named.0 named.1 in
      subst (λ (o : Option Live). IfSome o (λ held. e ≡ held.edge)) h.2 is ∙ sym (ap edge_or h.1)

  pub edge_stands : (e : Edge) → IfSome (find_row rows.live name) (λ held. e ≡ held.edge) → (k : Kind) → IsNamed k d.rows name → IsEdgeOf k d name e
  edge_stands e is k named x stands =
      let h = finds_row k named in
      let same : e ≡ h.0.edge = subst (λ (o : Option Live). IfSome o (λ held. e ≡ held.edge)) h.2 is in
      let kept : IsHeldIn x h.0 = held_kept (IsHeldIn x) d.rows name h.0 stands.rows_kept h.1 in
      let w = x in
      subst (λ (y : Kind × Edge). Is y.0 w y.1 × (option_map (noted_in w) (stands_for d.rows name) ≡ Some (listed_at y.0 w y.1))) (λ i. (h.3 i, sym same i))
      (kept.0, ap (option_map (noted_in w)) (held_stands d.rows name ∙ ap (option_map (λ (z : Held). z.function)) h.1) ∙ ap Some (sym kept.1))

-- a name is found exactly if it stands for something
pub found_live : (d : Draws) (rows : RowMap) (name : Name) (b : Bool) → Tied d rows → IsTrue b ↔ IsSome (find_row rows.live name) → IsTrue b ↔ ((k : Kind) × IsNamed k d.rows name)
found_live d rows name b tied is = ((λ yes. by (held_as d.rows name) refl (is.0 yes)), (λ named. is.1 (finds_some d rows name tied named)))
  where
    by : (o : Option Held) → held_as d.rows name ≡ o → IsSome (find_row rows.live name) → (k : Kind) × IsNamed k d.rows name
    by None none some = absurd (let z : IsSome (nothing Live) = subst IsSome (tied.found name ∙ ap (option_map (live_as name)) none) some in cc)
    by (Some h) there some = (kind_of h.function, (h.function, held_stands d.rows name ∙ ap (option_map (λ (z : Held). z.function)) there, refl))
