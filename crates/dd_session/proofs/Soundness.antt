-- The rows of a seat: each edge is that of a slot, and one function has one edge.
use Rattle.std.proofs.Common.{◌≡◌, ◌↔◌, ℕ, zero, suc, ◌<◌, Bool, true, false, cond, List, [], ◌∷◌, Some, None, refl, ap, sym, subst, ◌∙◌, arith}
use mathlib.Core.Option.{some}
use lib.ListN.{get_elem?}
use Rattle.edge_bits.specs.declared.edges.Kind.{Kind}
use Rattle.function_laws.specs.declared.history.Name.{Name}
use Rattle.function_laws.specs.Kinds.{ValueOf, function_of}
use Rattle.function_laws.specs.SessionEntries.{Each}
use Rattle.function_laws.specs.Tables.{same_name}
use Rattle.function_laws.specs.Widening.{at_sizes}
use Rattle.node_store.specs.KindLaws.{flipped-some}
use Rattle.node_store.specs.Listed.{listed_at}
use Rattle.node_store.specs.Views.{Is, values_at}
use Rattle.node_store.proofs.ListedLaws.{same-listed}
use Rattle.node_slots.specs.Stores.{IsStore}
use Rattle.node_slots.proofs.Canonical.{same_edge}
use Rattle.seat_guard.specs.declared.view.Counts.{Counts}
use Rattle.seat_guard.specs.declared.view.Draws.{Draws}
use Rattle.seat_guard.specs.declared.view.Held.{Held}
use Rattle.seat_guard.specs.declared.view.Row.{Row}
use Rattle.seat_guard.specs.Known.{known_at, sizes_for}
use Rattle.seat_guard.specs.Views.{without}
use Rattle.shared_store.specs.declared.shared.Shared.{Shared}
use Rattle.shared_store.specs.Sharing.{Serving, keeps, kind_of, view_of}
use Rattle.shared_store.proofs.Stored.{used_within}
use Rattle.dd_session.specs.Sessions.{held_as, row_in}
use Rattle.dd_session.specs.Turns.{AreSound}

-- how many variables, elements and slots the seat knows of
abbrev pub sizes_of : Draws → ℕ × ℕ × ℕ
sizes_of d = (d.vars, d.elements, d.slots)

-- rows whose edges and functions are those of rows that are sound
pub sound_among : (d e : Draws) → ((i : ℕ) (row : Row) → get_elem? e.rows i ≡ some row → (j : ℕ) × (was : Row) × (get_elem? d.rows j ≡ some was) × (row.held ≡ was.held)) → sizes_of e ≡ sizes_of d → AreSound d → AreSound e
sound_among d e among sizes sound = record {
  within = λ i row at. let w = among i row at in let lt = sound.within w.0 w.1 w.2 in let m = ap (λ (h : Held). h.edge.index) w.3 in let n = ap (λ (p : ℕ × ℕ × ℕ). p.2) sizes in omega (arith, lt, m, n);
  canonical = λ i j a b at there kinds.
      let v = among i a at in
      let w = among j b there in
      let is = sound.canonical v.0 w.0 v.1 w.1 v.2 w.2 (ap (λ (h : Held). kind_of h.function) (sym v.3) ∙ kinds ∙ ap (λ (h : Held). kind_of h.function) w.3) in
      subst (λ (x : Held × Held). (x.0.edge ≡ x.1.edge) ↔ (known_at e x.0.function ≡ known_at e x.1.function)) (λ k. (sym v.3 k, sym w.3 k))
      (subst (λ (p : ℕ × ℕ × ℕ). (v.1.held.edge ≡ w.1.held.edge) ↔ (at_sizes (sizes_for p.0 p.1) v.1.held.function ≡ at_sizes (sizes_for p.0 p.1) w.1.held.function)) (sym sizes) is);
}

pub sound_same : (d e : Draws) → e.rows ≡ d.rows → sizes_of e ≡ sizes_of d → AreSound d → AreSound e
sound_same d e rows sizes = sound_among d e (λ i row at. (i, row, ap (λ (l : List Row). get_elem? l i) (sym rows) ∙ at, refl)) sizes

-- the row of a name is one of the rows
pub row_of : (rows : List Row) (name : Name) (held : Held) → held_as rows name ≡ Some held → (i : ℕ) × (row : Row) × (row_in rows name ≡ Some row) × (get_elem? rows i ≡ some row) × (row.held ≡ held)
row_of [] name held is = absurd (let z : None ≡ Some held = is in cc)
row_of (row ∷ rows) name held is = by (same_name name row.name) (row_of rows name held) is
  where
    by : (b : Bool) → (held_as rows name ≡ Some held → (i : ℕ) × (r : Row) × (row_in rows name ≡ Some r) × (get_elem? rows i ≡ some r) × (r.held ≡ held)) → cond b (Some row.held) (held_as rows name) ≡ Some held
        → (i : ℕ) × (r : Row) × (cond b (Some row) (row_in rows name) ≡ Some r) × (get_elem? (row ∷ rows) i ≡ some r) × (r.held ≡ held)
    by true rest e = (zero, row, refl, refl, some_same row.held held e)
      where
        some_same : (a b : Held) → Some a ≡ Some b → a ≡ b
        some_same a b e = cc
    by false rest e = let r = rest e in (suc r.0, r.1, r.2, r.3, r.4)

pub row_at : (rows : List Row) (name : Name) (held : Held) → held_as rows name ≡ Some held → (i : ℕ) × (row : Row) × (get_elem? rows i ≡ some row) × (row.held ≡ held)
row_at rows name held is = let r = row_of rows name held is in (r.0, r.1, r.3, r.4)

-- one more of the same edge
pub sound_copied : (d e : Draws) (name : Name) (held : Held) (generation : ℕ) → (j : ℕ) × (was : Row) × (get_elem? d.rows j ≡ some was) × (was.held ≡ held) → e.rows ≡ record { name = name; held = held; generation = generation } ∷ d.rows → sizes_of e ≡ sizes_of d → AreSound d → AreSound e
sound_copied d e name held generation old rows sizes = sound_among d e (λ i row at. by i row (ap (λ (l : List Row). get_elem? l i) (sym rows) ∙ at)) sizes
  where
    by : (i : ℕ) (row : Row) → get_elem? (record { name = name; held = held; generation = generation } ∷ d.rows) i ≡ some row → (j : ℕ) × (was : Row) × (get_elem? d.rows j ≡ some was) × (row.held ≡ was.held)
    by zero row at = let same : record { name = name; held = held; generation = generation } ≡ row = cc in (old.0, old.1, old.2, ap (λ (r : Row). r.held) (sym same) ∙ sym old.3)
    by (suc i) row at = (i, row, at, refl)

-- one less
among_without : (name : Name) (rows : List Row) (i : ℕ) (row : Row) → get_elem? (without name rows) i ≡ some row → (j : ℕ) × (was : Row) × (get_elem? rows j ≡ some was) × (row.held ≡ was.held)
among_without name [] i row at = cc
among_without name (x ∷ rows) i row at = by (same_name x.name name) i (λ j there. among_without name rows j row there) at
  where
    by : (b : Bool) (i : ℕ) → ((i : ℕ) → get_elem? (without name rows) i ≡ some row → (j : ℕ) × (was : Row) × (get_elem? rows j ≡ some was) × (row.held ≡ was.held)) → get_elem? (cond b (without name rows) (x ∷ without name rows)) i ≡ some row
        → (j : ℕ) × (was : Row) × (get_elem? (x ∷ rows) j ≡ some was) × (row.held ≡ was.held)
    by true i rest at = let r = rest i at in (suc r.0, r.1, r.2, r.3)
    by false zero rest at = (zero, row, at, refl)
    by false (suc i) rest at = let r = rest i at in (suc r.0, r.1, r.2, r.3)

pub sound_dropped : (d e : Draws) (name : Name) → e.rows ≡ without name d.rows → sizes_of e ≡ sizes_of d → AreSound d → AreSound e
sound_dropped d e name rows sizes = sound_among d e (λ i row at. among_without name d.rows i row (ap (λ (l : List Row). get_elem? l i) (sym rows) ∙ at)) sizes

each_at : (P : Row → Type 0) (rows : List Row) (i : ℕ) (row : Row) → Each P rows → get_elem? rows i ≡ some row → P row
each_at P [] i row each at = cc
each_at P (x ∷ rows) zero row each at = let same : x ≡ row = cc in subst P same each.0
each_at P (x ∷ rows) (suc i) row each at = each_at P rows i row each.1 at

-- A store that serves the seat makes its rows sound.
module _ (x : Shared) (of : IsStore x.store) (d : Draws) (c : Counts) (serves : Serving x d c) where
  -- an edge that is kept is that of a slot
  pub held_within : (h : Held) → keeps x h → h.edge.index < d.slots
  held_within h kept =
      let s = flipped-some h.edge.complement ((view_of x).content h.edge.index) (function_of (kind_of h.function) (values_at (kind_of h.function) (view_of x) h.edge)) kept.0.is in
      let lt = used_within x.store of h.edge.index s.0 s.1 in
      let many = ap (λ (p : ℕ × ℕ × ℕ). p.2) serves.counts_are in omega (arith, lt, many)

  -- what it denotes is what the seat knows
  known-listed : (h : Held) → keeps x h → listed_at (kind_of h.function) (view_of x) h.edge ≡ known_at d h.function
  known-listed h kept = kept.1 ∙ ap (λ (p : ℕ × ℕ × ℕ). at_sizes (sizes_for p.0 p.1) h.function) serves.counts_are

  one_function : (a b : Held) → keeps x a → keeps x b → kind_of a.function ≡ kind_of b.function → (a.edge ≡ b.edge) ↔ (known_at d a.function ≡ known_at d b.function)
  one_function a b kept_a kept_b kinds = (
    (λ same. sym (known-listed a kept_a) ∙ (λ i. listed_at (kinds i) (view_of x) (same i)) ∙ known-listed b kept_b),
    (λ same.
        let k : Kind = kind_of b.function in
        let first : Is k (view_of x) a.edge = subst (λ (j : Kind). Is j (view_of x) a.edge) kinds kept_a.0 in
        let second : Is k (view_of x) b.edge = kept_b.0 in
        let lists : listed_at k (view_of x) a.edge ≡ listed_at k (view_of x) b.edge = ap (λ (j : Kind). listed_at j (view_of x) a.edge) (sym kinds) ∙ known-listed a kept_a ∙ same ∙ sym (known-listed b kept_b) in
        let values : values_at k (view_of x) a.edge ≡ values_at k (view_of x) b.edge = same-listed k (view_of x) (values_at k (view_of x) a.edge) (values_at k (view_of x) b.edge) first.beyond second.beyond lists in
        same_edge x.store of.permanent of.canonical a.edge b.edge (function_of k (values_at k (view_of x) a.edge)) first.is (second.is ∙ ap (λ (f : ℕ → ValueOf k). Some (function_of k f)) (sym values))),
  )

  pub sound_serving : AreSound d
  sound_serving = record {
    within = λ i row at. held_within row.held (each_at (λ (r : Row). keeps x r.held) d.rows i row serves.rows_kept at);
    canonical = λ i j a b at there kinds. one_function a.held b.held (each_at (λ (r : Row). keeps x r.held) d.rows i a serves.rows_kept at) (each_at (λ (r : Row). keeps x r.held) d.rows j b serves.rows_kept there) kinds;
  }
