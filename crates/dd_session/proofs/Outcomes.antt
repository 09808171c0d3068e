-- What comes of the operations, by the edges of their rows.
use Rattle.std.proofs.lemmas.List.{length-take, length-take-le}
use Rattle.edge_bits.specs.Words.{digit}
use Rattle.function_laws.specs.Lists.{list_of, truth, whole}
use Rattle.function_laws.specs.Steps.{value_at}
use Rattle.std.proofs.Common.{◌≡◌, ◌≤◌, ◌^◌, ℕ, pos, take, take_all, arith, Bool, false, Option, Some, None, option_map, refl, ap, sym, subst, ◌∙◌, List, length}
use Rattle.atomic_table.specs.Seated.{TableId}
use Rattle.edge_bits.specs.declared.edges.Edge.{Edge}
use Rattle.edge_bits.specs.declared.edges.Kind.{Kind}
use Rattle.edge_bits.specs.declared.edges.Kind.TheVariants as kinds
use Rattle.function_laws.specs.declared.history.Name.{Name}
use Rattle.function_laws.specs.declared.history.Call.{Call}
use Rattle.function_laws.specs.declared.history.Call.TheVariants as calls
use Rattle.function_laws.specs.Outcomes.{makes, shows, with_one}
use Rattle.function_laws.specs.Tables.{Sizes, Table}
use Rattle.function_laws.specs.Widening.{at_sizes}
use Rattle.function_laws.specs.Kinds.{ValueOf}
use Rattle.function_laws.specs.Values.{assignment_of}
use Rattle.node_store.specs.Listed.{listed, listed_at, number_of}
use Rattle.node_store.specs.Views.{View, Denotes, Is, levels, values_at}
use Rattle.node_store.proofs.Outcomes.{outcome-eval}
use Rattle.seat_guard.specs.declared.view.Draws.{Draws}
use Rattle.seat_guard.specs.Views.{Agrees, known_as, stands_for}
use Rattle.shared_store.specs.declared.shared.Shared.{Shared}
use Rattle.seat_guard.specs.Known.{known_at, sizes_for}
use Rattle.shared_store.specs.declared.shared.Cell.{Cell}
use Rattle.shared_store.specs.Sharing.{noted_in, view_of}
use Rattle.shared_store.proofs.Keeping.{listed-noted}
use Rattle.dd_session.specs.Turns.{function_of, sizes_in, Gives, HasValue, IsEdgeOf, Stands, Took, managed_by}
use Rattle.dd_session.specs.Sessions.{Managed}
use Rattle.dd_session.specs.Walking.{bits_of}
use Rattle.dd_session.proofs.Calls.{gives_held, stands_taken}

module _ (d : Draws) where
  -- what a row's name stands for, in a table that agrees
  pub vars : (t : Table) (w : View) → Agrees d t → Stands w d → t.sizes.variables ≡ w.vars
  vars t w agrees stands = ap (λ (z : Sizes). z.variables) agrees.sizes_are ∙ sym (ap (λ (p : ℕ × ℕ × ℕ). p.0) stands.counts_are)

  pub elements : (t : Table) (w : View) → Agrees d t → Stands w d → t.sizes.elements ≡ w.elements
  elements t w agrees stands = ap (λ (z : Sizes). z.elements) agrees.sizes_are ∙ sym (ap (λ (p : ℕ × ℕ × ℕ). p.1) stands.counts_are)

  pub live : (t : Table) (name : Name) (k : Kind) (w : View) (e : Edge) → Agrees d t → Stands w d → option_map (noted_in w) (stands_for d.rows name) ≡ Some (listed_at k w e) → t.live d.session name ≡ Some (listed_at k w e)
  live t name k w e agrees stands is =
      agrees.live name ∙ ap (λ (z : Sizes). option_map (at_sizes z) (stands_for d.rows name)) (agrees.sizes_are ∙ sym (ap (λ (p : ℕ × ℕ × ℕ). sizes_for p.0 p.1) stands.counts_are)) ∙ is

-- what is listed of a view is as who knows its variables and elements noted it
module _ (d : Draws) (w : View) (counts : sizes_in w ≡ (d.vars, d.elements, d.slots)) where
  pub listed-known : (k : Kind) (f : ℕ → ValueOf k) → known_at d (listed k w f) ≡ listed k w f
  listed-known k f = listed-noted k w f (sizes_for d.vars d.elements) (sym (ap (λ (p : ℕ × ℕ × ℕ). p.0) counts)) (sym (ap (λ (p : ℕ × ℕ × ℕ). p.1) counts))

  pub cell-known : (found : Option Cell) → option_map (known_at d) (function_of w found) ≡ function_of w found
  cell-known None = refl
  cell-known (Some cell) = ap Some (listed-known cell.kind (values_at cell.kind w cell.edge))

-- an operation whose answers denote what the call makes
pub has_value : (k : Kind) (d : Draws) (w : View) (call : Call) (f : ℕ → ValueOf k) → Gives d call (makes (listed k w f)) → HasValue k (λ u edge. Denotes k u edge f) d w call
has_value k d w call f gives = record { value = f; gives = gives; denotes = λ u edge denotes. denotes }

-- the calls on rows and cells
module _ (old held : Draws) (x : Shared) (took : Took old held x) (idle : old.holds ≡ false) where
  pub is_kind : (k k' : Kind) (a : Name) (e : Edge) → k' ≡ k → IsEdgeOf k old a e → Is k' (view_of x) e
  is_kind k k' a e is edge = subst (λ (j : Kind). Is j (view_of x) e) (sym is) (edge (view_of x) (stands_taken old held x took)).0

  -- what the name stands for as the turn was taken
  pub stands_held_as : (k : Kind) (a : Name) (e : Edge) → IsEdgeOf k old a e → known_as held a ≡ Some (listed_at k (view_of x) e)
  stands_held_as k a e edge =
      ap (λ (p : ℕ × ℕ × ℕ). option_map (at_sizes (sizes_for p.0 p.1)) (stands_for held.rows a)) (sym took.serves.counts_are)
      ∙ ap (λ (z : Draws). option_map (noted_in (view_of x)) (stands_for z.rows a)) took.is ∙ (edge (view_of x) (stands_taken old held x took)).1

-- the value at some bits
pub levels_managed : (table : TableId) (old held : Draws) (x : Shared) → Took old held x → (k : Kind) → levels k (view_of x) ≡ bits_of k (managed_by table old)
levels_managed table old held x took kinds.Bdd = ap (λ (p : ℕ × ℕ × ℕ). p.0) (stands_taken old held x took).counts_are
levels_managed table old held x took kinds.Add = ap (λ (p : ℕ × ℕ × ℕ). p.0) (stands_taken old held x took).counts_are
levels_managed table old held x took kinds.Zdd = ap (λ (p : ℕ × ℕ × ℕ). p.1) (stands_taken old held x took).counts_are

pub walked_bits : (table : TableId) (old held : Draws) (x : Shared) → Took old held x → (k : Kind) (bits : List Bool) → bits_of k (managed_by table old) ≤ length bits → levels k (view_of x) ≤ length bits
walked_bits table old held x took k bits long = let n = levels_managed table old held x took k in omega (arith, long, n)

-- so many bits are read as the session's manager was opened with
pub read_many : (k j : Kind) (m m' : Managed) (n : ℕ) → n ≡ bits_of j m → j ≡ k → m' ≡ m → n ≡ bits_of k m'
read_many k j m m' n is kind own = is ∙ ap (λ i. bits_of i m) kind ∙ ap (bits_of k) (sym own)

-- as many bits, read once more
read : (n m : ℕ) (bits : List Bool) → n ≡ m → take n bits ≡ take n (take m bits)
read n m bits same = sym (take_all n (take m bits) (let l = length-take m bits in omega (arith, l, same)) ∙ ap (λ i. take i bits) (sym same))

-- the bits that are read tell the value that all of them tell
front : (z : Sizes) (w : View) (k : Kind) (f : ℕ → ValueOf k) (bits : List Bool) → z.variables ≡ w.vars → z.elements ≡ w.elements → levels k w ≤ length bits
    → value_at z (listed k w f) bits ≡ value_at z (listed k w f) (take (levels k w) bits)
front z w kinds.Bdd f bits vars elements long = ap (λ bs. pos (digit (truth (list_of (2 ^ w.vars) f) (assignment_of bs)))) (read z.variables w.vars bits vars)
front z w kinds.Add f bits vars elements long = ap (λ bs. whole (list_of (2 ^ w.vars) f) (assignment_of bs)) (read z.variables w.vars bits vars)
front z w kinds.Zdd f bits vars elements long = ap (λ bs. pos (digit (truth (list_of (2 ^ w.elements) f) (assignment_of bs)))) (read z.elements w.elements bits elements)

pub gives_eval : (old held : Draws) (x : Shared) → Took old held x → old.holds ≡ false → (k : Kind) (a : Name) (e : Edge) (bits : List Bool) → levels k (view_of x) ≤ length bits → IsEdgeOf k old a e
    → Gives held (calls.Eval a bits) (shows (number_of k (values_at k (view_of x) e (assignment_of (take (levels k (view_of x)) bits)))))
gives_eval old held x took idle k a e bits long edge =
    let w = view_of x in
    let s = stands_taken old held x took in
    let few = take (levels k w) bits in
    gives_held old held x (calls.Eval a bits) (shows (number_of k (values_at k w e (assignment_of few)))) took idle
    (λ t agrees. let here = live old t a k w e agrees s (edge w s).1 in
    ap (λ o. with_one o (λ f. shows (value_at t.sizes f bits))) here
    ∙ ap (λ y. Some (shows y)) (front t.sizes w k (values_at k w e) bits (vars old t w agrees s) (elements old t w agrees s) long)
    ∙ sym (ap (λ o. with_one o (λ f. shows (value_at t.sizes f few))) here)
    ∙ outcome-eval w t.sizes t.cells (t.live old.session) (vars old t w agrees s) (elements old t w agrees s) k a few e (length-take-le (levels k w) bits long) here)
