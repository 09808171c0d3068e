-- Turns in which two levels were swapped, and what they are for their caller.
use Rattle.std.proofs.Common.{◌≡◌, ◌+◌, ◌<◌, ◌≤◌, ℕ, ◌∷◌, ◌++◌, [], Contains, length, Result, Ok, Err, IsTrue, refl, ap, sym, subst, ◌∙◌}
use Rattle.std.proofs.Math.Nat.{zero-add}
use Rattle.std.specs.Prelude.{IfErr, MatchResult}
use Rattle.std.specs.Result.{is_err}
use Rattle.atomic_table.specs.Seated.{TableId}
use Rattle.function_laws.specs.declared.history.Call.{Call}
use Rattle.function_laws.specs.declared.history.Function.{Function}
use Rattle.function_laws.specs.declared.history.Reply.TheVariants as replies
use Rattle.function_laws.specs.declared.orders.Order.{Order}
use Rattle.function_laws.specs.declared.orders.Order.TheVariants.{Variables, Elements}
use Rattle.function_laws.specs.Sizes.{in_order}
use Rattle.node_slots.specs.Held.{Alone}
use Rattle.node_slots.specs.Stores.{IsStore}
use Rattle.node_slots.specs.Wholes.{content_view}
use Rattle.seat_guard.specs.declared.view.Draws.{Draws}
use Rattle.shared_store.specs.declared.reordering.Crowded.{Crowded}
use Rattle.shared_store.specs.declared.shared.Shared.{Shared}
use Rattle.shared_store.specs.Reordering.{Reorders}
use Rattle.shared_store.specs.Sharing.{functions, orders, view_of}
use Rattle.shared_store.specs.Storing.{StoresOnly}
use Rattle.shared_store.proofs.Reordered.{full_numbers}
use Rattle.dd_session.specs.declared.answers.Full.{Full}
use Rattle.dd_session.specs.declared.answers.Placed.{Placed}
use Rattle.dd_session.specs.declared.answers.Refusal.TheVariants as refusals
use Rattle.dd_session.specs.declared.book.Book.{Book}
use Rattle.dd_session.specs.Counting.{ZeroStays}
use Rattle.dd_session.specs.Reorderings.{IsSwapOf, crowded_in, levels_of, opened_levels}
use Rattle.dd_session.specs.Sessions.{Called, Denies}
use Rattle.dd_session.specs.Turns.{IsRefused, Keeps, Notes, Told, Took, levels_in, managed_by, seen_by}
use Rattle.dd_session.proofs.Calls.{called, denied, has_rows, stands_taken}
use Rattle.dd_session.proofs.Sweepings.{reorders_beside}
use Rattle.dd_session.proofs.Turning.{stored_nothing}

-- as its session is seen, that knows of no more than the manager was opened with
pub levels_open : (table : TableId) (d : Draws) (spare : ℕ) (order : Order) → levels_of (seen_by table d spare) order ≡ opened_levels (managed_by table d) order
levels_open table d spare Variables = zero-add d.vars
levels_open table d spare Elements = zero-add d.elements

-- and as its seat knows
pub levels_known : (table : TableId) (d : Draws) (spare : ℕ) (order : Order) → levels_of (seen_by table d spare) order ≡ levels_in d order
levels_known table d spare Variables = zero-add d.vars
levels_known table d spare Elements = zero-add d.elements

module _ (d e : Draws) (x : Shared) (took : Took d e x) where
  -- who has the turn has the rows and the calls of before
  pub keeps_taken : (book : Book) → Keeps d book → Keeps e book
  keeps_taken book keeps = subst (λ (z : Draws). Keeps z book) (sym took.is) (record {
    rows = record { adds_are = keeps.rows.adds_are; few = keeps.rows.few; found = keeps.rows.found; many = keeps.rows.many; counted = keeps.rows.counted; apart = keeps.rows.apart };
    sound = record { within = keeps.sound.within; canonical = keeps.sound.canonical };
    calls = keeps.calls;
    fulls = keeps.fulls;
  })

  -- each order has a level for each of its variables or elements
  pub levels_are : (order : Order) → levels_in e order ≡ levels_in d order
  levels_are Variables = ap (λ (z : Draws). z.vars) took.is
  levels_are Elements = ap (λ (z : Draws). z.elements) took.is

  pub levels_stand : IsStore x.store → (order : Order) → length (in_order (orders x) order) ≡ levels_in e order
  levels_stand of Variables = of.variables_stand.as_many ∙ ap (λ (p : ℕ × ℕ × ℕ). p.0) took.serves.counts_are
  levels_stand of Elements = of.elements_stand.as_many ∙ ap (λ (p : ℕ × ℕ × ℕ). p.1) took.serves.counts_are

  -- the numbers of a swap for which there was no room
  pub numbers_taken : (y : Shared) (order : Order) (level : ℕ) (done : Result (Unit {0}) Crowded) → Reorders Alone order level (content_view x.store) (content_view y.store) done
      → IfErr done (λ crowded. (crowded.in_use ≤ e.slots) × (e.slots < crowded.in_use + crowded.need))
  numbers_taken y order level done r =
      subst (λ (n : ℕ). IfErr done (λ crowded. (crowded.in_use ≤ n) × (n < crowded.in_use + crowded.need))) (ap (λ (p : ℕ × ℕ × ℕ). p.2) took.serves.counts_are)
      (full_numbers order level (content_view x.store) (content_view y.store) done r)

  module _ (new : Draws) (call : Call) (result : Result (Placed (Unit {0})) Full) where
    -- what it is for its caller
    pub told_swap : (table table' : TableId) (spare spare' : ℕ) → table' ≡ table
        → MatchResult result (λ placed. Told e new call replies.Done placed.place) (λ full. IsRefused e new call (refusals.Full full))
        → MatchResult result (λ placed. Called (seen_by table d spare) (seen_by table' new spare') call replies.Done placed.place) (λ full. Denies (seen_by table d spare) (seen_by table' new spare') call (refusals.Full full))
    told_swap table table' spare spare' same told = by result told
      where
        by : (result : Result (Placed (Unit {0})) Full) → MatchResult result (λ placed. Told e new call replies.Done placed.place) (λ full. IsRefused e new call (refusals.Full full))
            → MatchResult result (λ placed. Called (seen_by table d spare) (seen_by table' new spare') call replies.Done placed.place) (λ full. Denies (seen_by table d spare) (seen_by table' new spare') call (refusals.Full full))
        by (Ok placed) told = called d e new x table table' spare spare' call replies.Done placed.place same took told
        by (Err full) told = denied d e new x table table' spare spare' call full same took told

    -- the seat still knows what the nodes denoted that the call found
    pub found_swap : MatchResult result (λ placed. Told e new call replies.Done placed.place) (λ full. IsRefused e new call (refusals.Full full)) → new.functions ≡ functions x
    found_swap told = by result told ∙ ap (λ (z : Draws). z.functions) took.is
      where
        by : (result : Result (Placed (Unit {0})) Full) → MatchResult result (λ placed. Told e new call replies.Done placed.place) (λ full. IsRefused e new call (refusals.Full full)) → new.functions ≡ e.functions
        by (Ok placed) told = ap (λ (z : Draws). z.functions) told.4.left
        by (Err full) told = ap (λ (z : Draws). z.functions) told.0.4.left

  -- where it was refused, nothing was stored
  pub swap_stored : (y : Shared) (new : Draws) (done : Result (Unit {0}) Crowded) (result : Result (Placed (Unit {0})) Full) → crowded_in result ≡ done → (IsTrue (is_err done) → StoresOnly (λ _. ⊥) x y) → Notes e new y
      → IsTrue (is_err result) → (new.turns ≡ d.turns ++ new.stored ∷ []) × ((f : Function) → Contains new.stored f → ⊥)
  swap_stored y new done result same only notes failed = stored_nothing d e x took new y notes.0 (only (subst (λ (r : Result (Unit {0}) Crowded). IsTrue (is_err r)) same (by result failed))) notes.1 notes.3 notes.4
    where
      by : (result : Result (Placed (Unit {0})) Full) → IsTrue (is_err result) → IsTrue (is_err (crowded_in result))
      by (Ok placed) failed = failed
      by (Err full) failed = refl

  -- and it was of the store that the call found
  pub swap_of : (y : Shared) (new : Draws) (order : Order) (level : ℕ) (done : Result (Unit {0}) Crowded) (result : Result (Placed (Unit {0})) Full) (table table' : TableId) (spare spare' : ℕ)
      → Reorders Alone order level (content_view x.store) (content_view y.store) done → crowded_in result ≡ done → new.functions ≡ functions x
      → IsSwapOf order level (seen_by table d spare) (seen_by table' new spare') (crowded_in result)
  swap_of y new order level done result table table' spare spare' r same found = record {
    before = content_view x.store;
    after = content_view y.store;
    seen = view_of x;
    has = has_rows table d spare x (stands_taken d e x took);
    same = refl;
    found = sym found;
    reorders = subst (λ (z : Result (Unit {0}) Crowded). Reorders ZeroStays order level (content_view x.store) (content_view y.store) z) (sym same) (reorders_beside order level (content_view x.store) (content_view y.store) done r);
  }
