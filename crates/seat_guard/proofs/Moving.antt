-- What a call's change adds and takes away, it adds and takes away in the table.
use Rattle.std.proofs.Common.{◌≡◌, ℕ, zero, suc, ◌<◌, ◌==◌, Bool, true, false, cond, List, [], ◌∷◌, length, Option, Some, None, option_map, refl, ap, sym, subst, ◌∙◌, inl, inr, arith, eq-eqb}
use Rattle.std.specs.Prelude.{slice_get, slice_set}
use Rattle.std.proofs.lemmas.Bool.{eqb-true}
use Rattle.function_laws.specs.declared.history.Name.{Name}
use Rattle.function_laws.specs.declared.history.Function.{Function}
use Rattle.function_laws.specs.declared.history.Call.{Call}
use Rattle.function_laws.specs.declared.history.Call.TheVariants as calls
use Rattle.function_laws.specs.declared.history.Reply.{Reply}
use Rattle.function_laws.specs.declared.history.Reply.TheVariants.{Done}
use Rattle.function_laws.specs.SessionEntries.{Each}
use Rattle.function_laws.specs.Steps.{after}
use Rattle.function_laws.specs.Tables.{Sizes, Table, same_name}
use Rattle.function_laws.specs.Widening.{at_sizes}
use Rattle.seat_guard.specs.declared.view.Held.{Held}
use Rattle.seat_guard.specs.declared.view.Row.{Row}
use Rattle.seat_guard.specs.declared.view.Change.{Change}
use Rattle.seat_guard.specs.declared.view.Change.TheVariants.{Nothing, Adds, Takes, Posts}
use Rattle.seat_guard.specs.declared.view.Telling.{Telling}
use Rattle.seat_guard.specs.declared.view.Counts.{Counts}
use Rattle.seat_guard.specs.declared.view.Draws.{Draws}
use Rattle.seat_guard.specs.Known.{StandsIn}
use Rattle.seat_guard.specs.Moves.{IsChangeOf, LeavesBoard, MayMove}
use Rattle.seat_guard.specs.Sifted.{Gains, Loses}
use Rattle.seat_guard.specs.Tallies.{FitsBoard, gained, in_cell, lost, named}
use Rattle.seat_guard.specs.Views.{Agrees, MayTell, cell_at, function_in, stands_for, told_of}
use Rattle.seat_guard.proofs.Bools.{both_true, by_bool}
use Rattle.seat_guard.proofs.NameSteps.{same_name-refl}

same_name-is : (a b : Name) → same_name a b ≡ true → a ≡ b
same_name-is a b same =
    let e = both_true (a.row == b.row) (a.generation == b.generation) same in
    let p = eqb-true a.row b.row e.0 in let q = eqb-true a.generation b.generation e.1 in λ i. record { row = p i; generation = q i }

cell_set : (cells : List (Option Held)) (i : ℕ) (held : Held) → i < length cells → slice_get (slice_set cells i (Some held)) i ≡ Some (Some held)
cell_set [] i held lt = absurd (omega (arith, lt))
cell_set (x ∷ cells) zero held lt = refl
cell_set (x ∷ cells) (suc i) held lt = cell_set cells i held (omega (arith, lt))

module _ (d : Draws) (t : Table) where
  -- the telling of this call, this reply and this change
  abbrev telling : Call → Reply → Change → Telling
  telling call reply change = record { call = call; reply = reply; change = change }

  abbrev then : Call → Reply → Table
  then call reply = after t d.session call reply

  -- a new row stands for its function, under its name
  added : (call : Call) (reply : Reply) (row : Row) → (then call reply).sizes ≡ t.sizes → Agrees (told_of d 0 (telling call reply (Adds row))) (then call reply)
      → (then call reply).live d.session row.name ≡ Some (at_sizes t.sizes row.held.function)
  added call reply row sizes agrees =
      agrees.live row.name
      ∙ ap (λ b. option_map (at_sizes (then call reply).sizes) (cond b (Some row.held.function) (stands_for d.rows row.name))) (same_name-refl row.name)
      ∙ ap (λ (z : Sizes). Some (at_sizes z row.held.function)) sizes

  -- a cell that is posted to gets what the row stands for
  posted : (i : ℕ) (a : Name) (held : Held) → i < length d.cells → (then (calls.Post i a) Done).cells ≡ cell_at t.sizes (slice_set d.cells i (Some held)) → t.live d.session a ≡ Some (at_sizes t.sizes held.function)
  posted i a held fits board =
      ap (λ b. cond b (t.live d.session a) (t.cells i)) (sym (eq-eqb i i refl)) ∙ ap (λ (f : ℕ → Option Function). f i) board
      ∙ ap (λ o. option_map (at_sizes t.sizes) (function_in o)) (cell_set d.cells i held fits)

  gains_all : (call : Call) (reply : Reply) (change : Change) → IsChangeOf change call reply → (then call reply).sizes ≡ t.sizes → Agrees (told_of d 0 (telling call reply change)) (then call reply)
      → (d.holds ≡ false → LeavesBoard change) → FitsBoard change d.cells → Each (λ (held : Held). Gains t d.session call reply (at_sizes t.sizes held.function)) (gained change)
  gains_all call reply Nothing is sizes agrees leaves fits = tt
  gains_all call reply (Takes name) is sizes agrees leaves fits = tt
  gains_all call reply (Adds row) is sizes agrees leaves fits = (
    by is (added call reply row sizes agrees),
    tt,
  )
    where
      by : IsChangeOf (Adds row) call reply → (then call reply).live d.session row.name ≡ Some (at_sizes t.sizes row.held.function) → Gains t d.session call reply (at_sizes t.sizes row.held.function)
      by (inl made) live = subst (λ (r : Reply). (then call r).live d.session row.name ≡ Some (at_sizes t.sizes row.held.function) → Gains t d.session call r (at_sizes t.sizes row.held.function)) (sym made) (λ l. l) live
      by (inr (inl chose)) live = subst (λ (r : Reply). (then call r).live d.session row.name ≡ Some (at_sizes t.sizes row.held.function) → Gains t d.session call r (at_sizes t.sizes row.held.function)) (sym chose.1) (λ l. l) live
      by (inr (inr fetched)) live = subst (λ (r : Reply). (then call r).live d.session row.name ≡ Some (at_sizes t.sizes row.held.function) → Gains t d.session call r (at_sizes t.sizes row.held.function)) (sym fetched.1) (λ l. l) live
  gains_all call reply (Posts i held) is sizes agrees leaves fits = (
    by_bool d.holds
        (λ holds. subst (λ (y : Call × Reply). (then y.0 y.1).cells ≡ cell_at (then y.0 y.1).sizes (slice_set d.cells i (Some held)) → Gains t d.session y.0 y.1 (at_sizes t.sizes held.function)) (λ k. (sym is.0.1 k, sym is.1 k))
        (λ board. posted i is.0.0 held fits board) (agrees.cells holds).0)
        (λ without. absurd (leaves without)),
    tt,
  )

  named_lost : (a : Name) (rows : List Row) → Each (StandsIn t d.session) rows → Each (λ (held : Held). t.live d.session a ≡ Some (at_sizes t.sizes held.function)) (named a rows)
  named_lost a [] stand = tt
  named_lost a (row ∷ rows) stand = by (same_name row.name a) refl (named_lost a rows stand.1)
    where
      by : (b : Bool) → same_name row.name a ≡ b → Each (λ (held : Held). t.live d.session a ≡ Some (at_sizes t.sizes held.function)) (named a rows) → Each (λ (held : Held). t.live d.session a ≡ Some (at_sizes t.sizes held.function)) (cond b (row.held ∷ named a rows) (named a rows))
      by true same rest = (ap (λ (n : Name). t.live d.session n) (sym (same_name-is row.name a same)) ∙ stand.0, rest)
      by false other rest = rest

  in_cell-lost : (o : Option (Option Held)) (c : Option Function) → c ≡ option_map (at_sizes t.sizes) (function_in o) → Each (λ (held : Held). c ≡ Some (at_sizes t.sizes held.function)) (in_cell o)
  in_cell-lost None c is = tt
  in_cell-lost (Some None) c is = tt
  in_cell-lost (Some (Some held)) c is = (is, tt)

  loses_all : (call : Call) (reply : Reply) (change : Change) → IsChangeOf change call reply → Each (StandsIn t d.session) d.rows → (d.holds ≡ true → t.cells ≡ cell_at t.sizes d.cells) → (d.holds ≡ false → LeavesBoard change)
      → Each (λ (held : Held). Loses t d.session call (at_sizes t.sizes held.function)) (lost change d.cells d.rows)
  loses_all call reply Nothing is stand board leaves = tt
  loses_all call reply (Adds row) is stand board leaves = tt
  loses_all call reply (Takes name) is stand board leaves = subst (λ (c : Call). Each (λ (held : Held). Loses t d.session c (at_sizes t.sizes held.function)) (named name d.rows)) (sym is) (named_lost name d.rows stand)
  loses_all call reply (Posts i held) is stand board leaves = by_bool d.holds
      (λ holds. subst (λ (c : Call). Each (λ (held : Held). Loses t d.session c (at_sizes t.sizes held.function)) (in_cell (slice_get d.cells i))) (sym is.0.1)
      (in_cell-lost (slice_get d.cells i) (t.cells i) (ap (λ (f : ℕ → Option Function). f i) (board holds))))
      (λ without. absurd (leaves without))

  module _ (c : Counts) (x : Telling) (may : MayTell d x) (moves : MayMove d c x) (agrees : Agrees d t) where
    same_sizes : (after t d.session x.call x.reply).sizes ≡ t.sizes
    same_sizes = (may.step t agrees).1.sizes_are ∙ sym agrees.sizes_are

    pub gains_it : Each (λ (held : Held). Gains t d.session x.call x.reply (at_sizes t.sizes held.function)) (gained x.change)
    gains_it = gains_all x.call x.reply x.change moves.fits same_sizes (may.step t agrees).1 moves.boardless moves.up.2

    pub loses_it : Each (StandsIn t d.session) d.rows → Each (λ (held : Held). Loses t d.session x.call (at_sizes t.sizes held.function)) (lost x.change d.cells d.rows)
    loses_it stand = loses_all x.call x.reply x.change moves.fits stand (λ holds. (agrees.cells holds).0) moves.boardless
