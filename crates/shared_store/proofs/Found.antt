-- What a count that was read tells.
use Rattle.std.proofs.Common.{◌≡◌, inl, inr, ℕ, zero, suc, ◌+◌, ◌<◌, List, [], ◌∷◌, Option, Some, None, refl, ap, sym, subst, ◌∙◌, arith, ne_eqb}
use Rattle.std.specs.Prelude.{slice_get}
use Rattle.function_laws.specs.SessionEntries.{Each}
use Rattle.seat_guard.specs.declared.view.Counts.{Counts}
use Rattle.seat_guard.specs.declared.view.Draws.{Draws}
use Rattle.seat_guard.specs.declared.view.Held.{Held}
use Rattle.seat_guard.specs.declared.view.Row.{Row}
use Rattle.seat_guard.specs.declared.view.View.{View}
use Rattle.seat_guard.specs.CountPlays.{Knows, found_above, found_zero}
use Rattle.seat_guard.specs.Known.{known_at}
use Rattle.seat_guard.specs.Tallies.{held_count, one_if, times}
use Rattle.seat_guard.specs.Turn.{IsKeptCell, IsKeptOther}
use Rattle.seat_guard.proofs.Lists.{each_at}
use Rattle.shared_store.specs.declared.shared.Shared.{Shared}
use Rattle.shared_store.specs.Counted.{IsFoundAt, IsRead}
use Rattle.shared_store.specs.Lasting.{IsRecounted}
use Rattle.shared_store.specs.Sharing.{Serving, board, count, counts, keeps, orders}
use Rattle.shared_store.proofs.Lasting.{keeps-recounted}

pub found-zero : (slot g : ℕ) (c : Counts) → IsFoundAt slot c (found_zero slot g c)
found-zero slot g c = record {
  found = record { raised = refl; owed = refl; pins = refl };
  others = λ j apart. ap (λ b. one_if b + times j c.zeros) (ne_eqb slot j (λ e. apart (sym e))) ∙ omega arith;
  more = λ j. omega arith;
  noted = λ f h. h;
}

pub found-above : (slot g : ℕ) (d : Draws) (held : Held) (c : Counts) → IsFoundAt slot c (found_above slot g d held c)
found-above slot g d held c = record {
  found = record { raised = refl; owed = refl; pins = refl };
  others = λ j apart. refl;
  more = λ j. omega arith;
  noted = λ f h. (suc h.0, h.1);
}

-- an edge that the seat knows is kept
module _ (x : Shared) (v : View) (serves : Serving x v.draws v.counts) (held : Held) (none : times held.edge.index v.counts.zeros ≡ 0) where
  in-cell : (cells : List (Option Held)) (j : ℕ) → Each (IsKeptCell keeps board counts orders x) cells → slice_get cells j ≡ Some (Some held) → keeps x held
  in-cell [] j each at = cc
  in-cell (None ∷ cells) zero each at = cc
  in-cell (Some g ∷ cells) zero each at = let same : g ≡ held = cc in subst (keeps x) same each.0
  in-cell (o ∷ cells) (suc j) each at = in-cell cells j each.1 at

  pub known-kept : Knows v held → keeps x held
  known-kept (inl row) = subst (keeps x) row.3 (each_at (λ (r : Row). keeps x r.held) v.draws.rows row.0 row.1 serves.rows_kept row.2)
  known-kept (inr (inl raised)) = each_at (keeps x) v.counts.raised raised.0 held serves.raised_kept raised.1
  known-kept (inr (inr (inl owed))) = each_at (keeps x) v.counts.owed owed.0 held serves.owed_kept owed.1
  known-kept (inr (inr (inr (inl other)))) = each_at (IsKeptOther keeps board counts orders x v.counts) v.draws.others other.0 held serves.others_kept other.1 none
  known-kept (inr (inr (inr (inr cell)))) = in-cell v.draws.cells cell.0 serves.cells_kept cell.1

-- what was read of a slot stays so as another is read
pub read-stays : (k slot : ℕ) (x y : Shared) (d d' : Draws) (c c' : Counts) → d' ≡ d → count y k ≡ count x k → IsRecounted x y → IsFoundAt slot c c' → IsRead k x d c → IsRead k y d' c'
read-stays k slot x y d d' c c' same count_is rest found read = subst (λ (e : Draws). IsRead k y e c') (sym same) (record {
  none = λ zero_now. let u = read.none (sym count_is ∙ zero_now) in record {
    zero = (let m = found.more k in let z = u.zero in omega (arith, m, z));
    rows = u.rows;
    raised = ap (held_count k) found.found.raised ∙ u.raised;
    owed = ap (held_count k) found.found.owed ∙ u.owed;
    cells = u.cells;
  };
  some = λ some_now. let s = read.some (subst (λ (n : ℕ). 0 < n) count_is some_now) in record {
    held = s.held;
    at = s.at;
    kept = keeps-recounted x y rest s.held s.kept;
    noted = found.noted (known_at d s.held.function) s.noted;
  };
})

-- a slot that was found above 0
pub read-above : (slot g : ℕ) (x y : Shared) (d d' : Draws) (c c' : Counts) (held : Held) → d' ≡ d → c' ≡ found_above slot g d held c → held.edge.index ≡ slot → keeps x held → IsRecounted x y → 0 < count y slot → IsRead slot y d' c'
read-above slot g x y d d' c c' held same is at kept rest some_now = subst (λ (e : Draws). IsRead slot y e c') (sym same) (subst (λ (e : Counts). IsRead slot y d e) (sym is) (record {
  none = λ zero_now. absurd (omega (arith, zero_now, some_now));
  some = λ _. record { held = held; at = at; kept = keeps-recounted x y rest held kept; noted = (zero, refl) };
}))
