-- What a session noted stays right as the history grows.
use Rattle.std.proofs.Common.{◌≡◌, ℕ, List, [], ◌∷◌, ◌++◌, length, ap, sym, subst, ◌∙◌, arith, length-append}
use Rattle.std.proofs.lemmas.List.{take-append-le, take_all}
use Rattle.function_laws.specs.declared.history.Entry.{Entry}
use Rattle.function_laws.specs.Tables.{Sizes, opening}
use Rattle.function_laws.specs.Histories.{table_after}
use Rattle.function_laws.specs.SessionEntries.{Each}
use Rattle.function_laws.specs.EntryOrders.{opening_orders, orders_from}
use Rattle.seat_guard.specs.declared.view.Noted.{Noted}
use Rattle.seat_guard.specs.declared.view.Draws.{Draws}
use Rattle.seat_guard.specs.Notes.{AgreesWith, AreNotedIn, IsNotedIn}
use Rattle.function_laws.specs.Sizes.{Orders}
use Rattle.seat_guard.specs.Views.{Agrees, note_with}
use Rattle.seat_guard.proofs.Lists.{each_append, each_map}

noted-longer : (start : Sizes) (log more : List Entry) (session : ℕ) (note : Noted) → IsNotedIn start log session note → IsNotedIn start (log ++ more) session note
noted-longer start log more session note is =
    let len = length-append log more in let below = is.within in
    let same = take-append-le note.place log more below in record {
      within = omega (arith, len, below);
      orders_are = ap (orders_from (opening_orders start)) same ∙ is.orders_are;
      agrees = subst (λ (es : List Entry). AgreesWith session note (table_after (opening start) es)) (sym same) is.agrees;
    }

each-longer : (start : Sizes) (log more : List Entry) (session : ℕ) (notes : List Noted) → Each (IsNotedIn start log session) notes → Each (IsNotedIn start (log ++ more) session) notes
each-longer start log more session notes = each_map (IsNotedIn start log session) (IsNotedIn start (log ++ more) session) (noted-longer start log more session) notes

pub notes-longer : (start : Sizes) (log more : List Entry) (session : ℕ) (notes calls : List Noted) → AreNotedIn start log session notes calls → AreNotedIn start (log ++ more) session notes calls
notes-longer start log more session notes calls are = record { noted = each-longer start log more session notes are.noted; placed = each-longer start log more session calls are.placed }

-- the whole history's length, what it leaves, and what a seat knows of that
module _ (start : Sizes) (log : List Entry) (d : Draws) (n : ℕ) (orders : Orders) (is : n ≡ length log) (now : orders ≡ orders_from (opening_orders start) log)
    (agrees : Agrees d (table_after (opening start) log)) (are : AreNotedIn start log d.session d.noted d.placed) where
  noted-now : IsNotedIn start log d.session (note_with orders d n)
  noted-now = let all = take_all n log (omega (arith, is)) in record {
    within = omega (arith, is);
    orders_are = ap (orders_from (opening_orders start)) all ∙ sym now;
    agrees = subst (λ (es : List Entry). AgreesWith d.session (note_with orders d n) (table_after (opening start) es)) (sym all) (record { sizes_are = agrees.sizes_are; rows_are = agrees.live });
  }

  -- it is noted, or a call is made at it
  pub with-note : AreNotedIn start log d.session (d.noted ++ note_with orders d n ∷ []) d.placed
  with-note = record { noted = each_append (IsNotedIn start log d.session) d.noted (note_with orders d n ∷ []) are.noted (noted-now, tt); placed = are.placed }

  pub with-place : (more : List Entry) → AreNotedIn start (log ++ more) d.session d.noted (d.placed ++ note_with orders d n ∷ [])
  with-place more = notes-longer start log more d.session d.noted _ (record { noted = are.noted; placed = each_append (IsNotedIn start log d.session) d.placed (note_with orders d n ∷ []) are.placed (noted-now, tt) })
