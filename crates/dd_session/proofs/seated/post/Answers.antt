use Rattle.std.proofs.Common.{◌≡◌, ℕ, Some, List, Option, refl, ap, sym, subst, ◌∙◌, arith, length, set}
use Rattle.std.specs.Prelude.{slice_get}
use Rattle.edge_bits.specs.declared.edges.Kind.{Kind}
use Rattle.function_laws.specs.declared.history.Call.TheVariants as calls
use Rattle.function_laws.specs.declared.history.Reply.TheVariants as replies
use Rattle.node_store.specs.Listed.{listed_at}
use Rattle.node_store.specs.Views.{values_at}
use Rattle.node_slots.specs.Stores.{Plain, plain_view}
use Rattle.seat_guard.specs.Moves.{MayMove}
use Rattle.seat_guard.specs.Passes.{counts_of, known}
use Rattle.seat_guard.specs.Tallies.{counts_after, in_cell}
use Rattle.seat_guard.specs.Views.{MayTell, told_of}
use Rattle.seat_guard.specs.declared.view.Change.TheVariants.{Posts}
use Rattle.seat_guard.specs.declared.view.Counts.{Counts}
use Rattle.seat_guard.specs.declared.view.Draws.{Draws}
use Rattle.seat_guard.specs.declared.view.Held.{Held}
use Rattle.shared_store.specs.declared.shared.Cell.{Cell}
use Rattle.shared_store.specs.Sharing.{Serving, functions_below, held_of, view_of, whole_of}
use Rattle.dd_session.specs.Turns.{Drew, IsSettled, OwesCell, Took}
use Rattle.dd_session.proofs.Calls.{called, took_of}
use Rattle.dd_session.proofs.Movings.{moves_posted}
use Rattle.dd_session.proofs.Outcomes.{is_kind, listed-known, stands_held_as}
use Rattle.dd_session.proofs.Serving.{serves-posted}
use Rattle.dd_session.proofs.Soundness.{held_within}
use Rattle.dd_session.proofs.Tellings.{knows_posted, may_post, row-kept}
use Rattle.dd_session.proofs.Turning.{cell-kept, drew_nothing, kept_book, owes_cell, stores_recounted}
use Rattle.dd_session.proofs.seated.post.Goals as goal

pub raise-requires-clause-held : goal.raise-requires-clause-held
raise-requires-clause-held g c = refl

pub raise-requires-clause-is : goal.raise-requires-clause-is
raise-requires-clause-is g c =
    let d = known c.args.pass.now in
    let e = known c.take-shared.new.pass in
    let x = c.take-shared.result in
    let t : Took d e x = took_of c.take-shared.ensures.took c.take-shared.ensures.board in
    let live = c.requires.live in
    is_kind d e x t c.requires.idle.2 live.0 c.kind_at-kind.result c.args.h c.edge_at-edge.result (c.kind_at-kind.ensures live.0 live.1) (c.edge_at-edge.ensures.edge live.0 live.1)

pub raise-requires-clause-settled : goal.raise-requires-clause-settled
raise-requires-clause-settled g c = subst IsSettled (sym c.take-shared.ensures.stands.1) c.requires.idle.4.0

pub finish-place-requires-clause-step : goal.finish-place-requires-clause-step
finish-place-requires-clause-step g c =
    let d = known c.args.pass.now in
    let e = known c.take-shared.new.pass in
    let x = c.take-shared.result in
    let t : Took d e x = took_of c.take-shared.ensures.took c.take-shared.ensures.board in
    let live = c.requires.live in
    let y = c.set_cell.new.self in
    let i = c.from-number.result in
    let new : Cell = record { kind = c.kind_at-kind.result; edge = c.edge_at-edge.result } in
    let held : held_of (view_of y) new ≡ held_of (view_of x) new = ap (λ (p : Plain). held_of (plain_view p) new) c.set_cell.ensures.store in
    let kind = c.kind_at-kind.ensures live.0 live.1 in
    let stands = stands_held_as d e x t c.requires.idle.2 live.0 c.args.h c.edge_at-edge.result (c.edge_at-edge.ensures.edge live.0 live.1) in
    subst (λ (z : Draws × Held). MayTell z.0 (record { call = calls.Post i c.args.h; reply = replies.Done; change = Posts i z.1 })) (λ j. (sym c.raise.ensures.own.1 j, sym held j))
    (may_post e i c.args.h (held_of (view_of x) new) (ap (λ (z : Draws). z.holds) t.is) (let a = c.from-number.ensures in let f = c.ranges.cell.fits in omega (arith, a, f)) (ap (λ (z : Draws). length z.cells) t.is ∙ t.many)
    (stands ∙ ap Some (ap (λ (k : Kind). listed_at k (view_of x) c.edge_at-edge.result) (sym kind) ∙ sym (listed-known e (view_of x) t.serves.counts_are c.kind_at-kind.result (values_at c.kind_at-kind.result (view_of x) c.edge_at-edge.result)))))

pub finish-place-requires-clause-moves : goal.finish-place-requires-clause-moves
finish-place-requires-clause-moves g c =
    let d = known c.args.pass.now in
    let e = known c.take-shared.new.pass in
    let x = c.take-shared.result in
    let t : Took d e x = took_of c.take-shared.ensures.took c.take-shared.ensures.board in
    let live = c.requires.live in
    let y = c.set_cell.new.self in
    let i = c.from-number.result in
    let new : Cell = record { kind = c.kind_at-kind.result; edge = c.edge_at-edge.result } in
    let held : held_of (view_of y) new ≡ held_of (view_of x) new = ap (λ (p : Plain). held_of (plain_view p) new) c.set_cell.ensures.store in
    let s = c.take-shared.ensures.stands.1 in
    let many : length e.cells ≡ 256 = ap (λ (z : Draws). length z.cells) t.is ∙ t.many in
    subst (λ (z : Draws × Held). MayMove z.0 (counts_of c.raise.new.pass) (record { call = calls.Post i c.args.h; reply = replies.Done; change = Posts i z.1 })) (λ j. (sym c.raise.ensures.own.1 j, sym held j))
    (moves_posted e (counts_of c.take-shared.new.pass) (counts_of c.raise.new.pass) c.raise.result i (held_of (view_of x) new) c.args.h (subst IsSettled (sym s) c.requires.idle.4.0) (ap (λ (z : Counts). z.zeros) s ∙ c.requires.idle.4.1) c.raise.ensures.raised
    (ap (λ (z : Draws). z.holds) t.is) (let a = c.from-number.ensures in let f = c.ranges.cell.fits in omega (arith, a, f, many)))

pub finish-place-requires-clause-serves : goal.finish-place-requires-clause-serves
finish-place-requires-clause-serves g c =
    let d = known c.args.pass.now in
    let e = known c.take-shared.new.pass in
    let x = c.take-shared.result in
    let t : Took d e x = took_of c.take-shared.ensures.took c.take-shared.ensures.board in
    let live = c.requires.live in
    let y = c.set_cell.new.self in
    let i = c.from-number.result in
    let new : Cell = record { kind = c.kind_at-kind.result; edge = c.edge_at-edge.result } in
    let held : held_of (view_of y) new ≡ held_of (view_of x) new = ap (λ (p : Plain). held_of (plain_view p) new) c.set_cell.ensures.store in
    let is = is_kind d e x t c.requires.idle.2 live.0 c.kind_at-kind.result c.args.h c.edge_at-edge.result (c.kind_at-kind.ensures live.0 live.1) (c.edge_at-edge.ensures.edge live.0 live.1) in
    subst (λ (z : Draws). Serving y (told_of z 0 (record { call = calls.Post i c.args.h; reply = replies.Done; change = Posts i (held_of (view_of y) new) })) (counts_after (Posts i (held_of (view_of y) new)) z.cells z.rows (counts_of c.raise.new.pass))) (sym c.raise.ensures.own.1)
    (serves-posted x y c.set_cell.ensures.store e _ (counts_of c.take-shared.new.pass) _ i new c.take-shared.ensures.took.2 (knows_posted e (view_of y) i c.args.h new) (row-kept x new is)
    (c.set_cell.ensures.cells ∙ ap (λ (n : ℕ). set x.cells.items n (Some new)) (sym c.from-number.ensures)) refl refl (ap (λ (z : Counts). z.zeros) c.raise.ensures.raised))

pub pay-requires-clause-within : goal.pay-requires-clause-within
pay-requires-clause-within g c = λ cell is.
    let d = known c.args.pass.now in
    let e = known c.take-shared.new.pass in
    let x = c.take-shared.result in
    let t : Took d e x = took_of c.take-shared.ensures.took c.take-shared.ensures.board in
    let live = c.requires.live in
    let left = c.finish-place.ensures.drew.left in
    let slots : (known c.finish-place.new.pass).slots ≡ e.slots = ap (λ (z : Draws). z.slots) left ∙ ap (λ (z : Draws). z.slots) c.raise.ensures.own.1 in
    let kept = cell-kept x e t.serves.board_is t.serves.cells_kept c.args.cell cell (c.cell-old.ensures ∙ ap Some is) in
    let lt = held_within x c.raise.ensures.store e t.counts t.serves (held_of (view_of x) cell) (row-kept x cell kept) in
    omega (arith, slots, lt)

pub pay-requires-clause-owed : goal.pay-requires-clause-owed
pay-requires-clause-owed g c =
    let d = known c.args.pass.now in
    let e = known c.take-shared.new.pass in
    let x = c.take-shared.result in
    let t : Took d e x = took_of c.take-shared.ensures.took c.take-shared.ensures.board in
    let live = c.requires.live in
    let owed : (counts_of c.finish-place.new.pass).owed ≡ in_cell (slice_get e.cells c.args.cell) =
    ap (λ (z : Counts). z.owed) c.finish-place.ensures.moved ∙ (λ j. in_cell (slice_get (c.raise.ensures.own.1 j).cells (c.from-number.ensures j))) in
    subst (OwesCell c.cell-old.result) (sym (owed ∙ ap (λ (l : List (Option Held)). in_cell (slice_get l c.args.cell)) (sym t.serves.board_is))) (owes_cell (view_of x) x.cells.items c.args.cell c.cell-old.result c.cell-old.ensures)

pub returns-clause-idle : goal.returns-clause-idle
returns-clause-idle g c =
    let d = known c.args.pass.now in
    let e = known c.take-shared.new.pass in
    let x = c.take-shared.result in
    let t : Took d e x = took_of c.take-shared.ensures.took c.take-shared.ensures.board in
    let live = c.requires.live in
    let left = c.finish-place.ensures.drew.left in
    let own = c.pay.ensures.own in
    let paid = c.pay.ensures.paid in
    let moved = c.finish-place.ensures.moved in
    let raised = c.raise.ensures.raised in
    let s = c.take-shared.ensures.stands.1 in (
      own.0,
      ap (λ (z : Draws). z.live) own.1 ∙ ap (λ (z : Draws). z.live) left ∙ ap (λ (z : Draws). z.live) c.raise.ensures.own.1 ∙ ap (λ (z : Draws). z.live) t.is ∙ c.requires.idle.1,
      ap (λ (z : Draws). z.holds) own.1 ∙ ap (λ (z : Draws). z.holds) left,
      own.2 ∙ c.finish-place.ensures.own.1,
      (
        record {
          raised = ap (λ (z : Counts). z.raised) paid ∙ ap (λ (z : Counts). z.raised) moved;
          owed = ap (λ (z : Counts). z.owed) paid;
          pins = ap (λ (z : Counts). z.pins) paid ∙ ap (λ (z : Counts). z.pins) moved ∙ ap (λ (z : Counts). z.pins) raised ∙ ap (λ (z : Counts). z.pins) s ∙ c.requires.idle.4.0.pins;
        },
        ap (λ (z : Counts). z.zeros) paid ∙ ap (λ (z : Counts). z.zeros) moved ∙ ap (λ (z : Counts). z.zeros) raised ∙ ap (λ (z : Counts). z.zeros) s ∙ c.requires.idle.4.1,
      ),
    )

pub returns-clause-keeps : goal.returns-clause-keeps
returns-clause-keeps g c =
    let d = known c.args.pass.now in
    let e = known c.take-shared.new.pass in
    let x = c.take-shared.result in
    let t : Took d e x = took_of c.take-shared.ensures.took c.take-shared.ensures.board in
    let live = c.requires.live in
    kept_book d e x t (known c.pay.new.pass) c.set_cell.new.self _ c.finish-place.result c.args.book.now c.finish-place.new.book c.requires.keeps (subst (λ (z : Draws). Drew z (known c.pay.new.pass) c.set_cell.new.self (record { call = calls.Post c.from-number.result c.args.h; reply = replies.Done; change = Posts c.from-number.result (held_of (view_of c.set_cell.new.self) (record { kind = c.kind_at-kind.result; edge = c.edge_at-edge.result })) }) c.finish-place.result) c.raise.ensures.own.1 (subst (λ (z : Draws). Drew (known c.raise.new.pass) z c.set_cell.new.self (record { call = calls.Post c.from-number.result c.args.h; reply = replies.Done; change = Posts c.from-number.result (held_of (view_of c.set_cell.new.self) (record { kind = c.kind_at-kind.result; edge = c.edge_at-edge.result })) }) c.finish-place.result) (sym c.pay.ensures.own.1) c.finish-place.ensures.drew)) refl refl c.finish-place.ensures.rows
    (subst (λ (z : Draws). (c.finish-place.new.book.calls ≡ length z.entries) × (c.finish-place.new.book.fulls ≡ Rattle.dd_session.specs.Sessions.fulls_in z.entries)) (sym c.pay.ensures.own.1) c.finish-place.ensures.calls)

pub returns-clause-told : goal.returns-clause-told
returns-clause-told g c =
    let d = known c.args.pass.now in
    let e = known c.take-shared.new.pass in
    let x = c.take-shared.result in
    let t : Took d e x = took_of c.take-shared.ensures.took c.take-shared.ensures.board in
    let live = c.requires.live in
    let y = c.set_cell.new.self in
    let i = c.from-number.result in
    let new : Cell = record { kind = c.kind_at-kind.result; edge = c.edge_at-edge.result } in
    let held : held_of (view_of y) new ≡ held_of (view_of x) new = ap (λ (p : Plain). held_of (plain_view p) new) c.set_cell.ensures.store in
    (called d e (known c.pay.new.pass) x _ _ _ _ (calls.Post c.args.cell c.args.h) replies.Done c.finish-place.result (c.pay.ensures.own.0 ∙ sym c.requires.idle.0)
    t (y, record { call = calls.Post i c.args.h; reply = replies.Done; change = Posts i (held_of (view_of y) new) }, ap (λ (n : ℕ). calls.Post n c.args.h) c.from-number.ensures, refl, (subst (λ (z : Draws). Drew z (known c.pay.new.pass) c.set_cell.new.self (record { call = calls.Post c.from-number.result c.args.h; reply = replies.Done; change = Posts c.from-number.result (held_of (view_of c.set_cell.new.self) (record { kind = c.kind_at-kind.result; edge = c.edge_at-edge.result })) }) c.finish-place.result) c.raise.ensures.own.1 (subst (λ (z : Draws). Drew (known c.raise.new.pass) z c.set_cell.new.self (record { call = calls.Post c.from-number.result c.args.h; reply = replies.Done; change = Posts c.from-number.result (held_of (view_of c.set_cell.new.self) (record { kind = c.kind_at-kind.result; edge = c.edge_at-edge.result })) }) c.finish-place.result) (sym c.pay.ensures.own.1) c.finish-place.ensures.drew))))

pub returns-clause-stored : goal.returns-clause-stored
returns-clause-stored g c =
    let d = known c.args.pass.now in
    let e = known c.take-shared.new.pass in
    let x = c.take-shared.result in
    let t : Took d e x = took_of c.take-shared.ensures.took c.take-shared.ensures.board in
    let live = c.requires.live in
    drew_nothing d e x t (known c.pay.new.pass) c.set_cell.new.self _ c.finish-place.result (stores_recounted x c.set_cell.new.self (ap (λ (p : Plain). functions_below (whole_of (plain_view p)) (plain_view p).content (plain_view p).slots) c.set_cell.ensures.store)) (subst (λ (z : Draws). Drew z (known c.pay.new.pass) c.set_cell.new.self (record { call = calls.Post c.from-number.result c.args.h; reply = replies.Done; change = Posts c.from-number.result (held_of (view_of c.set_cell.new.self) (record { kind = c.kind_at-kind.result; edge = c.edge_at-edge.result })) }) c.finish-place.result) c.raise.ensures.own.1 (subst (λ (z : Draws). Drew (known c.raise.new.pass) z c.set_cell.new.self (record { call = calls.Post c.from-number.result c.args.h; reply = replies.Done; change = Posts c.from-number.result (held_of (view_of c.set_cell.new.self) (record { kind = c.kind_at-kind.result; edge = c.edge_at-edge.result })) }) c.finish-place.result) (sym c.pay.ensures.own.1) c.finish-place.ensures.drew))
