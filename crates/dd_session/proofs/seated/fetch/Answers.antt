use Rattle.std.proofs.Common.{◌≡◌, ℕ, Some, option_map, ap, sym, subst, ◌∙◌, ⊎_elim, arith}
use Rattle.function_laws.specs.declared.history.Call.TheVariants as calls
use Rattle.function_laws.specs.declared.history.Reply.TheVariants as replies
use Rattle.function_laws.specs.Steps.{from_cell}
use Rattle.node_store.specs.Listed.{listed_at}
use Rattle.node_store.specs.Views.{Is}
use Rattle.seat_guard.specs.Passes.{known}
use Rattle.seat_guard.specs.Known.{known_at}
use Rattle.seat_guard.specs.Views.{cell_in}
use Rattle.shared_store.specs.declared.shared.Cell.{Cell}
use Rattle.shared_store.specs.Sharing.{view_of}
use Rattle.dd_session.specs.Turns.{Took}
use Rattle.dd_session.proofs.Calls.{called, took_of}
use Rattle.dd_session.proofs.Outcomes.{cell-known, is_kind, stands_held_as}
use Rattle.dd_session.proofs.Tellings.{outcome-of_fetch}
use Rattle.dd_session.proofs.Turning.{cell-board, cell-kept, notes_nothing}
use Rattle.dd_session.proofs.seated.fetch.Goals as goal

pub add_row-made-requires-clause-is : goal.add_row-made-requires-clause-is
add_row-made-requires-clause-is g c =
    let d = known c.args.pass.now in
    let e = known c.take-shared.new.pass in
    let x = c.take-shared.result in
    let t : Took d e x = took_of c.take-shared.ensures.took c.take-shared.ensures.board in
    let live = c.requires.live in
    let own = is_kind d e x t c.requires.idle.2 live.0 c.kind_at.result c.args.other c.edge_at.result (c.kind_at.ensures live.0 live.1) (c.edge_at.ensures.edge live.0 live.1) in
    ⊎_elim (λ same. subst (λ (y : Cell). Is y.kind (view_of x) y.edge) (sym same) own)
    (λ found. cell-kept x e t.serves.board_is t.serves.cells_kept c.args.cell c.choose-chosen.result.0 (c.cell.ensures ∙ ap Some found)) c.choose-chosen.ensures.origin

pub add_row-made-requires-clause-adds : goal.add_row-made-requires-clause-adds
add_row-made-requires-clause-adds g c =
    let d = known c.args.pass.now in
    let e = known c.take-shared.new.pass in
    let x = c.take-shared.result in
    let t : Took d e x = took_of c.take-shared.ensures.took c.take-shared.ensures.board in
    let live = c.requires.live in
    let i = c.from.result in
    let at : i ≡ c.args.cell = c.from.ensures in
    let kind = c.kind_at.ensures live.0 live.1 in
    let stands = stands_held_as d e x t c.requires.idle.2 live.0 c.args.other c.edge_at.result (c.edge_at.ensures.edge live.0 live.1) ∙ ap (λ k. Some (listed_at k (view_of x) c.edge_at.result)) (sym kind) in
    outcome-of_fetch e i c.args.other (listed_at c.kind_at.result (view_of x) c.edge_at.result) _ (let f = c.ranges.cell.fits in omega (arith, at, f)) (ap (λ z. z.holds) t.is) stands
    (ap (λ o. from_cell o (listed_at c.kind_at.result (view_of x) c.edge_at.result)) (ap (option_map (known_at e)) (ap (cell_in e.cells) at ∙ cell-board x e t.serves.board_is t.serves.cells_kept c.args.cell c.cell.result c.cell.ensures) ∙ cell-known e (view_of x) t.serves.counts_are c.cell.result)
    ∙ c.choose-chosen.ensures.taken (view_of x))

pub returns-clause-told : goal.returns-clause-told
returns-clause-told g c =
    let told = c.add_row-made.ensures.told in
    (called (known c.args.pass.now) (known c.take-shared.new.pass) (known c.add_row-made.new.pass) c.take-shared.result _ _ _ _ _ _ c.add_row-made.result.place (c.add_row-made.ensures.own.0 ∙ sym c.requires.idle.0)
    (took_of c.take-shared.ensures.took c.take-shared.ensures.board) (told.0, told.1, told.2 ∙ ap (λ (n : ℕ). calls.Fetch n c.args.other) c.from.ensures, told.3 ∙ ap (replies.Fetched c.add_row-made.result.value) (sym c.fetched.ensures), told.4))

pub returns-clause-stored : goal.returns-clause-stored
returns-clause-stored g c = notes_nothing (known c.args.pass.now) (known c.take-shared.new.pass) c.take-shared.result (took_of c.take-shared.ensures.took c.take-shared.ensures.board) (known c.add_row-made.new.pass) c.add_row-made.ensures.notes
