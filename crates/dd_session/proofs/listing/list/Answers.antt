use Rattle.std.proofs.Common.{◌≡◌, All, Result, IfOk, ap, refl, subst, sym, ◌∙◌}
use Rattle.diagram_dumps.specs.declared.listings.Listing.{Listing}
use Rattle.edge_bits.specs.declared.edges.Kind.TheVariants as kinds
use Rattle.edge_bits.specs.declared.lists.Memory.{Memory}
use Rattle.seat_guard.specs.declared.view.Draws.{Draws}
use Rattle.seat_guard.specs.Passes.{known}
use Rattle.seat_guard.specs.Views.{known_as}
use Rattle.dd_session.specs.Listings.{ListsRows}
use Rattle.dd_session.specs.Sessions.{IsNamed}
use Rattle.dd_session.specs.Turns.{Took}
use Rattle.dd_session.proofs.Calls.{keeps_taken, took_of}
use Rattle.dd_session.proofs.ListingLaws.{is_listed, keeps_uncalled}
use Rattle.dd_session.proofs.Turning.{stored_nothing, stores_same}
use Rattle.dd_session.proofs.Soundness.{sizes_of}
use Rattle.dd_session.proofs.listing.list.Goals as goal

pub listing_of-requires-clause-tied : goal.listing_of-requires-clause-tied
listing_of-requires-clause-tied g c =
    let d = known c.args.pass.now in
    let e = known c.take-shared.new.pass in
    let t : Took d e c.take-shared.result = took_of c.take-shared.ensures.took c.take-shared.ensures.board in
    let k = c.requires.keeps in
    (keeps_taken d e c.take-shared.result c.args.book.now.rows c.args.book.now.rows c.args.book.now.calls c.args.book.now.fulls t k.rows k.calls k.fulls refl refl).0

pub listing_of-requires-clause-live : goal.listing_of-requires-clause-live
listing_of-requires-clause-live g c = subst (λ (d : Draws). All (IsNamed kinds.Bdd d.rows) c.args.rows.now) (sym c.take-shared.ensures.took.1) c.requires.live

pub returns-in-Ok-clause-keeps : goal.returns-in-Ok-clause-keeps
returns-in-Ok-clause-keeps g c =
    let d = known c.args.pass.now in
    let left = c.note.ensures.gave.1 in
    let took = c.take-shared.ensures.took.1 in
    keeps_uncalled d (known c.note.new.pass) c.args.book.now c.requires.keeps
    (ap sizes_of left ∙ ap sizes_of took)
    (ap (λ (z : Draws). z.rows) left ∙ ap (λ (z : Draws). z.rows) took)
    (ap (λ (z : Draws). z.adds) left ∙ ap (λ (z : Draws). z.adds) took)
    (ap (λ (z : Draws). z.entries) left ∙ ap (λ (z : Draws). z.entries) took)

pub returns-in-Ok-clause-told : goal.returns-in-Ok-clause-told
returns-in-Ok-clause-told g c =
    let e = known c.take-shared.new.pass in
    let t : Took (known c.args.pass.now) e c.take-shared.result = took_of c.take-shared.ensures.took c.take-shared.ensures.board in
    is_listed (known c.args.pass.now) e (known c.note.new.pass) c.take-shared.result c.args.pass.now.seat.table_id c.note.new.pass.seat.table_id c.args.book.now.rows.spare c.note.result c.note.ensures.gave.0 c.args.rows.now c.in-Ok.listing
    (c.note.ensures.own.0 ∙ sym c.requires.idle.0) t c.note.ensures.gave.1 c.note.ensures.later
    (subst (λ (r : Result Listing Memory). IfOk r (λ listing. (listing.order ≡ e.variable_order) × ListsRows e.vars (known_as e) c.args.rows.now listing)) c.in-Ok.is c.listing_of.ensures)

pub returns-in-Ok-clause-stored : goal.returns-in-Ok-clause-stored
returns-in-Ok-clause-stored g c = let gave = c.note.ensures.gave in stored_nothing (known c.args.pass.now) (known c.take-shared.new.pass) c.take-shared.result (took_of c.take-shared.ensures.took c.take-shared.ensures.board) (known c.note.new.pass) c.take-shared.result gave.0 (stores_same c.take-shared.result) (ap (λ (d : Draws). d.stored) gave.1) gave.2 (ap (λ (d : Draws). d.turns) gave.1)

pub returns-in-Err-clause-stored : goal.returns-in-Err-clause-stored
returns-in-Err-clause-stored g c = let gave = c.put_back.ensures.gave in stored_nothing (known c.args.pass.now) (known c.take-shared.new.pass) c.take-shared.result (took_of c.take-shared.ensures.took c.take-shared.ensures.board) (known c.put_back.new.pass) c.take-shared.result gave.0 (stores_same c.take-shared.result) (ap (λ (d : Draws). d.stored) gave.1) gave.2 (ap (λ (d : Draws). d.turns) gave.1)

pub returns-in-Err-clause-keeps : goal.returns-in-Err-clause-keeps
returns-in-Err-clause-keeps g c =
    let d = known c.args.pass.now in
    let left = c.put_back.ensures.gave.1 in
    let took = c.take-shared.ensures.took.1 in
    keeps_uncalled d (known c.put_back.new.pass) c.args.book.now c.requires.keeps
    (ap sizes_of left ∙ ap sizes_of took)
    (ap (λ (z : Draws). z.rows) left ∙ ap (λ (z : Draws). z.rows) took)
    (ap (λ (z : Draws). z.adds) left ∙ ap (λ (z : Draws). z.adds) took)
    (ap (λ (z : Draws). z.entries) left ∙ ap (λ (z : Draws). z.entries) took)
