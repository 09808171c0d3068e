use Rattle.std.proofs.Common.{ap, subst, sym, ◌∙◌}
use Rattle.seat_guard.specs.declared.view.Draws.{Draws}
use Rattle.seat_guard.specs.Passes.{known, counts_of}
use Rattle.seat_guard.specs.Views.{letting_go}
use Rattle.shared_store.specs.Sharing.{Serving}
use Rattle.shared_store.specs.Storing.{IsLeaving}
use Rattle.dd_session.proofs.ListingLaws.{leaves_noting, serves_noting}
use Rattle.seat_guard.specs.declared.view.Counts.{Counts}
use Rattle.dd_session.proofs.listing.note.Goals as goal

pub put_back-requires-clause-serves : goal.put_back-requires-clause-serves
put_back-requires-clause-serves c = subst (λ (z : Draws × Counts). Serving c.args.shared z.0 z.1) (λ i. (sym c.look-place.ensures.noted i, sym c.look-place.ensures.stands.1 i)) (serves_noting (known c.args.pass.now) (counts_of c.args.pass.now) c.args.shared c.look-place.result c.requires.serves)

pub returns-clause-gave : goal.returns-clause-gave
returns-clause-gave c =
    let gave = c.put_back.ensures.gave in
    let noted = c.look-place.ensures.noted in (
      gave.0,
      gave.1 ∙ ap (λ (d : Draws). letting_go d gave.0) noted,
      leaves_noting (known c.args.pass.now) c.args.shared c.look-place.result gave.0 (subst (λ (d : Draws). IsLeaving d c.args.shared gave.0) noted gave.2),
    )
