use Rattle.std.proofs.Common.{MatchResult, ap, subst, sym, ◌∙◌}
use Rattle.dd_session.specs.Sessions.{Seen}
use Rattle.dd_session.proofs.AtRest.{freed, idle_freed, idle_still, keeps_still, seen_still, still}
use Rattle.std.specs.List.{All}
use Rattle.dd_session.specs.Sessions.{IsAsBefore, IsNamed}
use Rattle.dd_session.specs.Listings.{IsListed}
use Rattle.dd_session.specs.Works.{StoresNothing}
use Rattle.edge_bits.specs.declared.edges.Kind.TheVariants as kinds
use Rattle.seat_guard.specs.declared.view.Draws.{Draws}
use Rattle.seat_guard.specs.declared.view.Shares.{Shares}
use Rattle.dd_session.proofs.held.list.Goals as goal

pub order_wait-hold-requires : goal.order_wait-hold-requires
order_wait-hold-requires g c = ((c.requires.idle.0, c.requires.idle.1), c.requires.unshared)

pub list-listing-requires-clause-idle : goal.list-listing-requires-clause-idle
list-listing-requires-clause-idle g c = idle_still c.args.guard.now c.args.pass c.order_wait-hold.result.pass c.requires.idle.0 c.order_wait-hold.ensures.0.0.0 c.order_wait-hold.ensures.1 c.requires.idle

pub list-listing-requires-clause-keeps : goal.list-listing-requires-clause-keeps
list-listing-requires-clause-keeps g c = keeps_still c.args.guard.now c.args.pass c.order_wait-hold.result.pass c.requires.idle.0 c.order_wait-hold.ensures.0.0.0 c.order_wait-hold.ensures.1.0 c.args.book.now c.requires.keeps

pub list-listing-requires-clause-live : goal.list-listing-requires-clause-live
list-listing-requires-clause-live g c = subst (λ (d : Draws). All (IsNamed kinds.Bdd d.rows) c.args.rows.now) (sym c.order_wait-hold.ensures.1.0) c.requires.live

pub returns-clause-idle : goal.returns-clause-idle
returns-clause-idle g c = idle_freed c.args.guard.now c.list-listing.new.pass c.order_out.result c.list-listing.ensures.idle.0 c.order_out.ensures.0.0.0 (freed c.list-listing.new.pass c.order_out.result c.order_out.ensures.1 (ap (λ (x : Shares). x.order) c.list-listing.ensures.stands ∙ c.order_wait-hold.result.held)) (still c.args.guard.now c.list-listing.new.pass c.list-listing.ensures.idle)

pub returns-clause-keeps : goal.returns-clause-keeps
returns-clause-keeps g c = keeps_still c.args.guard.now c.list-listing.new.pass c.order_out.result c.list-listing.ensures.idle.0 c.order_out.ensures.0.0.0 c.order_out.ensures.1.0 c.args.book.now c.list-listing.ensures.keeps

pub returns-clause-told : goal.returns-clause-told
returns-clause-told g c = subst (λ (z : Seen × Seen). MatchResult c.list-listing.result (IsListed z.0 z.1 c.args.rows.now) (λ _. IsAsBefore z.0 z.1)) (λ i. (seen_still c.args.guard.now c.args.pass c.order_wait-hold.result.pass c.requires.idle.0 c.order_wait-hold.ensures.0.0.0 c.order_wait-hold.ensures.1.0 c.args.book.now i, sym (seen_still c.args.guard.now c.list-listing.new.pass c.order_out.result c.list-listing.ensures.idle.0 c.order_out.ensures.0.0.0 c.order_out.ensures.1.0 c.args.book.now) i)) c.list-listing.ensures.told

pub returns-clause-stored : goal.returns-clause-stored
returns-clause-stored g c = subst (λ (z : Seen × Seen). StoresNothing z.0 z.1) (λ i. (seen_still c.args.guard.now c.args.pass c.order_wait-hold.result.pass c.requires.idle.0 c.order_wait-hold.ensures.0.0.0 c.order_wait-hold.ensures.1.0 c.args.book.now i, sym (seen_still c.args.guard.now c.list-listing.new.pass c.order_out.result c.list-listing.ensures.idle.0 c.order_out.ensures.0.0.0 c.order_out.ensures.1.0 c.args.book.now) i)) c.list-listing.ensures.stored

pub order_out-requires-clause-pins : goal.order_out-requires-clause-pins
order_out-requires-clause-pins g c = c.list-listing.ensures.idle.4.0.pins
