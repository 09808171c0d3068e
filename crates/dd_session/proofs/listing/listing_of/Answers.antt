use Rattle.std.proofs.Common.{All, IfOk, map, sym, subst, ◌∙◌}
use Rattle.diagram_dumps.specs.Listings.{IsListing}
use Rattle.edge_bits.specs.declared.edges.Kind.TheVariants as kinds
use Rattle.node_slots.specs.Stores.{Plain, plain_view}
use Rattle.node_store.specs.Views.{Is, bdd_at}
use Rattle.seat_guard.specs.Passes.{known, counts_of}
use Rattle.shared_store.specs.Sharing.{view_of}
use Rattle.dd_session.proofs.ListingLaws.{edges_are, list_told, serving_stands}
use Rattle.dd_session.proofs.listing.listing_of.Goals as goal

pub list-requires : goal.list-requires
list-requires c =
    let d = known c.args.pass.now in
    let x = c.args.shared.now in
    let are = subst (All (Is kinds.Bdd (view_of x))) (sym (c.deref.ensures.value ∙ c.in_ok-edges.ensures)) (edges_are d x (serving_stands d (counts_of c.args.pass.now) x c.requires.serves) c.args.rows.now c.requires.live) in
    subst (λ (p : Plain). All (Is kinds.Bdd (plain_view p)) c.deref.result.now) (sym c.get.ensures) are

pub returns : goal.returns
returns c =
    let listed = subst (λ (p : Plain). IfOk c.list.result (IsListing p.variables_at (map (bdd_at (plain_view p)) c.deref.result.now))) c.get.ensures c.list.ensures in
    list_told (known c.args.pass.now) (counts_of c.args.pass.now) c.args.shared.now c.args.rows.now c.deref.result.now c.requires.serves c.tell_sound.ensures.store c.requires.live (c.deref.ensures.value ∙ c.in_ok-edges.ensures) c.list.result listed
