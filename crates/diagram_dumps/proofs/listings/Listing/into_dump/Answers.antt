use Rattle.std.proofs.Common.{◌≡◌, ◌∙◌, ◌<◌, List, ℕ, ap, arith, length}
use Rattle.std.proofs.lemmas.List.Elements.{All-same}
use Rattle.diagram_dumps.specs.Listings.{ids_of}
use Rattle.diagram_dumps.proofs.Listed.{ids_below}
use Rattle.diagram_dumps.proofs.listings.Listing.into_dump.Goals as goal

pub places_of-requires-clause-below : goal.places_of-requires-clause-below
places_of-requires-clause-below c = λ k d lt.
    let ids : c.as_slice-3.result.now ≡ ids_of c.len-nvars.result c.as_slice.result.now = c.as_slice-3.ensures ∙ c.in_ok-ids.ensures in
    let order : length c.as_slice-2.result.now ≡ length c.args.self.order = ap (λ (vs : List ℕ). length vs) c.as_slice-2.ensures in
    let below = All-same (λ v. v < c.len-nvars.result) c.as_slice-3.result.now _ ids (ids_below c.len-nvars.result c.as_slice.result.now) k d lt in
    omega (arith, order, c.len-nvars.ensures, below)
