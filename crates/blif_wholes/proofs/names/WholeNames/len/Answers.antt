use Rattle.std.proofs.Common.{◌≡◌, length, ap, sym, ◌∙◌}
use Rattle.blif_wholes.proofs.NameSteps.{length_named}
use Rattle.blif_wholes.proofs.names.WholeNames.len.Goals as goal

pub returns : goal.returns
returns c =
    let inside = c.self.inside in
    let as_many : length inside.roles.items ≡ length inside.spots.items = c.self.invariant.1 in
    c.len.ensures ∙ (inside.spots.ok).0 ∙ sym (length_named inside.words.items inside.spots.items inside.roles.items as_many) ∙ ap length c.self.view_is
