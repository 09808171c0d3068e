use Rattle.std.proofs.Common.{◌≡◌, length, map, ap, sym, ◌∙◌}
use Rattle.blif_wholes.specs.Names.{WholeName}
use Rattle.blif_wholes.proofs.NameSteps.{roles_named}
use Rattle.blif_wholes.proofs.names.WholeNames.roles.Goals as goal

pub returns : goal.returns
returns c =
    let inside = c.self.inside in
    let as_many : length inside.roles.items ≡ length inside.spots.items = c.self.invariant.1 in
    c.deref.ensures.value ∙ sym (roles_named inside.words.items inside.spots.items inside.roles.items as_many) ∙ ap (map (λ (name : WholeName). name.role)) c.self.view_is
