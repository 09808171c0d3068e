use Rattle.std.proofs.Common.{◌≡◌, ◌<◌, length, map, List, Some, ap, sym, ◌∙◌, subst, arith}
use Rattle.std.specs.Prelude.{slice_get}
use Rattle.std.proofs.lemmas.Option.{slice_get-get_or}
use Rattle.blif_wholes.specs.declared.roles.Role.{Role}
use Rattle.blif_wholes.specs.Names.{WholeName}
use Rattle.blif_wholes.proofs.NameSteps.{length_named, roles_named}
use Rattle.blif_wholes.proofs.names.WholeNames.role_at.Goals as goal

pub index-requires : goal.index-requires
index-requires c =
    let inside = c.self.inside in
    let as_many : length inside.roles.items ≡ length inside.spots.items = c.self.invariant.1 in
    let view = ap length c.self.view_is in
    let many = length_named inside.words.items inside.spots.items inside.roles.items as_many in
    let stored = (inside.roles.ok).0 in
    omega (arith, c.requires, view, many, as_many, stored)

pub returns : goal.returns
returns c =
    let inside = c.self.inside in
    let as_many : length inside.roles.items ≡ length inside.spots.items = c.self.invariant.1 in
    let view = ap length c.self.view_is in
    let many = length_named inside.words.items inside.spots.items inside.roles.items as_many in
    let within : c.args.place < length inside.roles.items = omega (arith, c.requires, view, many, as_many) in
    subst (λ (all : List WholeName). slice_get (map (λ (name : WholeName). name.role) all) c.args.place ≡ Some c.index.result.now) c.self.view_is
    (ap (λ (all : List Role). slice_get all c.args.place) (roles_named inside.words.items inside.spots.items inside.roles.items as_many)
    ∙ slice_get-get_or inside.roles.items c.args.place c.index.result.now within ∙ ap Some (sym c.index.ensures))
