use Rattle.std.proofs.Common.{ap, arith, refl, ◌≡◌, ◌∙◌, ◌++◌, ◌∷◌, [], List}
use Rattle.blif_models.specs.declared.layout.Frame.{Frame}
use Rattle.blif_models.specs.Layouts.{up_to}
use Rattle.blif_models.proofs.layout.start.Goals as goal

pub returns-clause-stack : goal.returns-clause-stack
returns-clause-stack c =
    let last : c.loop-name.name ≡ c.args.names = omega (arith, c.loop-name-test.false, c.loop-name.auto.name-end) in
    let frame : Frame = record { model = c.args.main; next = 0; copies = 0; table = c.loop-name.table } in
    (frame, c.in_ok-push-3.ensures.items ∙ ap (λ (xs : List Frame). xs ++ frame ∷ []) c.new-stack.ensures.items, refl, refl, refl, c.loop-name.invariant.table ∙ ap up_to last)
