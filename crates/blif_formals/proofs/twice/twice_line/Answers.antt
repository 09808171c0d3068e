use Rattle.std.proofs.Common.{length, ap, sym, ◌∙◌}
use Rattle.std.proofs.lemmas.List.{length-map}
use Rattle.blif_models.specs.Layouts.{up_to}
use Rattle.blif_models.proofs.GoingOn.{up_to_many}
use Rattle.blif_formals.specs.Twice.{clash_first}
use Rattle.blif_formals.proofs.twice.twice_line.Goals as goal

pub first_met-requires : goal.first_met-requires
first_met-requires c =
    let count = length c.args.models.now in
    ap length (c.deref.ensures.value ∙ c.in_ok-lines.ensures) ∙ length-map (up_to count) (clash_first c.args.interfaces.now c.args.inputs.now c.args.models.now) ∙ up_to_many count ∙ sym c.requires.met
