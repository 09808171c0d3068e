-- Instances by number are those by name.
use Rattle.std.proofs.Common.{ap, ◌∙◌}
use Rattle.blif_models.specs.Models.{called_by}
use Rattle.blif_formals.specs.Instances.{InstancesAgree}
use Rattle.blif_formals.specs.Titles.{got_model}
use Rattle.blif_formals.proofs.Calling.{found_by, there}
use Rattle.blif_formals.proofs.Numbering.{joins_agree}

pub instances_agree : InstancesAgree
instances_agree words models headings callees calls among m place instance call behind actuals one named title same numbers is in_it =
    let titles = callees.titles.now in
    let x = there words models headings titles calls named call.title one.model is.model in
    let found = found_by words models headings titles calls named (called_by instance) call.title title in
    (in_it, (x.0, x.1, found ∙ ap (got_model models) is.model ∙ x.1), joins_agree.joins callees.names.now m one.model instance behind actuals one.joins same numbers is.joins)
