use Rattle.std.proofs.Common.{ap, ◌∙◌}
use Rattle.blif_dump.specs.Calls.{names_in}
use Rattle.blif_dump.specs.Marks.{most_marks}
use Rattle.blif_dump.specs.Names.{prefix_with}
use Rattle.blif_dump.proofs.Prefixes.{prefix_found}
use Rattle.blif_dump.proofs.names.prefix_for.Goals as goal

pub returns : goal.returns
returns c =
    c.in_ok-front.ensures
    ∙ ap prefix_with (c.most_marks-most.ensures ∙ ap (λ n. most_marks n (names_in c.args.outputs.now)) c.most_marks-least.ensures)
    ∙ prefix_found (names_in c.args.inputs.now) (names_in c.args.outputs.now)
