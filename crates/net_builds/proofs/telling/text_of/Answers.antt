use Rattle.std.proofs.Common.{ℕ, ap, length, ◌++◌, ◌∙◌}
use Rattle.std.proofs.lemmas.List.{length-map}
use Rattle.std.proofs.lemmas.List.FromFn.{length-range_with_len}
use Rattle.std.specs.List.{range_with_len}
use Rattle.std.specs.Fmt.{decimal}
use Rattle.std.specs.Prelude.{codes}
use Rattle.cover_nets.specs.declared.net.Output.{Output}
use Rattle.net_builds.specs.Builds.{names_of}
use Rattle.net_builds.specs.declared.telling.Reported.{Reported}
use Rattle.net_builds.proofs.telling.text_of.Goals as goal

pub report-requires : goal.report-requires
report-requires c = c.requires ∙ ap (λ (r : Reported). length (names_of r)) c.in-Network.is ∙ length-map c.in-Network.net.now.outputs (λ (output : Output). output.name)

pub dump_report-requires : goal.dump_report-requires
dump_report-requires c =
    let count = length c.in-Diagram.dump.now.roots in
    c.requires ∙ ap (λ (r : Reported). length (names_of r)) c.in-Diagram.is ∙ length-map (range_with_len 0 count) (λ (i : ℕ). codes "r" ++ decimal i) ∙ length-range_with_len 0 count
