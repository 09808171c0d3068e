use Rattle.std.proofs.Common.{◌≡◌, filter, map, take}
use Rattle.blif_models.specs.ModelFaults.{least}
use Rattle.blif_formals.specs.Titles.{mistitled_by}
use Rattle.blif_formals.proofs.titles.first_mistitled.Given as goal

abbrev pub invariant-loop-heading : goal.invariant-loop-heading
invariant-loop-heading l = l.first ≡ least (map (λ heading. heading.line) (filter (λ heading. mistitled_by l.titles heading.title) (take l.heading-index l.headings)))
