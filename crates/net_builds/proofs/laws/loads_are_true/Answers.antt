use Rattle.std.proofs.Common.{List, ℕ, subst, sym}
use Rattle.std.specs.List.{Contains}
use Rattle.std.proofs.lemmas.List.Elements.{Contains-push}
use Rattle.net_reports.specs.Reports.{IsReport, dump_subject}
use Rattle.net_builds.specs.Standings.{Note}
use Rattle.net_builds.proofs.ToldLaws.{rising_order}
use Rattle.net_builds.proofs.laws.loads_are_true.Goals as goal

pub returns : goal.returns
returns c = λ dump patterns sizes log old new text all fresh unsifted history loads.
    let told = loads.told in
    let among : Contains new.notes told.note = subst (λ (notes : List Note). Contains notes told.note) (sym told.noted) (Contains-push old.notes told.note) in
    subst (λ (order : List ℕ). IsReport (dump_subject dump order patterns) text) (rising_order dump.nvars sizes log old new told.note all fresh unsifted history among) told.reports
