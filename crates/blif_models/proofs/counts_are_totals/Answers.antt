use Rattle.blif_models.proofs.Counts.{counts_are_totals}
use Rattle.blif_models.proofs.counts_are_totals.Goals as goal

pub returns : goal.returns
returns c = counts_are_totals
