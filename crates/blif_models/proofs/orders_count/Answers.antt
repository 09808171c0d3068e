use Rattle.blif_models.proofs.Orderings.{places_are_ranks, totals_are_counts}
use Rattle.blif_models.proofs.orders_count.Goals as goal

pub returns-clause-ranks : goal.returns-clause-ranks
returns-clause-ranks c = places_are_ranks

pub returns-clause-counts : goal.returns-clause-counts
returns-clause-counts c = totals_are_counts
