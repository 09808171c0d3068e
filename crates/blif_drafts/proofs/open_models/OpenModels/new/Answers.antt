use Rattle.std.proofs.Common.{None, refl}
use Rattle.blif_drafts.proofs.ManyOpen.{none_open}
use Rattle.blif_drafts.proofs.ModelNames.{new_names}
use Rattle.blif_drafts.proofs.open_models.OpenModels.new.Goals as goal

pub returns-clause-begun : goal.returns-clause-begun
returns-clause-begun c = none_open (record { titles = c.new.result; closed = c.new-2.result; current = c.new-3.result }) (record { line = 0; title = None }) c.new.ensures c.new-2.ensures.items refl refl c.new-3.ensures.begins

pub returns-clause-names : goal.returns-clause-names
returns-clause-names c = new_names c.new.result c.new-2.result c.new-3.result c.new-2.ensures.items c.new-3.ensures.names
