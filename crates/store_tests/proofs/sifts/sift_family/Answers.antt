use Rattle.std.proofs.Common.{◌∙◌}
use Rattle.node_slots.specs.Held.{held_view}
use Rattle.store_tests.proofs.Reorders.{handed_idle}
use Rattle.store_tests.proofs.sifts.sift_family.Goals as goal

pub sift_four-requires-clause-idle : goal.sift_four-requires-clause-idle
sift_four-requires-clause-idle g c = handed_idle c.counted_family-edge.new.store (held_view c.hold-held.result) c.hold-held.ensures.content (c.counted_family-edge.ensures ∙ c.requires.idle)
