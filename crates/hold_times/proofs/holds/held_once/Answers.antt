use Rattle.std.proofs.Common.{ap, ◌∙◌}
use Rattle.node_slots.specs.Held.{held_view}
use Rattle.node_slots.specs.Stores.{Plain, is_held}
use Rattle.hold_times.proofs.Openings.{handed_idle, left_idle}
use Rattle.hold_times.proofs.holds.held_once.Goals as goal

pub work-done-requires-clause-idle : goal.work-done-requires-clause-idle
work-done-requires-clause-idle c = handed_idle c.args.store (held_view c.hold-held.result) c.hold-held.ensures.content c.requires.idle

pub returns-clause-idle : goal.returns-clause-idle
returns-clause-idle c = ap (λ (p : Plain). is_held p) c.release.ensures ∙ left_idle c.work-done.new.w c.work-done.ensures.idle
