use Rattle.store_upkeep.proofs.Handed.{still_idle, swept_back}
use Rattle.store_upkeep.proofs.Swept.{lasts-swept}
use Rattle.store_upkeep.proofs.sweeping.sweep_slots.Goals as goal

pub returns-clause-swept : goal.returns-clause-swept
returns-clause-swept c = swept_back c.args.store c.release-left.result c.hold-held.result c.sweep-swept.new.w c.sweep-swept.result c.hold-held.ensures.content c.release-left.ensures c.sweep-swept.ensures

pub returns-clause-rest : goal.returns-clause-rest
returns-clause-rest c = still_idle c.args.store c.release-left.result c.sweep-swept.result c.requires (swept_back c.args.store c.release-left.result c.hold-held.result c.sweep-swept.new.w c.sweep-swept.result c.hold-held.ensures.content c.release-left.ensures c.sweep-swept.ensures)

pub returns-clause-lasts : goal.returns-clause-lasts
returns-clause-lasts c = lasts-swept c.args.store c.release-left.result c.sweep-swept.result c.tell_sound.ensures.store c.tell_sound-2.ensures.store (swept_back c.args.store c.release-left.result c.hold-held.result c.sweep-swept.new.w c.sweep-swept.result c.hold-held.ensures.content c.release-left.ensures c.sweep-swept.ensures)

pub returns-clause-orders : goal.returns-clause-orders
returns-clause-orders c = let is = swept_back c.args.store c.release-left.result c.hold-held.result c.sweep-swept.new.w c.sweep-swept.result c.hold-held.ensures.content c.release-left.ensures c.sweep-swept.ensures in is.orders
