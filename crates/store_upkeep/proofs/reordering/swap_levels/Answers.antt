use Rattle.store_upkeep.proofs.Reordered.{idle-reordered, lasts-reordered, orders-reordered, reorders_back}
use Rattle.store_upkeep.proofs.reordering.swap_levels.Goals as goal

pub returns-clause-reorders : goal.returns-clause-reorders
returns-clause-reorders c = reorders_back c.args.store c.release-left.result c.hold-held.result c.sweep_and_swap-done.new.w c.args.order c.args.level c.sweep_and_swap-done.result c.hold-held.ensures.content c.release-left.ensures c.sweep_and_swap-done.ensures

pub returns-clause-rest : goal.returns-clause-rest
returns-clause-rest c = idle-reordered c.args.store c.release-left.result c.args.order c.args.level c.sweep_and_swap-done.result (reorders_back c.args.store c.release-left.result c.hold-held.result c.sweep_and_swap-done.new.w c.args.order c.args.level c.sweep_and_swap-done.result c.hold-held.ensures.content c.release-left.ensures c.sweep_and_swap-done.ensures) c.requires.rest

pub returns-clause-lasts : goal.returns-clause-lasts
returns-clause-lasts c = lasts-reordered c.args.store c.release-left.result c.tell_sound.ensures.store c.tell_sound-2.ensures.store c.args.order c.args.level c.sweep_and_swap-done.result (reorders_back c.args.store c.release-left.result c.hold-held.result c.sweep_and_swap-done.new.w c.args.order c.args.level c.sweep_and_swap-done.result c.hold-held.ensures.content c.release-left.ensures c.sweep_and_swap-done.ensures)

pub returns-clause-orders : goal.returns-clause-orders
returns-clause-orders c = orders-reordered c.args.store c.release-left.result c.args.order c.args.level c.sweep_and_swap-done.result (reorders_back c.args.store c.release-left.result c.hold-held.result c.sweep_and_swap-done.new.w c.args.order c.args.level c.sweep_and_swap-done.result c.hold-held.ensures.content c.release-left.ensures c.sweep_and_swap-done.ensures) c.requires.level
