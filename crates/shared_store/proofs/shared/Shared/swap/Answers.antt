use Rattle.std.proofs.Common.{refl}
use Rattle.shared_store.proofs.Reordered.{generations-reordered, idle-reordered, lasts-reordered, orders-reordered, reorders_back, stored-reordered}
use Rattle.shared_store.proofs.shared.Shared.swap.Goals as goal

pub invariant_of-result : goal.invariant_of-result
invariant_of-result c =
    let r = reorders_back c.args.self.store c.release-store.result c.hold-held.result.0 c.sweep_and_swap-done.new.w c.args.order c.args.level c.sweep_and_swap-done.result c.hold-held.ensures.content c.release-store.ensures c.sweep_and_swap-done.ensures in record {
      as_many = c.args.self.as_many;
      idle = idle-reordered c.args.self.store c.release-store.result c.args.order c.args.level c.sweep_and_swap-done.result r c.args.self.idle;
    }

pub returns-clause-reorders : goal.returns-clause-reorders
returns-clause-reorders c =
    reorders_back c.args.self.store c.release-store.result c.hold-held.result.0 c.sweep_and_swap-done.new.w c.args.order c.args.level c.sweep_and_swap-done.result c.hold-held.ensures.content c.release-store.ensures c.sweep_and_swap-done.ensures

pub returns-clause-lasts : goal.returns-clause-lasts
returns-clause-lasts c = lasts-reordered c.args.self _ c.tell_sound.ensures.store c.tell_sound-2.ensures.store c.args.order c.args.level c.sweep_and_swap-done.result (reorders_back c.args.self.store c.release-store.result c.hold-held.result.0 c.sweep_and_swap-done.new.w c.args.order c.args.level c.sweep_and_swap-done.result c.hold-held.ensures.content c.release-store.ensures c.sweep_and_swap-done.ensures) refl

pub returns-clause-generations : goal.returns-clause-generations
returns-clause-generations c = generations-reordered c.args.self.store c.release-store.result c.tell_sound.ensures.store c.args.order c.args.level c.sweep_and_swap-done.result (reorders_back c.args.self.store c.release-store.result c.hold-held.result.0 c.sweep_and_swap-done.new.w c.args.order c.args.level c.sweep_and_swap-done.result c.hold-held.ensures.content c.release-store.ensures c.sweep_and_swap-done.ensures)

pub returns-clause-orders : goal.returns-clause-orders
returns-clause-orders c = orders-reordered c.args.self.store c.release-store.result c.args.order c.args.level c.sweep_and_swap-done.result (reorders_back c.args.self.store c.release-store.result c.hold-held.result.0 c.sweep_and_swap-done.new.w c.args.order c.args.level c.sweep_and_swap-done.result c.hold-held.ensures.content c.release-store.ensures c.sweep_and_swap-done.ensures) c.requires.level

pub returns-clause-stored : goal.returns-clause-stored
returns-clause-stored c =
    let r = reorders_back c.args.self.store c.release-store.result c.hold-held.result.0 c.sweep_and_swap-done.new.w c.args.order c.args.level c.sweep_and_swap-done.result c.hold-held.ensures.content c.release-store.ensures c.sweep_and_swap-done.ensures in
    stored-reordered c.args.self (record { store = c.release-store.result; cells = c.args.self.cells; as_many = c.args.self.as_many; idle = idle-reordered c.args.self.store c.release-store.result c.args.order c.args.level c.sweep_and_swap-done.result r c.args.self.idle }) c.tell_sound.ensures.store c.tell_sound-2.ensures.store c.args.order c.args.level c.sweep_and_swap-done.result r
