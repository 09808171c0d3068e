use Rattle.std.proofs.Common.{refl, sym, subst}
use Rattle.group_sift.specs.Sifts.{IsIdle}
use Rattle.shared_store.proofs.SiftLaws.{generations-sifted, idle-sifted, idle_of, lasts-sifted, orders-sifted, sifted_back}
use Rattle.shared_store.proofs.shared.Shared.sift.Goals as goal

pub sift_order-sifted-requires-clause-idle : goal.sift_order-sifted-requires-clause-idle
sift_order-sifted-requires-clause-idle c = subst IsIdle (sym c.hold-held.ensures.content) (idle_of c.args.self.store c.args.self.idle)

pub invariant_of-result : goal.invariant_of-result
invariant_of-result c =
    let is = sifted_back c.args.self.store c.release-store.result c.hold-held.result.0 c.sift_order-sifted.new.w c.args.order c.args.blocks.now c.sift_order-sifted.result c.hold-held.ensures.content c.release-store.ensures c.sift_order-sifted.ensures.sifted in record {
      as_many = c.args.self.as_many;
      idle = idle-sifted c.args.self.store c.release-store.result c.args.order c.args.blocks.now c.sift_order-sifted.result is c.args.self.idle;
    }

pub returns-clause-lasts : goal.returns-clause-lasts
returns-clause-lasts c = lasts-sifted c.args.self _ c.tell_sound.ensures.store c.tell_sound-2.ensures.store c.args.order c.args.blocks.now c.sift_order-sifted.result
    (sifted_back c.args.self.store c.release-store.result c.hold-held.result.0 c.sift_order-sifted.new.w c.args.order c.args.blocks.now c.sift_order-sifted.result c.hold-held.ensures.content c.release-store.ensures c.sift_order-sifted.ensures.sifted) refl

pub returns-clause-generations : goal.returns-clause-generations
returns-clause-generations c = generations-sifted c.args.self.store c.release-store.result c.args.order c.args.blocks.now c.sift_order-sifted.result
    (sifted_back c.args.self.store c.release-store.result c.hold-held.result.0 c.sift_order-sifted.new.w c.args.order c.args.blocks.now c.sift_order-sifted.result c.hold-held.ensures.content c.release-store.ensures c.sift_order-sifted.ensures.sifted)

pub returns-clause-orders : goal.returns-clause-orders
returns-clause-orders c = orders-sifted c.args.self c.release-store.result c.args.order c.args.blocks.now c.sift_order-sifted.result
    (sifted_back c.args.self.store c.release-store.result c.hold-held.result.0 c.sift_order-sifted.new.w c.args.order c.args.blocks.now c.sift_order-sifted.result c.hold-held.ensures.content c.release-store.ensures c.sift_order-sifted.ensures.sifted)
