use Rattle.std.proofs.Common.{sym, subst}
use Rattle.group_sift.specs.Sifts.{IsIdle}
use Rattle.store_upkeep.proofs.SiftLaws.{idle-sifted, idle_of, lasts-sifted, orders-sifted, sifted_back}
use Rattle.store_upkeep.proofs.sifting.sift_order.Goals as goal

pub sift_held-sifted-requires-clause-idle : goal.sift_held-sifted-requires-clause-idle
sift_held-sifted-requires-clause-idle c = subst IsIdle (sym c.hold-held.ensures.content) (idle_of c.args.store c.requires.rest)

pub returns-clause-sifted : goal.returns-clause-sifted
returns-clause-sifted c = sifted_back c.args.store c.release-left.result c.hold-held.result c.sift_held-sifted.new.w c.args.order c.args.blocks.now c.sift_held-sifted.result c.hold-held.ensures.content c.release-left.ensures c.sift_held-sifted.ensures.sifted

pub returns-clause-rest : goal.returns-clause-rest
returns-clause-rest c = idle-sifted c.args.store c.release-left.result c.args.order c.args.blocks.now c.sift_held-sifted.result (sifted_back c.args.store c.release-left.result c.hold-held.result c.sift_held-sifted.new.w c.args.order c.args.blocks.now c.sift_held-sifted.result c.hold-held.ensures.content c.release-left.ensures c.sift_held-sifted.ensures.sifted) c.requires.rest

pub returns-clause-lasts : goal.returns-clause-lasts
returns-clause-lasts c = lasts-sifted c.args.store c.release-left.result c.tell_sound.ensures.store c.tell_sound-2.ensures.store c.args.order c.args.blocks.now c.sift_held-sifted.result (sifted_back c.args.store c.release-left.result c.hold-held.result c.sift_held-sifted.new.w c.args.order c.args.blocks.now c.sift_held-sifted.result c.hold-held.ensures.content c.release-left.ensures c.sift_held-sifted.ensures.sifted)

pub returns-clause-orders : goal.returns-clause-orders
returns-clause-orders c = orders-sifted c.args.store c.release-left.result c.args.order c.args.blocks.now c.sift_held-sifted.result (sifted_back c.args.store c.release-left.result c.hold-held.result c.sift_held-sifted.new.w c.args.order c.args.blocks.now c.sift_held-sifted.result c.hold-held.ensures.content c.release-left.ensures c.sift_held-sifted.ensures.sifted)
