use Rattle.node_slots.specs.Stores.{plain_view}
use Rattle.operator_calls.specs.Taking.{of_lent}
use Rattle.store_rows.proofs.Standing.{orders-grown}
use Rattle.store_rows.proofs.Tries.{full-told}
use Rattle.store_rows.proofs.making.run_once.Goals as goal

pub run-made-requires : goal.run-made-requires
run-made-requires c = c.requires c.tell_sound.ensures.store

pub returns-clause-full : goal.returns-clause-full
returns-clause-full c = λ is. full-told (of_lent c.args.making.now) (plain_view c.args.store.now) c.run-made.new.store c.tell_sound-2.ensures.store (c.run-made.ensures.runs.due is)

pub returns-clause-orders : goal.returns-clause-orders
returns-clause-orders c = orders-grown c.args.store.now c.run-made.new.store c.tell_sound.ensures.store c.tell_sound-2.ensures.store c.run-made.ensures.runs.grown
