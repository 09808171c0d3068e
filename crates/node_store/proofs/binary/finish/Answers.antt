use Rattle.node_store.specs.ViewLaws.{Kept-refl}
use Rattle.node_store.proofs.binary.finish.Goals as goal
use Rattle.node_store.proofs.binary.finish.Goals.{in-Some, in_default}

pub memo_put-requires-clause-key : goal.memo_put-requires-clause-key
memo_put-requires-clause-key g c = (c.in-Some.ensures _ c.requires.due).is_key

pub memo_put-requires-clause-holds : goal.memo_put-requires-clause-holds
memo_put-requires-clause-holds g c = (c.in-Some.ensures _ c.requires.due).holds _ c.requires.answer

pub returns-clause-kept : goal.returns-clause-kept
returns-clause-kept g c = elim c.match-key.branch [
  | in-Some w ↦ rw w.store-is w.memo_put.ensures.kept
  | in_default w ↦ rw w.store-is (Kept-refl _)
]
