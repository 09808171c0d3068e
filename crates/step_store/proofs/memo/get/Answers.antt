use Rattle.step_store.proofs.Opened.{key_grown}
use Rattle.step_store.proofs.memo.get.Goals as goal

pub recall-answer-requires-clause-key : goal.recall-answer-requires-clause-key
recall-answer-requires-clause-key g c = key_grown (g.S.Steps.known c.args.seat.now).view (g.S.Steps.known c.try_memo.new.seat).view c.args.key.now c.try_memo.ensures.learns.kept.grown c.requires.key
