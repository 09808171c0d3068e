use Rattle.step_store.proofs.Opened.{key_grown, memo_grown}
use Rattle.step_store.proofs.memo.put.Goals as goal

pub remember-requires-clause-key : goal.remember-requires-clause-key
remember-requires-clause-key g c = key_grown (g.S.Steps.known c.args.seat.now).view (g.S.Steps.known c.try_memo.new.seat).view c.args.key c.try_memo.ensures.learns.kept.grown c.requires.key

pub remember-requires-clause-holds : goal.remember-requires-clause-holds
remember-requires-clause-holds g c = memo_grown (g.S.Steps.known c.args.seat.now).view (g.S.Steps.known c.try_memo.new.seat).view c.args.key c.args.edge c.try_memo.ensures.learns.kept.grown c.requires.holds
