use Rattle.operator_calls.specs.Taking.{of_lent}
use Rattle.store_rows.proofs.Changes.{same-then}
use Rattle.dd_manager.proofs.Makings.{makes-told}
use Rattle.dd_manager.proofs.serving.make.Goals as goal

pub returns-in-None-clause-makes : goal.returns-in-None-clause-makes
returns-in-None-clause-makes c = makes-told c.args.manager c.args.rows c.levels-elements.new.self (of_lent c.args.making.now)
    (same-then c.args.rows c.levels-vars.new.self c.levels-elements.new.self c.levels-vars.ensures.same c.levels-elements.ensures.same)
    c.fault_in-fault.result c.fault_in-fault.ensures c.sweep_and_try-left.result.0 c.answered.result c.sweep_and_try-left.result.1 c.in-None.is c.sweep_and_try-left.ensures.tells c.sweep_and_try-left.ensures.swept c.answered.ensures
