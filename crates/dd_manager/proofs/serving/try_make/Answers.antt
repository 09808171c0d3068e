use Rattle.operator_calls.specs.Taking.{of_lent}
use Rattle.store_rows.proofs.Changes.{same-then}
use Rattle.dd_manager.proofs.Makings.{makes-tried}
use Rattle.dd_manager.proofs.serving.try_make.Goals as goal

pub returns-in-None-clause-some : goal.returns-in-None-clause-some
returns-in-None-clause-some c = makes-tried c.args.manager c.args.rows.now c.levels-elements.new.self (of_lent c.args.making.now)
    (same-then c.args.rows.now c.levels-vars.new.self c.levels-elements.new.self c.levels-vars.ensures.same c.levels-elements.ensures.same)
    c.fault_in-fault.result c.fault_in-fault.ensures c.try_once-made.new.self c.try_once-made.result c.in-None.is c.try_once-made.ensures.tells c.unless_full.result c.unless_full.ensures.some
