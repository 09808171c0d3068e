use Rattle.operator_calls.proofs.dispatch.run_bdd.Goals as goal

pub returns-in-AtLeast-clause-serves : goal.returns-in-AtLeast-clause-serves
returns-in-AtLeast-clause-serves g c = rw c.in-AtLeast.is c.at_least_in.ensures
