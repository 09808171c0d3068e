use Rattle.operator_calls.specs.Taking.{of_lent}
use Rattle.refused_calls.proofs.Rows.{same_manager}
use Rattle.refused_calls.proofs.calls.make.Goals as goal

pub returns : goal.returns
returns g c = same_manager c.args.session.now c.make.new.self (of_lent c.args.making) c.make.result c.make.ensures
