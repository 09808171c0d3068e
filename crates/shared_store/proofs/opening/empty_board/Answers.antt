use Rattle.std.proofs.Common.{rules}
use Rattle.shared_store.proofs.opening.empty_board.Goals as goal

pub returns : goal.returns
returns c = search (rules, c.requires)
