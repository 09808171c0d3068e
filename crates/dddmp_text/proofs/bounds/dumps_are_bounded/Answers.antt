use Rattle.dddmp_text.proofs.Bounded.{dumps_are_bounded, lines_have_bytes}
use Rattle.dddmp_text.proofs.bounds.dumps_are_bounded.Goals as goal

pub returns-clause-bounded : goal.returns-clause-bounded
returns-clause-bounded c = dumps_are_bounded

pub returns-clause-bytes : goal.returns-clause-bytes
returns-clause-bytes c = lines_have_bytes
