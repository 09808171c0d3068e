use Rattle.std.proofs.Common.{rules}
use Rattle.refused_calls.proofs.Rows.{live_as_told}
use Rattle.refused_calls.proofs.takes.is_of.Goals as goal

pub returns : goal.returns
returns c = λ yes. live_as_told c.args.session.now c.args.h c.kind.result c.args.kind (c.is_live.ensures.0 (search rules)) c.kind.ensures (search (rules, c.eq.ensures, yes))
