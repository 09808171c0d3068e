use Rattle.std.proofs.Common.{sym}
use Rattle.std.proofs.lemmas.Bool.{ltb-true}
use Rattle.net_builds.proofs.InTurn.{turns_grow}
use Rattle.net_builds.proofs.handing.is_behind.Goals as goal

pub returns-in-Some : goal.returns-in-Some
returns-in-Some c = λ above turns one. turns_grow c.args.earlier.now c.in-Some.last.now c.args.next.now (sym c.in-Some.ensures.value) (ltb-true c.in-Some.last.now.fetch c.args.next.now.post above) turns one
