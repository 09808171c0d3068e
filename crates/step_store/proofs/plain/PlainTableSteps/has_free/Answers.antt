use Rattle.std.proofs.Common.{◌-◌, arith}
use Rattle.step_store.proofs.Moves.{free_less, free_more, le_of, lt_of}
use Rattle.step_store.proofs.plain.PlainTableSteps.has_free.Goals as goal

pub returns-clause-some : goal.returns-clause-some
returns-clause-some c = λ is.
    let t = c.args.self.now in
    let lt = lt_of t.core.first_free t.core.limit is in
    free_more t.has_free t.core.first_free (t.core.limit - t.core.first_free) c.requires.free.0 c.requires.free.1 (omega (arith, lt))

pub returns-clause-none : goal.returns-clause-none
returns-clause-none c = λ is.
    let t = c.args.self.now in
    let le = le_of t.core.first_free t.core.limit is in
    free_less t.has_free t.core.first_free (t.core.limit - t.core.first_free) c.requires.free.0 c.requires.free.1 (omega (arith, le))
