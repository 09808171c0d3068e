use Rattle.std.proofs.Common.{◌-◌, arith}
use Rattle.step_store.proofs.Moves.{free_some, takes}
use Rattle.step_store.proofs.Tables.{absent_word}
use Rattle.step_store.proofs.plain.PlainTableSteps.take_slot.Goals as goal

pub returns-clause-own : goal.returns-clause-own
returns-clause-own c =
    let t = c.args.self.now in
    let some = free_some t.has_free t.core.first_free (t.core.limit - t.core.first_free) c.requires.some.0 c.requires.some.1 c.requires.some.2 in
    let w = c.requires.wanted in
    takes t.core c.requires.own c.args.bits w.0 c.ranges.bits.fits (omega (arith, some)) c.requires.calm.0 w.1.absent.reads w.1.may (absent_word t c.requires.own c.args.bits w.0 c.ranges.bits.fits c.requires.calm.1 w.1.absent)

pub returns-clause-within : goal.returns-clause-within
returns-clause-within c =
    let t = c.args.self.now in
    let some = free_some t.has_free t.core.first_free (t.core.limit - t.core.first_free) c.requires.some.0 c.requires.some.1 c.requires.some.2 in
    let m = c.requires.own.as_many in omega (arith, some, m)
