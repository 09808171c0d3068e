use Rattle.std.proofs.Common.{◌-◌, arith}
use Rattle.step_store.specs.Knowing.{word_of}
use Rattle.step_store.proofs.Moves.{free_none, refused_due, refuses}
use Rattle.step_store.proofs.Tables.{absent_word}
use Rattle.step_store.proofs.plain.PlainTableSteps.give_empty.Goals as goal

pub returns-clause-own : goal.returns-clause-own
returns-clause-own c =
    let t = c.args.self.now in
    let none = free_none t.has_free t.core.first_free (t.core.limit - t.core.first_free) c.requires.empty in
    let w = c.requires.wanted in
    let few = c.requires.own.few_fulls in
    refuses t.core c.requires.own c.saturating_add-self.result c.args.job.now (let e = c.saturating_add-self.ensures in omega (arith, e, few)) c.saturating_add-self.type_inv (omega (arith, none)) c.requires.calm.0 c.requires.may w.may
    (absent_word t c.requires.own c.args._bits (word_of c.args.job.now) c.ranges._bits.fits c.requires.calm.1 w.absent)

pub returns-clause-due : goal.returns-clause-due
returns-clause-due c = refused_due c.args.self.now.core c.saturating_add-self.result c.args.job.now
