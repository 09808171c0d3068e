use Rattle.std.proofs.Common.{◌<◌, sym, subst}
use Rattle.step_store.specs.Knowing.{IsWanted}
use Rattle.words_rule.specs.Known.{Own, known_of}
use Rattle.words_rule.specs.Passes.{me, view}
use Rattle.words_rule.specs.Plays.{HasTaken}
use Rattle.words_rule.proofs.known_steps.take_slot.Goals as goal

pub take_slot-requires-clause-bits : goal.take_slot-requires-clause-bits
take_slot-requires-clause-bits g c = subst (λ n. n < 18446744073709551616) (sym c.requires.same.1) c.ranges.bits.fits

pub take_slot-requires-clause-wanted : goal.take_slot-requires-clause-wanted
take_slot-requires-clause-wanted g c = (c.requires.wanted.0, subst (λ n. IsWanted (known_of (view c.args.pass.now) g.E.Wants.own) n c.requires.wanted.0) (sym c.requires.same.1) (subst (λ (o : Own). IsWanted (known_of (view c.args.pass.now) o) c.args.bits c.requires.wanted.0) (sym c.requires.same.0) c.requires.wanted.1))

pub returns-clause-taken : goal.returns-clause-taken
returns-clause-taken g c = λ slot list free. subst (λ n. HasTaken n slot (me c.args.pass.now) (me c.take_slot.new.pass)) c.requires.same.1 (c.take_slot.ensures.taken slot list free)
