use Rattle.node_slots.specs.Stores.{lent_room}
use Rattle.words_rule.proofs.Steppers.{first_stepper}
use Rattle.words_rule.proofs.seat.Guard.stepper.Goals as goal
use Rattle.std.proofs.Common.{refl}

pub returns-clause-own : goal.returns-clause-own
returns-clause-own g c = (first_stepper g.S.Content.free_slots g.S.Content.memo c.args.self.now c.args.share (lent_room c.args.scratch) c.requires.own c.requires.stands c.requires.few c.requires.idle c.requires.empty, refl, refl)
