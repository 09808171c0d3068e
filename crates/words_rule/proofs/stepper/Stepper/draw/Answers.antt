use Rattle.std.proofs.Common.{ap, sym, ◌∙◌}
use Rattle.node_slots.specs.Stores.{lent_room}
use Rattle.words_rule.specs.declared.view.View.{View}
use Rattle.words_rule.specs.Steppers.{knows}
use Rattle.words_rule.proofs.Steppers.{drawn_on}
use Rattle.words_rule.proofs.stepper.Stepper.draw.Goals as goal

pub returns-clause-own : goal.returns-clause-own
returns-clause-own g c = drawn_on g.S.Content.free_slots g.S.Content.memo c.args.self.now.guard.now c.args.self.now.pass c.place.new.pass c.args.self.now.free c.args.self.now.memo (lent_room c.args.self.now.scratch) c.requires.own c.place.result g.E.Told.told c.place.ensures.own.0 c.place.ensures.own.1 c.place.ensures.drew

pub returns-clause-same : goal.returns-clause-same
returns-clause-same g c = (ap (λ (u : View). knows u (lent_room c.args.self.now.scratch)) c.place.ensures.drew, c.place.ensures.own.0 ∙ sym c.requires.own.own.0)
