use Rattle.std.proofs.Common.{[], sym, ap, ◌∙◌, subst}
use Rattle.hold_store.specs.Held.{HasTurnOf, IsFront, Knowledge, handed, loosened}
use Rattle.hold_store.proofs.Loosing.{front_on}
use Rattle.hold_store.proofs.chains.unlink_front.Goals as goal

pub load_next-link-requires-clause-on : goal.load_next-link-requires-clause-on
load_next-link-requires-clause-on g c = front_on (g.S.Holds.known c.args.seat.now) c.args.head c.args.slot c.requires.first

pub unlink_first-requires-clause-first : goal.unlink_first-requires-clause-first
unlink_first-requires-clause-first g c = subst (λ (k : Knowledge). IsFront k c.args.head c.args.slot) (sym c.load_next-link.ensures.same) c.requires.first

pub unlink_first-requires-clause-link : goal.unlink_first-requires-clause-link
unlink_first-requires-clause-link g c = λ n behind is rest. c.load_next-link.ensures.next n [] behind (sym (ap (λ (k : Knowledge). k.hand.walk) c.load_next-link.ensures.same) ∙ is) rest

pub unlink_first-requires-clause-turn : goal.unlink_first-requires-clause-turn
unlink_first-requires-clause-turn g c = subst (λ (k : Knowledge). HasTurnOf k c.args.slot) (sym c.load_next-link.ensures.same) c.requires.turn

pub returns-clause-off : goal.returns-clause-off
returns-clause-off g c = c.unlink_first.ensures.off ∙ ap (λ (k : Knowledge). handed k (loosened c.args.slot k.hand)) c.load_next-link.ensures.same
