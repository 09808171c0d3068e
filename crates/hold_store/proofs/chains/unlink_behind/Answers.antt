use Rattle.std.proofs.Common.{sym, ap, ◌∙◌, subst}
use Rattle.hold_store.specs.Held.{HasTurnOf, Knowledge, StandsBefore, handed, loosened}
use Rattle.hold_store.proofs.Loosing.{on_it}
use Rattle.hold_store.proofs.chains.unlink_behind.Goals as goal

pub load_next-link-requires-clause-on : goal.load_next-link-requires-clause-on
load_next-link-requires-clause-on g c = on_it (g.S.Holds.known c.slot_before-before.new.seat) c.slot_before-before.result c.args.slot
    (subst (λ (k : Knowledge). StandsBefore k c.slot_before-before.result c.args.slot) (sym c.slot_before-before.ensures.same) c.slot_before-before.ensures.before)

pub unlink_later-requires-clause-later : goal.unlink_later-requires-clause-later
unlink_later-requires-clause-later g c = subst (λ (k : Knowledge). StandsBefore k c.slot_before-before.result c.args.slot) (sym (c.load_next-link.ensures.same ∙ c.slot_before-before.ensures.same)) c.slot_before-before.ensures.before

pub unlink_later-requires-clause-link : goal.unlink_later-requires-clause-link
unlink_later-requires-clause-link g c = λ n front behind is rest. c.load_next-link.ensures.next n front behind (sym (ap (λ (k : Knowledge). k.hand.walk) c.load_next-link.ensures.same) ∙ is) rest

pub unlink_later-requires-clause-turn : goal.unlink_later-requires-clause-turn
unlink_later-requires-clause-turn g c = subst (λ (k : Knowledge). HasTurnOf k c.args.slot) (sym (c.load_next-link.ensures.same ∙ c.slot_before-before.ensures.same)) c.requires.turn

pub returns-clause-off : goal.returns-clause-off
returns-clause-off g c = c.unlink_later.ensures.off ∙ ap (λ (k : Knowledge). handed k (loosened c.args.slot k.hand)) (c.load_next-link.ensures.same ∙ c.slot_before-before.ensures.same)
