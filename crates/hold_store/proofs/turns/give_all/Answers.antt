use Rattle.std.proofs.Common.{[], None, sym, ap, ◌∙◌}
use Rattle.hold_store.specs.Held.{Hand, Knowledge, all_turns, down, handed}
use Rattle.hold_store.proofs.Levels.{all_given}
use Rattle.hold_store.proofs.turns.give_all.Goals as goal

pub give_free-requires-clause-free : goal.give_free-requires-clause-free
give_free-requires-clause-free g c = (c.requires.ready.free, c.requires.ready.has_free)

pub give_free-requires-clause-calm : goal.give_free-requires-clause-calm
give_free-requires-clause-calm g c = c.requires.ready.loose

pub give_turns-requires-clause-all : goal.give_turns-requires-clause-all
give_turns-requires-clause-all g c = ap (λ (x : Knowledge). x.hand.levels) c.give_free.ensures.given ∙ c.requires.ready.levels ∙ ap (λ (x : Knowledge). down (all_turns x)) (sym c.give_free.ensures.given)

pub give_turns-requires-clause-calm : goal.give_turns-requires-clause-calm
give_turns-requires-clause-calm g c = ap (λ (x : Knowledge). x.hand.loose) c.give_free.ensures.given ∙ c.requires.ready.loose

pub returns-clause-given : goal.returns-clause-given
returns-clause-given g c =
    let k = g.S.Holds.known c.args.seat.now in
    c.give_turns.ensures.given ∙ ap (λ (x : Knowledge). handed x (record x.hand { levels = []; walk = None })) c.give_free.ensures.given ∙ ap (λ (h : Hand). handed k h) (all_given k c.requires.ready c.requires.named)
