use Rattle.std.proofs.Common.{sym, subst}
use Rattle.edge_bits.specs.declared.words.Word.TheVariants.{Inner}
use Rattle.hold_store.specs.Held.{HasLevel, level_of_word}
use Rattle.hold_store.proofs.NodeSteps.{has_turn, variable_within}
use Rattle.hold_store.proofs.Walked.{absent, placed_found, placed_stored, walked_new, walked_ready, walked_some}
use Rattle.hold_store.proofs.placing.place_node.Goals as goal

pub find-requires-clause-calm : goal.find-requires-clause-calm
find-requires-clause-calm g c = c.requires.ready.loose

pub find-requires-clause-turn : goal.find-requires-clause-turn
find-requires-clause-turn g c =
    let k = g.S.Holds.known c.args.seat.now in
    let r = c.requires.can in
    subst (HasLevel k.hand) (sym r.2) (has_turn k c.requires.ready (level_of_word k (Inner r.0)) (variable_within k r.3.kind r.0 r.3.in_range))

pub find-requires-clause-word : goal.find-requires-clause-word
find-requires-clause-word g c = (Inner c.requires.can.0, c.requires.can.1, c.requires.can.2)

pub returns-in-Some-clause-ready : goal.returns-in-Some-clause-ready
returns-in-Some-clause-ready g c = walked_ready (g.S.Holds.known c.args.seat.now) (g.S.Holds.known c.find.new.seat) c.find.ensures.same c.requires.ready

pub returns-in-Some-clause-placed : goal.returns-in-Some-clause-placed
returns-in-Some-clause-placed g c = placed_found (g.S.Holds.known c.args.seat.now) (g.S.Holds.known c.find.new.seat) c.find.ensures.same (g.met.S.Holds.stands c.args.seat.now c.requires.own) c.args.bits c.in-Some.slot c.in-Some.ensures.found.1

pub store_new-requires-clause-ready : goal.store_new-requires-clause-ready
store_new-requires-clause-ready g c = walked_ready (g.S.Holds.known c.args.seat.now) (g.S.Holds.known c.find.new.seat) c.find.ensures.same c.requires.ready

pub store_new-requires-clause-some : goal.store_new-requires-clause-some
store_new-requires-clause-some g c = walked_some (g.S.Holds.known c.args.seat.now) (g.S.Holds.known c.find.new.seat) c.find.ensures.same (g.met.S.Holds.stands c.args.seat.now c.requires.own) c.requires.can.0 c.requires.can.3
    (absent (g.S.Holds.known c.args.seat.now) (g.S.Holds.known c.find.new.seat) c.find.ensures.same c.args.bits c.requires.can.0 c.requires.can.1 c.in-None.ensures.none)

pub store_new-requires-clause-new : goal.store_new-requires-clause-new
store_new-requires-clause-new g c = walked_new (g.S.Holds.known c.args.seat.now) (g.S.Holds.known c.find.new.seat) c.find.ensures.same c.args.bits c.requires.can.0 c.requires.can.1 c.requires.can.3
    (absent (g.S.Holds.known c.args.seat.now) (g.S.Holds.known c.find.new.seat) c.find.ensures.same c.args.bits c.requires.can.0 c.requires.can.1 c.in-None.ensures.none)

pub returns-in-None-clause-placed : goal.returns-in-None-clause-placed
returns-in-None-clause-placed g c = placed_stored (g.S.Holds.known c.args.seat.now) (g.S.Holds.known c.find.new.seat) c.find.ensures.same c.args.bits c.in-None.ensures.none (g.S.Holds.known c.store_new.new.seat) c.store_new.result c.store_new.ensures.free c.store_new.ensures.stored
