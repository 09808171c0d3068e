use Rattle.std.proofs.Common.{◌-◌, sym, subst}
use Rattle.hold_store.specs.Held.{ComesBehind, HasTurnOf, IsFront, Knowledge}
use Rattle.hold_store.proofs.Loosing.{is_first, is_later, turn_of_level}
use Rattle.hold_store.proofs.chains.take_off.Goals as goal

pub unlink_front-requires-clause-first : goal.unlink_front-requires-clause-first
unlink_front-requires-clause-first g c =
    let k = g.S.Holds.known c.args.seat.now in
    let l = c.load_head-first.ensures.loaded in
    subst (λ (x : Knowledge). IsFront x c.args.head c.args.slot) (sym l.1) (is_first k c.args.slot c.args.head c.args.level l.0 l.3 c.requires.calm c.requires.high c.requires.word c.requires.head c.load_head-first.result l.2 c.if-first-slot.true)

pub unlink_front-requires-clause-turn : goal.unlink_front-requires-clause-turn
unlink_front-requires-clause-turn g c =
    let k = g.S.Holds.known c.args.seat.now in
    subst (λ (x : Knowledge). HasTurnOf x c.args.slot) (sym c.load_head-first.ensures.loaded.1) (turn_of_level k c.args.slot c.args.level c.requires.word c.requires.turn)

pub unlink_behind-requires-clause-behind : goal.unlink_behind-requires-clause-behind
unlink_behind-requires-clause-behind g c =
    let k = g.S.Holds.known c.args.seat.now in
    let l = c.load_head-first.ensures.loaded in
    subst (λ (x : Knowledge). ComesBehind x (c.load_head-first.result - 1) c.args.slot) (sym l.1) (is_later k c.args.slot c.args.head c.args.level l.0 l.3 c.requires.calm c.requires.high c.requires.word c.requires.head c.load_head-first.result l.2 c.if-first-slot.false).1

pub unlink_behind-requires-clause-turn : goal.unlink_behind-requires-clause-turn
unlink_behind-requires-clause-turn g c =
    let k = g.S.Holds.known c.args.seat.now in
    subst (λ (x : Knowledge). HasTurnOf x c.args.slot) (sym c.load_head-first.ensures.loaded.1) (turn_of_level k c.args.slot c.args.level c.requires.word c.requires.turn)

pub overflow_sub-first : goal.overflow_sub-first
overflow_sub-first g c =
    let k = g.S.Holds.known c.args.seat.now in
    let l = c.load_head-first.ensures.loaded in
    (is_later k c.args.slot c.args.head c.args.level l.0 l.3 c.requires.calm c.requires.high c.requires.word c.requires.head c.load_head-first.result l.2 c.if-first-slot.false).0
