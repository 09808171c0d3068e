use Rattle.std.proofs.Common.{◌≡◌, ◌+◌, ap, ◌∙◌, arith}
use Rattle.hold_store.specs.Held.{all_turns, down}
use Rattle.hold_store.proofs.turns.give_turns.Goals as goal

pub give_down-requires-clause-all : goal.give_down-requires-clause-all
give_down-requires-clause-all g c =
    let k = g.S.Holds.known c.args.seat.now in
    let v = c.vars.ensures in
    let e = c.elements.ensures in
    let same : all_turns k ≡ c.vars.result + c.elements.result + 1 = omega (arith, v, e) in
    c.requires.all ∙ ap down same
