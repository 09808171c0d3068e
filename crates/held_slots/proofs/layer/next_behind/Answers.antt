use Rattle.std.proofs.Common.{◌+◌, ◌/◌, subst, arith}
use Rattle.held_slots.specs.SlotSets.{IsNext, has_some}
use Rattle.held_slots.proofs.Layers.{next_of}
use Rattle.held_slots.proofs.layer.next_behind.Goals as goal

pub returns : goal.returns
returns c =
    let word = c.in_ok-word.field-0 in
    let next = subst (IsNext (has_some c.args.bits.now) (c.args.from / 64 + 1)) c.in_ok-word.was c.requires.word in
    let fits = c.type_inv.bits word in
    next_of c.args.bits.now c.args.from word c.requires.here next (omega (arith, fits)) c.next_in_word.result c.next_in_word.ensures
