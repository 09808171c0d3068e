use Rattle.std.proofs.Common.{◌/◌, arith}
use Rattle.held_slots.proofs.Layers.{none_in_word, found_in_word}
use Rattle.held_slots.proofs.layer.next_in_word.Goals as goal

pub returns-then-rest-eq0 : goal.returns-then-rest-eq0
returns-then-rest-eq0 c = none_in_word c.args.bits.now c.args.from c.if-rest-eq0.true

pub returns-else-rest-eq0 : goal.returns-else-rest-eq0
returns-else-rest-eq0 c = found_in_word c.args.bits.now c.args.from (let fits = c.type_inv.bits (c.args.from / 64) in omega (arith, fits)) c.if-rest-eq0.false
