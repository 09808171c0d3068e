use Rattle.std.proofs.Common.{ap, ◌∙◌}
use Rattle.node_slots.specs.Held.{Held}
use Rattle.node_slots.specs.Stores.{slots}
use Rattle.store_tests.proofs.StoreLemmas.{some_word}
use Rattle.store_tests.proofs.stores.pin.Goals as goal

pub pin-requires-clause-used : goal.pin-requires-clause-used
pin-requires-clause-used c =
    let same = ap (λ (h : Held). slots h.plain c.args.slot) c.hold-held.ensures.rest in
    let w = some_word (slots c.args.store c.args.slot) (c.is_used.ensures.0 c.if-is_used.true) in
    (w.0, same ∙ w.1)
