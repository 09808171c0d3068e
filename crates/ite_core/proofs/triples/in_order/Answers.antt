use Rattle.std.proofs.Common.{sym, ◌∙◌}
use Rattle.ite_core.proofs.TripleLaws.{SameAnswer-reduced, SameAnswer-exchanged}
use Rattle.ite_core.proofs.triples.in_order.Goals as goal

pub returns-then-index-2 : goal.returns-then-index-2
returns-then-index-2 c = λ w d.
    let s = SameAnswer-exchanged w c.args.f c.args.g c.args.h c.flip_if.result c.flip_if.ensures (sym c.index.ensures ∙ c.if-index.true ∙ c.index-2.ensures) c.requires.apart d in
    SameAnswer-reduced w c.args.f c.args.g c.args.h _ _ _ s c.with_regular_condition.result (c.with_regular_condition.ensures w s.three)
