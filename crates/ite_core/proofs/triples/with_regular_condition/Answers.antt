use Rattle.ite_core.proofs.TripleLaws.{SameAnswer-reduced, SameAnswer-swapped}
use Rattle.ite_core.proofs.triples.with_regular_condition.Goals as goal

pub returns-then-complement : goal.returns-then-complement
returns-then-complement c = λ w d.
    let s = SameAnswer-swapped w c.args.f c.args.g c.args.h _ c.flip_if.ensures d in
    SameAnswer-reduced w c.args.f c.args.g c.args.h _ _ _ s c.with_regular_answer.result (c.with_regular_answer.ensures w s.three)
