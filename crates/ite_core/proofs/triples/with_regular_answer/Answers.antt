use Rattle.ite_core.proofs.TripleLaws.{IsNormal-flipped}
use Rattle.ite_core.proofs.triples.with_regular_answer.Goals as goal

pub returns : goal.returns
returns c = λ w d. IsNormal-flipped w c.args.f c.args.g c.args.h _ _ _ c.requires c.flip_if.ensures c.flip_if-2.ensures d
