use Rattle.std.proofs.Common.{length}
use Rattle.function_laws.proofs.SizeLemmas.{or_within}
use Rattle.function_laws.proofs.places.union_at.Goals as goal

pub bounds-p-a : goal.bounds-p-a
bounds-p-a c = or_within (length c.args.p.now) c.args.a c.args.b c.requires.size c.requires.first c.requires.second
