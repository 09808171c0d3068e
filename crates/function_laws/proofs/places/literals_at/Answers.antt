use Rattle.std.proofs.Common.{length}
use Rattle.function_laws.proofs.SizeLemmas.{set_bits-within}
use Rattle.function_laws.proofs.places.literals_at.Goals as goal

pub bounds-f-at : goal.bounds-f-at
bounds-f-at c = set_bits-within (length c.args.f.now) c.args.k c.args.cares c.args.bits c.requires.size c.requires.place c.requires.bits
