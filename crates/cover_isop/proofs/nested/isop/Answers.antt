use Rattle.cover_isop.proofs.nested.isop.Goals as goal

pub cover_between-requires-clause-bounds : goal.cover_between-requires-clause-bounds
cover_between-requires-clause-bounds g c = record { variables = c.requires.variables; literals = c.requires.literals; two = c.requires.bounds }
