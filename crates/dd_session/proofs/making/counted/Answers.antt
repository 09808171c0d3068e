use Rattle.dd_session.proofs.making.counted.Goals as goal

pub read_counts-requires-clause-fresh : goal.read_counts-requires-clause-fresh
read_counts-requires-clause-fresh c = (c.requires.clear.1, c.requires.clear.0.pins)
