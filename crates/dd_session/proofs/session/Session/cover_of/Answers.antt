use Rattle.dd_session.proofs.session.Session.cover_of.Goals as goal

pub make_row-requires-clause-may : goal.make_row-requires-clause-may
make_row-requires-clause-may g c = c.requires

pub returns : goal.returns
returns g c = c.make_row.ensures
