use Rattle.dd_session.proofs.session.Session.minus.Goals as goal

pub make_exact-requires-clause-may : goal.make_exact-requires-clause-may
make_exact-requires-clause-may g c = c.requires

pub returns : goal.returns
returns g c = c.make_exact.ensures
