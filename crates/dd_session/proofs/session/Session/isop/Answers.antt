use Rattle.dd_session.proofs.session.Session.isop.Goals as goal

pub make-requires : goal.make-requires
make-requires g c = c.requires
