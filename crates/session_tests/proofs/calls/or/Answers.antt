use Rattle.session_tests.proofs.calls.or.Goals as goal

pub or-requires : goal.or-requires
or-requires g c = record { own = c.requires.own; room = c.ready.ensures.room; can = (c.ready.ensures.first, (c.ready.ensures.second, tt)) }
