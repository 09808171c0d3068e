use Rattle.session_tests.proofs.calls.and.Goals as goal

pub and-requires : goal.and-requires
and-requires g c = record { own = c.requires.own; room = c.ready.ensures.room; can = (c.ready.ensures.first, (c.ready.ensures.second, tt)) }
