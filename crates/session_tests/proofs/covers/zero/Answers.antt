use Rattle.session_tests.proofs.covers.zero.Goals as goal

pub zero-requires : goal.zero-requires
zero-requires g c = record { own = c.requires.own; room = c.has_room.ensures; can = tt }
