use Rattle.session_tests.proofs.listings.xor.Goals as goal

pub xor-requires : goal.xor-requires
xor-requires g c = record { own = c.requires.own; room = c.ready.ensures.room; can = (c.ready.ensures.first, (c.ready.ensures.second, tt)) }
