use Rattle.session_tests.proofs.listings.not.Goals as goal

pub not-requires : goal.not-requires
not-requires g c = record { own = c.requires.own; room = c.ready.ensures.room; can = (c.ready.ensures.first, tt) }
