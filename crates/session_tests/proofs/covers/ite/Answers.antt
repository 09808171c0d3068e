use Rattle.session_tests.proofs.covers.ite.Goals as goal

pub ite-requires : goal.ite-requires
ite-requires g c = record { own = c.requires.own; room = c.ready.ensures.room; can = (c.ready.ensures.first, (c.ready.ensures.second, (c.ready-2.ensures.second, tt))) }
