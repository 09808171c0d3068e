use Rattle.seat_guard.specs.Passes.{known}
use Rattle.shared_store.proofs.Storing.{leaving_of}
use Rattle.shared_store.proofs.returning.put_back.Given as goal

abbrev pub ghosts-leave : goal.ghosts-leave
ghosts-leave a = record { leaving = leaving_of (known a.pass.now) a.shared }
