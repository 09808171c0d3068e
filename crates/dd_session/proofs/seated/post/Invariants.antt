use Rattle.shared_store.specs.Sharing.{held_of, view_of}
use Rattle.dd_session.proofs.seated.post.Given as goal

abbrev pub ghosts-raise : goal.ghosts-raise
ghosts-raise g a = record { held = held_of (view_of a.shared.now) a.cell }
