use Rattle.dd_session.specs.Siftings.{sift_telling}
use Rattle.dd_session.proofs.sifting.sift_at.Given as goal

abbrev pub ghosts-sift_shared : goal.ghosts-sift_shared
ghosts-sift_shared g a = record { told = sift_telling a.order a.blocks.now a.shared }
