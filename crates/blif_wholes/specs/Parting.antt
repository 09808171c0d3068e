-- Covers and latches among what is laid out.
use Rattle.std.specs.Prelude.{List, [], ◌∷◌}
use Rattle.blif_models.specs.declared.numbered.Laid.{Laid}
use Rattle.blif_models.specs.declared.numbered.Laid.TheVariants as laid
use Rattle.blif_models.specs.declared.numbered.NumberedLatch.{NumberedLatch}
use Rattle.blif_wholes.specs.declared.parting.WholeCover.{WholeCover}

abbrev pub covers_laid : List Laid → List WholeCover
covers_laid [] = []
covers_laid (laid.Cover cover model place ∷ all) = record { cover = cover; model = model; place = place } ∷ covers_laid all
covers_laid (laid.Latch latch ∷ all) = covers_laid all

abbrev pub latches_laid : List Laid → List NumberedLatch
latches_laid [] = []
latches_laid (laid.Cover cover model place ∷ all) = latches_laid all
latches_laid (laid.Latch latch ∷ all) = latch ∷ latches_laid all
