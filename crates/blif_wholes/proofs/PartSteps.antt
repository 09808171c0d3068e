-- One cover or latch more.
use Rattle.std.proofs.Common.{◌≡◌, List, [], ◌∷◌, ◌++◌, refl, ap}
use Rattle.blif_models.specs.declared.numbered.Laid.{Laid}
use Rattle.blif_models.specs.declared.numbered.Laid.TheVariants as laid
use Rattle.blif_wholes.specs.Parting.{covers_laid, latches_laid}

pub covers_both : (front back : List Laid) → covers_laid (front ++ back) ≡ covers_laid front ++ covers_laid back
covers_both [] back = refl
covers_both (laid.Cover cover model place ∷ front) back = ap (λ t. record { cover = cover; model = model; place = place } ∷ t) (covers_both front back)
covers_both (laid.Latch latch ∷ front) back = covers_both front back

pub latches_both : (front back : List Laid) → latches_laid (front ++ back) ≡ latches_laid front ++ latches_laid back
latches_both [] back = refl
latches_both (laid.Cover cover model place ∷ front) back = latches_both front back
latches_both (laid.Latch latch ∷ front) back = ap (λ t. latch ∷ t) (latches_both front back)
