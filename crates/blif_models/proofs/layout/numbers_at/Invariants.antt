use Rattle.std.proofs.Common.{◌≡◌, get_or, map, take}
use Rattle.blif_models.proofs.layout.numbers_at.Given as goal

abbrev pub invariant-loop-place : goal.invariant-loop-place
invariant-loop-place l = l.numbers.items ≡ map (λ n. get_or l.table n 0) (take l.place-index l.places)
