use Rattle.std.proofs.Common.{◌≡◌, drop, length}
use Rattle.std.specs.Prelude.{nat_lt}
use Rattle.std.specs.List.{list_all}
use Rattle.blif_models.proofs.arranging.are_few.Given as goal

abbrev pub invariant-loop-held : goal.invariant-loop-held
invariant-loop-held l = list_all (λ held. nat_lt (length held) 4294967295) l.holds ≡ list_all (λ held. nat_lt (length held) 4294967295) (drop l.held-index l.holds)
