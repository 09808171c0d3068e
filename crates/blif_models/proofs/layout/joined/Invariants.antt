use Rattle.std.proofs.Common.{◌≡◌, ◌<◌, ℕ, None, get_or, length, take}
use Rattle.blif_models.specs.Layouts.{joined_to}
use Rattle.blif_models.proofs.layout.joined.Given as goal

abbrev pub invariant-loop-join : goal.invariant-loop-join
invariant-loop-join l = record {
  many : length l.joined.items ≡ l.names;
  joined : (name : ℕ) → name < l.names → get_or l.joined.items name None ≡ joined_to l.outer (take l.join-index l.joins) name;
}
