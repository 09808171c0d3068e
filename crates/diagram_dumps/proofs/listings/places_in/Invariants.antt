use Rattle.std.proofs.Common.{◌≡◌, ◌+◌, ◌<◌, ◌≤◌, ℕ, drop, get_or, length}
use Rattle.function_laws.specs.SiftedOrders.{place_of}
use Rattle.diagram_dumps.proofs.listings.places_in.Given as goal

abbrev pub invariant-behind : goal.invariant-behind
invariant-behind l = record {
  as_many : length l.places.items ≡ length l.order;
  within : l.place ≤ length l.order;
  told : (v : ℕ) → v < length l.order → get_or l.places.items v 0 ≡ l.place + place_of v (drop l.place l.order);
}

abbrev pub decreases-behind : goal.decreases-behind
decreases-behind l = l.place
