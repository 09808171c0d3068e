-- Models in an order in which each stands behind those that it holds.
use Rattle.std.specs.Prelude.{◌≡◌, ℕ, suc, ◌-◌, ◌^◌, ◌==◌, ◌<◌, Bool, true, List, [], ◌∷◌, get_or, if◌then◌else◌}
use Rattle.blif_order.specs.Orders.{Ordered, is_in, reads_of}
use Rattle.blif_models.specs.Models.{Model}
use Rattle.blif_models.specs.Graphs.{AreTotals}
use Rattle.blif_models.specs.ModelGraphs.{AreNoted, IsGraph, own_copies, own_signals}
use Rattle.blif_models.specs.Layouts.{counted}
use Rattle.blif_models.specs.Numberings.{IsCounted}

-- the first place of a model in an order
abbrev pub place_in : List ℕ → ℕ → ℕ
place_in [] m = 0
place_in (n ∷ order) m = if n == m then 0 else suc (place_in order m)

-- these places are ranks: a model stands behind those that it holds
abbrev pub PlacesAreRanks : Type 0
PlacesAreRanks = (holds : List (List ℕ)) (order : List ℕ) → Ordered holds [] order → (m n : ℕ) → is_in order m ≡ true → is_in (reads_of holds m) n ≡ true → place_in order n < place_in order m

-- What the models of an order have in all is what is counted through as many levels as their ranks, where copies are fewer than 2^64 - 1.
abbrev pub TotalsAreCounts : Type 0
TotalsAreCounts =
    (models : List Model) (among : ℕ → Bool) (holds : List (List ℕ)) (own_c own_s order copies signals : List ℕ) → IsGraph models among holds → AreNoted models among own_copies own_c → AreNoted models among own_signals own_s
    → Ordered holds [] order → ((m : ℕ) → among m ≡ true → is_in order m ≡ true) → AreTotals holds own_c order copies → AreTotals holds own_s order signals → ((m : ℕ) → among m ≡ true → get_or copies m 0 < 2 ^ 64 - 1)
    → IsCounted models among (place_in order) (counted copies signals)
