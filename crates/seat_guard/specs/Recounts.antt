-- What contracts say of a pass that counts.
use Rattle.std.specs.Prelude.{◌≡◌, ℕ, ◌<◌, true}
use Rattle.seat_guard.specs.declared.seat.Pass.{Pass}
use Rattle.seat_guard.specs.declared.seat.Guard.{Guard}
use Rattle.seat_guard.specs.Passes.{known, in_hand, shares, IsPassOf}

module _ {S : Type 0} where
  -- a live pass of this table, which has such a slot
  abbrev pub IsAt : Guard S → Pass S → ℕ → Type 0
  IsAt g p slot = IsPassOf g p × ((known p).live ≡ true) × (slot < (known p).slots)

  -- only counts change
  abbrev pub OnlyCounts : Guard S → Pass S → Pass S → Type 0
  OnlyCounts g p q = IsPassOf g q × (known q ≡ known p) × (in_hand q ≡ in_hand p) × (shares q ≡ shares p)
