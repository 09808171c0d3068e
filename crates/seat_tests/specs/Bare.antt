-- Seats that have nothing of the counts under way.
use Rattle.std.specs.Prelude.{◌≡◌, []}
use Rattle.seat_guard.specs.declared.seat.Guard.{Guard}
use Rattle.seat_guard.specs.declared.seat.Pass.{Pass}
use Rattle.seat_guard.specs.Passes.{counts_of}
use Rattle.seat_guard.specs.Tokens.{IsFreeOf}

module _ {S : Type 0} where
  -- it is free, and pinned nothing
  abbrev pub IsBare : Guard S → Pass S → Type 0
  IsBare g p = IsFreeOf g p × ((counts_of p).pins ≡ [])
