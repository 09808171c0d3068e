-- What each step on the phase word tells.
use Rattle.std.specs.Prelude.{◌≡◌, ◌≢◌, ℕ, ◌<◌, ◌≤◌}
use Rattle.atomic_table.specs.Table.{Me, Step}
use Rattle.seat_guard.specs.declared.view.Share.TheVariants.{Nothing, Held, Owed}
use Rattle.seat_guard.specs.declared.view.Hold.TheVariants.{Free, Claimed, Holding}
use Rattle.seat_guard.specs.declared.view.Shares.{Shares}
use Rattle.seat_guard.specs.declared.view.View.{View}
use Rattle.seat_guard.specs.CountPlays.{counts_without}
use Rattle.seat_guard.specs.Phase.{ops_of, order_of, passed, saw, walks_of}

module _ {S : Type 0} where
  -- only the shares change, and to these
  abbrev pub IsWith : Me S View → Shares → Me S View → Type 0
  IsWith m x m' = m' ≡ (record m.0 { shares = x }, m.1)

  -- an operation share is held where the word before had neither bit, else it is owed
  abbrev pub op_entered : Step S → Me S View → ℕ → Me S View → Type 0
  op_entered st m n m' = (n < 4294967296 → IsWith m (record (saw m.0.shares n) { op = Held }) m') × (4294967296 ≤ n → IsWith m (record (saw m.0.shares n) { op = Owed }) m')

  abbrev pub op_left : Step S → Me S View → ℕ → Me S View → Type 0
  op_left st m n m' = IsWith m (record (passed m.0.shares) { op = Nothing }) m'

  -- a walk share is held where the word before had not the full bit, else it is owed
  abbrev pub walk_entered : Step S → Me S View → ℕ → Me S View → Type 0
  walk_entered st m n m' = (n < 8589934592 → IsWith m (record (saw m.0.shares n) { walk = Held }) m') × (8589934592 ≤ n → IsWith m (record (saw m.0.shares n) { walk = Owed }) m')

  abbrev pub walk_left : Step S → Me S View → ℕ → Me S View → Type 0
  walk_left st m n m' = IsWith m (record (passed m.0.shares) { walk = Nothing }) m'

  -- the order bit is claimed if it was clear
  abbrev pub order_claimed : Step S → Me S View → ℕ → Me S View → Type 0
  order_claimed st m n m' = (order_of n ≡ 0 → IsWith m (record (saw m.0.shares n) { order = Claimed }) m') × (order_of n ≢ 0 → IsWith m (saw m.0.shares n) m')

  -- the claim becomes a hold once a load finds no operation share
  abbrev pub order_looked : Step S → Me S View → ℕ → Me S View → Type 0
  order_looked st m n m' = (ops_of n ≡ 0 → IsWith m (record (saw m.0.shares n) { order = Holding }) m') × (ops_of n ≢ 0 → IsWith m (saw m.0.shares n) m')

  -- what was noted of counts under a hold goes with it
  abbrev pub order_cleared : Step S → Me S View → ℕ → Me S View → Type 0
  order_cleared st m n m' = m' ≡ (record m.0 { shares = record (passed m.0.shares) { order = Free }; counts = counts_without m.0.shares.order m.0.counts }, m.1)

  -- the holder of the order claims the full bit, which nobody else does
  abbrev pub full_claimed : Step S → Me S View → ℕ → Me S View → Type 0
  full_claimed st m n m' = IsWith m (record (passed m.0.shares) { full = Claimed }) m'

  -- and has the full hold once a load finds no walk share
  abbrev pub full_looked : Step S → Me S View → ℕ → Me S View → Type 0
  full_looked st m n m' = (walks_of n ≡ 0 → IsWith m (record (saw m.0.shares n) { full = Holding }) m') × (walks_of n ≢ 0 → IsWith m (saw m.0.shares n) m')

  abbrev pub full_cleared : Step S → Me S View → ℕ → Me S View → Type 0
  full_cleared st m n m' = IsWith m (record (passed m.0.shares) { full = Free }) m'

  abbrev pub never : Step S → Me S View → ℕ → Me S View → Type 0
  never st m n m' = ⊥
