-- What contracts say of shares and holds.
use Rattle.std.specs.Prelude.{◌≡◌, ◌≢◌, ◌⊎◌, ◌<◌, ◌≤◌, ℕ, true}
use Rattle.seat_guard.specs.declared.view.Share.TheVariants.{Nothing}
use Rattle.seat_guard.specs.declared.view.Hold.TheVariants.{Free, Claimed, Holding}
use Rattle.seat_guard.specs.declared.seat.Pass.{Pass}
use Rattle.seat_guard.specs.declared.seat.Guard.{Guard}
use Rattle.seat_guard.specs.declared.seat.OpShare.{OpShare}
use Rattle.seat_guard.specs.declared.seat.WalkShare.{WalkShare}
use Rattle.seat_guard.specs.declared.seat.OrderHold.{OrderHold}
use Rattle.seat_guard.specs.declared.seat.FullHold.{FullHold}
use Rattle.seat_guard.specs.Phase.{HasNoShare, ops_of, order_of, walks_of}
use Rattle.seat_guard.specs.CountPlays.{counts_without}
use Rattle.seat_guard.specs.Passes.{known, counts_of, in_hand, shares, IsPassOf}

module _ {S : Type 0} where
  -- a live pass of this table
  abbrev pub IsLiveOf : Guard S → Pass S → Type 0
  IsLiveOf g p = IsPassOf g p × ((known p).live ≡ true)

  -- with no share and no hold
  abbrev pub IsFreeOf : Guard S → Pass S → Type 0
  IsFreeOf g p = IsLiveOf g p × HasNoShare (shares p)

  -- only shares change
  abbrev pub Keeps : Pass S → Pass S → Type 0
  Keeps p q = (known q ≡ known p) × (in_hand q ≡ in_hand p) × (counts_of q ≡ counts_of p)

  -- shares change, and what was noted of counts under the order hold goes
  abbrev pub KeepsBut : Pass S → Pass S → Type 0
  KeepsBut p q = (known q ≡ known p) × (in_hand q ≡ in_hand p) × (counts_of q ≡ counts_without (shares p).order (counts_of p))

  -- the seat looked at the phase word meanwhile, and this is what its last look found
  abbrev pub Looked : Pass S → Pass S → ℕ → Type 0
  Looked p q n = ((shares p).looks < (shares q).looks) × ((shares q).noted ≡ n)

  abbrev pub IsShare : Guard S → OpShare S → Type 0
  IsShare g s = IsLiveOf g s.pass × ((shares s.pass).walk ≡ Nothing) × ((shares s.pass).order ≡ Free) × ((shares s.pass).full ≡ Free)

  abbrev pub IsWalk : Guard S → WalkShare S → Type 0
  IsWalk g s = IsLiveOf g s.pass × ((shares s.pass).op ≡ Nothing) × ((shares s.pass).order ≡ Free) × ((shares s.pass).full ≡ Free)

  abbrev pub IsHold : Guard S → OrderHold S → Type 0
  IsHold g h = IsLiveOf g h.pass × ((shares h.pass).op ≡ Nothing) × ((shares h.pass).walk ≡ Nothing) × ((shares h.pass).full ≡ Free)

  abbrev pub IsFullHold : Guard S → FullHold S → Type 0
  IsFullHold g h = IsLiveOf g h.pass × ((shares h.pass).op ≡ Nothing) × ((shares h.pass).walk ≡ Nothing)

  -- the order bit is claimed; it is held; both bits are claimed
  abbrev pub IsClaim : Guard S → Pass S → Type 0
  IsClaim g p = IsLiveOf g p × ((shares p).op ≡ Nothing) × ((shares p).walk ≡ Nothing) × ((shares p).full ≡ Free) × ((shares p).order ≡ Claimed)

  abbrev pub IsOrdered : Guard S → Pass S → Type 0
  IsOrdered g p = IsLiveOf g p × ((shares p).op ≡ Nothing) × ((shares p).walk ≡ Nothing) × ((shares p).full ≡ Free) × ((shares p).order ≡ Holding)

  abbrev pub IsFullClaim : Guard S → Pass S → Type 0
  IsFullClaim g p = IsLiveOf g p × ((shares p).op ≡ Nothing) × ((shares p).walk ≡ Nothing) × ((shares p).order ≡ Holding) × ((shares p).full ≡ Claimed)

  abbrev pub IsFull : Guard S → Pass S → Type 0
  IsFull g p = IsLiveOf g p × ((shares p).op ≡ Nothing) × ((shares p).walk ≡ Nothing) × ((shares p).order ≡ Holding) × ((shares p).full ≡ Holding)

-- the phase word bars an operation share: it has the order bit or the full bit; and a walk share: it has the full bit
abbrev pub BarsOperations : ℕ → Type 0
BarsOperations n = 4294967296 ≤ n

abbrev pub BarsWalks : ℕ → Type 0
BarsWalks n = 8589934592 ≤ n

-- it bars the order hold: it has the order bit, or an operation share; and the full hold: it has a walk share
abbrev pub BarsOrder : ℕ → Type 0
BarsOrder n = (order_of n ≢ 0) ⊎ (ops_of n ≢ 0)

abbrev pub BarsFull : ℕ → Type 0
BarsFull n = walks_of n ≢ 0
