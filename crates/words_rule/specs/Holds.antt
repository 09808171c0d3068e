-- What contracts say of the full hold, and of holds that are waited for.
use Rattle.std.specs.Prelude.{◌≡◌, ◌≢◌, ℕ, [], None}
use Rattle.words_rule.specs.declared.view.Hold.TheVariants.{Claimed, Free, Holding}
use Rattle.words_rule.specs.declared.view.Share.TheVariants.{Nothing}
use Rattle.words_rule.specs.declared.view.View.{View}
use Rattle.words_rule.specs.declared.seat.Pass.{Pass}
use Rattle.words_rule.specs.declared.seat.Guard.{Guard}
use Rattle.words_rule.specs.declared.seat.FullHold.{FullHold}
use Rattle.words_rule.specs.Hands.{IsIdle}
use Rattle.words_rule.specs.Phase.{walks_of}
use Rattle.words_rule.specs.PhasePlays.{unswapped}
use Rattle.words_rule.specs.Passes.{view, IsLiveOf}
use Rattle.words_rule.specs.Tokens.{Keeps}
use Rattle.words_rule.specs.Views.{orders_of, told_orders}

-- no swap is half made, as far as it knows, and no order word is due
pub record IsUnswapped (v : View) : Type 0 where
  pub half : v.known.half ≡ None
  pub pending : v.known.pending ≡ []

module _ {S : Type 0} where
  -- only shares change
  abbrev pub KeepsNotes : Pass S → Pass S → Type 0
  KeepsNotes p q = Keeps p q × ((view q).known ≡ (view p).known)

  -- shares change, and it knows that no swap is half made
  abbrev pub TakesAll : Pass S → Pass S → Type 0
  TakesAll p q = Keeps p q × ((view q).known ≡ unswapped (view p).known)

  -- the full hold alone, in the midst of nothing
  abbrev pub IsFullHold : Guard S → FullHold S → Type 0
  IsFullHold g h = IsLiveOf g h.pass × ((view h.pass).shares.op ≡ Nothing) × ((view h.pass).shares.walk ≡ Nothing) × IsIdle (view h.pass).hand × IsUnswapped (view h.pass)

  -- the order bit is claimed; the order is held, and the entries told it; both bits are claimed; both are held
  pub record IsClaim (g : Guard S) (p : Pass S) : Type 0 where
    pub own : IsLiveOf g p
    pub op : (view p).shares.op ≡ Nothing
    pub walk : (view p).shares.walk ≡ Nothing
    pub full : (view p).shares.full ≡ Free
    pub idle : IsIdle (view p).hand
    pub claim : (view p).shares.order ≡ Claimed

  pub record IsOrdered (g : Guard S) (p : Pass S) : Type 0 where
    pub own : IsLiveOf g p
    pub op : (view p).shares.op ≡ Nothing
    pub walk : (view p).shares.walk ≡ Nothing
    pub full : (view p).shares.full ≡ Free
    pub idle : IsIdle (view p).hand
    pub hold : (view p).shares.order ≡ Holding
    pub told : orders_of (view p).known ≡ told_orders (view p).known

  pub record IsFullClaim (g : Guard S) (p : Pass S) : Type 0 where
    pub own : IsLiveOf g p
    pub op : (view p).shares.op ≡ Nothing
    pub walk : (view p).shares.walk ≡ Nothing
    pub order : (view p).shares.order ≡ Holding
    pub idle : IsIdle (view p).hand
    pub claim : (view p).shares.full ≡ Claimed

  pub record IsFull (g : Guard S) (p : Pass S) : Type 0 where
    pub own : IsLiveOf g p
    pub op : (view p).shares.op ≡ Nothing
    pub walk : (view p).shares.walk ≡ Nothing
    pub order : (view p).shares.order ≡ Holding
    pub idle : IsIdle (view p).hand
    pub hold : (view p).shares.full ≡ Holding
    pub unswapped_is : IsUnswapped (view p)

-- the phase word bars the full hold: it has a walk share
abbrev pub BarsFull : ℕ → Type 0
BarsFull n = walks_of n ≢ 0
