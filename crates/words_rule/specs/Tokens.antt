-- What contracts say of shares that own their session's seat.
use Rattle.std.specs.Prelude.{◌≡◌, ◌≢◌, ◌⊎◌, ◌<◌, ◌≤◌, ℕ, [], Some}
use Rattle.words_rule.specs.declared.view.Hold.TheVariants.{Claimed, Free}
use Rattle.words_rule.specs.declared.view.Share.TheVariants.{Held, Nothing}
use Rattle.edge_bits.specs.Permanent.{base_slot}
use Rattle.function_laws.specs.Families.{base}
use Rattle.function_laws.specs.Kinds.{ZddFamily}
use Rattle.function_laws.specs.SessionEntries.{Each}
use Rattle.words_rule.specs.declared.view.Row.{Row}
use Rattle.words_rule.specs.declared.view.View.{View}
use Rattle.words_rule.specs.Shapes.{shape_in}
use Rattle.words_rule.specs.Kept.{IsHeldBy}
use Rattle.words_rule.specs.Loads.{IsInside, sees_of}
use Rattle.words_rule.specs.declared.seat.Pass.{Pass}
use Rattle.words_rule.specs.declared.seat.Guard.{Guard}
use Rattle.words_rule.specs.declared.seat.OpShare.{OpShare}
use Rattle.words_rule.specs.declared.seat.WalkShare.{WalkShare}
use Rattle.words_rule.specs.declared.seat.OrderHold.{OrderHold}
use Rattle.words_rule.specs.Views.{orders_of, told_orders}
use Rattle.step_store.specs.Knowing.{Stands}
use Rattle.words_rule.specs.Known.{Own, known_of, noted_content}
use Rattle.words_rule.specs.Hands.{IsIdle}
use Rattle.words_rule.specs.Phase.{order_of, ops_of, with_op, with_walk}
use Rattle.words_rule.specs.PhasePlays.{HasEntered, HasSetOut}
use Rattle.words_rule.specs.Passes.{view, in_hand, IsLiveOf}

-- it has no share and no hold, noted nothing of nodes, and is in the midst of nothing
pub record IsAtRest (v : View) : Type 0 where
  pub op : v.shares.op ≡ Nothing
  pub walk : v.shares.walk ≡ Nothing
  pub order : v.shares.order ≡ Free
  pub full : v.shares.full ≡ Free
  pub words : v.known.words ≡ []
  pub seen : v.known.seen ≡ []
  pub idle : IsIdle v.hand

-- what a seat has besides its shares and notes is as it was
pub record IsBesides (v u : View) : Type 0 where
  pub draws : u.draws ≡ v.draws
  pub counts : u.counts ≡ v.counts
  pub hand : u.hand ≡ v.hand
  pub work : u.work ≡ v.work
  pub stored : u.stored ≡ v.stored

module _ {S : Type 0} where
  -- a live pass of this table with no share
  abbrev pub IsFreeOf : Guard S → Pass S → Type 0
  IsFreeOf g p = IsLiveOf g p × IsAtRest (view p)

  -- only shares and notes change
  abbrev pub Keeps : Pass S → Pass S → Type 0
  Keeps p q = IsBesides (view p) (view q) × (in_hand q ≡ in_hand p)

  -- and what was noted of counts under the order hold goes
  abbrev pub KeepsBut : Pass S → Pass S → Type 0
  KeepsBut p q = ((view q).draws ≡ (view p).draws) × ((view q).counts ≡ record (view p).counts { zeros = []; above = [] }) × ((view q).hand ≡ (view p).hand) × ((view q).work ≡ (view p).work) × ((view q).stored ≡ (view p).stored) × (in_hand q ≡ in_hand p)

  -- an operation share alone, in the midst of nothing
  abbrev pub IsShare : Guard S → OpShare S → Type 0
  IsShare g s = IsLiveOf g s.pass × ((view s.pass).shares.walk ≡ Nothing) × ((view s.pass).shares.order ≡ Free) × ((view s.pass).shares.full ≡ Free) × IsIdle (view s.pass).hand

  abbrev pub IsWalk : Guard S → WalkShare S → Type 0
  IsWalk g s = IsLiveOf g s.pass × ((view s.pass).shares.op ≡ Nothing) × ((view s.pass).shares.order ≡ Free) × ((view s.pass).shares.full ≡ Free) × IsIdle (view s.pass).hand

  -- with a share the seat knows what is so of each seat that has one
  abbrev pub Enters : Pass S → Pass S → Type 0
  Enters p q = ((n : ℕ) × HasEntered (view p) (view q) (with_op (view p).shares Held n)) × (in_hand q ≡ in_hand p)

  abbrev pub SetsOut : Pass S → Pass S → Type 0
  SetsOut p q = ((n : ℕ) × HasSetOut (view p) (view q) (with_walk (view p).shares Held n)) × (in_hand q ≡ in_hand p)

  -- an operation share beside claims of both bits, in the midst of nothing: nobody else gets a share or a hold
  abbrev pub IsLoneShare : Guard S → OpShare S → Type 0
  IsLoneShare g s = IsLiveOf g s.pass × ((view s.pass).shares.walk ≡ Nothing) × ((view s.pass).shares.order ≡ Claimed) × ((view s.pass).shares.full ≡ Claimed) × IsIdle (view s.pass).hand

  -- the order hold alone, in the midst of nothing
  abbrev pub IsHold : Guard S → OrderHold S → Type 0
  IsHold g h = IsLiveOf g h.pass × ((view h.pass).shares.op ≡ Nothing) × ((view h.pass).shares.walk ≡ Nothing) × ((view h.pass).shares.full ≡ Free) × IsIdle (view h.pass).hand

  -- with the order the seat knows both orders, which are those that the entries leave
  abbrev pub HasOrders : Pass S → Pass S → Type 0
  HasOrders p q = Keeps p q × (orders_of (view q).known ≡ told_orders (view q).known)

  -- it knows the slots that are told by their number, the projections, and what its rows' edges denote
  abbrev pub KnowsRows : Pass S → Pass S → Type 0
  KnowsRows p q = ((o : Own) → o.fulls < 18446744073709551616 → Stands (known_of (view q) o)) × Each (λ (row : Row). IsHeldBy (shape_in (view p).draws) (noted_content (view q)).function row.held) (view p).draws.rows

  -- the same after a wait, which took it and gave it back before
  abbrev pub Begins : Pass S → Pass S → Type 0
  Begins p q = Keeps p q × KnowsRows p q

  -- what was noted of counts under the holds goes
  abbrev pub BeginsAlone : Pass S → Pass S → Type 0
  BeginsAlone p q = KeepsBut p q × KnowsRows p q

  abbrev pub SetsBegun : Pass S → Pass S → Type 0
  SetsBegun p q = Keeps p q × ((sees_of (view q)).content base_slot ≡ Some (ZddFamily base)) × IsInside (view q) × Each (λ (row : Row). IsHeldBy (shape_in (view p).draws) (sees_of (view q)).content row.held) (view p).draws.rows

-- the phase word bars an operation share: it has the order bit or the full bit; and a walk share: it has the full bit
abbrev pub BarsOperations : ℕ → Type 0
BarsOperations n = 4294967296 ≤ n

abbrev pub BarsWalks : ℕ → Type 0
BarsWalks n = 8589934592 ≤ n

-- it bars the order hold: it has the order bit, or an operation share
abbrev pub BarsOrder : ℕ → Type 0
BarsOrder n = (order_of n ≢ 0) ⊎ (ops_of n ≢ 0)
