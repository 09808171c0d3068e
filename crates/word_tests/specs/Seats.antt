-- A seat that has nothing in hand, with an operation share, the full hold or neither.
use Rattle.std.specs.Prelude.{◌≡◌, ◌<◌, ℕ, [], false}
use Rattle.std.specs.Prelude as std
use Rattle.node_slots.specs.Stores.{lent_room}
use Rattle.step_store.specs.Knowing.{idle}
use Rattle.words_rule.specs.declared.seat.FullHold.{FullHold}
use Rattle.words_rule.specs.declared.seat.Guard.{Guard}
use Rattle.words_rule.specs.declared.seat.Pass.{Pass}
use Rattle.words_rule.specs.declared.stepper.Stepper.{Stepper}
use Rattle.words_rule.specs.Holds.{IsFullHold}
use Rattle.words_rule.specs.Passes.{in_hand, view}
use Rattle.words_rule.specs.Views.{orders_of, told_orders}
use Rattle.words_rule.specs.Steppers.{IsStepper, knows}
use Rattle.words_rule.specs.Tokens.{IsFreeOf}
use Rattle.word_tests.specs.Tidy.{IsTidy}
use Rattle.table_shelves.specs.declared.shelf.TableShelf.{TableShelf}
use Rattle.table_shelves.specs.Shelves.{free_of, memo_of}

-- it may take a share or a hold, and has nothing in hand
pub record IsCalm (g : Guard TableShelf) (p : Pass TableShelf) : Type 0 where
  pub free : IsFreeOf g p
  pub levels : (view p).hand.levels ≡ []
  pub list : (view p).hand.free ≡ std.None
  pub link : (view p).hand.link ≡ std.None
  pub memo : (view p).hand.memo ≡ false
  pub pins : (view p).counts.pins ≡ []
  pub zeros : (view p).counts.zeros ≡ []
  pub out : in_hand p ≡ []

-- and it counts its refusals
pub record IsReady (g : Guard TableShelf) (p : Pass TableShelf) : Type 0 where
  pub calm : IsCalm g p
  pub fulls : (view p).work.fulls < 18446744073709551616

-- it has a share, and nothing in hand
pub record IsIdleSeat (s : Stepper TableShelf) : Type 0 where
  pub own : IsStepper free_of memo_of s
  pub idle : (knows (view s.pass) (lent_room s.scratch)).hand ≡ idle

-- it has the full hold, and nothing in hand; the entries told the orders
pub record IsHeld (g : Guard TableShelf) (h : FullHold TableShelf) : Type 0 where
  pub own : IsFullHold g h
  pub levels : (view h.pass).hand.levels ≡ []
  pub list : (view h.pass).hand.free ≡ std.None
  pub link : (view h.pass).hand.link ≡ std.None
  pub memo : (view h.pass).hand.memo ≡ false
  pub pins : (view h.pass).counts.pins ≡ []
  pub told : orders_of (view h.pass).known ≡ told_orders (view h.pass).known
  pub out : in_hand h.pass ≡ []

-- it was just split off: it has put down all, and may take a share
abbrev pub IsFresh : Guard TableShelf → Pass TableShelf → Type 0
IsFresh g p = IsTidy g p × IsReady g p
