-- A seat before its work, at it and behind it.
use Rattle.std.specs.Prelude.{◌≡◌, [], None}
use Rattle.node_slots.specs.Stores.{lent_room}
use Rattle.step_store.specs.Knowing.{idle}
use Rattle.words_rule.specs.declared.seat.Guard.{Guard}
use Rattle.words_rule.specs.declared.seat.Pass.{Pass}
use Rattle.words_rule.specs.declared.stepper.Stepper.{Stepper}
use Rattle.words_rule.specs.Endings.{IsSettled}
use Rattle.words_rule.specs.Passes.{in_hand, view}
use Rattle.words_rule.specs.Steppers.{IsStepper, knows}
use Rattle.words_rule.specs.Tokens.{IsFreeOf}
use Rattle.table_shelves.specs.declared.shelf.TableShelf.{TableShelf}
use Rattle.table_shelves.specs.Shelves.{free_of, memo_of}

-- it may come back to the closing seat
pub record MayReturn (g : Guard TableShelf) (p : Pass TableShelf) : Type 0 where
  pub free : IsFreeOf g p
  pub settled : IsSettled (view p)
  pub out : in_hand p ≡ []

-- and may take a share to store nodes: it was refused none so far
pub record IsReady (g : Guard TableShelf) (p : Pass TableShelf) : Type 0 where
  pub back : MayReturn g p
  pub link : (view p).hand.link ≡ None
  pub fulls : (view p).work.fulls ≡ 0

-- it has a share, and nothing in hand
pub record IsIdleSeat (s : Stepper TableShelf) : Type 0 where
  pub own : IsStepper free_of memo_of s
  pub idle : (knows (view s.pass) (lent_room s.scratch)).hand ≡ idle
