-- What no call here does: it finds and carries no functions; and but for a swap it changes no order.
use Rattle.std.proofs.Common.{◌≡◌, ℕ, refl}
use Rattle.function_laws.specs.declared.history.Name.{Name}
use Rattle.function_laws.specs.declared.history.Reply.{Reply}
use Rattle.function_laws.specs.declared.history.Reply.TheVariants as replies
use Rattle.function_laws.specs.EntryOrders.{orders_after}
use Rattle.function_laws.specs.declared.orders.Order.{Order}
use Rattle.function_laws.specs.declared.orders.Order.TheVariants.{Variables, Elements}
use Rattle.function_laws.specs.Sizes.{Orders}
use Rattle.seat_guard.specs.declared.view.Draws.{Draws}
use Rattle.seat_guard.specs.declared.view.Counts.{Counts}
use Rattle.function_laws.specs.SessionEntries.{Each}
use Rattle.seat_guard.specs.Finds.{MayFind, carried_by}
use Rattle.seat_guard.specs.Moves.{HasNoted}
use Rattle.dd_session.specs.declared.request.Request.{Request}
use Rattle.dd_session.specs.declared.request.Request.TheVariants as requests
use Rattle.dd_session.specs.Requests.{call_of}

pub finds_none : (d : Draws) (r : Request) → MayFind d (call_of r)
finds_none d requests.Sweep = tt
finds_none d (requests.Swap Variables level) = tt
finds_none d (requests.Swap Elements level) = tt
finds_none d r = tt

pub carries_none : (c : Counts) (r : Request) → Each (HasNoted c) (carried_by (call_of r))
carries_none c requests.Sweep = tt
carries_none c (requests.Swap Variables level) = tt
carries_none c (requests.Swap Elements level) = tt
carries_none c r = tt

-- the call is no swap that was done, and numbers nothing
pub record LeavesOrders (r : Request) (reply : Reply) : Type 0 where
  pub plain : (name : Name) (n : ℕ) → reply ≡ replies.Numbered name n → ⊥
  pub no_swap : (order : Order) (level : ℕ) → r ≡ requests.Swap order level → reply ≡ replies.Done → ⊥

pub orders_stay : (o : Orders) (r : Request) (reply : Reply) → LeavesOrders r reply → orders_after o (call_of r) reply ≡ o
orders_stay o r (replies.Made name) leaves = refl
orders_stay o r (replies.Chose name g) leaves = refl
orders_stay o r (replies.Fetched name posted) leaves = refl
orders_stay o r (replies.Numbered name n) leaves = absurd (leaves.plain name n refl)
orders_stay o r (replies.Truth b) leaves = refl
orders_stay o r (replies.Value z) leaves = refl
orders_stay o r replies.Overflow leaves = refl
orders_stay o r replies.Apart leaves = refl
orders_stay o r replies.Most leaves = refl
orders_stay o r (replies.Full a b) leaves = refl
orders_stay o (requests.Swap order level) replies.Done leaves = absurd (leaves.no_swap order level refl refl)
orders_stay o requests.Sweep replies.Done leaves = refl
orders_stay o r replies.Done leaves = refl
