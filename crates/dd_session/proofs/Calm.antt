-- A pass that had the turn is calm again.
use Rattle.std.proofs.Common.{◌≡◌, ℕ, List, [], Option, ap, sym, subst, ◌∙◌}
use Rattle.function_laws.specs.declared.history.Function.{Function}
use Rattle.function_laws.specs.Sizes.{Orders}
use Rattle.seat_guard.specs.declared.seat.Guard.{Guard}
use Rattle.seat_guard.specs.declared.seat.Pass.{Pass}
use Rattle.seat_guard.specs.declared.view.Counts.{Counts}
use Rattle.seat_guard.specs.declared.view.Draws.{Draws}
use Rattle.seat_guard.specs.declared.view.Held.{Held}
use Rattle.seat_guard.specs.declared.view.Leaving.{Leaving}
use Rattle.seat_guard.specs.declared.view.Telling.{Telling}
use Rattle.seat_guard.specs.Passes.{IsPassOf, counts_of, in_hand, known}
use Rattle.seat_guard.specs.Views.{holding, letting_go}
use Rattle.shared_store.specs.declared.shared.Shared.{Shared}
use Rattle.function_laws.specs.declared.orders.Order.{Order}
use Rattle.function_laws.specs.declared.history.Reply.TheVariants as replies
use Rattle.std.specs.Prelude.{MatchResult, Result, Ok, Err}
use Rattle.shared_store.specs.Reordering.{swap_call}
use Rattle.dd_session.specs.declared.answers.Full.{Full}
use Rattle.dd_session.specs.declared.answers.Placed.{Placed}
use Rattle.dd_session.specs.declared.answers.Refusal.{Refusal}
use Rattle.dd_session.specs.declared.answers.Refusal.TheVariants as refusals
use Rattle.dd_session.specs.declared.request.Adding.{Adding}
use Rattle.dd_session.specs.declared.request.Adding.TheVariants.{Made, Chosen, Taken}
use Rattle.dd_session.specs.Sessions.{reply_unmade}
use Rattle.function_laws.specs.declared.history.Call.{Call}
use Rattle.function_laws.specs.declared.history.Name.{Name}
use Rattle.operator_calls.specs.declared.unmade.Unmade.{Unmade}
use Rattle.dd_session.specs.Turns.{Drew, IsAdded, IsCalm, IsRefused, IsSettled, IsStill, Settles, Told}

-- the turn was taken from rest: the seat is live
taken_live : {others : List Held} {cells : List (Option Held)} {orders : Orders} {functions : List Function} (d e : Draws) → e ≡ holding d cells others orders functions → e.live ≡ d.live
taken_live d e is = ap (λ (z : Draws). z.live) is

-- A place was drawn.
pub drawn_still : {others : List Held} {cells : List (Option Held)} {orders : Orders} {functions : List Function} (g : Guard Shared) (p q r : Pass Shared) (y : Shared) (x : Telling) (place : ℕ) → IsCalm g p → known q ≡ holding (known p) cells others orders functions
    → IsPassOf g r × (in_hand r ≡ []) → Drew (known q) (known r) y x place → IsSettled (counts_of r) → IsStill g r
drawn_still g p q r y x place calm took own drew settled = (own.0, ap (λ (z : Draws). z.live) drew.left ∙ ap (λ (z : Draws). z.live) took ∙ calm.1, ap (λ (z : Draws). z.holds) drew.left, own.1, settled)

pub drawn_calm : {others : List Held} {cells : List (Option Held)} {orders : Orders} {functions : List Function} (g : Guard Shared) (p q r : Pass Shared) (y : Shared) (x : Telling) (place : ℕ) → IsCalm g p → known q ≡ holding (known p) cells others orders functions → counts_of q ≡ counts_of p
    → IsPassOf g r × (in_hand r ≡ []) → Drew (known q) (known r) y x place → Settles (counts_of q) (counts_of r) → IsCalm g r
drawn_calm g p q r y x place calm took same own drew settles = (
  own.0,
  ap (λ (z : Draws). z.live) drew.left ∙ ap (λ (z : Draws). z.live) took ∙ calm.1,
  ap (λ (z : Draws). z.holds) drew.left,
  own.1,
  (settles.0, settles.1 ∙ ap (λ (c : Counts). c.zeros) same ∙ calm.4.1),
)

-- The turn was given back.
pub left_calm : {others : List Held} {cells : List (Option Held)} {orders : Orders} {functions : List Function} (g : Guard Shared) (p q r : Pass Shared) → IsCalm g p → known q ≡ holding (known p) cells others orders functions → counts_of q ≡ counts_of p
    → IsPassOf g r × (in_hand r ≡ []) → (l : Leaving) → known r ≡ letting_go (known q) l → counts_of r ≡ counts_of q → IsCalm g r
left_calm g p q r calm took same own l left stands = (
  own.0,
  ap (λ (z : Draws). z.live) left ∙ ap (λ (z : Draws). z.live) took ∙ calm.1,
  ap (λ (z : Draws). z.holds) left,
  own.1,
  subst (λ (c : Counts). IsSettled c × (c.zeros ≡ [])) (sym (stands ∙ same)) calm.4,
)

-- two levels were swapped, or it was refused
pub swapped_still : {others : List Held} {cells : List (Option Held)} {orders : Orders} {functions : List Function} (g : Guard Shared) (p q r : Pass Shared) (order : Order) (level : ℕ) (result : Result (Placed (Unit {0})) Full) → IsCalm g p → known q ≡ holding (known p) cells others orders functions
    → IsPassOf g r × (in_hand r ≡ []) → MatchResult result (λ placed. Told (known q) (known r) (swap_call order level) replies.Done placed.place) (λ full. IsRefused (known q) (known r) (swap_call order level) (refusals.Full full)) → IsSettled (counts_of r) → IsStill g r
swapped_still g p q r order level (Ok placed) calm took own told settled = drawn_still g p q r _ _ placed.place calm took own told.4 settled
swapped_still g p q r order level (Err full) calm took own told settled = drawn_still g p q r _ _ full.place calm took own told.0.4 settled

-- an operation was settled
pub settled_still : {others : List Held} {cells : List (Option Held)} {orders : Orders} {functions : List Function} (g : Guard Shared) (p q r : Pass Shared) (call : Call) (adding : Adding) (result : Result (Placed (Result Name Unmade)) Refusal) → IsCalm g p → known q ≡ holding (known p) cells others orders functions
    → IsPassOf g r × (in_hand r ≡ []) → MatchResult result (λ placed. MatchResult placed.value (λ name. IsAdded (known q) (known r) call adding name placed.place) (λ why. Told (known q) (known r) call (reply_unmade why) placed.place)) (IsRefused (known q) (known r) call) → IsSettled (counts_of r) → IsStill g r
settled_still g p q r call adding (Ok placed) calm took own told settled = by placed.value adding told
  where
    by : (v : Result Name Unmade) (a : Adding) → MatchResult v (λ name. IsAdded (known q) (known r) call a name placed.place) (λ why. Told (known q) (known r) call (reply_unmade why) placed.place) → IsStill g r
    by (Ok name) Made told = drawn_still g p q r _ _ placed.place calm took own told.4 settled
    by (Ok name) Chosen told = drawn_still g p q r _ _ placed.place calm took own told.1.4 settled
    by (Ok name) (Taken posted) told = drawn_still g p q r _ _ placed.place calm took own told.4 settled
    by (Err why) a told = drawn_still g p q r _ _ placed.place calm took own told.4 settled
settled_still g p q r call adding (Err (refusals.Full full)) calm took own told settled = drawn_still g p q r _ _ full.place calm took own told.0.4 settled
settled_still g p q r call adding (Err refusals.Memory) calm took own told settled =
    (own.0, ap (λ (z : Draws). z.live) told.1 ∙ ap (λ (z : Draws). z.live) took ∙ calm.1, ap (λ (z : Draws). z.holds) told.1, own.1, settled)
