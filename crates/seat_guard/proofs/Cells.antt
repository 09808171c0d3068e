-- What posts nothing leaves the board as it is, and what orders nothing the orders.
use Rattle.std.proofs.Common.{◌≡◌, ℕ, false, Option, Some, None, refl, true≢false}
use Rattle.function_laws.specs.declared.history.Name.{Name}
use Rattle.function_laws.specs.declared.history.Call.{Call}
use Rattle.function_laws.specs.declared.history.Call.TheVariants as calls
use Rattle.function_laws.specs.declared.history.Reply.{Reply}
use Rattle.function_laws.specs.declared.history.Reply.TheVariants.{Made, Chose, Fetched, Numbered, Done, Truth, Value, Overflow, Apart, Most, Full}
use Rattle.function_laws.specs.Sizes.{Orders}
use Rattle.function_laws.specs.EntryOrders.{orders_after}
use Rattle.function_laws.specs.Tables.{Table}
use Rattle.function_laws.specs.Outcomes.{Outcome, makes}
use Rattle.function_laws.specs.Steps.{outcome, with_result, changed, after}
use Rattle.function_laws.specs.Handovers.{is_numbered}
use Rattle.seat_guard.specs.Views.{is_ordering, is_post}

result_cells : (t : Table) (s : ℕ) (r : Name) (o : Option Outcome) → (with_result t s r o).cells ≡ t.cells
result_cells t s r None = refl
result_cells t s r (Some (makes f)) = refl
result_cells t s r (Some _) = refl

changed_cells : (t : Table) (s : ℕ) (call : Call) → is_post call ≡ false → (changed t s call).cells ≡ t.cells
changed_cells t s (calls.DropRow a) plain = refl
changed_cells t s (calls.Post i a) plain = absurd (true≢false plain)
changed_cells t s _ plain = refl

pub after_cells : (t : Table) (s : ℕ) (call : Call) (reply : Reply) → is_numbered reply ≡ false → is_post call ≡ false → (after t s call reply).cells ≡ t.cells
after_cells t s call (Made r) plain posts = result_cells t s r (outcome t s call)
after_cells t s call (Chose r g) plain posts = refl
after_cells t s call (Fetched r posted) plain posts = result_cells t s r (outcome t s call)
after_cells t s call (Numbered r m) plain posts = absurd (true≢false plain)
after_cells t s call Done plain posts = changed_cells t s call posts
after_cells t s call (Truth told) plain posts = refl
after_cells t s call (Value z) plain posts = refl
after_cells t s call Overflow plain posts = refl
after_cells t s call Apart plain posts = refl
after_cells t s call Most plain posts = refl
after_cells t s call (Full a b) plain posts = refl

pub orders_stay : (orders : Orders) (call : Call) (reply : Reply) → is_numbered reply ≡ false → is_ordering call ≡ false → orders_after orders call reply ≡ orders
orders_stay orders call (Made r) plain no_order = refl
orders_stay orders call (Chose r g) plain no_order = refl
orders_stay orders call (Fetched r posted) plain no_order = refl
orders_stay orders call (Numbered r m) plain no_order = absurd (true≢false plain)
orders_stay orders call Done plain no_order = by call no_order
  where
    by : (call : Call) → is_ordering call ≡ false → orders_after orders call Done ≡ orders
    by (calls.Swap level) e = absurd (true≢false e)
    by (calls.SwapElements level) e = absurd (true≢false e)
    by (calls.Sift told) e = absurd (true≢false e)
    by (calls.SiftElements told) e = absurd (true≢false e)
    by _ e = refl
orders_stay orders call (Truth told) plain no_order = refl
orders_stay orders call (Value x) plain no_order = refl
orders_stay orders call Overflow plain no_order = refl
orders_stay orders call Apart plain no_order = refl
orders_stay orders call Most plain no_order = refl
orders_stay orders call (Full a b) plain no_order = refl
