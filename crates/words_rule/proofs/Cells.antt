-- What posts nothing leaves the board as it is.
use Rattle.std.proofs.Common.{◌≡◌, ℕ, false, Option, Some, None, refl, true≢false}
use Rattle.function_laws.specs.declared.history.Name.{Name}
use Rattle.function_laws.specs.declared.history.Call.{Call}
use Rattle.function_laws.specs.declared.history.Call.TheVariants as calls
use Rattle.function_laws.specs.declared.history.Reply.{Reply}
use Rattle.function_laws.specs.declared.history.Reply.TheVariants.{Made, Chose, Fetched, Numbered, Done, Truth, Value, Overflow, Apart, Most, Full}
use Rattle.function_laws.specs.Tables.{Table}
use Rattle.function_laws.specs.Outcomes.{Outcome, makes, restricts, covers, is_apart, fetches, counts, overflows, is_most, compares, tells, shows, is_done}
use Rattle.function_laws.specs.Steps.{outcome, with_result, changed, after}
use Rattle.function_laws.specs.Handovers.{is_numbered}
use Rattle.words_rule.specs.Views.{is_post}

result_cells : (t : Table) (s : ℕ) (r : Name) (o : Option Outcome) → (with_result t s r o).cells ≡ t.cells
result_cells t s r None = refl
result_cells t s r (Some (makes f)) = refl
result_cells t s r (Some (restricts f c)) = refl
result_cells t s r (Some (covers l u)) = refl
result_cells t s r (Some is_apart) = refl
result_cells t s r (Some (fetches f posted)) = refl
result_cells t s r (Some (counts f n)) = refl
result_cells t s r (Some overflows) = refl
result_cells t s r (Some is_most) = refl
result_cells t s r (Some (compares f g)) = refl
result_cells t s r (Some (tells b)) = refl
result_cells t s r (Some (shows z)) = refl
result_cells t s r (Some is_done) = refl

changed_cells : (t : Table) (s : ℕ) (call : Call) → is_post call ≡ false → (changed t s call).cells ≡ t.cells
changed_cells t s (calls.DropRow a) plain = refl
changed_cells t s (calls.Post i a) plain = absurd (true≢false plain)
changed_cells t s _ plain = refl

pub after_cells : (t : Table) (s : ℕ) (call : Call) (reply : Reply) → is_numbered reply ≡ false → is_post call ≡ false → (after t s call reply).cells ≡ t.cells
after_cells t s call (Made r) plain posts = result_cells t s r (outcome t s call)
after_cells t s call (Chose r g) plain posts = refl
after_cells t s call (Fetched r posted) plain posts = result_cells t s r (outcome t s call)
after_cells t s call (Numbered r m) plain posts = absurd (true≢false plain)
after_cells t s call Done plain posts = changed_cells t s call posts
after_cells t s call (Truth told) plain posts = refl
after_cells t s call (Value z) plain posts = refl
after_cells t s call Overflow plain posts = refl
after_cells t s call Most plain posts = refl
after_cells t s call Apart plain posts = refl
after_cells t s call (Full a b) plain posts = refl
