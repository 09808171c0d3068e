-- A step leaves alone what is not its own.
use Rattle.std.proofs.Common.{◌≡◌, ◌≢◌, ℕ, false, cond, ◌&&◌, ◌||◌, Option, Some, None, refl, ne_eqb, true≢false}
use Rattle.function_laws.specs.declared.history.Name.{Name}
use Rattle.function_laws.specs.declared.history.Function.{Function}
use Rattle.function_laws.specs.declared.history.Call.{Call}
use Rattle.function_laws.specs.declared.history.Call.TheVariants as calls
use Rattle.function_laws.specs.declared.history.Reply.{Reply}
use Rattle.function_laws.specs.declared.history.Reply.TheVariants.{Made, Chose, Fetched, Numbered, Done, Truth, Value, Overflow, Apart, Most, Full}
use Rattle.function_laws.specs.Tables.{Table, with_row, with_name, same_name}
use Rattle.function_laws.specs.Outcomes.{Outcome, makes, fetches, counts}
use Rattle.function_laws.specs.Steps.{outcome, with_result, changed, after}
use Rattle.function_laws.specs.Handovers.{is_numbered}

-- what another session has
abbrev Same : ℕ → Table → Table → Type 0
Same p t u = (u.live p ≡ t.live p) × (u.given p ≡ t.given p)

name_apart : (t : Table) (s p : ℕ) (r : Name) (f : Function) → p ≢ s → Same p t (with_name t s r f)
name_apart t s p r f apart = let no = ne_eqb p s apart in (
  (λ i name. cond (no i && same_name name r) (Some f) (t.live p name)),
  (λ i name. (no i && same_name name r) || t.given p name),
)

row_apart : (t : Table) (s p : ℕ) (r : Name) (o : Option Function) → p ≢ s → Same p t (with_row t s r o)
row_apart t s p r o apart = let no = ne_eqb p s apart in ((λ i name. cond (no i && same_name name r) o (t.live p name)), refl)

result_apart : (t : Table) (s p : ℕ) (r : Name) (o : Option Outcome) → p ≢ s → Same p t (with_result t s r o)
result_apart t s p r (Some (makes f)) apart = name_apart t s p r f apart
result_apart t s p r (Some (fetches f posted)) apart = name_apart t s p r f apart
result_apart t s p r (Some (counts f n)) apart = name_apart t s p r f apart
result_apart t s p r _ apart = (refl, refl)

changed_apart : (t : Table) (s p : ℕ) (call : Call) → p ≢ s → Same p t (changed t s call)
changed_apart t s p (calls.DropRow a) apart = row_apart t s p a None apart
changed_apart t s p _ apart = (refl, refl)

pub after_apart : (t : Table) (s p : ℕ) (call : Call) (reply : Reply) → is_numbered reply ≡ false → p ≢ s → Same p t (after t s call reply)
after_apart t s p call (Made r) plain apart = result_apart t s p r (outcome t s call) apart
after_apart t s p call (Chose r g) plain apart = name_apart t s p r _ apart
after_apart t s p call (Fetched r posted) plain apart = result_apart t s p r (outcome t s call) apart
after_apart t s p call (Numbered r m) plain apart = absurd (true≢false plain)
after_apart t s p call Done plain apart = changed_apart t s p call apart
after_apart t s p call (Truth told) plain apart = (refl, refl)
after_apart t s p call (Value z) plain apart = (refl, refl)
after_apart t s p call Overflow plain apart = (refl, refl)
after_apart t s p call Apart plain apart = (refl, refl)
after_apart t s p call Most plain apart = (refl, refl)
after_apart t s p call (Full a b) plain apart = (refl, refl)
