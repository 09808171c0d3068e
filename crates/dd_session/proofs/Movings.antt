-- What each call moves of the counts, and what it leaves of them.
use Rattle.std.proofs.Common.{◌≡◌, ℕ, ◌<◌, ◌==◌, Bool, false, cond, Some, None, eq-eqb, List, [], ◌∷◌, length, true, refl, ap, sym, ◌∙◌, true≢false}
use Rattle.function_laws.specs.declared.history.Name.{Name}
use Rattle.function_laws.specs.declared.history.Call.{Call}
use Rattle.function_laws.specs.declared.history.Call.TheVariants as calls
use Rattle.function_laws.specs.declared.history.Reply.{Reply}
use Rattle.function_laws.specs.declared.history.Reply.TheVariants as replies
use Rattle.function_laws.specs.SessionEntries.{Each}
use Rattle.seat_guard.specs.declared.view.Change.TheVariants.{Nothing, Adds, Takes, Posts}
use Rattle.seat_guard.specs.declared.view.Counts.{Counts}
use Rattle.seat_guard.specs.declared.view.Draws.{Draws}
use Rattle.seat_guard.specs.declared.view.Held.{Held}
use Rattle.seat_guard.specs.declared.view.Row.{Row}
use Rattle.seat_guard.specs.Finds.{carried_by}
use Rattle.seat_guard.specs.Moves.{HasNoted, IsChangeOf, MayMove}
use Rattle.seat_guard.specs.declared.view.SlotGeneration.{SlotGeneration}
use Rattle.seat_guard.specs.Tallies.{noted_of, raised_by, retell}
use Rattle.dd_session.specs.Turns.{IsSettled, Settles}

-- nothing is moved
pub moves_quiet : (d : Draws) (c : Counts) (call : Call) (reply : Reply) → IsSettled c → Each (HasNoted c) (carried_by call) → MayMove d c (record { call = call; reply = reply; change = Nothing })
moves_quiet d c call reply settled carries = record { up = (settled.raised, settled.owed, tt); aged = tt; quiet = tt; boardless = λ _. tt; fits = tt; carries = carries }

pub settles_quiet : (c c' : Counts) → IsSettled c → c' ≡ record c { raised = []; owed = []; above = [] } → Settles c c'
settles_quiet c c' settled is = (record { raised = ap (λ (z : Counts). z.raised) is; owed = ap (λ (z : Counts). z.owed) is; pins = ap (λ (z : Counts). z.pins) is ∙ settled.pins }, ap (λ (z : Counts). z.zeros) is)

-- what was told of a slot is noted of it
noted_retell : (k g : ℕ) (xs : List SlotGeneration) → noted_of k (retell k g xs) ≡ Some g
noted_retell k g [] = ap (λ b. cond b (Some g) None) (eq-eqb k k refl)
noted_retell k g (x ∷ xs) = by (x.slot == k) refl (noted_retell k g xs)
  where
    by : (b : Bool) → (x.slot == k) ≡ b → noted_of k (retell k g xs) ≡ Some g → noted_of k (cond (x.slot == k) (retell k g xs) (x ∷ retell k g xs)) ≡ Some g
    by true is rest = ap (λ b. noted_of k (cond b (retell k g xs) (x ∷ retell k g xs))) is ∙ rest
    by false is rest = ap (λ b. noted_of k (cond b (retell k g xs) (x ∷ retell k g xs))) is ∙ (ap (λ b. cond b (Some x.generation) (noted_of k (retell k g xs))) is ∙ rest)

-- what was raised becomes a row
pub moves_added : (d : Draws) (c c' : Counts) (row : Row) (call : Call) (reply : Reply) → IsSettled c → c' ≡ raised_by row.held row.generation c → IsChangeOf (Adds row) call reply → Each (HasNoted c') (carried_by call)
    → MayMove d c' (record { call = call; reply = reply; change = Adds row })
moves_added d c c' row call reply settled is fits carries = record {
  up = (ap (λ (z : Counts). z.raised) is ∙ ap (λ (l : List Held). row.held ∷ l) settled.raised, ap (λ (z : Counts). z.owed) is ∙ settled.owed, tt);
  aged = ap (λ (z : Counts). noted_of row.held.edge.index z.generations) is ∙ noted_retell row.held.edge.index row.generation c.generations;
  quiet = tt;
  boardless = λ _. tt;
  fits = fits;
  carries = carries;
}

pub settles_added : (c c' c'' : Counts) (row : Row) → IsSettled c → c' ≡ raised_by row.held row.generation c → c'' ≡ record c' { raised = []; owed = []; above = [] } → Settles c c''
settles_added c c' c'' row settled raised is = (
  record { raised = ap (λ (z : Counts). z.raised) is; owed = ap (λ (z : Counts). z.owed) is; pins = ap (λ (z : Counts). z.pins) is ∙ ap (λ (z : Counts). z.pins) raised ∙ settled.pins },
  ap (λ (z : Counts). z.zeros) is ∙ ap (λ (z : Counts). z.zeros) raised,
)

-- or a cell
pub moves_posted : (d : Draws) (c c' : Counts) (g i : ℕ) (held : Held) (a : Name) → IsSettled c → c.zeros ≡ [] → c' ≡ raised_by held g c → d.holds ≡ true → i < length d.cells
    → MayMove d c' (record { call = calls.Post i a; reply = replies.Done; change = Posts i held })
moves_posted d c c' g i held a settled zeros is holds lt = record {
  up = (ap (λ (z : Counts). z.raised) is ∙ ap (λ (l : List Held). held ∷ l) settled.raised, ap (λ (z : Counts). z.owed) is ∙ settled.owed, lt);
  aged = tt;
  quiet = ap (λ (z : Counts). z.zeros) is ∙ zeros;
  boardless = λ not. absurd (true≢false (sym holds ∙ not));
  fits = ((a, refl), refl);
  carries = tt;
}

-- a row is owed
pub moves_dropped : (d : Draws) (c : Counts) (a : Name) → IsSettled c → MayMove d c (record { call = calls.DropRow a; reply = replies.Done; change = Takes a })
moves_dropped d c a settled = record { up = (settled.raised, settled.owed, tt); aged = tt; quiet = tt; boardless = λ _. tt; fits = refl; carries = tt }
