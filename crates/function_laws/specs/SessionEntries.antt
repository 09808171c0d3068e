-- The entries of one session, and entries in the order of their places.
use Rattle.std.specs.Prelude.{ℕ, ◌≤◌, ◌==◌, if◌then◌else◌, List, [], ◌∷◌}
use Rattle.function_laws.specs.declared.history.Call.{Call}
use Rattle.function_laws.specs.declared.history.Reply.{Reply}
use Rattle.function_laws.specs.declared.history.Entry.{Entry}

abbrev pub entry : ℕ → ℕ → Call → Reply → Entry
entry n s call reply = record { place = n; session = s; call = call; reply = reply }

-- the entries of one session
abbrev pub entries_of : ℕ → List Entry → List Entry
entries_of s [] = []
entries_of s (e ∷ es) = if e.session == s then (e ∷ entries_of s es) else entries_of s es

-- each of the list has the property
abbrev pub Each : {A : Type 0} → (A → Type 0) → List A → Type 0
Each P [] = Unit {0}
Each P (x ∷ xs) = P x × Each P xs

-- the places never fall
abbrev pub IsByPlace : List Entry → Type 0
IsByPlace [] = Unit {0}
IsByPlace (e ∷ es) = Each (λ (f : Entry). e.place ≤ f.place) es × IsByPlace es
