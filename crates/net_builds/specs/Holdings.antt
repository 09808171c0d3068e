-- Names that a session holds, and what it leaves as it lets them go.
use Rattle.std.specs.Prelude.{◌≡◌, ◌+◌, ◌<◌, ◌≤◌, List, [], ◌∷◌, All, Contains, Option, Some, None, length}
use Rattle.function_laws.specs.declared.history.Entry.{Entry}
use Rattle.function_laws.specs.declared.history.Function.{Function}
use Rattle.function_laws.specs.declared.history.Name.{Name}
use Rattle.function_laws.specs.declared.history.Reply.TheVariants as replies
use Rattle.net_builds.specs.Standings.{HasRoom, IsLive, Standing, Works}

-- the names of the rows that are there
abbrev pub names_in : List (Option Name) → List Name
names_in [] = []
names_in (None ∷ rows) = names_in rows
names_in (Some name ∷ rows) = name ∷ names_in rows

-- each name was given after those before it
abbrev pub AreRising : List Name → Type 0
AreRising [] = Unit {0}
AreRising (name ∷ names) = All (λ (other : Name). name.generation < other.generation) names × AreRising names

-- the session is one of the manager's, and holds these names
pub record MayLetAllGo {M S : Type 0} (has : M → S → Type 0) (standing : S → Standing) (manager : M) (session : S) (names : List Name) : Type 0 where
  pub own : has manager session
  pub room : HasRoom (standing session)
  pub live : All (IsLive (standing session)) names
  pub rising : AreRising names

-- no more rows are live than these names, if they are live and as many: what stands for anything is one of them
abbrev pub IsCounted : Standing → Type 0
IsCounted s = (names : List Name) → AreRising names → All (IsLive s) names → s.rows ≤ length names → (name : Name) (f : Function) → s.stands name ≡ Some f → Contains names name

-- The names were let go, by calls that were answered Done, and each other one stands for what it stood for.
pub record LetsAllGo (old new : Standing) (gone : List Name) : Type 0 where
  pub works : Works old new
  pub done : All (λ (e : Entry). e.reply ≡ replies.Done) works.gained
  pub kept : (other : Name) → All (λ (name : Name). other.generation ≡ name.generation → ⊥) gone → new.stands other ≡ old.stands other
  pub rows : new.rows + length gone ≡ old.rows
