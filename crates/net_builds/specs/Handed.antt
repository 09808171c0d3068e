-- What names stand for that were handed over by a cell of the board.
use Rattle.std.specs.Prelude.{◌≡◌, ℕ, ◌<◌, ◌++◌, true, false, List, Some, All, Contains}
use Rattle.function_laws.specs.declared.history.Call.TheVariants as calls
use Rattle.function_laws.specs.declared.history.Entry.{Entry}
use Rattle.function_laws.specs.declared.history.Function.{Function}
use Rattle.function_laws.specs.declared.history.Name.{Name}
use Rattle.function_laws.specs.declared.history.Reply.TheVariants as replies
use Rattle.function_laws.specs.Handovers.{is_numbered, posts_to}
use Rattle.function_laws.specs.Histories.{IsLegal, table_after}
use Rattle.function_laws.specs.SessionEntries.{entry}
use Rattle.function_laws.specs.Tables.{Sizes, opening}

-- the entry adds no variable and no element
abbrev pub IsPlain : Entry → Type 0
IsPlain e = is_numbered e.reply ≡ false

abbrev pub ArePlain : List Entry → Type 0
ArePlain log = All IsPlain log

-- what a name of a session stands for after these entries
abbrev pub Stands : Sizes → List Entry → ℕ → Name → Function → Type 0
Stands sizes log s name f = (table_after (opening sizes) log).live s name ≡ Some f

-- a name stands for one function, whenever it stands for any
abbrev pub NamesStandOnce : Type 0
NamesStandOnce = (sizes : Sizes) (before rest : List Entry) → IsLegal sizes (before ++ rest) → ArePlain (before ++ rest)
    → (s : ℕ) (name : Name) (f g : Function) → Stands sizes before s name f → Stands sizes (before ++ rest) s name g → f ≡ g

-- A post to a cell and a fetch from it that found it posted: no entry between the two posts to the cell.
pub record IsHanded (log : List Entry) (cell session : ℕ) (from : Name) (other : ℕ) (to : Name) : Type 0 where
  pub post : ℕ
  pub fetch : ℕ
  pub kind : Name
  pub posted : Contains log (entry post session (calls.Post cell from) replies.Done)
  pub fetched : Contains log (entry fetch other (calls.Fetch cell kind) (replies.Fetched to true))
  pub in_turn : post < fetch
  pub alone : All (λ (e : Entry). post < e.place → e.place < fetch → posts_to cell e.call ≡ false) log

-- the name that was posted and the name that was fetched stand for one function at the end
abbrev pub HandedNamesAgree : Type 0
HandedNamesAgree = (sizes : Sizes) (log : List Entry) → IsLegal sizes log → ArePlain log
    → (cell session other : ℕ) (from to : Name) → IsHanded log cell session from other to
    → (f g : Function) → Stands sizes log session from f → Stands sizes log other to g → f ≡ g
