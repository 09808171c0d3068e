-- What the part of one session says of a play.
use Rattle.std.specs.Prelude.{◌≡◌, ℕ, ◌<◌, ◌^◌, List, [], ◌∷◌, ◌++◌, map, length, All, Some}
use Rattle.edge_bits.specs.declared.limits.TheConstants.{MOST_ROWS}
use Rattle.function_laws.specs.declared.history.Call.{Call}
use Rattle.function_laws.specs.declared.history.Entry.{Entry}
use Rattle.function_laws.specs.declared.history.Reply.{Reply as Answer}
use Rattle.job_text.specs.declared.job.Command.{Command}
use Rattle.job_text.specs.declared.job.Counts.{Counts}
use Rattle.job_text.specs.Grammar.{CommandsSay}
use Rattle.job_text.specs.Histories.{HistoryLine, IsFullOf, IsScript, text_of, told_of}
use Rattle.dd_session.specs.Sessions.{Managed, Seen}
use Rattle.net_jobs.specs.declared.said.Said.{Said}

-- the numbers of a manager, as the grammar counts them
abbrev pub counts_of : Managed → Counts
counts_of m = record { vars = m.vars; elements = m.elements }

-- The session can say the commands: it is one of the manager, holds no row, and has made few calls.
pub record CanPlay (m : Managed) (commands : List Command) (s : Seen) : Type 0 where
  pub own : s.manager ≡ m
  pub empty : s.rows ≡ []
  pub say : CommandsSay (counts_of m) [] commands
  pub few : length commands < MOST_ROWS
  pub calls : length s.entries < 2 ^ 47

abbrev pub entry_of : HistoryLine → Entry
entry_of line = line.entry

-- the place and the text of a line
abbrev pub said_of : HistoryLine → ℕ × List ℕ
said_of line = (line.entry.place, text_of line)

-- the same of a line that was written
abbrev pub written_as : Said → ℕ × List ℕ
written_as said = (said.place, said.text.items)

-- each entry has a later place than those before it
abbrev pub Rises : List Entry → Type 0
Rises [] = Unit {0}
Rises (e ∷ es) = All (λ (f : Entry). e.place < f.place) es × Rises es

-- full is told of a call where all slots are in use, and one more was needed
abbrev pub IsFullBy : Managed → Call → Answer → Type 0
IsFullBy m call reply = IsFullOf m.limit call reply

-- The session said the commands, up to the first that stopped it or to their end, and dropped what was left: its entries
-- grew by those of these lines, whose texts were written with their places.
pub record PlaysSection (commands : List Command) (old new : Seen) (written : List Said) : Type 0 where
  pub lines : List HistoryLine
  pub gained : new.entries ≡ old.entries ++ map entry_of lines
  pub own : All (λ (line : HistoryLine). line.entry.session ≡ old.number) lines
  pub told : All (λ (line : HistoryLine). told_of line.entry.reply ≡ Some line.reply) lines
  pub says : IsScript old.adds commands lines
  pub full : All (λ (line : HistoryLine). IsFullBy old.manager line.entry.call line.entry.reply) lines
  pub rises : Rises (map entry_of lines)
  pub texts : map written_as written ≡ map said_of lines
  pub manager_is : new.manager ≡ old.manager
  pub number_is : new.number ≡ old.number
