-- What sessions can play, each its section, and what came of it.
use Rattle.std.specs.Prelude.{◌≡◌, ℕ, suc, ◌==◌, ◌<◌, List, [], ◌∷◌, ◌++◌, All, Some, filter, length, map}
use Rattle.std.specs.List.{flat_map}
use Rattle.function_laws.specs.SessionEntries.{IsByPlace}
use Rattle.job_text.specs.declared.job.Command.{Command}
use Rattle.job_text.specs.Histories.{HistoryLine, IsScript, text_of, told_of}
use Rattle.dd_session.specs.Managing.{Managed, Seen}
use Rattle.net_jobs.specs.declared.said.Said.{Said}
use Rattle.net_jobs.specs.Saying.{IsKept}
use Rattle.net_jobs.specs.Sections.{CanPlay, IsFullBy, PlaysSection, entry_of}

-- each session of the second list can play its section
abbrev pub AllCan : Managed → List (List Command) → List Seen → Type 0
AllCan m [] [] = Unit {0}
AllCan m (commands ∷ sections) (s ∷ sessions) = CanPlay m commands s × AllCan m sections sessions
AllCan m _ _ = ⊥

-- each session became one that played its section, and what they wrote stands one after another
abbrev pub AllPlay : List (List Command) → List Seen → List Seen → List Said → Type 0
AllPlay [] [] [] written = written ≡ []
AllPlay (commands ∷ sections) (a ∷ old) (b ∷ new) written =
    (here : List Said) × (rest : List Said) × (written ≡ here ++ rest) × PlaysSection commands a b here × AllPlay sections old new rest
AllPlay _ _ _ written = ⊥

-- each session is still of its manager, and has its number
abbrev pub AllKept : List Seen → List Seen → Type 0
AllKept [] [] = Unit {0}
AllKept (a ∷ old) (b ∷ new) = IsKept a b × AllKept old new
AllKept _ _ = ⊥

-- the sessions have these numbers, one after another
abbrev pub AreNumbered : ℕ → List Seen → Type 0
AreNumbered n [] = Unit {0}
AreNumbered n (s ∷ sessions) = (s.number ≡ n) × AreNumbered (suc n) sessions

-- the lines of one session
abbrev pub lines_of : ℕ → List HistoryLine → List HistoryLine
lines_of s lines = filter (λ line. line.entry.session == s) lines

-- The session gained the entries of these lines, which say the commands; it is else the one that it was.
pub record Gains (commands : List Command) (old new : Seen) (lines : List HistoryLine) : Type 0 where
  pub gained : new.entries ≡ old.entries ++ map entry_of lines
  pub says : IsScript old.adds commands lines
  pub manager_is : new.manager ≡ old.manager
  pub number_is : new.number ≡ old.number

-- Of these lines each session gained those with its number, which go up from n.
abbrev pub AllGain : ℕ → List (List Command) → List Seen → List Seen → List HistoryLine → Type 0
AllGain n [] [] [] lines = Unit {0}
AllGain n (commands ∷ sections) (a ∷ old) (b ∷ new) lines = Gains commands a b (lines_of n lines) × AllGain (suc n) sections old new lines
AllGain n _ _ _ lines = ⊥

-- The text is that of lines in the order of their places. Those of each session are the entries that it gained, and say its
-- section.
pub record PlaysIn (m : Managed) (sections : List (List Command)) (old new : List Seen) (text : List ℕ) : Type 0 where
  pub lines : List HistoryLine
  pub sorted : IsByPlace (map entry_of lines)
  pub told : All (λ (line : HistoryLine). told_of line.entry.reply ≡ Some line.reply) lines
  pub full : All (λ (line : HistoryLine). IsFullBy m line.entry.call line.entry.reply) lines
  pub no_other : All (λ (line : HistoryLine). line.entry.session < length sections) lines
  pub each : AllGain 0 sections old new lines
  pub bytes : text ≡ flat_map text_of lines
