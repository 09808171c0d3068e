-- The text of a history of a job.
use Rattle.std.specs.Prelude.{◌≡◌, ℕ, ◌+◌, ◌-◌, ◌<◌, ◌==◌, not, Bool, true, false, ◌&&◌, List, [], ◌∷◌, ◌++◌, pos, codes, length, filter, map, slice_get, take, Some, None, Option, All}
use Rattle.std.specs.Fmt.{decimal, signed_decimal}
use Rattle.std.specs.List.{flat_map, filter_map, list_any, list_all, range_with_len}
use Rattle.edge_bits.specs.declared.limits.TheConstants.{CELLS}
use Rattle.function_laws.specs.declared.history.Name.{Name}
use Rattle.function_laws.specs.declared.history.Call.{Call}
use Rattle.function_laws.specs.declared.history.Call.TheVariants as calls
use Rattle.function_laws.specs.declared.history.Reply.TheVariants as replies
use Rattle.function_laws.specs.declared.history.Reply.{Reply as Answer}
use Rattle.function_laws.specs.declared.history.Entry.{Entry}
use Rattle.function_laws.specs.declared.history.Sifting.{Sifting}
use Rattle.function_laws.specs.declared.orders.Order.TheVariants.{Variables, Elements}
use Rattle.function_laws.specs.Steps.{TellsFull}
use Rattle.function_laws.specs.Tables.{Sizes}
use Rattle.function_laws.specs.Histories.{IsLegal}
use Rattle.job_text.specs.declared.history_line.Reply.{Reply}
use Rattle.job_text.specs.declared.history_line.Reply.TheVariants as reply
use Rattle.job_commands.specs.declared.acts.Act.{Act}
use Rattle.job_commands.specs.declared.acts.Act.TheVariants.{Makes, Copy, Fetch, Post, Drop, Same, Leq, Eval, Sweep, Swap, Sift}
use Rattle.job_text.specs.declared.job.Command.{Command}
use Rattle.job_text.specs.declared.job.Job.{Job}
use Rattle.job_words.specs.Text.{Word}
use Rattle.job_text.specs.Grammar.{target_of}
use Rattle.function_laws.specs.Makings.{Taken, function, named, pairs, taken}

-- a reply in words
abbrev pub reply_text : Reply → List ℕ
reply_text reply.Done = codes "ok"
reply_text reply.Yes = codes "yes"
reply_text reply.No = codes "no"
reply_text (reply.Number value) = signed_decimal value
reply_text reply.Full = codes "full"
reply_text reply.Overflow = codes "overflow"
reply_text reply.Apart = codes "apart"
reply_text reply.Posted = codes "posted"
reply_text reply.Empty = codes "empty"

-- the words with a blank between each two
abbrev pub spaced : List Word → List ℕ
spaced [] = []
spaced (word ∷ words) = word ++ flat_map (λ w. 32 ∷ w) words

-- `PLACE SESSION COMMAND -> REPLY`, and a line feed
unfoldable pub line_text : ℕ → ℕ → List Word → Reply → List ℕ
line_text place session words reply = decimal place ++ codes " " ++ decimal session ++ codes " " ++ spaced words ++ codes " -> " ++ reply_text reply ++ codes "\n"

-- A line of a history: an entry, the words of its command, and what its reply is called.
pub record HistoryLine : Type 0 where
  pub entry : Entry
  pub words : List Word
  pub reply : Reply

abbrev pub text_of : HistoryLine → List ℕ
text_of line = line_text line.entry.place line.entry.session line.words line.reply

-- what the reply of an entry is called; no job is told that there are as many variables as may be
abbrev pub told_of : Answer → Option Reply
told_of (replies.Made name) = Some reply.Done
told_of (replies.Chose name f) = Some reply.Done
told_of (replies.Fetched name true) = Some reply.Posted
told_of (replies.Fetched name false) = Some reply.Empty
told_of (replies.Numbered name n) = Some (reply.Number (pos n))
told_of replies.Done = Some reply.Done
told_of (replies.Truth true) = Some reply.Yes
told_of (replies.Truth false) = Some reply.No
told_of (replies.Value value) = Some (reply.Number value)
told_of replies.Overflow = Some reply.Overflow
told_of replies.Apart = Some reply.Apart
told_of replies.Most = None
told_of (replies.Full in_use need) = Some reply.Full

-- the name that a reply gives
abbrev pub given_by : Answer → Option Name
given_by (replies.Made name) = Some name
given_by (replies.Chose name f) = Some name
given_by (replies.Fetched name posted) = Some name
given_by (replies.Numbered name n) = Some name
given_by _ = None

-- a session stops after these replies
abbrev pub stops : Reply → Bool
stops reply.Full = true
stops reply.Overflow = true
stops reply.Apart = true
stops _ = false

-- A register of a session: the word that it is called by, and its name in the table.
pub record NamedRegister : Type 0 where
  pub word : Word
  pub name : Name

abbrev pub register_as : List Word → Option Name → Option NamedRegister
register_as words None = None
register_as words (Some name) = Some (record { word = target_of words; name = name })

-- the register that a line assigns
abbrev pub held_by : HistoryLine → Option NamedRegister
held_by line = register_as line.words (given_by line.entry.reply)

-- the registers that the lines assign, in order of assignment
abbrev pub registers_of : List HistoryLine → List NamedRegister
registers_of lines = filter_map held_by lines

-- the register of this number has this name
abbrev pub IsNamedAs : List NamedRegister → ℕ → Name → Type 0
IsNamedAs registers a name = (word : Word) × (slice_get registers a ≡ Some (record { word = word; name = name }))

-- each register that is taken, in a pair or alone, has the name that stands for it
abbrev pub AreNamed : List NamedRegister → (ℕ → Name) → List (Taken ℕ) → Type 0
AreNamed registers name [] = Unit {0}
AreNamed registers name (function k a ∷ more) = IsNamedAs registers a (name a) × AreNamed registers name more
AreNamed registers name (pairs ps ∷ more) = All (λ pair. IsNamedAs registers pair.1 (name pair.1)) ps × AreNamed registers name more
AreNamed registers name (_ ∷ more) = AreNamed registers name more

-- what a command calls, by the registers
abbrev pub IsCallOf : List NamedRegister → Act → Call → Type 0
IsCallOf registers (Makes making) call = (name : ℕ → Name) × AreNamed registers name (taken making) × (call ≡ calls.Makes (named name making))
IsCallOf registers (Copy a) call = (x : Name) × IsNamedAs registers a x × (call ≡ calls.Copy x)
IsCallOf registers (Fetch k a) call = (x : Name) × IsNamedAs registers a x × (call ≡ calls.Fetch k x)
IsCallOf registers (Post k a) call = (x : Name) × IsNamedAs registers a x × (call ≡ calls.Post k x)
IsCallOf registers (Drop a) call = (x : Name) × IsNamedAs registers a x × (call ≡ calls.DropRow x)
IsCallOf registers (Same a b) call = (x y : Name) × IsNamedAs registers a x × IsNamedAs registers b y × (call ≡ calls.Same x y)
IsCallOf registers (Leq a b) call = (x y : Name) × IsNamedAs registers a x × IsNamedAs registers b y × (call ≡ calls.Leq x y)
IsCallOf registers (Eval a bits) call = (x : Name) × IsNamedAs registers a x × (call ≡ calls.Eval x bits)
IsCallOf registers Sweep call = call ≡ calls.Sweep
IsCallOf registers (Swap Variables level) call = call ≡ calls.Swap level
IsCallOf registers (Swap Elements level) call = call ≡ calls.SwapElements level
IsCallOf registers (Sift Variables) call = (told : Sifting) × (call ≡ calls.Sift told)
IsCallOf registers (Sift Elements) call = (told : Sifting) × (call ≡ calls.SiftElements told)

-- each line has the words of the command at its place, and calls what that says; there may be further commands
abbrev pub SayInOrder : List NamedRegister → List HistoryLine → List Command → Type 0
SayInOrder registers [] commands = Unit {0}
SayInOrder registers (line ∷ lines) [] = ⊥
SayInOrder registers (line ∷ lines) (command ∷ commands) =
    (line.words ≡ command.words) × IsCallOf registers command.act line.entry.call × SayInOrder registers lines commands

-- a call takes this name away
abbrev pub drops : Name → Call → Bool
drops name (calls.DropRow other) = (name.row == other.row) && (name.generation == other.generation)
drops name _ = false

-- the registers that the lines assign and do not drop
abbrev pub left_of : List HistoryLine → List NamedRegister
left_of lines = filter (λ register. not (list_any (λ line. drops register.name line.entry.call) lines)) (registers_of lines)

-- `drop` and the register's word, and that call
abbrev pub drop_of : NamedRegister → List Word × Call
drop_of register = (codes "drop" ∷ register.word ∷ [], calls.DropRow register.name)

-- The lines of a script of one session: its commands in order, up to the first that stops it or to their end, and then the
-- drops of the registers that are left, in order of assignment. The session has given `first` names before, so the register
-- of number k has a name of generation first + k.
pub record IsScript (first : ℕ) (commands : List Command) (lines : List HistoryLine) : Type 0 where
  pub said : List HistoryLine
  pub dropped : List HistoryLine
  pub parts : lines ≡ said ++ dropped
  pub in_order : SayInOrder (registers_of said) said commands
  pub goes_on : list_all (λ line. not (stops line.reply)) (take (length said - 1) said) ≡ true
  pub to_the_end : list_any (λ line. stops line.reply) said ≡ false → length said ≡ length commands
  pub generations : map (λ register. register.name.generation) (registers_of said) ≡ range_with_len first (length (registers_of said))
  pub drops_the_rest : map (λ line. (line.words, line.entry.call)) dropped ≡ map drop_of (left_of said)

-- the lines of a session that has given no name before
abbrev pub IsSession : List Command → List HistoryLine → Type 0
IsSession commands lines = IsScript 0 commands lines

-- the numbers of a job, which no command of it changes
abbrev pub sizes_of : Job → Sizes
sizes_of job = record { variables = job.vars; elements = job.elements; most_variables = job.vars; most_elements = job.elements; cells = CELLS }

-- The lines are a legal history of the job: their entries are one of the plain table of functions, and those of each
-- session are its section's.
pub record IsHistory (job : Job) (lines : List HistoryLine) : Type 0 where
  pub legal : IsLegal (sizes_of job) (map (λ line. line.entry) lines)
  pub told : All (λ line. told_of line.entry.reply ≡ Some line.reply) lines
  pub sessions : (s : ℕ) (commands : List Command) → slice_get job.sections s ≡ Some commands
      → IsSession commands (filter (λ line. line.entry.session == s) lines)
  pub no_other : All (λ line. line.entry.session < length job.sections) lines

-- full is told where as many slots are in use as the job's limit says, and one more was needed; of a swap, where those that it needs are too many
abbrev pub IsFullOf : ℕ → Call → Answer → Type 0
IsFullOf limit call (replies.Full in_use need) = TellsFull limit call in_use need
IsFullOf limit call _ = Unit {0}

-- `left` and the number of slots in use at the end
abbrev pub left_text : ℕ → List ℕ
left_text count = codes "left " ++ decimal count ++ codes "\n"

-- The text is that of one legal history of the job, and then the number of permanent slots: five, and one for each variable.
pub record IsPlayed (job : Job) (text : List ℕ) : Type 0 where
  pub lines : List HistoryLine
  pub history : IsHistory job lines
  pub full : All (λ line. IsFullOf job.limit line.entry.call line.entry.reply) lines
  pub bytes : text ≡ flat_map text_of lines ++ left_text (5 + job.vars)
