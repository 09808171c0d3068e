-- How far a session has come: what its rows and its registers have to do with the lines said so far.
use Rattle.std.specs.Prelude.{◌≡◌, ℕ, ◌+◌, ◌≤◌, ◌<◌, Bool, true, false, not, ◌&&◌, List, [], ◌∷◌, ◌++◌, length, map, take, Option, Some, None, slice_get, All, ◌-◌, is_some, ◌⊎◌, codes}
use Rattle.std.specs.List.{list_any, list_all, range_with_len}
use Rattle.edge_bits.specs.declared.limits.TheConstants.{CELLS}
use Rattle.edge_bits.specs.declared.edges.Kind.{Kind}
use Rattle.edge_bits.specs.declared.edges.Kind.TheVariants as kinds
use Rattle.function_laws.specs.declared.history.Call.{Call}
use Rattle.function_laws.specs.declared.history.Call.TheVariants as calls
use Rattle.function_laws.specs.declared.history.Entry.{Entry}
use Rattle.function_laws.specs.declared.history.Function.{Function}
use Rattle.function_laws.specs.declared.history.Name.{Name}
use Rattle.function_laws.specs.declared.history.Reply.{Reply as LawReply}
use Rattle.function_laws.specs.declared.history.Sifting.{Sifting}
use Rattle.function_laws.specs.declared.orders.Order.TheVariants.{Variables, Elements}
use Rattle.job_commands.specs.declared.acts.Act.{Act}
use Rattle.job_commands.specs.declared.acts.Act.TheVariants.{Makes, Drop, Same, Leq, Eval, Copy, Fetch, Post, Sweep, Swap, Sift}
use Rattle.job_text.specs.declared.job.Command.{Command}
use Rattle.job_text.specs.declared.job.Counts.{Counts}
use Rattle.job_text.specs.declared.job.Register.{Register}
use Rattle.job_words.specs.Text.{Word}
use Rattle.function_laws.specs.declared.making.Making.{Making}
use Rattle.function_laws.specs.Makings.{named, taken}
use Rattle.job_text.specs.Places.{bits_for, levels_of}
use Rattle.job_text.specs.Grammar.{target_of}
use Rattle.job_text.specs.Histories.{NamedRegister, HistoryLine, SayInOrder, drop_of, drops, given_by, left_of, line_text, registers_of, stops, told_of}
use Rattle.operator_calls.specs.Taking.{CanTakeAll}
use Rattle.dd_session.specs.Sessions.{Called, IsLiveAs, Seen, stands_now}
use Rattle.net_jobs.specs.declared.answering.Answered.{Answered}
use Rattle.net_jobs.specs.declared.registers.Assigned.{Assigned}
use Rattle.net_jobs.specs.declared.said.Said.{Said}
use Rattle.net_jobs.specs.declared.section.Script.{Script}
use Rattle.net_jobs.specs.Sections.{IsFullBy, Rises, entry_of, said_of, written_as}

abbrev pub name_in : Option Assigned → Name
name_in None = record { row = 0; generation = 0 }
name_in (Some assigned) = assigned.name

-- the name of the register that was assigned as this number
abbrev pub name_at : List Assigned → ℕ → Name
name_at names a = name_in (slice_get names a)

-- the register was assigned, and its name is live and of this kind
abbrev pub IsHeldAs : Kind → Seen → List Assigned → ℕ → Type 0
IsHeldAs k s names a = (a < length names) × IsLiveAs k s (name_at names a)

-- the registers have what it takes that makes a function of them; no variable comes in a job, so there may be as many as there are
abbrev pub CanMake : Counts → Seen → List Assigned → Making ℕ (List ℕ) (List (ℕ × ℕ)) → Type 0
CanMake n s names making = CanTakeAll (λ k a. IsHeldAs k s names a) n.vars n.vars n.elements (taken making)

-- the conditions of a command's call: it has as many bits as the kind of its register asks for
abbrev pub CanCall : Counts → Seen → List Assigned → Act → Type 0
CanCall n s names (Makes making) = CanMake n s names making
CanCall n s names (Copy a) = (k : Kind) × IsHeldAs k s names a
CanCall n s names (Fetch cell a) = (k : Kind) × IsHeldAs k s names a × (cell < CELLS)
CanCall n s names (Post cell a) = (k : Kind) × IsHeldAs k s names a × (cell < CELLS)
CanCall n s names Sweep = Unit {0}
CanCall n s names (Swap order level) = level + 1 < levels_of n order
CanCall n s names (Sift order) = Unit {0}
CanCall n s names (Drop a) = (k : Kind) × IsHeldAs k s names a
CanCall n s names (Same a b) = (k : Kind) × IsHeldAs k s names a × IsHeldAs k s names b
CanCall n s names (Leq a b) = IsHeldAs kinds.Bdd s names a × IsHeldAs kinds.Bdd s names b
CanCall n s names (Eval a bits) = (k : Kind) × IsHeldAs k s names a × (length bits ≡ bits_for n k)

-- the call of a command, by the names of the registers; one that sifts tells this
abbrev pub call_of : Sifting → List Assigned → Act → Call
call_of told names (Makes making) = calls.Makes (named (name_at names) making)
call_of told names (Copy a) = calls.Copy (name_at names a)
call_of told names (Fetch cell a) = calls.Fetch cell (name_at names a)
call_of told names (Post cell a) = calls.Post cell (name_at names a)
call_of told names Sweep = calls.Sweep
call_of told names (Swap Variables level) = calls.Swap level
call_of told names (Swap Elements level) = calls.SwapElements level
call_of told names (Sift Variables) = calls.Sift told
call_of told names (Sift Elements) = calls.SiftElements told
call_of told names (Drop a) = calls.DropRow (name_at names a)
call_of told names (Same a b) = calls.Same (name_at names a) (name_at names b)
call_of told names (Leq a b) = calls.Leq (name_at names a) (name_at names b)
call_of told names (Eval a bits) = calls.Eval (name_at names a) bits

-- the call makes a row, unless it stops the session
abbrev pub makes_row : Call → Bool
makes_row (calls.DropRow a) = false
makes_row (calls.Same a b) = false
makes_row (calls.Leq a b) = false
makes_row (calls.Eval a bits) = false
makes_row (calls.Post cell a) = false
makes_row calls.Sweep = false
makes_row (calls.Swap level) = false
makes_row (calls.SwapElements level) = false
makes_row (calls.Sift told) = false
makes_row (calls.SiftElements told) = false
makes_row _ = true

-- The call was made, and this was answered.
pub record IsAnswered (old new : Seen) (call : Call) (answered : Answered) : Type 0 where
  pub reply : LawReply
  pub called : Called old new call reply answered.place
  pub told : told_of reply ≡ Some answered.reply
  pub gives : given_by reply ≡ answered.made
  pub full : IsFullBy old.manager call reply
  pub made_if : is_some answered.made ≡ (makes_row call && not (stops answered.reply))

-- what the last of these calls told, if it was a sift
abbrev pub told_by : Call → Sifting
told_by (calls.Sift told) = told
told_by (calls.SiftElements told) = told
told_by _ = record { variables = []; elements = []; functions = []; order = [] }

abbrev pub told_in : Option Entry → Sifting
told_in None = told_by calls.Sweep
told_in (Some e) = told_by e.call

abbrev pub last_told : List Entry → Sifting
last_told entries = told_in (slice_get entries (length entries - 1))

-- the command was called, and this was answered
abbrev pub AnswersAct : Seen → Seen → List Assigned → Act → Answered → Type 0
AnswersAct old new names act answered = IsAnswered old new (call_of (last_told new.entries) names act) answered

-- the session is of the same manager, and has the same number
abbrev pub IsKept : Seen → Seen → Type 0
IsKept old new = (new.manager ≡ old.manager) × (new.number ≡ old.number)

abbrev pub target_in : Option Command → Word
target_in None = []
target_in (Some command) = target_of command.words

-- the word of the register that the command at this place assigns
abbrev pub target_at : List Command → ℕ → Word
target_at commands i = target_in (slice_get commands i)

-- the register, by its word
abbrev pub register_of : List Command → Assigned → NamedRegister
register_of commands assigned = record { word = target_at commands assigned.command; name = assigned.name }

-- the registers after one that the command at place i assigned, or none
abbrev pub assigned_after : Option Name → ℕ → List Assigned → List Assigned
assigned_after None i names = names
assigned_after (Some name) i names = names ++ record { name = name; command = i } ∷ []

abbrev pub is_none : Option Function → Bool
is_none None = true
is_none (Some f) = false

-- the lines take the name away
abbrev pub is_dropped : List HistoryLine → Name → Bool
is_dropped lines name = list_any (λ line. drops name line.entry.call) lines

-- the registers were assigned by some of the commands
abbrev pub AreWithin : List Command → List Assigned → Type 0
AreWithin commands names = All (λ (a : Assigned). a.command < length commands) names

-- These lines were said. Their entries are those that the session gained, in the order of their places; `names` has the
-- registers that they assigned, of which those are live that they did not drop.
pub record HasSaid (old now : Seen) (commands : List Command) (names : List Assigned) (written : List Said) (said : List HistoryLine) : Type 0 where
  pub gained : now.entries ≡ old.entries ++ map entry_of said
  pub own : All (λ (line : HistoryLine). line.entry.session ≡ old.number) said
  pub told : All (λ (line : HistoryLine). told_of line.entry.reply ≡ Some line.reply) said
  pub full : All (λ (line : HistoryLine). IsFullBy old.manager line.entry.call line.entry.reply) said
  pub rises : Rises (map entry_of said)
  pub texts : map written_as written ≡ map said_of said
  pub manager_is : now.manager ≡ old.manager
  pub number_is : now.number ≡ old.number
  pub registers : registers_of said ≡ map (register_of commands) names
  pub within : AreWithin commands names
  pub adds : now.adds ≡ old.adds + length names
  pub generations : map (λ (a : Assigned). a.name.generation) names ≡ range_with_len old.adds (length names)
  -- a name that was not given was not dropped
  pub fresh : (name : Name) → now.adds ≤ name.generation → is_dropped said name ≡ false
  pub live : All (λ (a : Assigned). is_dropped said a.name ≡ is_none (stands_now now a.name)) names
  pub few : length now.rows ≤ length names

-- Each register of the grammar that was not dropped is live, and of its kind.
pub record Covers (registers : List Register) (s : Seen) (names : List Assigned) : Type 0 where
  pub as_many : length registers ≡ length names
  pub held : (a : ℕ) (word : Word) (k : Kind) → slice_get registers a ≡ Some (record { name = word; live = true; kind = k }) → IsHeldAs k s names a

-- the commands were said in order, up to the first that stopped or to their end
pub record SaysThrough (commands : List Command) (said : List HistoryLine) : Type 0 where
  pub in_order : SayInOrder (registers_of said) said commands
  pub goes_on : list_all (λ line. not (stops line.reply)) (take (length said - 1) said) ≡ true
  pub to_the_end : list_any (λ line. stops line.reply) said ≡ false → length said ≡ length commands

-- These words were said with this call, and so answered: a line was written, and the register that it assigned, if any, was
-- noted with the number i.
pub record Spoke (old new : Seen) (before after : Script) (i : ℕ) (words : List Word) (call : Call) (answered : Answered) : Type 0 where
  pub is : IsAnswered old new call answered
  pub lines : map written_as after.lines.items ≡ map written_as before.lines.items ++ (answered.place, line_text answered.place old.number words answered.reply) ∷ []
  pub names : after.names.items ≡ assigned_after answered.made i before.names.items

-- the command was said; whether the session goes on
abbrev pub SaysOne : Seen → Seen → Script → Script → ℕ → Command → Bool → Type 0
SaysOne old new before after i command goes_on =
    (answered : Answered) × Spoke old new before after i command.words (call_of (last_told new.entries) before.names.items command.act) answered × (goes_on ≡ not (stops answered.reply))

-- the words that drop a register
abbrev pub drop_words : List Command → Assigned → List Word
drop_words commands assigned = codes "drop" ∷ target_at commands assigned.command ∷ []

-- the register was dropped, where it was live
abbrev pub DropsOne : List Command → Seen → Seen → Script → Script → ℕ → Assigned → Type 0
DropsOne commands old new before after i assigned =
    ((is_none (stands_now old assigned.name) ≡ true) × (new ≡ old) × (after ≡ before))
    ⊎ ((is_none (stands_now old assigned.name) ≡ false) × ((answered : Answered) × Spoke old new before after i (drop_words commands assigned) (calls.DropRow assigned.name) answered))

-- what a line says
abbrev pub spoken : HistoryLine → List Word × Call
spoken line = (line.words, line.entry.call)

-- The registers that are left were dropped, in order.
pub record DropsTheRest (start new : Seen) (commands : List Command) (after : Script) (said : List HistoryLine) : Type 0 where
  pub dropped : List HistoryLine
  pub stands : HasSaid start new commands after.names.items after.lines.items (said ++ dropped)
  pub rest : map spoken dropped ≡ map drop_of (left_of said)
