-- What a seat knows of the words of a table, and what it has in hand.
use Rattle.std.specs.Prelude.{IfSome, IfNone, true, ◌≡◌, ◌≢◌, ◌⊎◌, ℕ, ◌+◌, ◌-◌, ◌<◌, ◌≤◌, nat_lt, ◌==◌, if◌then◌else◌, min, length, Bool, false, List, [], ◌∷◌, Option, Some, None, Result, IfOk, IsOkAnd, IsErrOf, OnOk}
use Rattle.edge_bits.specs.Permanent.{first_element}
use Rattle.edge_bits.specs.Reading.{plain}
use Rattle.edge_bits.specs.Words.{unpack_of, IsLeafValue}
use Rattle.edge_bits.specs.declared.edges.Edge.{Edge}
use Rattle.edge_bits.specs.declared.edges.Kind.{Kind}
use Rattle.edge_bits.specs.declared.edges.Kind.TheVariants.{Add}
use Rattle.edge_bits.specs.declared.words.Word.{Word}
use Rattle.edge_bits.specs.declared.words.Word.TheVariants.{Inner, Leaf}
use Rattle.function_laws.specs.Kinds.{Denoted, function_of}
use Rattle.function_laws.specs.Values.{constant}
use Rattle.node_store.specs.Contents.{opened_of}
use Rattle.node_store.specs.Edges.{flip_if}
use Rattle.node_store.specs.Views.{View, CanMake, Denotes, Grown, Is, IsFunction, IsProjection, IsProper, Kept, Opens, Permanent, Rose, node_values, values_at}
use Rattle.node_store.specs.declared.grow.Stop.{Stop}
use Rattle.node_store.specs.declared.grow.Stop.TheVariants as stops
use Rattle.step_store.specs.Chains.{Lists, head_of, link_to}
use Rattle.step_store.specs.declared.hand.Link.{Link}
use Rattle.step_store.specs.declared.hand.Taken.{Taken}
use Rattle.step_store.specs.declared.job.Job.{Job}
use Rattle.step_store.specs.declared.job.Job.TheVariants as jobs

-- the chain of a head, as it was found under the turn of a level: each slot of that level on it is among these
pub record Walk : Type 0 where
  pub head : ℕ
  pub level : ℕ
  pub rest : List ℕ

pub record Hand : Type 0 where
  -- the levels whose turns it has
  pub levels : List ℕ
  -- the free list, where that is in hand
  pub free : Option (List ℕ)
  pub taken : Option Taken
  -- a slot that is in use and on no chain
  pub loose : Option ℕ
  pub link : Option Link
  pub walk : Option Walk
  -- whether it has the computed table
  pub memo : Bool

pub record Knowledge : Type 0 where
  -- the slots that it has met, as an operator sees them
  pub view : View
  -- the words that it has loaded or stored
  pub word : ℕ → Option ℕ
  -- how many heads there are
  pub heads : ℕ
  pub hand : Hand

-- nothing in hand
abbrev pub idle : Hand
idle = record { levels = []; free = None; taken = None; loose = None; link = None; walk = None; memo = false }

-- The level of a variable or an element, numbered through both kinds as they stand at first; leaves have one of their own, behind them.
abbrev pub turn_of : View → Word → ℕ
turn_of w (Inner node) = if nat_lt node.var first_element then node.var else w.vars + (node.var - first_element)
turn_of w (Leaf x) = w.vars + w.elements

abbrev pub turns : View → ℕ
turns w = w.vars + w.elements + 1

abbrev pub HasLevel : Hand → ℕ → Type 0
HasLevel h l = Lists h.levels l

-- the slot is this seat's: free and taken, or in use and on no chain
abbrev pub Owns : Hand → ℕ → Type 0
Owns h s = ((t : Taken) × (h.taken ≡ Some t) × (t.slot ≡ s)) ⊎ (h.loose ≡ Some s)

abbrev pub without_level : ℕ → List ℕ → List ℕ
without_level l [] = []
without_level l (x ∷ xs) = if x == l then without_level l xs else (x ∷ without_level l xs)

-- It learned more, made nothing and was refused nothing. What it has in hand is another matter.
pub record Learns (old new : Knowledge) : Type 0 where
  pub kept : Kept old.view new.view
  pub room : new.view.room ≡ old.view.room
  pub words : (s b : ℕ) → old.word s ≡ Some b → new.word s ≡ Some b
  pub heads : new.heads ≡ old.heads

-- It learned more, and may have made something.
pub record Grows (old new : Knowledge) : Type 0 where
  pub grown : Grown old.view new.view
  pub room : new.view.room ≡ old.view.room
  pub words : (s b : ℕ) → old.word s ≡ Some b → new.word s ≡ Some b
  pub heads : new.heads ≡ old.heads

-- what a step that only moves something in hand leaves
abbrev pub handed : Knowledge → Hand → Knowledge
handed k h = record k { hand = h }

-- Of a slot in use: its word, that it denotes a function, and what its word opens it into.
pub record Meets (k : Knowledge) (s bits : ℕ) (word : Word) : Type 0 where
  pub noted : k.word s ≡ Some bits
  pub is : IsFunction k.view (plain s)
  pub opens : (e : Edge) → e.index ≡ s → (j : Kind) → Is j k.view e → Opens j k.view e (values_at j k.view e) (opened_of word e.complement)

-- a slot that the seat knows to be in use: it denotes a function, or is on a chain that the seat knows
abbrev pub IsMet : Knowledge → ℕ → Type 0
IsMet k s = ((f : Denoted) × (k.view.content s ≡ Some f)) ⊎ ((n : Walk) × (k.hand.walk ≡ Some n) × Lists n.rest s)

-- What is asked of a word that is to be stored: the node's children are known and lie below it, and the node is none of them.
abbrev pub MayStore : View → Word → Type 0
MayStore w (Inner node) = (k : Kind) × CanMake k w node.var (plain node.hi) node.lo × IsProper k (values_at k w (plain node.hi)) (values_at k w node.lo)
MayStore w (Leaf x) = IsLeafValue x

-- The slot denotes what its word says, with children as an earlier view knows them.
abbrev pub HasWord : View → View → ℕ → Word → Type 0
HasWord w new s (Inner node) = (k : Kind) → CanMake k w node.var (plain node.hi) node.lo → Denotes k new (plain s) (node_values k w node.var (plain node.hi) node.lo)
HasWord w new s (Leaf x) = Denotes Add new (plain s) (constant x)

-- None of the chain where the word would stand has it: no slot has it then.
pub record IsAbsent (k : Knowledge) (bits : ℕ) (word : Word) : Type 0 where
  pub walk : Walk
  pub is : k.hand.walk ≡ Some walk
  pub reads : unpack_of bits ≡ Some word
  pub head : walk.head ≡ head_of k.heads bits
  pub level : walk.level ≡ turn_of k.view word
  pub others : (s : ℕ) → Lists walk.rest s → (b : ℕ) × (k.word s ≡ Some b) × (b ≢ bits)

-- the word of a node or a leaf that is looked for: a node's then arc is not complemented there
abbrev pub word_of : Job → Word
word_of (jobs.Node v hi lo) = Inner (record { var = v; hi = hi.index; lo = flip_if hi.complement lo })
word_of (jobs.Leaf x) = Leaf x

abbrev pub MayMake : View → Job → Type 0
MayMake w (jobs.Node v hi lo) = (k : Kind) × CanMake k w v hi lo
MayMake w (jobs.Leaf x) = IsLeafValue x

-- The word is absent, may be stored, and the turn of its level is in hand.
pub record IsWanted (k : Knowledge) (bits : ℕ) (word : Word) : Type 0 where
  pub absent : IsAbsent k bits word
  pub may : MayStore k.view word
  pub turn : HasLevel k.hand (turn_of k.view word)

-- one more, or the same at the end of 64 bits
abbrev pub risen : ℕ → ℕ
risen n = min (n + 1) 18446744073709551615

-- what was due is what the job makes
abbrev pub IsDue : View → View → Job → Type 0
IsDue w new (jobs.Node v hi lo) = (k : Kind) → CanMake k w v hi lo → new.due ≡ Some (function_of k (node_values k w v hi lo))
IsDue w new (jobs.Leaf x) = new.due ≡ Some (function_of Add (constant x))

-- a list of slots in use, no more than there are slots
pub record IsChain (slots : ℕ) (rest : List ℕ) : Type 0 where
  pub each : (s : ℕ) → Lists rest s → (3 ≤ s) × (s < slots)
  pub few : length rest ≤ slots

-- What is so of each seat that has an operation share.
pub record Stands (k : Knowledge) : Type 0 where
  pub permanent : Permanent k.view
  pub projections : (v : ℕ) → v < k.view.vars → IsProjection k.view v (plain (5 + v))
  -- no two edges denote one function
  pub canonical : (j : Kind) (e f : Edge) → Is j k.view e → Is j k.view f → values_at j k.view e ≡ values_at j k.view f → e ≡ f
  pub within : (s : ℕ) (f : Denoted) → k.view.content s ≡ Some f → s < k.view.slots
  pub few_variables : k.view.vars ≤ first_element
  pub few_elements : k.view.elements ≤ first_element
  pub few_slots : k.view.slots < 8388608
  pub some_heads : 0 < k.heads
  pub few_heads : k.heads < 4294967296
  pub few_fulls : k.view.fulls < 18446744073709551616
  pub never_wants : k.view.may_want_memory ≡ false

-- the slot was met, with a word of these bits
abbrev pub IsFound : Knowledge → ℕ → ℕ → Type 0
IsFound k bits s = (3 ≤ s) × (s < k.view.slots) × ((word : Word) → unpack_of bits ≡ Some word → Meets k s bits word)

-- each slot of the chain of a head was met, under the turn of a level, with other bits
pub record HasWalked (k : Knowledge) (head level bits : ℕ) : Type 0 where
  pub walk : Walk
  pub is : k.hand.walk ≡ Some walk
  pub head_is : walk.head ≡ head
  pub level_is : walk.level ≡ level
  pub others : (s : ℕ) → Lists walk.rest s → (b : ℕ) × (k.word s ≡ Some b) × (b ≢ bits)

-- one level's turn in hand, and what is known of a chain
abbrev pub with_turn : ℕ → Option Walk → Hand
with_turn level walk = record idle { levels = level ∷ []; walk = walk }

-- each of these slots was met, with other bits
abbrev pub AllElse : Knowledge → List ℕ → ℕ → Type 0
AllElse k list bits = (s : ℕ) → Lists list s → (b : ℕ) × (k.word s ≡ Some b) × (b ≢ bits)

-- the list is the chain that is known
abbrev pub IsAlong : Knowledge → ℕ → Type 0
IsAlong k link = (n : Walk) × (k.hand.walk ≡ Some n) × (link ≡ link_to n.rest) × IsChain k.view.slots n.rest

-- What is left once a word was looked for, and stored where it was absent.
pub record Placed (old new : Knowledge) (job : Job) (result : Option ℕ) : Type 0 where
  pub grows : Grows old new
  pub slot : IfSome result (λ s. (s < old.view.slots) × HasWord old.view new.view s (word_of job))
  pub made : (s : ℕ) → new.view.made s ≡ true → (old.view.made s ≡ true) ⊎ (result ≡ Some s)
  pub full : IfNone result (Rose old.view new.view × IsDue old.view new.view job)
  pub still_due : IfSome result (λ s. new.view.due ≡ old.view.due)

-- what a node or a leaf that was asked for denotes
abbrev pub IsMadeOf : View → View → Job → Result Edge Stop → Type 0
IsMadeOf w new (jobs.Node v hi lo) result = (k : Kind) → CanMake k w v hi lo → IfOk result (λ e. Denotes k new e (node_values k w v hi lo))
IsMadeOf w new (jobs.Leaf x) result = IfOk result (λ e. Denotes Add new e (constant x))

-- What is left once a node or a leaf was asked for.
pub record Answers (old new : Knowledge) (job : Job) (result : Result Edge Stop) : Type 0 where
  pub grows : Grows old new
  pub ok : IsMadeOf old.view new.view job result
  pub made : (s : ℕ) → new.view.made s ≡ true → (old.view.made s ≡ true) ⊎ IsOkAnd result (λ e. e.index ≡ s)
  pub never : IsErrOf result stops.Memory → ⊥
  pub full : IsErrOf result stops.Full → Rose old.view new.view
  pub due : IsErrOf result stops.Full → IsDue old.view new.view job
  pub still_due : OnOk result (new.view.due ≡ old.view.due)
