-- What the load of a node word tells, and the store of one.
use Rattle.std.specs.Prelude.{◌≡◌, ◌⊎◌, ℕ, ◌<◌, true, false, List, Some, None, option_map}
use Rattle.edge_bits.specs.declared.edges.Edge.{Edge}
use Rattle.edge_bits.specs.declared.edges.Kind.{Kind}
use Rattle.edge_bits.specs.declared.words.Word.{Word}
use Rattle.edge_bits.specs.Words.{unpack_of, pack_of}
use Rattle.function_laws.specs.Kinds.{Denoted}
use Rattle.node_store.specs.Contents.{opened_of}
use Rattle.node_store.specs.Views as views
use Rattle.node_store.specs.Views.{Is, Kept, values_at}
use Rattle.step_store.specs.Knowing.{Knowledge, Grows, HasWord, IsMet, Learns, Meets, Stands}
use Rattle.step_store.specs.Walking.{Tells}
use Rattle.words_rule.specs.declared.view.Held.{Held}
use Rattle.words_rule.specs.declared.view.Job.{Job}
use Rattle.words_rule.specs.declared.view.View.{View}
use Rattle.words_rule.specs.Views.{orders_of}
use Rattle.words_rule.specs.Dues.{word_of}
use Rattle.words_rule.specs.Known.{Own, denoted_in, known_of, noted_function}
use Rattle.words_rule.specs.Remembered.{AreAnswers}

-- the seat is as it was, but for its notes and what it has in hand
pub record IsSeatOf (v u : View) : Type 0 where
  pub draws : u.draws ≡ v.draws
  pub shares : u.shares ≡ v.shares
  pub counts : u.counts ≡ v.counts
  pub orders : orders_of u.known ≡ orders_of v.known

-- A word in use was met: it is known, what it denotes, and what it opens into. A slot that the seat knew to be in use has one.
pub record LoadedNode (old new : Knowledge) (q n : ℕ) : Type 0 where
  pub learns : Learns old new
  pub hand : new.hand ≡ old.hand
  pub meets : (word : Word) → unpack_of n ≡ Some word → Meets new q n word
  pub used : IsMet old q → (word : Word) × (unpack_of n ≡ Some word)
  pub stands : Stands old → Stands new

-- Who takes the computed table learns what each of its entries says.
pub record LearntMemo (o : Own) (memo : List ℕ) (v u : View) : Type 0 where
  pub seat : IsSeatOf v u
  pub hand : u.hand ≡ record v.hand { memo = true }
  pub work : u.work ≡ v.work
  pub stored : u.stored ≡ v.stored
  pub learns : Learns (known_of v o) (known_of u o)
  pub stands : Stands (known_of v o) → Stands (known_of u o)
  pub holds : AreAnswers (known_of u o).view memo

-- what was taken for a word reads as it is packed
abbrev pub TakenReads : View → Type 0
TakenReads v = (job : Job) → v.hand.taken ≡ Some job → unpack_of (pack_of (word_of job)) ≡ Some (word_of job)

-- the slot that was taken has its word, and denotes what the word says
pub record StoredNode (old new : Knowledge) (slot bits : ℕ) : Type 0 where
  pub grows : Grows old new
  pub hand : new.hand ≡ record old.hand { taken = None; loose = Some slot }
  pub noted : new.word slot ≡ Some bits
  pub stored : (word : Word) → unpack_of bits ≡ Some word → HasWord old.view new.view slot word
  pub made : (s : ℕ) → new.view.made s ≡ true → (old.view.made s ≡ true) ⊎ (slot ≡ s)
  pub fulls : new.view.fulls ≡ old.view.fulls
  pub due : new.view.due ≡ old.view.due
  pub stands : Stands old → Stands new

-- what a walk sees: what slots denote, and nothing of levels
abbrev pub sees_of : View → views.View
sees_of v = record {
  vars = v.draws.vars;
  elements = v.draws.elements;
  slots = v.draws.slots;
  content = λ s. option_map (denoted_in v.draws.vars) (noted_function v.known.seen s);
  level = λ _. 0;
  top = λ _. 0;
  made = λ _. false;
  fulls = 0;
  due = None;
  count = λ _. 0;
  generation = λ _. 0;
  is_held = false;
  may_want_memory = false;
  room = 0;
}

-- a view with these functions
abbrev pub seeing : View → List Held → View
seeing v l = record v { known = record v.known { seen = l } }

-- each slot that it sees is one of the table
abbrev pub IsInside : View → Type 0
IsInside v = (s : ℕ) (f : Denoted) → (sees_of v).content s ≡ Some f → s < v.draws.slots

-- a walk's load of a word in use: what the word tells of each edge to its slot
pub record LoadedWord (v u : View) (q n : ℕ) : Type 0 where
  pub kept : Kept (sees_of v) (sees_of u)
  pub inside : IsInside u
  pub used : (word : Word) × (unpack_of n ≡ Some word)
  pub tells : (word : Word) → unpack_of n ≡ Some word → (e : Edge) → e.index ≡ q → (k : Kind) → Is k (sees_of v) e → Tells k (sees_of u) e (values_at k (sees_of v) e) (opened_of word e.complement)
