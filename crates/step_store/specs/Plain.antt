-- A table of words with one user, who knows all of it.
use Rattle.std.specs.Prelude.{nat_lt, ◌*◌, ◌^◌, replicate, option_map, ◌≡◌, ◌⊎◌, ℕ, zero, suc, ◌-◌, ◌<◌, ◌≤◌, Bool, true, false, if◌then◌else◌, List, [], ◌∷◌, length, slice_index, Option, Some, None}
use Rattle.std.specs.List.{range_with_len}
use Rattle.edge_bits.specs.Words.{unpack_of}
use Rattle.edge_bits.specs.declared.words.Word.{Word}
use Rattle.node_slots.specs.Stores.{IsStore, Plain, is_word, lent_room, plain_view, slots}
use Rattle.node_slots.specs.declared.plain_store.Refused.{Refused}
use Rattle.node_slots.specs.declared.plain_store.Refused.TheVariants as refused
use Rattle.step_store.specs.declared.job.Job.{Job}
use Rattle.step_store.specs.declared.job.Job.TheVariants as jobs
use Rattle.step_store.specs.declared.hand.Chain.{Chain}
use Rattle.step_store.specs.declared.table.Core.{Core}
use Rattle.step_store.specs.declared.table.PlainTable.{PlainTable}
use Rattle.step_store.specs.declared.hand.Link.{Link}
use Rattle.step_store.specs.declared.hand.Taken.{Taken}
use Rattle.step_store.specs.Chains.{Chains, head_of}
use Rattle.step_store.specs.Knowing.{Hand, Knowledge, MayStore, Walk}

abbrev pub refused_of : Job → Refused
refused_of (jobs.Node v hi lo) = refused.Node v hi lo
refused_of (jobs.Leaf x) = refused.Leaf x

-- the store that its words are: both orders are 0, 1, 2, ..
abbrev pub store_of : Core → Plain
store_of t = record {
  variable_levels = range_with_len 0 t.vars;
  element_levels = range_with_len 0 t.elements;
  variables_at = range_with_len 0 t.vars;
  elements_at = range_with_len 0 t.elements;
  words = t.words.items;
  counts = replicate t.limit 0;
  marks = replicate t.limit 0;
  pins = replicate t.limit 0;
  sweeping = false;
  fulls = t.fulls;
  due = option_map refused_of t.due;
  memo = t.memo;
  scratch_room = lent_room t.scratch;
}

-- the slots to which links lead, so many at most
abbrev pub links_along : ℕ → (ℕ → ℕ) → ℕ → List ℕ
links_along zero next link = []
links_along (suc n) next zero = []
links_along (suc n) next (suc s) = s ∷ links_along n next (next s)

abbrev pub chain_in : Core → ℕ → List ℕ
chain_in t h = links_along t.limit (slice_index t.nexts.items) (slice_index t.heads.items h)

abbrev pub walk_of : Core → Chain → Walk
walk_of t c = record { head = c.head; level = c.level; rest = chain_in t c.head }

abbrev pub levels_of : Option ℕ → List ℕ
levels_of None = []
levels_of (Some level) = level ∷ []

abbrev pub hand_of : PlainTable → Hand
hand_of t = record {
  levels = levels_of t.turn;
  free = if t.has_free then Some (range_with_len t.core.first_free (t.core.limit - t.core.first_free)) else None;
  taken = t.core.taken;
  loose = t.core.loose;
  link = t.core.link;
  walk = option_map (walk_of t.core) t.chain;
  memo = t.has_memo;
}

-- the word of a slot in use
abbrev pub word_at : List ℕ → ℕ → Option ℕ
word_at words s = if is_word (slice_index words s) then Some (slice_index words s) else None

abbrev pub known_of : PlainTable → Knowledge
known_of t = record { view = plain_view (store_of t.core); word = word_at t.core.words.items; heads = length t.core.heads.items; hand = hand_of t }

-- the word that is due in a slot that was taken: it may be stored, and stands nowhere
pub record IsDueIn (t : Core) (x : Taken) : Type 0 where
  pub below : x.slot < t.first_free
  pub free : slots (store_of t) x.slot ≡ None
  pub word : Word
  pub reads : unpack_of x.bits ≡ Some word
  pub fits : x.bits < 18446744073709551616
  pub may : MayStore (plain_view (store_of t)) word
  pub absent : (s : ℕ) → 3 ≤ s → slots (store_of t) s ≡ Some word → ⊥

-- the chains: which slots are on one, and which each head has
pub record AreChained (t : Core) : Type 0 where
  pub on : ℕ → Bool
  pub chain : ℕ → List ℕ
  pub chains : Chains (length t.heads.items) (slice_index t.heads.items) (slice_index t.nexts.items) (head_of (length t.heads.items)) (slice_index t.words.items) on chain
  pub on_used : (s : ℕ) → on s ≡ true → (3 ≤ s) × (word : Word) × (slots (store_of t) s ≡ Some word)
  pub complete : (s : ℕ) (word : Word) → 3 ≤ s → slots (store_of t) s ≡ Some word → (on s ≡ true) ⊎ (t.loose ≡ Some s)
  pub loose : (s : ℕ) → t.loose ≡ Some s → (on s ≡ false) × (3 ≤ s) × (word : Word) × (slots (store_of t) s ≡ Some word)
  pub link : (x : Link) → t.link ≡ Some x → slice_index t.nexts.items x.slot ≡ x.next

-- the slots from the first free one on are free, and each other is in use, or was taken
pub record AreTaken (t : Core) : Type 0 where
  pub first : t.first_free ≤ t.limit
  pub free : (s : ℕ) → t.first_free ≤ s → slots (store_of t) s ≡ None
  pub used : (s : ℕ) → s < t.first_free → ((word : Word) × (slots (store_of t) s ≡ Some word)) ⊎ ((x : Taken) × (t.taken ≡ Some x) × (x.slot ≡ s))
  pub taken : (x : Taken) → t.taken ≡ Some x → IsDueIn t x

pub record IsCore (t : Core) : Type 0 where
  pub store : IsStore (store_of t)
  pub as_many : length t.words.items ≡ t.limit
  pub as_many_nexts : length t.nexts.items ≡ t.limit
  pub some_heads : 0 < length t.heads.items
  pub few_heads : length t.heads.items < 4294967296
  pub few_fulls : t.fulls < 18446744073709551616
  pub fits : (s : ℕ) → slice_index t.words.items s < 18446744073709551616
  pub slots_taken : AreTaken t
  pub chained : AreChained t

-- the least power of two that is at least half of so many slots, and at least 64
pub record IsHeadCount (limit heads : ℕ) : Type 0 where
  pub power : ℕ
  pub is : heads ≡ 2 ^ power
  pub least : 64 ≤ heads
  pub half : limit ≤ 2 * heads
  pub no_less : (heads ≡ 64) ⊎ (heads < limit)
  pub few : heads < 2 ^ 23

-- the slots from 3 on, below so many
abbrev pub on_upto : ℕ → ℕ → Bool
on_upto count s = if nat_lt s 3 then false else nat_lt s count

-- the user may make the steps of an operation, or of a walk
abbrev pub IsSeat : PlainTable → Type 0
IsSeat t = IsCore t.core
