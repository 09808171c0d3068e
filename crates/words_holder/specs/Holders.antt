-- A seat with the order and the full hold, as a holder of a table of words sees it.
use Rattle.std.specs.Prelude.{◌≡◌, ℕ, ◌<◌, [], ◌∷◌, true, false, List, Option, Some, None, option_map, if◌then◌else◌, length}
use Rattle.computed_cache.specs.Entries.{kept_at, places}
use Rattle.function_laws.specs.Sizes.{in_order}
use Rattle.hold_store.specs.Held as held
use Rattle.hold_store.specs.Held.{Knowledge, Pending}
use Rattle.step_store.specs.Chains.{Lists}
use Rattle.step_store.specs.Knowing.{IsChain}
use Rattle.words_holder.specs.declared.holder.Due.{Due}
use Rattle.atomic_table.specs.Seated.{TableId}
use Rattle.words_holder.specs.declared.holder.HolderRest.{HolderRest}
use Rattle.words_holder.specs.declared.holder.SeatRest.{SeatRest}
use Rattle.words_holder.specs.declared.holder.Lent.{Lent}
use Rattle.hold_store.specs.declared.holding.HolderRoom.{HolderRoom}
use Rattle.node_slots.specs.Stores.{is_set}
use Rattle.words_rule.specs.declared.seat.Guard.{Guard}
use Rattle.words_rule.specs.declared.seat.Pass.{Pass}
use Rattle.words_rule.specs.declared.view.Draws.{Draws}
use Rattle.words_rule.specs.declared.view.Hand.{Hand}
use Rattle.words_rule.specs.declared.view.Hold.TheVariants.{Holding}
use Rattle.words_rule.specs.declared.view.Share.TheVariants.{Nothing}
use Rattle.words_rule.specs.declared.view.View.{View}
use Rattle.words_rule.specs.declared.view.Walk.{Walk}
use Rattle.words_rule.specs.Exchanges.{position}
use Rattle.free_list.specs.FreeSlots.{FreeSlots}
use Rattle.words_rule.specs.HeldContents.{KnowsAll, held_bits, held_content}
use Rattle.words_rule.specs.HolderPlays.{AreFreeSlots}
use Rattle.words_rule.specs.Known.{link_of, walk_of}
use Rattle.words_rule.specs.Layout.{Shape, heads, levels}
use Rattle.words_rule.specs.Passes.{IsLiveOf, in_hand, view}
use Rattle.words_rule.specs.Shapes.{shape_in}
use Rattle.words_rule.specs.Views.{blank, orders_of}

abbrev pub pending_of : Due → Pending
pending_of d = record { order = d.order; level = d.level }

-- What it has in hand, where it gave out the free list and the computed table: that never has answers then.
abbrev pub hand_of : Hand → Option ℕ → Option Due → Lent → held.Hand
hand_of h renewed due lent = record {
  levels = h.levels;
  free = if lent.free then h.free else None;
  loose = h.loose;
  renewed = renewed;
  link = option_map link_of h.link;
  walk = option_map walk_of h.walk;
  pending = option_map pending_of due;
  named = if lent.memo then Some (λ _. false) else None;
}

abbrev pub knows : View → Option ℕ → Option Due → Lent → Knowledge
knows v renewed due lent = record { content = held_content v; bits = held_bits v; heads = heads (shape_in v.draws); hand = hand_of v.hand renewed due lent }

-- room for so many slots, none of them pinned
pub record IsSpareRoom (slots : ℕ) (room : HolderRoom) : Type 0 where
  pub words : length room.words ≡ slots
  pub marks : length room.notes.marks ≡ slots
  pub pins : length room.notes.pins ≡ slots
  pub unpinned : is_set room.notes.pins ≡ (λ (s : ℕ). false)

-- the order word that is still to be stored
abbrev pub dues_in : Shape → Option Due → List ℕ
dues_in z None = []
dues_in z (Some d) = position z d.order d.level ∷ []

-- a chain that it loaded under the order hold
abbrev pub IsWholeWalk : Draws → Walk → Type 0
IsWholeWalk d n = (n.whole ≡ true) × (n.head < heads (shape_in d)) × IsChain d.slots n.rest

-- both holds and no share; it knows the whole store; the free list, and the computed table, without answers
pub record HoldsTable (v : View) (list : FreeSlots) (table : List ℕ) (due : Option Due) : Type 0 where
  pub order : v.shares.order ≡ Holding
  pub full : v.shares.full ≡ Holding
  pub alone : (v.shares.op ≡ Nothing) × (v.shares.walk ≡ Nothing)
  pub knows_all : KnowsAll v
  pub taken : v.hand.taken ≡ None
  pub memo_is : v.hand.memo ≡ true
  pub blank : (0 < places table) × ((i : ℕ) → kept_at table i ≡ None)
  pub list_is : v.hand.free ≡ Some list.slots
  pub roomy : list.room ≡ v.draws.slots
  pub free_is : AreFreeSlots (held_content v) list.slots
  pub turn : (l : ℕ) → Lists v.hand.levels l → l < levels (shape_in v.draws)
  pub loose : (s : ℕ) → v.hand.loose ≡ Some s → s < v.draws.slots
  pub walk : (n : Walk) → v.hand.walk ≡ Some n → IsWholeWalk v.draws n
  pub pending : v.known.pending ≡ dues_in (shape_in v.draws) due
  pub due_within : (d : Due) → due ≡ Some d → d.level < length (in_order (orders_of v.known) d.order)

-- a live seat that does, with both out of the slots
pub record IsHolderAt {S : Type 0} (g : Guard S) (p : Pass S) (list : FreeSlots) (table : List ℕ) (due : Option Due) : Type 0 where
  pub own : IsLiveOf g p
  pub has : HoldsTable (view p) list table due
  pub out : in_hand p ≡ (1, None) ∷ (2, None) ∷ []

-- what no step of a holder changes of what its seat knows
abbrev pub rest_of : View → SeatRest
rest_of v = record { draws = v.draws; raised = v.counts.raised; owed = v.counts.owed; above = v.counts.above; generations = v.counts.generations; told_variables = v.known.told_variables; told_elements = v.known.told_elements }

-- and at which table it sits
abbrev pub home_of : TableId → View → HolderRest
home_of i v = record {
  words = i.words;
  slots = i.slots;
  views_name = i.views_name;
  atom = i.atom;
  block = i.block;
  offset = i.offset;
  slot_names = i.slot_names;
  seat = rest_of v;
}

abbrev pub no_rest : HolderRest
no_rest = record {
  words = 0;
  slots = 0;
  views_name = 0;
  atom = 0;
  block = 0;
  offset = 0;
  slot_names = [];
  seat = record { draws = blank; raised = []; owed = []; above = []; generations = []; told_variables = []; told_elements = [] };
}
