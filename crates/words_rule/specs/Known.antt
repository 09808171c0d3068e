-- What a seat knows, as the steps of a seat speak of it.
use Rattle.std.specs.Prelude.{ℕ, ◌%◌, ◌^◌, ◌==◌, ◌&&◌, not, Bool, true, false, if◌then◌else◌, List, [], ◌∷◌, Option, Some, None, option_map}
use Rattle.edge_bits.specs.Words.{unpack_of, pack_of}
use Rattle.edge_bits.specs.declared.words.Word.{Word}
use Rattle.function_laws.specs.declared.history.Function.{Function}
use Rattle.function_laws.specs.declared.history.Function.TheVariants.{Bdd, Add, Zdd}
use Rattle.function_laws.specs.Kinds.{Denoted, BddFunction, AddFunction, ZddFamily}
use Rattle.function_laws.specs.Lists.{truth, whole}
use Rattle.node_store.specs.Contents.{Content, view_of}
use Rattle.step_store.specs.declared.hand.Taken.{Taken}
use Rattle.step_store.specs.declared.hand.Link as steps
use Rattle.step_store.specs.Knowing as knowing
use Rattle.step_store.specs.Knowing.{Knowledge}
use Rattle.words_rule.specs.declared.view.Held.{Held}
use Rattle.words_rule.specs.declared.view.SeenWord.{SeenWord}
use Rattle.words_rule.specs.declared.view.Job.{Job}
use Rattle.words_rule.specs.declared.view.Link.{Link}
use Rattle.words_rule.specs.declared.view.Walk.{Walk}
use Rattle.words_rule.specs.declared.view.Hand.{Hand}
use Rattle.words_rule.specs.declared.view.View.{View}
use Rattle.words_rule.specs.Views.{orders_of}
use Rattle.words_rule.specs.Shapes.{shape_in}
use Rattle.words_rule.specs.Layout.{heads}
use Rattle.words_rule.specs.Dues.{slot_of, word_of}

-- a function of the first n variables, or a family, by its whole list
abbrev pub denoted_in : ℕ → Function → Denoted
denoted_in n (Bdd f) = BddFunction (λ k. truth f (k % 2 ^ n))
denoted_in n (Add f) = AddFunction (λ k. whole f (k % 2 ^ n))
denoted_in n (Zdd p) = ZddFamily (truth p)

abbrev pub noted_bits : List SeenWord → ℕ → Option ℕ
noted_bits [] s = None
noted_bits (note ∷ notes) s = if note.slot == s then Some note.bits else noted_bits notes s

abbrev pub noted_function : List Held → ℕ → Option Function
noted_function [] s = None
noted_function (held ∷ notes) s = if (held.edge.index == s) && not held.edge.complement then Some held.function else noted_function notes s

abbrev pub word_in : Option ℕ → Option Word
word_in (Some bits) = unpack_of bits
word_in None = None

-- a slot is met where its word and what it denotes are noted
abbrev pub met_in : ℕ → Option ℕ → Option Function → Option Denoted
met_in n (Some bits) (Some f) = Some (denoted_in n f)
met_in n _ _ = None

abbrev pub noted_content : View → Content
noted_content v = record {
  orders = orders_of v.known;
  limit = v.draws.slots;
  word = λ s. word_in (noted_bits v.known.words s);
  function = λ s. met_in v.draws.vars (noted_bits v.known.words s) (noted_function v.known.seen s);
  count = λ s. 0;
  generation = λ s. 0;
  marked = λ s. false;
  pinned = λ s. false;
  sweeping = true;
  half = None;
}

-- What no part of the rule speaks of: fields of the seat's view that its own steps alone change, and the scratch beside it.
pub record Own : Type 0 where
  pub made : ℕ → Bool
  pub fulls : ℕ
  pub due : Option Denoted
  pub room : ℕ

-- the slot is one of these
abbrev pub is_among : List ℕ → ℕ → Bool
is_among [] t = false
is_among (s ∷ ss) t = if t == s then true else is_among ss t

-- of a seat with so much room in its scratch
abbrev pub own_of : View → ℕ → Own
own_of v room = record { made = is_among v.work.made; fulls = v.work.fulls; due = option_map (denoted_in v.draws.vars) v.work.due; room = room }

abbrev pub own_none : Own
own_none = record { made = λ s. false; fulls = 0; due = None; room = 0 }

-- one slot more was made
abbrev pub with_made : Own → ℕ → Own
with_made o slot = record o { made = λ t. if t == slot then true else o.made t }

abbrev pub taken_of : Job → Taken
taken_of job = record { slot = slot_of job; bits = pack_of (word_of job) }

abbrev pub link_of : Link → steps.Link
link_of k = record { slot = k.slot; next = k.link }

abbrev pub walk_of : Walk → knowing.Walk
walk_of n = record { head = n.head; level = n.level; rest = n.rest }

abbrev pub hand_of : Hand → knowing.Hand
hand_of h = record {
  levels = h.levels;
  free = h.free;
  taken = option_map taken_of h.taken;
  loose = h.loose;
  link = option_map link_of h.link;
  walk = option_map walk_of h.walk;
  memo = h.memo;
}

abbrev pub known_of : View → Own → Knowledge
known_of v o = record {
  view = record (view_of (noted_content v)) { vars = v.draws.vars; elements = v.draws.elements; made = o.made; fulls = o.fulls; due = o.due; room = o.room };
  word = noted_bits v.known.words;
  heads = heads (shape_in v.draws);
  hand = hand_of v.hand;
}
