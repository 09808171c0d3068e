-- A store in its holder's hands, where its words and holds are those of a sound content.
use Rattle.std.proofs.Common.{◌≡◌, ℕ, suc, ◌<◌, ◌≤◌, inl, inr, List, length, get_or, set, max, refl, ap, sym, ◌∙◌, subst, arith}
use Rattle.std.proofs.lemmas.Bool.{cases_eq}
use Rattle.std.proofs.lemmas.List.{get_or-set_same, get_or-set_other}
use Rattle.edge_bits.specs.Reading.{slots_of}
use Rattle.edge_bits.specs.Words.{unpack_of}
use Rattle.function_laws.proofs.ValueLemmas.{everywhere}
use Rattle.function_laws.specs.Sizes.{Orders}
use Rattle.node_store.specs.Contents.{Content, IsSound}
use Rattle.node_store.specs.Changes.{After, put_at}
use Rattle.node_store.proofs.Rewriting.{put_at-same, put_at-other}
use Rattle.node_slots.specs.Slots.{function_at_most}
use Rattle.node_slots.specs.Stores.{Plain, slots, longest, content_of, count_at, generation_at, is_set, AreInverse}
use Rattle.node_slots.specs.Held.{Alone, Held, IsHeld, held_view, pair_in}
use Rattle.node_slots.proofs.WordFunctions.{words_denote}

pub after_same : (w new : Content) → new ≡ w → IsSound w → After Alone w new
after_same w new e sound = record {
  orders = ap (λ x. x.orders) e;
  limit = ap (λ x. x.limit) e;
  word = ap (λ x. x.word) e;
  function = ap (λ x. x.function) e;
  generation = ap (λ x. x.generation) e;
  marked = ap (λ x. x.marked) e;
  pinned = ap (λ x. x.pinned) e;
  sweeping = ap (λ x. x.sweeping) e;
  half = ap (λ x. x.half) e;
  counts = ap (λ x. x.count) e;
  sound = subst IsSound (sym e) sound;
}

pub after_seen : (w new : Content) → new ≡ w → IsSound new → After Alone w new
after_seen w new e sound = after_same w new e (subst IsSound e sound)

-- nothing has changed
pub after_none : (q h : Held) → q ≡ h → IsHeld q → After Alone (held_view h) (held_view h)
after_none q h same is = subst (λ x. After Alone (held_view x) (held_view x)) same (after_same (held_view q) (held_view q) refl is.sound)

-- the words of a sound content denote its functions
pub content_settled : (p : Plain) (w : Content) → IsSound w → w.word ≡ slots p → length w.orders.variables ≤ longest p → length w.orders.elements ≤ longest p → content_of p ≡ w.function
content_settled p w sound words variables elements =
    subst (λ ws. function_at_most ws (suc (longest p)) ≡ w.function) words (words_denote w sound (longest p) variables elements)

-- what is read of a list after one of its words was written
pub read_put : {X : Type 0} (read : ℕ → X) (xs : List ℕ) (slot x : ℕ) → slot < length xs → put_at (λ s. read (get_or xs s 0)) slot (read x) ≡ (λ s. read (get_or (set xs slot x) s 0))
read_put read xs slot x within = everywhere (put_at (λ s. read (get_or xs s 0)) slot (read x)) (λ s. read (get_or (set xs slot x) s 0)) (λ s. elim (cases_eq s slot) [
  | inl e ↦ ap (put_at (λ t. read (get_or xs t 0)) slot (read x)) e ∙ put_at-same (λ t. read (get_or xs t 0)) slot (read x)
      ∙ ap read (sym (get_or-set_same xs slot x 0 within)) ∙ ap (λ t. read (get_or (set xs slot x) t 0)) (sym e)
  | inr ne ↦ put_at-other (λ t. read (get_or xs t 0)) slot s (read x) ne ∙ ap read (sym (get_or-set_other xs slot s x 0 ne))
])

pub slots_put : (xs : List ℕ) (slot bits : ℕ) → slot < length xs → put_at (slots_of xs) slot (unpack_of bits) ≡ slots_of (set xs slot bits)
slots_put = read_put unpack_of

-- no order is longer than the longest
pub orders_fit : (p : Plain) → AreInverse p.variable_levels p.variables_at → AreInverse p.element_levels p.elements_at → (length p.variables_at ≤ longest p) × (length p.elements_at ≤ longest p)
orders_fit p variables elements =
    let a = variables.as_many in let b = elements.as_many in
    (omega (arith, a, max), omega (arith, b, max))

-- a store whose words, orders and holds are those of a sound content is seen as that
pub settle : (h : Held) (w : Content) → IsSound w → AreInverse h.plain.variable_levels h.plain.variables_at → AreInverse h.plain.element_levels h.plain.elements_at
    → w.orders ≡ (held_view h).orders → w.limit ≡ length h.plain.words → w.word ≡ slots h.plain → w.count ≡ count_at h.plain → w.generation ≡ generation_at h.plain
    → w.marked ≡ is_set h.plain.marks → w.pinned ≡ is_set h.plain.pins → w.sweeping ≡ h.plain.sweeping → w.half ≡ pair_in h.half
    → held_view h ≡ w
settle h w sound variables elements orders limit words count generation marked pinned sweeping half =
    let fit = orders_fit h.plain variables elements in
    let functions = content_settled h.plain w sound words
    (subst (λ (o : Orders). length o.variables ≤ longest h.plain) (sym orders) fit.0)
    (subst (λ (o : Orders). length o.elements ≤ longest h.plain) (sym orders) fit.1) in
    λ i. record {
      orders = sym orders i;
      limit = sym limit i;
      word = sym words i;
      function = functions i;
      count = sym count i;
      generation = sym generation i;
      marked = sym marked i;
      pinned = sym pinned i;
      sweeping = sym sweeping i;
      half = sym half i;
    }
