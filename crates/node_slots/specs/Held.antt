-- A plain store in its holder's hands.
use Rattle.std.proofs.Common.{refl, ap, ◌∙◌}
use Rattle.std.specs.Prelude.{◌≡◌, ℕ, ◌+◌, ◌≤◌, length, Option, Some, None}
use Rattle.edge_bits.specs.declared.limits.TheConstants.{MOST_ELEMENTS, MOST_VARIABLES}
use Rattle.computed_cache.specs.Entries.{kept_at}
use Rattle.node_store.specs.Contents.{Content, Pair, IsSound}
use Rattle.held_slots.specs.Linked.{IsLinkedTo}
use Rattle.held_slots.specs.Notes.{Chain}
use Rattle.node_slots.specs.Stores.{Plain, slots, AreInverse, HasPermanent}
use Rattle.node_slots.specs.Wholes.{content_view}
use Rattle.node_slots.specs.declared.held_store.HalfSwap.{HalfSwap}

-- a store, the two variables whose swap is half made, and what is known of the next slots of each variable
pub record Held : Type 0 where
  pub plain : Plain
  pub half : Option HalfSwap
  pub chain : Chain

abbrev pub pair_in : Option HalfSwap → Option Pair
pair_in None = None
pair_in (Some pair) = Some (record { upper = pair.upper; lower = pair.lower })

-- what its holder knows of it
abbrev pub held_view : Held → Content
held_view h = record (content_view h.plain) { half = pair_in h.half }

-- It is sound at each moment. Its levels are those of what stands in its orders, it remembers no answer, and its links are right where it has any.
pub record IsHeld (h : Held) : Type 0 where
  pub sound : IsSound (held_view h)
  pub variables_stand : AreInverse h.plain.variable_levels h.plain.variables_at
  pub elements_stand : AreInverse h.plain.element_levels h.plain.elements_at
  pub permanent : HasPermanent h.plain
  pub few_variables : length h.plain.variable_levels ≤ MOST_VARIABLES
  pub few_elements : length h.plain.element_levels ≤ MOST_ELEMENTS
  pub room : 5 + length h.plain.variable_levels ≤ length h.plain.words
  pub counted : length h.plain.counts ≡ length h.plain.words
  pub marks_fit : length h.plain.marks ≡ length h.plain.words
  pub pins_fit : length h.plain.pins ≡ length h.plain.words
  pub nothing_due : h.plain.due ≡ None
  pub forgotten : (i : ℕ) → kept_at h.plain.memo i ≡ None
  pub linked : IsLinkedTo (slots h.plain) h.chain

-- its holder has it to himself: others leave the counts as they are
abbrev pub Alone : (ℕ → ℕ) → (ℕ → ℕ) → Type 0
Alone old new = new ≡ old

pub Alone-none : (c : ℕ → ℕ) → Alone c c
Alone-none c = refl

pub Alone-both : (a b c : ℕ → ℕ) → Alone a b → Alone b c → Alone a c
Alone-both a b c first second = second ∙ first

pub Alone-zero : (a b : ℕ → ℕ) → Alone a b → (s : ℕ) → a s ≡ 0 → b s ≡ 0
Alone-zero a b same s none = ap (λ (f : ℕ → ℕ). f s) same ∙ none
