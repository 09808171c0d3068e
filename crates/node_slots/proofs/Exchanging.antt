-- A store in its holder's hands, after a level and the next of an order were exchanged.
use Rattle.std.proofs.Common.{◌≡◌, ℕ, ◌+◌, List, length, take, drop, ◌++◌, None, refl, ap, sym, ◌∙◌, subst, arith}
use Rattle.std.specs.List.{swap}
use Rattle.std.proofs.Math.Seq.{take-append_seam}
use Rattle.function_laws.specs.declared.orders.Order.{Order}
use Rattle.function_laws.specs.declared.orders.Order.TheVariants.{Variables, Elements}
use Rattle.node_store.specs.Contents.{Content}
use Rattle.node_store.specs.Changes.{CanExchange, exchanged}
use Rattle.node_store.proofs.ExchangeSound.{exchanged_sound}
use Rattle.node_slots.specs.Stores.{AreInverse}
use Rattle.node_slots.specs.Held.{Held, IsHeld, held_view}
use Rattle.node_slots.proofs.HeldLaws.{after_same, settle}
use Rattle.node_slots.proofs.HeldRewriting.{Becomes}

-- a list that is written back to its vector
pub written_back : (n : ℕ) (xs items : List ℕ) → n ≡ length xs → take n (xs ++ drop (length xs) items) ≡ xs
written_back n xs items is = ap (λ m. take m (xs ++ drop (length xs) items)) is ∙ take-append_seam xs (drop (length xs) items)

abbrev pub with_variables : Held → List ℕ → List ℕ → Held
with_variables q levels at = record { plain = record q.plain { variable_levels = levels; variables_at = at }; half = None; chain = q.chain }

abbrev pub with_elements : Held → List ℕ → List ℕ → Held
with_elements q levels at = record { plain = record q.plain { element_levels = levels; elements_at = at }; half = None; chain = q.chain }

abbrev pub exchanged_at : Held → Order → ℕ → Content
exchanged_at h order level = record (held_view h) { orders = exchanged (held_view h).orders order level; half = None }

module _ (q : Held) (held : IsHeld q) (level : ℕ) (levels at : List ℕ) (inverse : AreInverse levels at) where
  variables_held : CanExchange (held_view q) Variables level → at ≡ swap q.plain.variables_at level (level + 1) → length levels ≡ length q.plain.variable_levels
      → Becomes (exchanged_at q Variables level) (with_variables q levels at)
  variables_held can is long =
      let new = with_variables q levels at in
      let w = exchanged_at q Variables level in
      let sound = exchanged_sound (held_view q) held.sound Variables level can in
      let orders : w.orders ≡ (held_view new).orders = ap (λ (xs : List ℕ). record (held_view q).orders { variables = xs }) (sym is) in
      let same = settle new w sound inverse held.elements_stand orders refl refl refl refl refl refl refl refl in
      let after = after_same w (held_view new) same sound in
      record {
        held = record {
          sound = after.sound;
          variables_stand = inverse;
          elements_stand = held.elements_stand;
          permanent = record { constants = held.permanent.constants; projections = λ v lt. held.permanent.projections v (omega (arith, lt, long)) };
          few_variables = (let f = held.few_variables in omega (arith, f, long));
          few_elements = held.few_elements;
          room = (let r = held.room in omega (arith, r, long));
          counted = held.counted;
          marks_fit = held.marks_fit;
          pins_fit = held.pins_fit;
          nothing_due = held.nothing_due;
          forgotten = held.forgotten;
          linked = held.linked;
        };
        after = after;
      }

  elements_held : CanExchange (held_view q) Elements level → at ≡ swap q.plain.elements_at level (level + 1) → length levels ≡ length q.plain.element_levels
      → Becomes (exchanged_at q Elements level) (with_elements q levels at)
  elements_held can is long =
      let new = with_elements q levels at in
      let w = exchanged_at q Elements level in
      let sound = exchanged_sound (held_view q) held.sound Elements level can in
      let orders : w.orders ≡ (held_view new).orders = ap (λ (xs : List ℕ). record (held_view q).orders { elements = xs }) (sym is) in
      let same = settle new w sound held.variables_stand inverse orders refl refl refl refl refl refl refl refl in
      let after = after_same w (held_view new) same sound in
      record {
        held = record {
          sound = after.sound;
          variables_stand = held.variables_stand;
          elements_stand = inverse;
          permanent = record { constants = held.permanent.constants; projections = held.permanent.projections };
          few_variables = held.few_variables;
          few_elements = (let f = held.few_elements in omega (arith, f, long));
          room = held.room;
          counted = held.counted;
          marks_fit = held.marks_fit;
          pins_fit = held.pins_fit;
          nothing_due = held.nothing_due;
          forgotten = held.forgotten;
          linked = held.linked;
        };
        after = after;
      }

-- the store as it was seen at the start of the call
pub variables_exchanged : (q h : Held) → q ≡ h → IsHeld q → (order : Order) → order ≡ Variables → (level : ℕ) → CanExchange (held_view h) order level
    → (levels at : List ℕ) → AreInverse levels at → at ≡ swap q.plain.variables_at level (level + 1) → length levels ≡ length q.plain.variable_levels
    → Becomes (exchanged_at h order level) (with_variables q levels at)
variables_exchanged q h same held order is level can levels at inverse swapped long =
    let can_q : CanExchange (held_view q) Variables level = subst (λ o. CanExchange (held_view q) o level) is (subst (λ x. CanExchange (held_view x) order level) (sym same) can) in
    let done = variables_held q held level levels at inverse can_q swapped long in
    subst (λ x. Becomes (exchanged_at x order level) (with_variables q levels at)) same (subst (λ o. Becomes (exchanged_at q o level) (with_variables q levels at)) (sym is) done)

pub elements_exchanged : (q h : Held) → q ≡ h → IsHeld q → (order : Order) → order ≡ Elements → (level : ℕ) → CanExchange (held_view h) order level
    → (levels at : List ℕ) → AreInverse levels at → at ≡ swap q.plain.elements_at level (level + 1) → length levels ≡ length q.plain.element_levels
    → Becomes (exchanged_at h order level) (with_elements q levels at)
elements_exchanged q h same held order is level can levels at inverse swapped long =
    let can_q : CanExchange (held_view q) Elements level = subst (λ o. CanExchange (held_view q) o level) is (subst (λ x. CanExchange (held_view x) order level) (sym same) can) in
    let done = elements_held q held level levels at inverse can_q swapped long in
    subst (λ x. Becomes (exchanged_at x order level) (with_elements q levels at)) same (subst (λ o. Becomes (exchanged_at q o level) (with_elements q levels at)) (sym is) done)
