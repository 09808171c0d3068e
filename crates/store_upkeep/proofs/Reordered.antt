-- What is counted lasts through a swap.
use Rattle.std.proofs.Common.{◌≡◌, ℕ, ◌+◌, ◌<◌, length, Option, Some, None, false, Result, Ok, Err, ap, sym, ◌∙◌}
use Rattle.std.proofs.lemmas.List.Edits.{length-swap}
use Rattle.function_laws.specs.declared.orders.Order.{Order}
use Rattle.function_laws.specs.declared.orders.Order.TheVariants.{Variables, Elements}
use Rattle.function_laws.specs.Kinds.{Denoted}
use Rattle.function_laws.specs.Sizes.{Orders, in_order}
use Rattle.node_store.specs.Contents.{Content}
use Rattle.node_store.specs.Changes.{exchanged}
use Rattle.node_slots.specs.Held.{Alone, Held as Holding, held_view}
use Rattle.node_slots.specs.Stores.{Plain, IsStore, is_held}
use Rattle.node_slots.specs.Wholes.{content_view}
use Rattle.node_slots.proofs.Settling.{settled_sound}
use Rattle.level_swap.proofs.EntryLemmas.{variables_entry, elements_entry}
use Rattle.store_upkeep.specs.declared.reordering.Crowded.{Crowded}
use Rattle.store_upkeep.specs.Lasting.{Lasts, orders_of}
use Rattle.store_upkeep.specs.Reordering.{IsReordered, Reorders, orders_left}
use Rattle.store_upkeep.proofs.Handed.{handed_back, left_idle}
use Rattle.store_upkeep.proofs.Swept.{counted-kept}

-- what is the same after it, whether there was room or not
pub record IsKept (old new : Content) : Type 0 where
  pub limit : new.limit ≡ old.limit
  pub function : (s : ℕ) (f : Denoted) → old.function s ≡ Some f → new.function s ≡ Some f
  pub generation : new.generation ≡ old.generation
  pub pinned : new.pinned ≡ old.pinned
  pub sweeping : new.sweeping ≡ old.sweeping
  pub half : old.half ≡ None → new.half ≡ None
  pub counts : new.count ≡ old.count

pub is_kept : (order : Order) (level : ℕ) (old new : Content) (done : Result (Unit {0}) Crowded) → IsReordered Alone order level old new done → IsKept old new
is_kept order level old new (Ok done) (room, s) = record {
  limit = s.limit;
  function = s.function;
  generation = s.generation;
  pinned = s.pinned;
  sweeping = s.sweeping;
  half = λ whole. s.half;
  counts = s.counts;
}
is_kept order level old new (Err crowded) (a, is) = record {
  limit = a.limit;
  function = λ s f h. ap (λ (g : ℕ → Option Denoted). g s) a.function ∙ h;
  generation = a.generation;
  pinned = a.pinned;
  sweeping = a.sweeping;
  half = λ whole. a.half ∙ whole;
  counts = a.counts;
}

-- no swap is half made after it
pub whole_after : (order : Order) (level : ℕ) (old new : Content) (done : Result (Unit {0}) Crowded) → Reorders Alone order level old new done → new.half ≡ None
whole_after order level old new done r = (is_kept order level r.between new done r.reordered).half r.is_swept.half

-- what its holder did, of the store as it was given back
pub reorders_back : (p q : Plain) (before after : Holding) (order : Order) (level : ℕ) (done : Result (Unit {0}) Crowded) → held_view before ≡ content_view p → q ≡ after.plain → Reorders Alone order level (held_view before) (held_view after) done → Reorders Alone order level (content_view p) (content_view q) done
reorders_back p q before after order level done same back r =
    handed_back (λ x y. Reorders Alone order level x y done) p q before after same (whole_after order level (held_view before) (held_view after) done r) back r

-- the orders that are exchanged
orders_exchanged : (order : Order) (level : ℕ) (o : Orders) (done : Result (Unit {0}) Crowded) (old new : Content) → old.orders ≡ o → level + 1 < length (in_order o order) → IsReordered Alone order level old new done → new.orders ≡ orders_left order level o done
orders_exchanged Variables level o (Ok done) old new same within (room, s) = s.orders ∙ ap (λ (x : Orders). exchanged x Variables level) same ∙ variables_entry o level within
orders_exchanged Elements level o (Ok done) old new same within (room, s) = s.orders ∙ ap (λ (x : Orders). exchanged x Elements level) same ∙ elements_entry o level within
orders_exchanged order level o (Err crowded) old new same within (a, is) = a.orders ∙ same

-- are as long
as_many_variables : (order : Order) (level : ℕ) (done : Result (Unit {0}) Crowded) (old new : Content) → IsReordered Alone order level old new done → length new.orders.variables ≡ length old.orders.variables
as_many_variables Variables level (Ok done) old new (room, s) = ap (λ (x : Orders). length x.variables) s.orders ∙ length-swap old.orders.variables level (level + 1)
as_many_variables Elements level (Ok done) old new (room, s) = ap (λ (x : Orders). length x.variables) s.orders
as_many_variables order level (Err crowded) old new (a, is) = ap (λ (x : Orders). length x.variables) a.orders

as_many_elements : (order : Order) (level : ℕ) (done : Result (Unit {0}) Crowded) (old new : Content) → IsReordered Alone order level old new done → length new.orders.elements ≡ length old.orders.elements
as_many_elements Variables level (Ok done) old new (room, s) = ap (λ (x : Orders). length x.elements) s.orders
as_many_elements Elements level (Ok done) old new (room, s) = ap (λ (x : Orders). length x.elements) s.orders ∙ length-swap old.orders.elements level (level + 1)
as_many_elements order level (Err crowded) old new (a, is) = ap (λ (x : Orders). length x.elements) a.orders

module _ (p q : Plain) (of : IsStore p) (of' : IsStore q) (order : Order) (level : ℕ) (done : Result (Unit {0}) Crowded)
    (r : Reorders Alone order level (content_view p) (content_view q) done) where
  kept : IsKept r.between (content_view q)
  kept = is_kept order level r.between (content_view q) done r.reordered

  pub lasts-reordered : Lasts p q
  lasts-reordered = record {
    vars = sym of'.variables_stand.as_many ∙ as_many_variables order level done r.between (content_view q) r.reordered ∙ ap (λ (o : Orders). length o.variables) r.is_swept.orders ∙ of.variables_stand.as_many;
    elements = sym of'.elements_stand.as_many ∙ as_many_elements order level done r.between (content_view q) r.reordered ∙ ap (λ (o : Orders). length o.elements) r.is_swept.orders ∙ of.elements_stand.as_many;
    slots = kept.limit ∙ r.is_swept.limit;
    counts = kept.counts ∙ r.is_swept.counts;
    functions = λ s f some there. kept.function s f ((counted-kept Alone (content_view p) r.between r.swept r.is_swept (settled_sound p of) r.is_swept.counts s some).1 ∙ there);
  }

-- the orders that are left
pub orders-reordered : (p q : Plain) (order : Order) (level : ℕ) (done : Result (Unit {0}) Crowded) → Reorders Alone order level (content_view p) (content_view q) done → level + 1 < length (in_order (orders_of p) order)
    → orders_of q ≡ orders_left order level (orders_of p) done
orders-reordered p q order level done r within = orders_exchanged order level (orders_of p) done r.between (content_view q) r.is_swept.orders within r.reordered

-- no sweep is on after it, and nothing is pinned
pub idle-reordered : (p q : Plain) (order : Order) (level : ℕ) (done : Result (Unit {0}) Crowded) → Reorders Alone order level (content_view p) (content_view q) done → is_held p ≡ false → is_held q ≡ false
idle-reordered p q order level done r idle =
    let kept = is_kept order level r.between (content_view q) done r.reordered in
    left_idle p q idle (kept.sweeping ∙ r.is_swept.sweeping) (kept.pinned ∙ r.is_swept.pinned)
