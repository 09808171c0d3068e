-- What all sessions hold lasts through a swap.
use Rattle.std.proofs.Common.{◌≡◌, ℕ, ◌+◌, ◌<◌, ◌≤◌, true, false, length, Option, Some, None, Result, Ok, Err, IsTrue, ap, sym, subst, ◌∙◌, arith}
use Rattle.std.specs.Prelude.{IfErr}
use Rattle.std.specs.Result.{is_err}
use Rattle.std.specs.List.{range_with_len}
use Rattle.std.proofs.lemmas.List.Edits.{length-swap}
use Rattle.std.proofs.lemmas.List.FromFn.{length-range_with_len}
use Rattle.function_laws.specs.declared.orders.Order.{Order}
use Rattle.function_laws.specs.declared.orders.Order.TheVariants.{Variables, Elements}
use Rattle.function_laws.specs.Kinds.{Denoted, function_of}
use Rattle.function_laws.specs.Sizes.{Orders, in_order}
use Rattle.node_store.specs.Contents.{Content, is_used}
use Rattle.node_store.specs.Changes.{After, exchanged}
use Rattle.node_store.specs.KindLaws.{flipped-some}
use Rattle.node_store.specs.Views.{values_at}
use Rattle.node_slots.specs.Held.{Alone, Held as Holding, held_view}
use Rattle.node_slots.specs.Stores.{Plain, IsStore, count_at, generation_at, is_held}
use Rattle.node_slots.specs.Wholes.{content_view}
use Rattle.node_slots.proofs.Settling.{settled_sound}
use Rattle.dead_sweep.specs.Swept.{IsSwept}
use Rattle.level_swap.proofs.EntryLemmas.{variables_entry, elements_entry}
use Rattle.level_swap.proofs.RoomForward.{filter_shorter}
use Rattle.shared_store.specs.declared.reordering.Crowded.{Crowded}
use Rattle.shared_store.specs.declared.shared.Shared.{Shared}
use Rattle.shared_store.specs.Lasting.{Lasts}
use Rattle.shared_store.specs.Reordering.{IsReordered, Reorders, orders_left}
use Rattle.shared_store.specs.Sharing.{kind_of, view_of}
use Rattle.shared_store.specs.Storing.{StoresOnly}
use Rattle.shared_store.proofs.Handed.{handed_back, left_idle}
use Rattle.shared_store.proofs.Keeping.{IsHeldIn-same}
use Rattle.shared_store.proofs.Stored.{stores-swept}
use Rattle.shared_store.proofs.Swept.{counted-kept}

-- what is the same after it, whether there was room or not
pub record IsKept (old new : Content) : Type 0 where
  pub limit : new.limit ≡ old.limit
  pub function : (s : ℕ) (f : Denoted) → old.function s ≡ Some f → new.function s ≡ Some f
  pub generation : new.generation ≡ old.generation
  pub pinned : new.pinned ≡ old.pinned
  pub sweeping : new.sweeping ≡ old.sweeping
  pub half : old.half ≡ None → new.half ≡ None
  pub counts : new.count ≡ old.count

pub is_kept : (order : Order) (level : ℕ) (old new : Content) (done : Result (Unit {0}) Crowded) → IsReordered Alone order level old new done → IsKept old new
is_kept order level old new (Ok done) (room, s) = record {
  limit = s.limit;
  function = s.function;
  generation = s.generation;
  pinned = s.pinned;
  sweeping = s.sweeping;
  half = λ whole. s.half;
  counts = s.counts;
}
is_kept order level old new (Err crowded) (a, is) = record {
  limit = a.limit;
  function = λ s f h. ap (λ (g : ℕ → Option Denoted). g s) a.function ∙ h;
  generation = a.generation;
  pinned = a.pinned;
  sweeping = a.sweeping;
  half = λ whole. a.half ∙ whole;
  counts = a.counts;
}

-- no swap is half made after it
pub whole_after : (order : Order) (level : ℕ) (old new : Content) (done : Result (Unit {0}) Crowded) → Reorders Alone order level old new done → new.half ≡ None
whole_after order level old new done r = (is_kept order level r.between new done r.reordered).half r.is_swept.half

-- what its holder did, of the store as it was given back
pub reorders_back : (p q : Plain) (before after : Holding) (order : Order) (level : ℕ) (done : Result (Unit {0}) Crowded) → held_view before ≡ content_view p → q ≡ after.plain → Reorders Alone order level (held_view before) (held_view after) done → Reorders Alone order level (content_view p) (content_view q) done
reorders_back p q before after order level done same back r =
    handed_back (λ x y. Reorders Alone order level x y done) p q before after same (whole_after order level (held_view before) (held_view after) done r) back r

-- the orders that are exchanged
orders_exchanged : (order : Order) (level : ℕ) (o : Orders) (done : Result (Unit {0}) Crowded) (old new : Content) → old.orders ≡ o → level + 1 < length (in_order o order) → IsReordered Alone order level old new done → new.orders ≡ orders_left order level o done
orders_exchanged Variables level o (Ok done) old new same within (room, s) = s.orders ∙ ap (λ (x : Orders). exchanged x Variables level) same ∙ variables_entry o level within
orders_exchanged Elements level o (Ok done) old new same within (room, s) = s.orders ∙ ap (λ (x : Orders). exchanged x Elements level) same ∙ elements_entry o level within
orders_exchanged order level o (Err crowded) old new same within (a, is) = a.orders ∙ same

-- are as long
as_many_variables : (order : Order) (level : ℕ) (done : Result (Unit {0}) Crowded) (old new : Content) → IsReordered Alone order level old new done → length new.orders.variables ≡ length old.orders.variables
as_many_variables Variables level (Ok done) old new (room, s) = ap (λ (x : Orders). length x.variables) s.orders ∙ length-swap old.orders.variables level (level + 1)
as_many_variables Elements level (Ok done) old new (room, s) = ap (λ (x : Orders). length x.variables) s.orders
as_many_variables order level (Err crowded) old new (a, is) = ap (λ (x : Orders). length x.variables) a.orders

as_many_elements : (order : Order) (level : ℕ) (done : Result (Unit {0}) Crowded) (old new : Content) → IsReordered Alone order level old new done → length new.orders.elements ≡ length old.orders.elements
as_many_elements Variables level (Ok done) old new (room, s) = ap (λ (x : Orders). length x.elements) s.orders
as_many_elements Elements level (Ok done) old new (room, s) = ap (λ (x : Orders). length x.elements) s.orders ∙ length-swap old.orders.elements level (level + 1)
as_many_elements order level (Err crowded) old new (a, is) = ap (λ (x : Orders). length x.elements) a.orders

unchanged : (old new : Content) → After Alone old new → new ≡ old
unchanged old new a = λ i. record {
  orders = a.orders i;
  limit = a.limit i;
  word = a.word i;
  function = a.function i;
  count = a.counts i;
  generation = a.generation i;
  marked = a.marked i;
  pinned = a.pinned i;
  sweeping = a.sweeping i;
  half = a.half i;
}

module _ (x y : Shared) (of : IsStore x.store) (of' : IsStore y.store) (order : Order) (level : ℕ) (done : Result (Unit {0}) Crowded)
    (r : Reorders Alone order level (content_view x.store) (content_view y.store) done) where
  kept : IsKept r.between (content_view y.store)
  kept = is_kept order level r.between (content_view y.store) done r.reordered

  vars : (view_of y).vars ≡ (view_of x).vars
  vars = sym of'.variables_stand.as_many ∙ as_many_variables order level done r.between (content_view y.store) r.reordered ∙ ap (λ (o : Orders). length o.variables) r.is_swept.orders ∙ of.variables_stand.as_many

  elements : (view_of y).elements ≡ (view_of x).elements
  elements = sym of'.elements_stand.as_many ∙ as_many_elements order level done r.between (content_view y.store) r.reordered ∙ ap (λ (o : Orders). length o.elements) r.is_swept.orders ∙ of.elements_stand.as_many

  function-kept : (s : ℕ) → 0 < count_at x.store s → (f : Denoted) → (content_view x.store).function s ≡ Some f → (content_view y.store).function s ≡ Some f
  function-kept s some f is = kept.function s f ((counted-kept Alone (content_view x.store) r.between r.swept r.is_swept (settled_sound x.store of) r.is_swept.counts s some).1 ∙ is)

  pub lasts-reordered : y.cells.items ≡ x.cells.items → Lasts x y
  lasts-reordered cells = record {
    held = λ h some held.
        let s = flipped-some h.edge.complement ((view_of x).content h.edge.index) (function_of (kind_of h.function) (values_at (kind_of h.function) (view_of x) h.edge)) held.0.is in
        IsHeldIn-same (view_of x) (view_of y) h (record { vars = vars; elements = elements; content = function-kept h.edge.index some s.0 s.1 ∙ sym s.1 }) held;
    cells = cells;
    counts_are = λ i. (vars i, elements i, (kept.limit ∙ r.is_swept.limit) i);
  }

  -- where there was no room, nothing was stored
  pub stored-reordered : IsTrue (is_err done) → StoresOnly (λ _. ⊥) x y
  stored-reordered failed = by done failed r
    where
      by : (done : Result (Unit {0}) Crowded) → IsTrue (is_err done) → Reorders Alone order level (content_view x.store) (content_view y.store) done → StoresOnly (λ _. ⊥) x y
      by (Ok none) failed r = absurd (let z : false ≡ true = failed in cc)
      by (Err crowded) failed r = stores-swept x y of of' (λ _. ⊥) r.swept (subst (λ (c : Content). IsSwept Alone (content_view x.store) c r.swept) (sym (unchanged r.between (content_view y.store) r.reordered.0)) r.is_swept)

-- the orders that are left
pub orders-reordered : (p q : Plain) (order : Order) (level : ℕ) (done : Result (Unit {0}) Crowded) → Reorders Alone order level (content_view p) (content_view q) done → level + 1 < length (in_order (content_view p).orders order)
    → (content_view q).orders ≡ orders_left order level (content_view p).orders done
orders-reordered p q order level done r within = orders_exchanged order level (content_view p).orders done r.between (content_view q) r.is_swept.orders within r.reordered

-- each slot that is held keeps its generation
pub generations-reordered : (p q : Plain) → IsStore p → (order : Order) (level : ℕ) (done : Result (Unit {0}) Crowded) → Reorders Alone order level (content_view p) (content_view q) done → (k : ℕ) → 0 < count_at p k → generation_at q k ≡ generation_at p k
generations-reordered p q of order level done r k some =
    ap (λ (f : ℕ → ℕ). f k) (is_kept order level r.between (content_view q) done r.reordered).generation ∙ (counted-kept Alone (content_view p) r.between r.swept r.is_swept (settled_sound p of) r.is_swept.counts k some).2

-- no sweep is on after it, and nothing is pinned
pub idle-reordered : (p q : Plain) (order : Order) (level : ℕ) (done : Result (Unit {0}) Crowded) → Reorders Alone order level (content_view p) (content_view q) done → is_held p ≡ false → is_held q ≡ false
idle-reordered p q order level done r idle =
    let kept = is_kept order level r.between (content_view q) done r.reordered in
    left_idle p q idle (kept.sweeping ∙ r.is_swept.sweeping) (kept.pinned ∙ r.is_swept.pinned)

-- The numbers of a swap for which there was no room: those in use are at most the slots, and with those that it needed they are more.
crowded_numbers : (order : Order) (level : ℕ) (old new : Content) (crowded : Crowded) → Reorders Alone order level old new (Err crowded) → (crowded.in_use ≤ old.limit) × (old.limit < crowded.in_use + crowded.need)
crowded_numbers order level old new crowded r =
    let is = r.reordered.1 in
    let limit = r.is_swept.limit in
    let used = is.in_use in
    let full = is.full in
    let few = filter_shorter (λ s. is_used (r.between.word s)) (range_with_len 0 r.between.limit) in
    let long = length-range_with_len 0 r.between.limit in
    (omega (arith, limit, used, few, long), omega (arith, limit, full))

pub full_numbers : (order : Order) (level : ℕ) (old new : Content) (done : Result (Unit {0}) Crowded) → Reorders Alone order level old new done → IfErr done (λ crowded. (crowded.in_use ≤ old.limit) × (old.limit < crowded.in_use + crowded.need))
full_numbers order level old new (Ok none) r = tt
full_numbers order level old new (Err crowded) r = crowded_numbers order level old new crowded r
