-- A sweep and a swap between which others left the counts alone, as ones between which they changed them.
use Rattle.std.proofs.Common.{ℕ, Result, Ok, Err, ap, ◌∙◌}
use Rattle.dead_sweep.specs.declared.sweeping.Swept.{Swept}
use Rattle.dead_sweep.specs.Swept.{IsSwept}
use Rattle.function_laws.specs.declared.orders.Order.{Order}
use Rattle.node_store.specs.Contents.{Content}
use Rattle.node_slots.specs.Held.{Alone}
use Rattle.shared_store.specs.declared.reordering.Crowded.{Crowded}
use Rattle.shared_store.specs.Reordering.{IsReordered, Reorders}
use Rattle.dd_session.specs.Counting.{ZeroStays}

pub beside : (a b : ℕ → ℕ) → Alone a b → ZeroStays a b
beside a b same s zero = ap (λ (f : ℕ → ℕ). f s) same ∙ zero

pub swept_beside : (before after : Content) (swept : Swept) → IsSwept Alone before after swept → IsSwept ZeroStays before after swept
swept_beside before after swept is = record {
  is_root = is.is_root;
  zero_before = is.zero_before;
  zero_after = is.zero_after;
  kept_word = is.kept_word;
  kept_function = is.kept_function;
  left = is.left;
  freed_generation = is.freed_generation;
  kept_generation = is.kept_generation;
  orders = is.orders;
  limit = is.limit;
  pinned = is.pinned;
  sweeping = is.sweeping;
  half = is.half;
  counts = beside before.count after.count is.counts;
  sound = is.sound;
  in_use = is.in_use;
  freed = is.freed;
  size = is.size;
}

reordered_beside : (order : Order) (level : ℕ) (old new : Content) (done : Result (Unit {0}) Crowded) → IsReordered Alone order level old new done → IsReordered ZeroStays order level old new done
reordered_beside order level old new (Ok done) (room, s) = (
  room,
  record {
    orders = s.orders;
    limit = s.limit;
    function = s.function;
    word = s.word;
    stored = s.stored;
    generation = s.generation;
    once = s.once;
    roots = s.roots;
    few = s.few;
    marked = s.marked;
    pinned = s.pinned;
    sweeping = s.sweeping;
    half = s.half;
    counts = beside old.count new.count s.counts;
    sound = s.sound;
  },
)
reordered_beside order level old new (Err crowded) (a, is) = (
  record {
    orders = a.orders;
    limit = a.limit;
    word = a.word;
    function = a.function;
    generation = a.generation;
    marked = a.marked;
    pinned = a.pinned;
    sweeping = a.sweeping;
    half = a.half;
    counts = beside old.count new.count a.counts;
    sound = a.sound;
  },
  is,
)

pub reorders_beside : (order : Order) (level : ℕ) (old new : Content) (done : Result (Unit {0}) Crowded) → Reorders Alone order level old new done → Reorders ZeroStays order level old new done
reorders_beside order level old new done r = record {
  swept = r.swept;
  between = r.between;
  is_swept = swept_beside old r.between r.swept r.is_swept;
  reordered = reordered_beside order level r.between new done r.reordered;
}
