-- The entries after one was removed and the last one took its place.
use Rattle.std.proofs.Common.{◌≡◌, ℕ, ◌+◌, ◌-◌, ◌<◌, List, length, get_or, false}
use Rattle.edge_bits.specs.declared.edges.Edge.{Edge}
use Rattle.level_table.specs.declared.table.Entry.{Entry}
use Rattle.level_table.specs.Tables.{IsOf, slot_at, IsAbsent, AreApart}
use Rattle.level_table.proofs.Keyed.{distinct_without, missing_without, key_without}
use Rattle.level_table.proofs.Entries.{of_pair, is_of_pair, pair_of, slot_of, pairs}

module _ (es new : List Entry) (place : ℕ) (in' : place < length es) (long : length new + 1 ≡ length es) (moved : (d : Entry) → place + 1 < length es → get_or new place d ≡ get_or es (length es - 1) d) (kept : (k : ℕ) (d : Entry) → (k ≡ place → ⊥) → k + 1 < length es → get_or new k d ≡ get_or es k d) where
  pub apart_without : AreApart es → AreApart new
  apart_without = distinct_without of_pair is_of_pair pair_of slot_of pairs es new place in' long moved kept

  pub absent_without : (hi : ℕ) (lo : Edge) → AreApart es → ((d : Entry) → IsOf hi lo (get_or es place d)) → IsAbsent new hi lo
  absent_without hi lo = missing_without of_pair is_of_pair pair_of slot_of pairs es new place in' long moved kept (hi, lo)

  -- another pair has the slot that it had
  pub slot_without : (h : ℕ) (l : Edge) → AreApart es → ((d : Entry) → IsOf h l (get_or es place d) → ⊥) → slot_at new h l ≡ slot_at es h l
  slot_without h l = key_without of_pair is_of_pair pair_of slot_of pairs es new place in' long moved kept (record { hi = 0; lo = record { index = 0; complement = false }; slot = 0 }) (h, l)
