use Rattle.std.proofs.Common.{◌≡◌, ℕ, ◌<◌, ◌≤◌, length}
use Rattle.std.specs.Prelude.{slice_index}
use Rattle.edge_bits.specs.Reading.{slots_of}
use Rattle.hold_store.proofs.holding.load_words.Given as goal

abbrev pub invariant-loop-slot : goal.invariant-loop-slot
invariant-loop-slot g l = record {
  own : g.S.Holds.holds l.seat;
  table : g.S.Holds.table l.seat ≡ g.S.Holds.table l.fn.seat;
  rest : g.S.Holds.rest l.seat ≡ g.S.Holds.rest l.fn.seat;
  same : g.S.Holds.known l.seat ≡ g.S.Holds.known l.fn.seat;
  long : length l.words ≡ length l.fn.words;
  loaded : (s : ℕ) → s < l.slot → slots_of l.words s ≡ (g.S.Holds.known l.fn.seat).content.word s;
  others : (s : ℕ) → l.slot ≤ s → slice_index l.words s ≡ 0;
}
