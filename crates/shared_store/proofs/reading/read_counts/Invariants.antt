use Rattle.std.proofs.Common.{◌≡◌, ℕ, ◌<◌, ◌≤◌, None, length}
use Rattle.seat_guard.specs.Passes.{counts_of, known}
use Rattle.seat_guard.specs.Recounts.{OnlyCounts}
use Rattle.seat_guard.specs.Tallies.{times}
use Rattle.shared_store.specs.Counted.{IsFound, IsRead}
use Rattle.shared_store.specs.Lasting.{IsRecounted}
use Rattle.shared_store.specs.Sharing.{Serving, view_of}
use Rattle.shared_store.proofs.reading.read_counts.Given as goal

abbrev pub invariant-loop-slot : goal.invariant-loop-slot
invariant-loop-slot l = record {
  own : OnlyCounts l.guard l.fn.pass l.pass;
  found : IsFound (counts_of l.fn.pass) (counts_of l.pass);
  serves : Serving l.shared (known l.pass) (counts_of l.pass);
  rest : IsRecounted l.fn.shared l.shared;
  within : l.slot-end ≤ length l.fn.shared.store.words;
  beyond : (k : ℕ) → l.slot-end ≤ k → (view_of l.fn.shared).content k ≡ None;
  read : (k : ℕ) → k < l.slot → IsRead k l.shared (known l.pass) (counts_of l.pass);
  fresh : (k : ℕ) → l.slot ≤ k → times k (counts_of l.pass).zeros ≡ 0;
}
