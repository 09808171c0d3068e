use Rattle.std.proofs.Common.{◌≡◌, ℕ, ◌<◌, ◌≤◌}
use Rattle.shared_store.specs.Lasting.{IsRecounted}
use Rattle.shared_store.specs.Sharing.{count}
use Rattle.shared_store.proofs.shared.Shared.let_all_go.Given as goal

abbrev pub invariant-loop-slot : goal.invariant-loop-slot
invariant-loop-slot l = record {
  rest : IsRecounted l.fn.self l.self;
  beyond : (k : ℕ) → l.slot-end ≤ k → count l.fn.self k ≡ 0;
  kept : (k : ℕ) → l.slot ≤ k → count l.self k ≡ count l.fn.self k;
  none : (k : ℕ) → k < l.slot → count l.self k ≡ 0;
}
