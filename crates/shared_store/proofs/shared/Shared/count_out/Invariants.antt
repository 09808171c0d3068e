use Rattle.std.proofs.Common.{◌≡◌, ◌≢◌, ℕ, ◌+◌}
use Rattle.shared_store.specs.Lasting.{IsRecounted}
use Rattle.shared_store.specs.Sharing.{count}
use Rattle.shared_store.proofs.shared.Shared.count_out.Given as goal

abbrev pub invariant-loop : goal.invariant-loop
invariant-loop l = record {
  rest : IsRecounted l.fn.self l.self;
  end_is : l.end ≡ count l.fn.self l.slot;
  left : count l.self l.slot + l.counter ≡ count l.fn.self l.slot;
  others : (k : ℕ) → k ≢ l.slot → count l.self k ≡ count l.fn.self k;
}
