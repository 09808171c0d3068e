use Rattle.std.proofs.Common.{◌≡◌, ◌≤◌, ◌^◌}
use Rattle.words_rule.specs.Layout.{head_bits}
use Rattle.words_rule.proofs.beginning.head_count.Given as goal

abbrev pub invariant-loop-round : goal.invariant-loop-round
invariant-loop-round l = record { is : l.count ≡ 2 ^ head_bits l._round l.slots; few : l.count ≤ 8388608 }
