use Rattle.std.proofs.Common.{◌≡◌}
use Rattle.words_rule.specs.Passes.{me, IsLiveOf}
use Rattle.words_holder.proofs.told_steps.await_list.Given as goal

abbrev pub invariant-loop : goal.invariant-loop
invariant-loop g l = IsLiveOf l.guard l.pass × (me l.pass ≡ me l.initial.pass)
