use Rattle.std.proofs.Common.{◌-◌}
use Rattle.node_store.specs.Contents.{var_at}
use Rattle.group_sift.specs.Passes.{Passing}
use Rattle.group_sift.proofs.frees.free_level.Given as goal

abbrev pub invariant-slots : goal.invariant-slots
invariant-slots g l = Passing g.W.Whole.others (g.W.Whole.view l.initial.w) (var_at (g.W.Whole.view l.initial.w) l.order l.level) (g.W.Whole.view l.w) l.from

abbrev pub decreases-slots : goal.decreases-slots
decreases-slots g l = (g.W.Whole.view l.initial.w).limit - l.from
