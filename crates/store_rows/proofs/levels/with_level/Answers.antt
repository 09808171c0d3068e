use Rattle.std.proofs.Common.{◌+◌}
use Rattle.node_store.specs.ViewLaws.{IsVariable-grown}
use Rattle.store_rows.proofs.levels.with_level.Goals as goal

pub level-requires : goal.level-requires
level-requires g c = let e = c.requires.each c.loop-number.number c.loop-number-test.true in (e.0, IsVariable-grown e.0 c.loop-number.invariant.kept.grown (c.args.first + c.loop-number.number) e.1)
