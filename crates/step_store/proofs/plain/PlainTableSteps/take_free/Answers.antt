use Rattle.std.proofs.Common.{◌-◌, refl}
use Rattle.std.specs.List.{range_with_len}
use Rattle.step_store.proofs.plain.PlainTableSteps.take_free.Goals as goal

pub returns-clause-taken : goal.returns-clause-taken
returns-clause-taken c = λ is. let t = c.args.self.now.core in (range_with_len t.first_free (t.limit - t.first_free), refl)
