use Rattle.std.proofs.Common.{◌≡◌, ◌+◌, Bool, ap, ◌∙◌}
use Rattle.std.specs.Prelude.{if◌then◌else◌}
use Rattle.hold_store.specs.Held.{Knowledge}
use Rattle.held_table.specs.Tables.{known_of}
use Rattle.hold_tests.proofs.Lowered.{counted_twice}
use Rattle.hold_tests.proofs.lowering.LoweringHolds.load_count.Goals as goal

pub returns-clause-counted : goal.returns-clause-counted
returns-clause-counted c =
    let met = c.meet.ensures.met in
    let loaded = c.load_count.ensures.counted in
    let k = known_of c.args.self.now.table in
    let l = known_of c.meet.new.self.table in (
      loaded.0,
      counted_twice k l (known_of c.load_count.new.self) c.args.slot met.0 loaded.0 met.1 loaded.1,
      loaded.2 ∙ ap (λ (n : Knowledge). loaded.0 + (if n.content.pinned c.args.slot then 1 else 0)) met.1,
    )

pub returns-clause-generation : goal.returns-clause-generation
returns-clause-generation c =
    c.load_count.ensures.generation ∙ ap (λ (n : Knowledge). n.content.generation c.args.slot) c.meet.ensures.met.1
