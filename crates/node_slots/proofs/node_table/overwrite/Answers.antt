use Rattle.std.proofs.Common.{◌∙◌}
use Rattle.node_slots.proofs.Replacing.{set_twice}
use Rattle.node_slots.proofs.node_table.overwrite.Goals as goal

pub returns-clause-words : goal.returns-clause-words
returns-clause-words c = c.fill.ensures.words ∙ (let e = c.erase.ensures.words in rw e (set_twice _ c.args.slot 0 c.args.bits))
