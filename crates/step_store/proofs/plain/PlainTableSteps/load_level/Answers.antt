use Rattle.std.proofs.Common.{arith}
use Rattle.step_store.proofs.Tables.{level_high, level_low}
use Rattle.step_store.proofs.plain.PlainTableSteps.load_level.Goals as goal

pub returns-then-var-lt-FIRST_ELEMENT-clause-level : goal.returns-then-var-lt-FIRST_ELEMENT-clause-level
returns-then-var-lt-FIRST_ELEMENT-clause-level c = level_low c.args.self.now c.requires.own c.requires.var.0 c.args.var c.requires.var.1 c.if-var-lt-FIRST_ELEMENT.true

pub returns-else-var-lt-FIRST_ELEMENT-clause-level : goal.returns-else-var-lt-FIRST_ELEMENT-clause-level
returns-else-var-lt-FIRST_ELEMENT-clause-level c = let le = c.if-var-lt-FIRST_ELEMENT.false in level_high c.args.self.now c.requires.own c.requires.var.0 c.args.var c.requires.var.1 (omega (arith, le))
