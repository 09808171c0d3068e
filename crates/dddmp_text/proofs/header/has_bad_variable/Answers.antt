use Rattle.std.proofs.Common.{arith}
use Rattle.dddmp_text.proofs.ReadDumps.{bad-variable}
use Rattle.dddmp_text.proofs.header.has_bad_variable.Goals as goal

pub returns-else-vars-gt-MOST_VARIABLES : goal.returns-else-vars-gt-MOST_VARIABLES
returns-else-vars-gt-MOST_VARIABLES c =
    bad-variable c.args.given.now c.number_in-vars.result c.numbers_in.result.now c.are_below.result c.number_in-vars.ensures (omega (arith, c.if-vars-gt-MOST_VARIABLES.false)) c.numbers_in.ensures
    c.are_below.ensures
