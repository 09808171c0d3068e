-- What a line says, as the code has it.
use Rattle.std.specs.Prelude.{map}
use Rattle.blif_text.specs.declared.statements.Statement.{Statement as Said}
use Rattle.blif_text.specs.declared.statements.Statement.TheVariants.{Nothing, PassedOver, LeftOut, Unknown, Model, Inputs, Outputs, Names, Subckt, Latch, Ends, Row}
use Rattle.blif_text.specs.Statements.{Statement, nothing, passed_over, left_out, unknown, model, inputs, outputs, names, subckt, latch, ends, row}

abbrev pub statement_in : Said → Statement
statement_in Nothing = nothing
statement_in PassedOver = passed_over
statement_in LeftOut = left_out
statement_in Unknown = unknown
statement_in (Model words) = model (map (λ word. word.now) words.now)
statement_in (Inputs words) = inputs (map (λ word. word.now) words.now)
statement_in (Outputs words) = outputs (map (λ word. word.now) words.now)
statement_in (Names words) = names (map (λ word. word.now) words.now)
statement_in (Subckt words) = subckt (map (λ word. word.now) words.now)
statement_in (Latch words) = latch (map (λ word. word.now) words.now)
statement_in (Ends words) = ends (map (λ word. word.now) words.now)
statement_in (Row words) = row (map (λ word. word.now) words.now)
