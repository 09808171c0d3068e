use Rattle.std.proofs.Common.{ap, map, sym, subst, ℕ}
use Rattle.std.proofs.lemmas.Result.{IfErr-weaker}
use Rattle.blif_text.specs.Said.{statement_in}
use Rattle.blif_text.specs.Statements.{Statement, ends, row}
use Rattle.blif_net.specs.Reading.{StopsStatement, TakesStatement}
use Rattle.blif_net.proofs.Taking.{nothing_taken, passed_taken}
use Rattle.blif_net.proofs.reading.Reading.take_statement.Goals as goal

pub returns-in-Nothing-clause-ok : goal.returns-in-Nothing-clause-ok
returns-in-Nothing-clause-ok c =
    subst (λ (s : Statement). TakesStatement c.args.self.now c.args.line s c.args.self.now) (sym (ap statement_in c.in-Nothing.is)) (nothing_taken c.args.self.now c.args.line)

pub returns-in-Row-clause-stop : goal.returns-in-Row-clause-stop
returns-in-Row-clause-stop c =
    IfErr-weaker c.row_line.result (λ stop. (line : ℕ) → StopsStatement c.args.self.now line (row (map (λ word. word.now) c.in-Row.words.now)) stop) (StopsStatement c.args.self.now c.args.line (statement_in c.args.statement))
    (λ stop s. subst (λ (t : Statement). StopsStatement c.args.self.now c.args.line t stop) (sym (ap statement_in c.in-Row.is)) (s c.args.line)) c.row_line.ensures.stop

pub returns-in-Ends-clause-stop : goal.returns-in-Ends-clause-stop
returns-in-Ends-clause-stop c =
    IfErr-weaker c.end_line.result (λ stop. (line : ℕ) → StopsStatement c.args.self.now line (ends (map (λ word. word.now) c.in-Ends.words.now)) stop) (StopsStatement c.args.self.now c.args.line (statement_in c.args.statement))
    (λ stop s. subst (λ (t : Statement). StopsStatement c.args.self.now c.args.line t stop) (sym (ap statement_in c.in-Ends.is)) (s c.args.line)) c.end_line.ensures.stop

pub returns-in_ok-close-in-PassedOver-clause-ok : goal.returns-in_ok-close-in-PassedOver-clause-ok
returns-in_ok-close-in-PassedOver-clause-ok c =
    subst (λ (s : Statement). TakesStatement c.args.self.now c.args.line s c.close.new.self) (sym (ap statement_in c.in-PassedOver.is)) (passed_taken c.args.self.now c.close.new.self c.args.line c.in_ok-close-in-PassedOver.ensures)
