use Rattle.std.proofs.Common.{◌≡◌, ◌⊎◌, ap, inl, inr, map, sym, ◌∙◌, true, false}
use Rattle.std.proofs.lemmas.Result.{IfErr-weaker, on_ok_weaker}
use Rattle.blif_text.specs.Said.{statement_in}
use Rattle.blif_text.specs.Statements.{said, statement_of}
use Rattle.blif_text.specs.Text.{line_at}
use Rattle.blif_net.specs.Reading.{StopsLine, StopsStatement, follows_end}
use Rattle.blif_net.proofs.Taking.{behind_end, open_line, open_stops, unclean_line}
use Rattle.blif_net.proofs.reading.Reading.take.Goals as goal
use Rattle.blif_net.proofs.reading.Reading.take.Goals.{else-self-via-then-self+else-not-may_follow_end, else-self-via-else-self}

pub returns-then-not-all_in-clause-stop : goal.returns-then-not-all_in-clause-stop
returns-then-not-all_in-clause-stop c = unclean_line c.args.self.now (line_at c.args.line c.args.bytes.now) (sym c.all_in.ensures ∙ c.if-not-all_in.true)

pub returns-then-not-may_follow_end-clause-stop : goal.returns-then-not-may_follow_end-clause-stop
returns-then-not-may_follow_end-clause-stop c =
    let line = line_at c.args.line c.args.bytes.now in
    let same : statement_in c.statement_of-statement.result ≡ said line = c.statement_of-statement.ensures ∙ ap statement_of (ap (map (λ w. w.now)) c.deref.ensures.value ∙ c.in_ok-put_words.ensures.words) in
    behind_end c.args.self.now line (sym c.all_in.ensures ∙ c.if-not-all_in.false) c.if-self.true (ap follows_end (sym same) ∙ sym c.may_follow_end.ensures ∙ c.if-not-may_follow_end.true)

pub returns-clause-ok : goal.returns-clause-ok
returns-clause-ok c =
    let line = line_at c.args.line c.args.bytes.now in
    let same : statement_in c.statement_of-statement.result ≡ said line = c.statement_of-statement.ensures ∙ ap statement_of (ap (map (λ w. w.now)) c.deref.ensures.value ∙ c.in_ok-put_words.ensures.words) in
    let may : (c.args.self.now.ended ≡ false) ⊎ (follows_end (statement_in c.statement_of-statement.result) ≡ true) =
    elim c.else-self.branch [
      | else-self-via-then-self+else-not-may_follow_end w ↦ inr (sym w.may_follow_end.ensures ∙ w.if-not-may_follow_end.false)
      | else-self-via-else-self w ↦ inl w.if-self.false
    ] in
    on_ok_weaker c.take_statement.result (λ t. open_line c.args.self.now c.take_statement.new.self line (statement_in c.statement_of-statement.result) (sym c.all_in.ensures ∙ c.if-not-all_in.false) may same t) c.take_statement.ensures.ok

pub returns-clause-stop : goal.returns-clause-stop
returns-clause-stop c =
    let line = line_at c.args.line c.args.bytes.now in
    let same : statement_in c.statement_of-statement.result ≡ said line = c.statement_of-statement.ensures ∙ ap statement_of (ap (map (λ w. w.now)) c.deref.ensures.value ∙ c.in_ok-put_words.ensures.words) in
    let may : (c.args.self.now.ended ≡ false) ⊎ (follows_end (statement_in c.statement_of-statement.result) ≡ true) =
    elim c.else-self.branch [
      | else-self-via-then-self+else-not-may_follow_end w ↦ inr (sym w.may_follow_end.ensures ∙ w.if-not-may_follow_end.false)
      | else-self-via-else-self w ↦ inl w.if-self.false
    ] in
    IfErr-weaker c.take_statement.result (StopsStatement c.args.self.now c.args.line (statement_in c.statement_of-statement.result)) (StopsLine c.args.self.now line)
    (λ stop s. open_stops c.args.self.now line (statement_in c.statement_of-statement.result) stop (sym c.all_in.ensures ∙ c.if-not-all_in.false) may same s) c.take_statement.ensures.stop
