use Rattle.std.proofs.Common.{◌∙◌, ap, sym, List, ℕ}
use Rattle.std.specs.Str.{bytes_eq}
use Rattle.std.proofs.lemmas.Result.{err_from_is_err_and}
use Rattle.job_words.specs.Text.{split_words}
use Rattle.dddmp_text.proofs.HeadedLines.{nodes-stop, passed-heads}
use Rattle.dddmp_text.proofs.header.take_header_line.Goals as goal

pub returns-in_err-check_nodes-clause-stop : goal.returns-in_err-check_nodes-clause-stop
returns-in_err-check_nodes-clause-stop c =
    let word = c.in-Some.word.now in
    let p = err_from_is_err_and c.from_residual.result c.from_residual.ensures.1 in
    rw (p.1, p.2) (nodes-stop c.args.given.now (split_words c.args.line.now) word (split_words c.in-Some.behind.now) c.in-Some.ensures.words c.as_slice-then-eq.result.now c.in_err-check_nodes.field-0.0
    c.as_slice-then-eq.ensures (sym (c.eq.ensures ∙ ap (λ (s : List ℕ). bytes_eq word s) c.as_slice.ensures) ∙ c.if-eq.true) c.in_err-check_nodes.ensures.stop)

pub returns-else-not-is_passed_over-clause-ok : goal.returns-else-not-is_passed_over-clause-ok
returns-else-not-is_passed_over-clause-ok c =
    let word = c.in-Some.word.now in
    passed-heads c.args.given.now (split_words c.args.line.now) word (split_words c.in-Some.behind.now) c.in-Some.ensures.words
    (sym (c.eq.ensures ∙ ap (λ (s : List ℕ). bytes_eq word s) c.as_slice.ensures) ∙ c.if-eq.false) (sym c.is_passed_over.ensures ∙ c.if-not-is_passed_over.false)
