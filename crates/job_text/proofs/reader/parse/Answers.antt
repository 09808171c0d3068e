use Rattle.std.proofs.Common.{◌++◌, ◌∷◌, [], List, ℕ, length, ap, sym, ◌∙◌, subst, arith, length-append}
use Rattle.job_words.specs.Text.{split_words}
use Rattle.job_text.proofs.Reading.{IsRead, read_more, lines_more, all_read, job_from, end_from}
use Rattle.job_text.proofs.reader.parse.Goals as goal

pub loop-rest-preserved : goal.loop-rest-preserved
loop-rest-preserved c =
    let i = c.loop-rest.invariant in
    let front = c.cut_line.result.0.now in
    record {
      read = (
        (i.read).0 ++ front ∷ [],
        lines_more _ (i.read).0 c.cut_line.result.1.now c.loop-rest.rest.now front (i.read).1 c.cut_line.ensures.lines,
        read_more (i.read).0 front c.loop-rest.draft c.in-Ok.draft (split_words c.in-Some.words.now) (i.read).2 c.in-Some.ensures c.in-Ok.ensures.ok,
        omega (arith, length-append (i.read).0 (front ∷ []), (i.read).3),
      );
      budget = omega (arith, c.cut_line.ensures.shorter);
    }

pub returns-clause-job : goal.returns-clause-job
returns-clause-job c =
    let i = c.loop-rest.invariant in
    let same = all_read _ (i.read).0 c.loop-rest.rest.now (i.read).1 (sym c.is_empty.ensures ∙ c.loop-rest-test.false) in
    job_from c.args.text.now c.loop-rest.draft c.finish.result (subst (λ (t : List (List ℕ)). IsRead t c.loop-rest.draft) same (i.read).2) c.finish.ensures.job

pub returns-clause-fault : goal.returns-clause-fault
returns-clause-fault c =
    let i = c.loop-rest.invariant in
    let same = all_read _ (i.read).0 c.loop-rest.rest.now (i.read).1 (sym c.is_empty.ensures ∙ c.loop-rest-test.false) in
    end_from c.args.text.now c.loop-rest.line c.loop-rest.draft c.finish.result (subst (λ (t : List (List ℕ)). IsRead t c.loop-rest.draft) same (i.read).2)
    ((i.read).3 ∙ ap length same) c.finish.ensures.fault
