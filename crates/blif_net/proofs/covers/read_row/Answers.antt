use Rattle.std.proofs.Common.{arith, get_or, map}
use Rattle.std.proofs.lemmas.Grind.{common_steps}
use Rattle.std.proofs.lemmas.Result.{IfOk-weaker}
use Rattle.blif_net.specs.OpenCovers.{IsRead, IsReadRow}
use Rattle.blif_net.proofs.CoverRows.{bare_row, full_row, no_word}
use Rattle.blif_net.proofs.covers.read_row.Goals as goal

pub returns-else-ins-ne0-clause-ok : goal.returns-else-ins-ne0-clause-ok
returns-else-ins-ne0-clause-ok c =
    IfOk-weaker c.row_of_words.result (IsReadRow c.as_slice.result.now (get_or c.args.words.now 0 no_word).now) (IsRead c.args.ins (map (λ word. word.now) c.args.words.now))
    (λ read h. bare_row c.args.words.now c.args.ins c.as_slice.result.now read (omega (arith, c.in-len1.len_at_least, c.in-len1.len_below)) (omega (arith, c.if-ins-ne0.false)) c.as_slice.ensures h) c.row_of_words.ensures.ok

pub returns-else-literals-ins-clause-ok : goal.returns-else-literals-ins-clause-ok
returns-else-literals-ins-clause-ok c =
    IfOk-weaker c.row_of_words-in-len2.result (IsReadRow (get_or c.args.words.now 0 no_word).now (get_or c.args.words.now 1 no_word).now) (IsRead c.args.ins (map (λ word. word.now) c.args.words.now))
    (λ read h. full_row c.args.words.now c.args.ins read (omega (arith, c.in-len2.len_at_least, c.in-len2.len_below)) c.if-ins-eq0.false c.if-literals-ins.false h)
    c.row_of_words-in-len2.ensures.ok

pub returns-else-ins-ne0-clause-stop : goal.returns-else-ins-ne0-clause-stop
returns-else-ins-ne0-clause-stop c = grind (arith, common_steps)

pub returns-else-literals-ins-clause-stop : goal.returns-else-literals-ins-clause-stop
returns-else-literals-ins-clause-stop c = grind (arith, common_steps)

pub returns-in_default-clause-stop : goal.returns-in_default-clause-stop
returns-in_default-clause-stop c = grind (arith, common_steps)
