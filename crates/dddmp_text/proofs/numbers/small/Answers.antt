use Rattle.std.proofs.Common.{◌∙◌, sym}
use Rattle.dddmp_text.proofs.SmallNumbers.{small-number}
use Rattle.dddmp_text.proofs.numbers.small.Goals as goal

pub returns-then-value-lt-END-clause-value : goal.returns-then-value-lt-END-clause-value
returns-then-value-lt-END-clause-value c =
    small-number c.args.word.now c.number_value-value.result (sym c.is_number.ensures ∙ c.if-not-is_number.false) c.number_value-value.ensures c.if-value-lt-END.true
