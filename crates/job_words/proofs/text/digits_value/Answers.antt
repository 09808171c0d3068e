use Rattle.std.proofs.Common.{arith, ◌+◌, ◌*◌, min, refl, ap, ◌∙◌}
use Rattle.job_words.proofs.Digits.{digits_step}
use Rattle.job_words.proofs.text.digits_value.Goals as goal

pub loop-b-preserved : goal.loop-b-preserved
loop-b-preserved c =
    let step = digits_step c.args.word.now c.loop-b.b-index c.loop-b.value _ c.loop-b.invariant.digits (omega arith) c.loop-b.invariant.so_far refl in
    record {
      digits = c.loop-b.invariant.digits;
      so_far = c.min-value.ensures ∙ ap (λ t. min (c.loop-b.value * 10 + t) 100000000000000000) (c.from.ensures ∙ c.saturating_sub.ensures) ∙ step;
      small = omega arith;
    }
