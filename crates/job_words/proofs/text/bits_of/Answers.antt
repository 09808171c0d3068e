use Rattle.std.proofs.Common.{sym, ap, ◌∙◌, arith, ◌==◌, map}
use Rattle.std.proofs.lemmas.Grind.{common_steps}
use Rattle.std.proofs.lemmas.List.{take_all}
use Rattle.std.specs.Str.{bytes_eq}
use Rattle.job_words.proofs.Bits.{bits_are}
use Rattle.job_words.proofs.text.bits_of.Goals as goal

pub returns : goal.returns
returns c = bits_are c.args.word.now c.loop-b.bits c.requires (ap (bytes_eq c.args.word.now) (sym c.as_slice.ensures) ∙ sym c.eq.ensures ∙ c.if-eq.false)
    (c.loop-b.invariant ∙ ap (map (λ b. b == 49)) (take_all c.loop-b.b-index c.args.word.now (omega arith)))

pub loop-b-preserved : goal.loop-b-preserved
loop-b-preserved c = grind (arith, common_steps)
