use Rattle.std.proofs.Common.{◌++◌, ◌∙◌, ap, string_bytes, List, ℕ}
use Rattle.std.specs.Fmt.{decimal}
use Rattle.blif_net.specs.GenTexts.{outputs_of}
use Rattle.blif_net.proofs.AdderTexts.{bit_outputs, one_more_number}
use Rattle.blif_net.proofs.adders.put_outputs.Goals as goal

pub loop-bit-preserved : goal.loop-bit-preserved
loop-bit-preserved c =
    let number = decimal c.loop-bit.bit-counter in
    one_more_number outputs_of c.loop-bit.bit-counter (string_bytes c.args.text.now) (string_bytes c.loop-bit.text) (string_bytes c.write.new.self) c.loop-bit.invariant
    (c.in_ok-write.ensures.bytes ∙ ap (λ (more : List ℕ). string_bytes c.loop-bit.text ++ more) (bit_outputs number number number))
