use Rattle.std.proofs.Common.{◌∙◌, sym, ap, arith}
use Rattle.std.proofs.lemmas.Nat.{one_shl}
use Rattle.edge_bits.specs.Words.{digit}
use Rattle.function_laws.proofs.SizeLemmas.{with_bit_is}
use Rattle.function_laws.proofs.places.with_bit.Goals as goal
use Rattle.function_laws.proofs.places.with_bit.Goals.{then-value, else-value}

pub returns : goal.returns
returns c =
    with_bit_is c.args.k c.args.var _ _ c.args.value (one_shl c.args.var 64 (omega arith))
    (elim c.if-value.branch [
      | then-value w ↦ w.digit-is ∙ sym (ap digit w.if-value.true)
      | else-value w ↦ w.digit-is ∙ sym (ap digit w.if-value.false)
    ])
