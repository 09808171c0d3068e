use Rattle.std.proofs.Common.{◌++◌, ◌∷◌, [], ◌∙◌, ap, ℕ, List}
use Rattle.std.specs.Fmt.{decimal, signed_decimal}
use Rattle.dddmp_text.proofs.Texts.{node_text}
use Rattle.dddmp_text.proofs.writer.put_node.Goals as goal

pub returns : goal.returns
returns c =
    c.in_ok-write-3.ensures.bytes
    ∙ ap (λ (text : List ℕ). text ++ (32 ∷ signed_decimal c.args.line.now.lo ++ 10 ∷ []))
    (c.in_ok-write-2.ensures.bytes ∙ ap (λ (text : List ℕ). text ++ (32 ∷ decimal c.args.internal ++ 32 ∷ decimal c.args.line.now.hi)) c.in_ok-write.ensures.bytes)
    ∙ node_text _ (decimal c.args.index) (decimal c.args.line.now.var) (decimal c.args.internal) (decimal c.args.line.now.hi) (signed_decimal c.args.line.now.lo)
