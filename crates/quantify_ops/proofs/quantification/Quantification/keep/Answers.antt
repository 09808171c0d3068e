use Rattle.quantify_ops.proofs.quantification.Quantification.keep.Goals as goal

pub memo_put-requires : goal.memo_put-requires
memo_put-requires g c =
    let k = c.key_of.ensures _ c.requires.due.permanent c.requires.due.operands in
    record { key = k.is_key; holds = k.keeps c.args.answer c.requires.answer }
