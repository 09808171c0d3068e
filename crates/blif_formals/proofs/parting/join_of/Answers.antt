use Rattle.std.proofs.Common.{◌+◌, ◌-◌, drop, length, ap, sym, ◌∙◌, arith, length-drop}
use Rattle.std.proofs.lemmas.List.{take_all}
use Rattle.blif_formals.proofs.Parted.{joined}
use Rattle.blif_formals.proofs.parting.join_of.Goals as goal

pub returns : goal.returns
returns c =
    let word = c.args.word.now in
    let end = length c.before_byte-formal.result.now in
    let same = ap length c.before_byte-formal.ensures in
    let left = length-drop (end + 1) word in
    let some = c.if-end-eq0.false in
    let long = c.if-word-end-lt2.false in (
      joined word end same (omega (arith, some)) (omega (arith, long, some)),
      sym c.before_byte-formal.ensures,
      ap (λ k. drop (k + 1) word) (sym same) ∙ sym (take_all (length word - (end + 1)) (drop (end + 1) word) (omega (arith, left))),
    )
