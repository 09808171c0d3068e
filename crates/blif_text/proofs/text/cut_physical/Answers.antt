use Rattle.std.proofs.Common.{◌∙◌, ◌∷◌, ap, sym, length, arith}
use Rattle.std.proofs.lemmas.List.{take_rest, drop_all}
use Rattle.blif_text.specs.Text.{lines_of}
use Rattle.blif_text.proofs.Split.{first_line, last_line}
use Rattle.blif_text.proofs.text.cut_physical.Goals as goal

pub returns-in-Some-clause-lines : goal.returns-in-Some-clause-lines
returns-in-Some-clause-lines c =
    first_line c.args.text.now c.in-Some.line.now c.in-Some.rest.now c.in-Some.ensures.parts
    ∙ ap (λ l. l ∷ lines_of c.in-Some.rest.now) (sym c.without_return.ensures)

pub returns-in-None-clause-lines : goal.returns-in-None-clause-lines
returns-in-None-clause-lines c =
    last_line c.args.text.now _ c.in-None.ensures.parts c.requires
    (take_rest c.args.text.now (length c.args.text.now) ∙ drop_all (length c.args.text.now) c.args.text.now (omega arith))
