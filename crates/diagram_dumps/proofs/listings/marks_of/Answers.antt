use Rattle.std.proofs.Common.{◌∙◌, ap, false, List}
use Rattle.std.specs.Prelude.{◌==◌}
use Rattle.std.specs.List.{list_any}
use Rattle.std.proofs.lemmas.List.{take_all}
use Rattle.edge_bits.specs.declared.edges.Line.{Line}
use Rattle.diagram_dumps.proofs.Listed.{all_told}
use Rattle.diagram_dumps.proofs.listings.marks_of.Goals as goal

pub returns : goal.returns
returns c =
    let i = c.loop-line.invariant in
    all_told c.loop-line.marks.items (λ v. list_any (λ (line : Line). line.var == v) c.args.lines.now) c.args.vars false i.as_many
    (λ v lt. i.told v lt ∙ ap (λ (lines : List Line). list_any (λ line. line.var == v) lines) (take_all c.loop-line.line-index c.args.lines.now c.loop-line-test.false))
