use Rattle.std.proofs.Common.{refl, sym, ◌∙◌, map, arith}
use Rattle.std.proofs.lemmas.Grind.{common_steps}
use Rattle.blif_net.proofs.CoverRows.{row_mixed, row_taken}
use Rattle.blif_net.proofs.covers.OpenCover.add_row.Goals as goal

pub returns-then-not-takes_output-clause-stop : goal.returns-then-not-takes_output-clause-stop
returns-then-not-takes_output-clause-stop c =
    let h = c.in_ok-cube.ensures.ok in
    row_mixed c.args.self.now (map (λ word. word.now) c.args.words.now) c.args.self.now.ins h.0 c.in_ok-cube.field-0 refl h.1 h.2 (sym c.takes_output.ensures ∙ c.if-not-takes_output.true)

pub returns-clause-ok : goal.returns-clause-ok
returns-clause-ok c =
    let h = c.in_ok-cube.ensures.ok in
    row_taken c.args.self.now (map (λ word. word.now) c.args.words.now) c.args.self.now.ins h.0 c.in_ok-cube.field-0 c.push.new.self c.in_ok-cube.field-0.output refl h.1 h.2
    (sym c.takes_output.ensures ∙ c.if-not-takes_output.false) c.in_ok-push.ensures.ok refl

pub returns-in_err-cube-clause-stop : goal.returns-in_err-cube-clause-stop
returns-in_err-cube-clause-stop c = grind (arith, common_steps)
