use Rattle.std.proofs.Common.{◌++◌, ◌∙◌, ap, arith, length, List, ℕ}
use Rattle.std.specs.List.{flat_map}
use Rattle.net_reports.specs.Reports.{root_names}
use Rattle.net_reports.specs.declared.classes.Class.{Class}
use Rattle.net_reports.proofs.Texts.{all_numbered, length-root_names, numbered_line, one_more_output, root_name}
use Rattle.net_reports.proofs.reports.put_roots.Goals as goal

pub loop-number-preserved : goal.loop-number-preserved
loop-number-preserved c =
    let count : ℕ = length c.args.classes.now in
    let inside = c.loop-number-test.true in
    one_more_output (root_names count) c.args.classes.now c.loop-number.number-counter c.as_bytes.result.now c.args.text.now.items c.loop-number.text.items c.put_output.new.text.items
    (omega (arith, length-root_names count, inside)) inside (c.as_bytes.ensures.value ∙ c.in_ok-name.ensures.ok ∙ root_name count c.loop-number.number-counter inside)
    c.loop-number.invariant c.in_ok-put_output.ensures

pub returns : goal.returns
returns c =
    c.loop-number.invariant
    ∙ ap (λ (lines : List (ℕ × (List ℕ × Class))). c.args.text.now.items ++ flat_map numbered_line lines)
    (all_numbered (root_names (length c.args.classes.now)) c.args.classes.now c.loop-number.number-counter c.loop-number-test.false)
