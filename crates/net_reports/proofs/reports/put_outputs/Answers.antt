use Rattle.std.proofs.Common.{◌≡◌, ◌++◌, ◌∙◌, ap, arith, length, map, List, ℕ}
use Rattle.std.specs.List.{flat_map}
use Rattle.std.proofs.lemmas.List.{length-map}
use Rattle.cover_nets.specs.declared.net.Output.{Output}
use Rattle.net_reports.specs.declared.classes.Class.{Class}
use Rattle.net_reports.proofs.Texts.{all_numbered, numbered_line, one_more_output, output_name}
use Rattle.net_reports.proofs.reports.put_outputs.Goals as goal

pub loop-number-preserved : goal.loop-number-preserved
loop-number-preserved c =
    let outputs = c.args.outputs.now in
    let names : List (List ℕ) = map (λ (output : Output). output.name) outputs in
    let long : length names ≡ length outputs = length-map outputs (λ (output : Output). output.name) in
    let inside = c.loop-number-test.true in
    one_more_output names c.args.classes.now c.loop-number.number c.as_slice.result.now c.args.text.now.items c.loop-number.text.items c.put_output.new.text.items
    (omega (arith, long, inside)) (omega (arith, c.requires, inside))
    (c.as_slice.ensures ∙ output_name outputs c.loop-number.number c.index-outputs-number.result inside c.index-outputs-number.is) c.loop-number.invariant c.in_ok-put_output.ensures

pub returns : goal.returns
returns c =
    let names : List (List ℕ) = map (λ (output : Output). output.name) c.args.outputs.now in
    c.loop-number.invariant
    ∙ ap (λ (lines : List (ℕ × (List ℕ × Class))). c.args.text.now.items ++ flat_map numbered_line lines)
    (all_numbered names c.args.classes.now c.loop-number.number (omega (arith, c.requires, c.loop-number-test.false)))
