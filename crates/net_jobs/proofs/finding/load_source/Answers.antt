use Rattle.std.proofs.Common.{◌≤◌, length, arith}
use Rattle.edge_bits.specs.declared.limits.TheConstants.{LONGEST_TEXT}
use Rattle.net_jobs.proofs.finding.load_source.Goals as goal

pub diagram_report-requires-clause-bounded : goal.diagram_report-requires-clause-bounded
diagram_report-requires-clause-bounded g c = λ _ _. c.dumps_are_bounded.ensures.bounded c.deref.result.now c.in-Ok.dump c.in-Ok.ensures.dump

pub diagram_report-requires-clause-few : goal.diagram_report-requires-clause-few
diagram_report-requires-clause-few g c = λ _ _.
    let short : length c.deref.result.now ≤ LONGEST_TEXT = omega (arith, c.deref.ensures.len, c.in_ok-text.ensures.text.short) in
    omega (arith, short, c.dumps_are_bounded.ensures.bytes c.deref.result.now c.in-Ok.dump c.in-Ok.ensures.dump)
