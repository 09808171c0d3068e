use Rattle.std.proofs.Common.{◌≤◌, length, arith}
use Rattle.edge_bits.specs.declared.limits.TheConstants.{LONGEST_TEXT}
use Rattle.net_jobs.proofs.SizeLemmas.{few_commands}
use Rattle.net_jobs.proofs.finding.play_source.Goals as goal

pub history-requires-clause-few : goal.history-requires-clause-few
history-requires-clause-few g c = λ _ _.
    let short : length c.deref.result.now ≤ LONGEST_TEXT = omega (arith, c.deref.ensures.len, c.in_ok-text.ensures.text.short) in
    few_commands c.deref.result.now c.in-Ok.job short c.in-Ok.ensures.job
