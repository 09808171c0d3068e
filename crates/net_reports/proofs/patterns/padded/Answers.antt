use Rattle.std.proofs.Common.{◌-◌, ◌∙◌, ap, List, Bool, take, vec_len}
use Rattle.function_laws.specs.Values.{assignment_of}
use Rattle.net_reports.proofs.Padding.{with_zeros}
use Rattle.net_reports.proofs.patterns.padded.Goals as goal

pub returns-clause-assignment : goal.returns-clause-assignment
returns-clause-assignment c =
    let zeros = c.args.n - vec_len c.in_ok-bits.bits in
    ap (λ (bits : List Bool). assignment_of bits) c.in_ok-resize.ensures.items
    ∙ with_zeros (take c.args.n c.in_ok-bits.bits.items) zeros
    ∙ ap (λ (bits : List Bool). assignment_of (take c.args.n bits)) c.in_ok-bits.ensures.items
