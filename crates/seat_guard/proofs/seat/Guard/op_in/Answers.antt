use Rattle.std.proofs.Common.{rules, ap, ◌∙◌}
use Rattle.seat_guard.specs.Phase.{weight}
use Rattle.seat_guard.proofs.PhaseSteps.{op_enters}
use Rattle.seat_guard.proofs.seat.Guard.op_in.Goals as goal

pub fetch_add-found-requires : goal.fetch_add-found-requires
fetch_add-found-requires g c = (search rules, search rules, op_enters g.S.Content.keeps g.S.Content.board g.S.Content.counts g.S.Content.orders _ _ _ c.requires.0.1 c.requires.1.0)

pub leave_operation-requires : goal.leave_operation-requires
leave_operation-requires g c = let owed = c.fetch_add-found.ensures.2.1 c.if-found-lt-ORDER.false in ((search rules, ap (λ m. m.0.draws.live) owed ∙ c.requires.0.1), ap (λ m. weight m.0.shares.op) owed)
