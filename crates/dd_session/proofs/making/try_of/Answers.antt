use Rattle.std.proofs.Common.{sym, ◌∙◌, true≢false}
use Rattle.operator_calls.specs.Making.{told_by, work}
use Rattle.operator_calls.specs.Taking.{of_lent}
use Rattle.dd_session.proofs.Tries.{tried_once}
use Rattle.seat_guard.specs.Passes.{counts_of, known}
use Rattle.dd_session.proofs.making.try_of.Goals as goal

pub try_once-made-requires : goal.try_once-made-requires
try_once-made-requires c = c.requires.takes c.args.shared c.requires.serves

pub returns-clause-tried : goal.returns-clause-tried
returns-clause-tried c = λ last. tried_once (told_by (of_lent c.args.making.now)) (work (of_lent c.args.making.now)) (known c.args.pass.now) (counts_of c.args.pass.now) c.args.shared c.try_once-made.new.shared c.try_once-made.result (λ is. true≢false (sym (last is) ∙ c.if-is_last.false)) c.requires.serves c.try_once-made.ensures.ran

pub returns-then-is_last-clause-ran : goal.returns-then-is_last-clause-ran
returns-then-is_last-clause-ran c = λ first. absurd (true≢false (sym c.if-is_last.true ∙ first))
