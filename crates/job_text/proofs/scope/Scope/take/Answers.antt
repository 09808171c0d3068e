use Rattle.std.proofs.Common.{sym, ◌∙◌}
use Rattle.std.proofs.lemmas.Result.{err_from_is_err_and}
use Rattle.job_commands.specs.Slots.{slot_of}
use Rattle.job_text.specs.Drafts.{left_by}
use Rattle.job_text.proofs.Filling.{misfit_stop, word_stop}
use Rattle.job_text.proofs.scope.Scope.take.Goals as goal

pub returns-in_err-operand-clause-stop : goal.returns-in_err-operand-clause-stop
returns-in_err-operand-clause-stop c =
    let p = err_from_is_err_and c.from_residual.result c.from_residual.ensures.1 in
    rw (p.1, p.2)
    (word_stop c.args.self.now.counts c.args.self.now.registers (left_by c.args.operands.now) (slot_of c.args.slot.now) _ c.in_err-operand.ensures.stop)

pub returns-in-Some-clause-stop : goal.returns-in-Some-clause-stop
returns-in-Some-clause-stop c =
    misfit_stop c.args.self.now.counts c.args.self.now.registers c.args.operands.now (slot_of c.args.slot.now) c.in_ok-operand.operand c.in-Some.fault
    c.in_ok-operand.ensures.ok (sym c.misfit.ensures ∙ c.in-Some.is)
