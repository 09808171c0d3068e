use Rattle.std.proofs.Common.{◌++◌, ◌∷◌, [], ap, sym, ◌∙◌}
use Rattle.std.proofs.lemmas.Result.{err_from_is_err_and}
use Rattle.job_commands.specs.Slots.{slot_of, slots_of}
use Rattle.job_commands.specs.Commands.{no_operands}
use Rattle.job_text.specs.Places.{misfit, with_operand}
use Rattle.job_text.specs.Drafts.{left_by}
use Rattle.job_text.specs.Faults.{word_fault}
use Rattle.job_text.proofs.Filling.{forms_of, slots_stop, fit_more, slots_more, operands_more, with_more}
use Rattle.job_text.proofs.scope.Scope.operands.Goals as goal

pub returns-in_err-take-clause-stop : goal.returns-in_err-take-clause-stop
returns-in_err-take-clause-stop c =
    let n = c.args.self.now.counts in
    let rs = c.args.self.now.registers in
    let slot = slot_of c.in-Some.slot in
    let kept = c.loop-slot.invariant in
    let p = err_from_is_err_and c.from_residual.result c.from_residual.ensures.1 in
    rw (p.1, p.2)
    (slots_stop n rs (slots_of c.args.slots) kept.0 slot (slots_of c.in-Some.behind) kept.1 _ (kept.2 ∙ ap (λ t. kept.0 ++ t) c.in-Some.ensures) kept.4 kept.5
    (λ fault e. ap (λ t. word_fault n rs (left_by t) slot) (sym kept.6) ∙ c.in_err-take.ensures.stop fault e))

pub loop-slot-preserved : goal.loop-slot-preserved
loop-slot-preserved c =
    let n = c.args.self.now.counts in
    let rs = c.args.self.now.registers in
    let slot = slot_of c.in-Some.slot in
    let kept = c.loop-slot.invariant in
    let own = c.in_ok-take.ensures.ok in (
      kept.0 ++ slot ∷ [],
      kept.1 ++ own.0 ∷ [],
      slots_more (slots_of c.args.slots) kept.0 slot (slots_of c.loop-slot.left) (slots_of c.in-Some.behind) kept.2 c.in-Some.ensures,
      (forms_of (slots_of c.loop-slot.left) slot (slots_of c.in-Some.behind) c.in-Some.ensures kept.3).1,
      operands_more n rs kept.0 slot kept.1 own.0 kept.4 own.1,
      fit_more n rs no_operands kept.1 own.0 kept.5 (sym (ap (λ t. misfit n rs t own.0) kept.6) ∙ own.2),
      own.3 ∙ ap (λ t. with_operand rs t own.0) kept.6 ∙ sym (with_more rs no_operands kept.1 own.0),
    )
