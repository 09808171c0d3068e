use Rattle.std.proofs.Common.{ℕ, ◌≤◌, ◌*◌, ◌∙◌, ap, length, subst, sym}
use Rattle.std.proofs.lemmas.List.FromFn.{length-range_with_len}
use Rattle.step_times.proofs.over_store.Goals as goal

pub work-requires-clause-vars : goal.work-requires-clause-vars
work-requires-clause-vars c = subst (λ (n : ℕ). 2 * c.args.request.tasks.pairs ≤ n) (sym (ap length c.in-Ok.ensures.variable_levels ∙ length-range_with_len 0 c.args.request.vars)) c.requires.2
