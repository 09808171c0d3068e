use Rattle.std.proofs.Common.{sym, true≢false, ◌∙◌}
use Rattle.std.proofs.lemmas.Result.{err_from_is_err_and}
use Rattle.edge_bits.specs.declared.edges.Kind.TheVariants.{Zdd}
use Rattle.node_store.specs.ViewLaws.{Is-from}
use Rattle.operator_calls.proofs.CoverRuns.{bounds_after, runs_apart, runs_halted, runs_isop}
use Rattle.operator_calls.proofs.dispatch.run_isop.Goals as goal

pub isop-requires-clause-bounds : goal.isop-requires-clause-bounds
isop-requires-clause-bounds g c = let leq = c.leq.ensures in (bounds_after (g.G.Grow.view c.args.store.now) _ c.args.lower c.args.upper leq.kept c.requires.0 c.requires.1).two

pub returns-in_ok-isop-in-Ok-true : goal.returns-in_ok-isop-in-Ok-true
returns-in_ok-isop-in-Ok-true g c =
    let leq = c.leq.ensures in let told = c.in-Ok-true in let made = c.in_ok-isop-in-Ok-true in
    runs_isop _ _ _ c.args.lower c.args.upper leq.kept leq.room c.requires.0 (told.ensures.leq.0 told.field-0-test) _ (λ e is. Is-from Zdd is) made.field-0 made.ensures.serves made.ensures.irredundant

pub returns-in_err-isop-in-Ok-true : goal.returns-in_err-isop-in-Ok-true
returns-in_err-isop-in-Ok-true g c =
    let leq = c.leq.ensures in let told = c.in-Ok-true in let stopped = c.in_err-isop-in-Ok-true in
    let p = err_from_is_err_and c.from_residual.result c.from_residual.ensures.1 in
    rw (p.1, p.2)
    (runs_halted _ _ _ c.args.lower c.args.upper leq.kept leq.room c.requires.0 (told.ensures.leq.0 told.field-0-test) _ (λ e is. Is-from Zdd is) stopped.field-0.0 stopped.ensures.serves)

pub returns-in-Ok-false : goal.returns-in-Ok-false
returns-in-Ok-false g c =
    let told = c.in-Ok-false in let leq = c.leq.ensures in
    runs_apart _ _ c.args.lower c.args.upper leq.kept leq.room (λ implies. true≢false (sym (told.ensures.leq.1 implies) ∙ told.field-0-test))
