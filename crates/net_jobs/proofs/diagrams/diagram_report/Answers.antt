use Rattle.std.proofs.Common.{◌∙◌, ◌≡◌, ◌+◌, ℕ, List, subst, sym}
use Rattle.std.proofs.lemmas.Result.{err_from_is_err_and}
use Rattle.edge_bits.specs.declared.limits.TheConstants.{USUAL_LIMIT}
use Rattle.dd_session.specs.Managing.{AreAll, IsHistoryOf, Seen}
use Rattle.net_jobs.specs.Networks.{IsFilledBy}
use Rattle.net_jobs.proofs.BuiltHistories.{are_all, filled_load, fresh_own, loaded_again, loaded_as, written_back}
use Rattle.net_jobs.proofs.diagrams.diagram_report.Goals as goal

pub close-closed-requires : goal.close-closed-requires
close-closed-requires g c =
    let m = c.in-Ok.manager in
    let new = c.load.new.sessions in
    let is = c.deref_mut.ensures.value ∙ c.in-Ok.ensures.sessions_are in
    let again = loaded_again m c.args.dump.now c.args.options.now.patterns c.deref_mut.result.now new c.in_ok-text.text.items c.in-Ok.ensures.as_many is c.in_ok-text.ensures.loaded in
    subst (AreAll m) (sym (written_back m new again c.in-Ok.sessions.items c.in-Ok.sessions.len c.in-Ok.ensures.sessions_are c.in-Ok.sessions.ok.0))
    (are_all m new again (fresh_own m new c.in_ok-text.ensures.fresh))

pub returns-clause-report : goal.returns-clause-report
returns-clause-report g c =
    let m = c.in-Ok.manager in
    let new = c.load.new.sessions in
    let is = c.deref_mut.ensures.value ∙ c.in-Ok.ensures.sessions_are in
    let again = loaded_again m c.args.dump.now c.args.options.now.patterns c.deref_mut.result.now new c.in_ok-text.text.items c.in-Ok.ensures.as_many is c.in_ok-text.ensures.loaded in
    loaded_as c.loads_are_true.ensures m c.args.dump.now c.args.options.now.patterns c.deref_mut.result.now new c.in_ok-text.text.items c.close-closed.result.calls c.in-Ok.ensures.vars c.in-Ok.ensures.as_many is
    c.in_ok-text.ensures.unsifted
    (subst (λ (l : List Seen). IsHistoryOf m l c.close-closed.result.calls)
    (written_back m new again c.in-Ok.sessions.items c.in-Ok.sessions.len c.in-Ok.ensures.sessions_are c.in-Ok.sessions.ok.0)
    c.close-closed.ensures.history.history)
    c.in_ok-text.ensures.loaded

pub returns-in_err-text-clause-full : goal.returns-in_err-text-clause-full
returns-in_err-text-clause-full g c =
    let m = c.in-Ok.manager in
    let p = err_from_is_err_and c.from_residual.result c.from_residual.ensures.1 in
    let OfAll : ℕ → Type 0 = λ slots. slots ≡ 5 + c.args.dump.now.nvars + USUAL_LIMIT in
    let told = c.in_err-text.ensures.refused in
    rw (p.1, p.2) (subst (IsFilledBy OfAll) (sym told.1) (filled_load 0 m c.deref_mut.result.now c.load.new.sessions OfAll told.0 c.in-Ok.ensures.limit_is (told.2 0)))
