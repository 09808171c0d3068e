use Rattle.std.proofs.Common.{All, ◌∙◌, ◌≡◌, ◌+◌, arith, ℕ, [], List, ap, map, subst, sym, length}
use Rattle.std.specs.Global.{Vec}
use Rattle.std.proofs.lemmas.Result.{err_from_is_err_and}
use Rattle.cover_nets.specs.declared.net.Net.{Net}
use Rattle.blif_net.specs.Networks.{IsBlifText}
use Rattle.edge_bits.specs.declared.limits.TheConstants.{USUAL_LIMIT}
use Rattle.blif_net.specs.GenTexts.{gen_text}
use Rattle.dd_session.specs.Managing.{AreAll, IsHistoryOf, Seen, opened}
use Rattle.net_builds.specs.Builds.{AreUnsifted, Builds, FindsOf}
use Rattle.net_builds.specs.declared.telling.Telling.TheVariants.{Summary}
use Rattle.net_reports.specs.Reports.{IsSummary, net_subject, output_functions}
use Rattle.net_jobs.specs.Ends.{rising}
use Rattle.net_jobs.specs.declared.networks.TheConstants.{OUTPUTS_CELL}
use Rattle.net_jobs.specs.Hosts.{standing_of}
use Rattle.net_jobs.specs.Networks.{IsFreshOf}
use Rattle.net_jobs.proofs.BuiltHistories.{are_all, built_again, filled_made, fresh_are, fresh_own, opened_fresh, told_of, written_back}
use Rattle.net_jobs.proofs.Opening.{opened_many}
use Rattle.net_jobs.proofs.networks.summary_of.Goals as goal

pub generate-requires-clause-some : goal.generate-requires-clause-some
generate-requires-clause-some g c κs within =
    let m = c.in-Ok.manager in
    let long = ap (length {A = Seen}) (c.deref_mut.ensures.value ∙ c.in-Ok.ensures.sessions_are) ∙ opened_many m ∙ c.in-Ok.ensures.as_many in
    let workers = c.requires.workers in (omega (arith, long, workers.0), omega (arith, long, workers.1))

pub generate-requires-clause-fresh : goal.generate-requires-clause-fresh
generate-requires-clause-fresh g c κs within =
    let m = c.in-Ok.manager in subst (All (IsFreshOf m)) (sym (c.deref_mut.ensures.value ∙ c.in-Ok.ensures.sessions_are)) (opened_fresh m)

pub close-closed-requires : goal.close-closed-requires
close-closed-requires g c =
    let m = c.in-Ok.manager in
    let told = c.in_ok-text.ensures.built in
    let net = told.0 in
    let found = told.3.0 in
    let Tells = FindsOf net [] Summary in
    let new = c.generate.new.sessions in
    let built : Builds Tells OUTPUTS_CELL (output_functions net) (map standing_of (opened m)) (map standing_of new) found =
    subst (λ (l : List Seen). Builds Tells OUTPUTS_CELL (output_functions net) (map standing_of l) (map standing_of new) found) (c.deref_mut.ensures.value ∙ c.in-Ok.ensures.sessions_are) told.3.2 in
    let again = built_again m Tells OUTPUTS_CELL (output_functions net) new found built in
    subst (AreAll m) (sym (written_back m new again c.in-Ok.sessions.items c.in-Ok.sessions.len c.in-Ok.ensures.sessions_are c.in-Ok.sessions.ok.0))
    (are_all m new again (fresh_own m new c.in_ok-text.ensures.fresh))

pub returns-clause-summary : goal.returns-clause-summary
returns-clause-summary g c =
    let m = c.in-Ok.manager in
    let told = c.in_ok-text.ensures.built in
    let net = told.0 in
    let found = told.3.0 in
    let Tells = FindsOf net [] Summary in
    let new = c.generate.new.sessions in
    let is = c.deref_mut.ensures.value ∙ c.in-Ok.ensures.sessions_are in
    let built : Builds Tells OUTPUTS_CELL (output_functions net) (map standing_of (opened m)) (map standing_of new) found =
    subst (λ (l : List Seen). Builds Tells OUTPUTS_CELL (output_functions net) (map standing_of l) (map standing_of new) found) is told.3.2 in
    let unsifted : AreUnsifted (map standing_of (opened m)) (map standing_of new) =
    subst (λ (l : List Seen). AreUnsifted (map standing_of l) (map standing_of new)) is c.in_ok-text.ensures.unsifted in
    let vars : m.vars ≡ length net.inputs = c.in-Ok.ensures.vars ∙ sym told.2 in
    let again = built_again m Tells OUTPUTS_CELL (output_functions net) new found built in (
      net,
      told.1,
      subst (λ (text : Vec ℕ). IsSummary (net_subject net (rising net) []) text.items) (sym told.3.1) (told_of m net new found c.close-closed.result.calls vars (fresh_are m new c.in_ok-text.ensures.fresh)
          (subst (λ (l : List Seen). IsHistoryOf m l c.close-closed.result.calls)
          (written_back m new again c.in-Ok.sessions.items c.in-Ok.sessions.len c.in-Ok.ensures.sessions_are c.in-Ok.sessions.ok.0)
          c.close-closed.ensures.history.history)
          Summary [] c.tellings_are_true.ensures.unsifted unsifted built).told,
    )

pub returns-in_err-text-clause-full : goal.returns-in_err-text-clause-full
returns-in_err-text-clause-full g c =
    let m = c.in-Ok.manager in
    let bits = c.args.bits in
    let p = err_from_is_err_and c.from_residual.result c.from_residual.ensures.1 in
    rw (p.1, p.2) (filled_made bits OUTPUTS_CELL m c.deref_mut.result.now c.generate.new.sessions
    (λ slots. (net : Net) × IsBlifText (gen_text bits) net × (slots ≡ 5 + length net.inputs + USUAL_LIMIT)) c.in_err-text.field-0.0
    (λ net text inputs. (net, text, omega (arith, c.in-Ok.ensures.limit_is, inputs))) c.in_err-text.ensures.refused)
