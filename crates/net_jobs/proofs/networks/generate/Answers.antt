use Rattle.std.proofs.Common.{List, Bool, subst, inl, inr, map, refl, sym, ◌∙◌}
use Rattle.std.proofs.lemmas.Result.{err_from_is_err_and}
use Rattle.net_builds.specs.Builds.{Builds, FindsOf}
use Rattle.net_builds.specs.declared.telling.Telling.TheVariants.{Summary}
use Rattle.net_reports.specs.Reports.{output_functions}
use Rattle.blif_net.specs.GenTexts.{gen_text}
use Rattle.net_jobs.specs.declared.networks.TheConstants.{OUTPUTS_CELL}
use Rattle.net_jobs.specs.Hosts.{standing_of}
use Rattle.net_jobs.proofs.BuiltHistories.{unsifted_still}
use Rattle.net_jobs.proofs.networks.generate.Goals as goal

pub returns-in_default-clause-unsifted : goal.returns-in_default-clause-unsifted
returns-in_default-clause-unsifted g c = unsifted_still (map standing_of c.args.sessions.now)

pub returns-in_default-clause-refused : goal.returns-in_default-clause-refused
returns-in_default-clause-refused g c = inl (refl, refl)

pub returns-in_default-clause-fresh : goal.returns-in_default-clause-fresh
returns-in_default-clause-fresh g c = c.requires.fresh

pub built_and_told-requires-clause-bounded : goal.built_and_told-requires-clause-bounded
built_and_told-requires-clause-bounded g c κs within = c.networks_are_bounded.ensures (gen_text c.args.bits) c.in-Ok.net c.in-Ok.ensures.text

pub built_and_told-requires-clause-vars : goal.built_and_told-requires-clause-vars
built_and_told-requires-clause-vars g c κs within = c.requires.vars ∙ sym c.in-Ok.ensures.inputs

pub returns-in_err-found-clause-refused : goal.returns-in_err-found-clause-refused
returns-in_err-found-clause-refused g c =
    let p = err_from_is_err_and c.from_residual.result c.from_residual.ensures.1 in
    rw p.1 (inr (c.in-Ok.net, c.in-Ok.ensures.text, c.in-Ok.ensures.inputs, (c.in_err-found.field-0.0, p.2, c.in_err-found.ensures.refused)))

pub returns-clause-built : goal.returns-clause-built
returns-clause-built g c =
    let net = c.in-Ok.net in
    let old = map standing_of c.args.sessions.now in
    let new = map standing_of c.built_and_told.new.sessions in
    let found = c.in_ok-found.found in
    let built = subst (λ (patterns : List (List Bool)). Builds (FindsOf net patterns Summary) OUTPUTS_CELL (output_functions net) old new found) c.as_slice.ensures c.in_ok-found.ensures.built in
    (net, c.in-Ok.ensures.text, c.in-Ok.ensures.inputs, (found, refl, built))
