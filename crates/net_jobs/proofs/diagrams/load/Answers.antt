use Rattle.std.proofs.Common.{Bool, List, get_or, subst}
use Rattle.std.proofs.lemmas.Result.{err_from_is_err_and}
use Rattle.net_builds.specs.Loads.{Loads}
use Rattle.net_jobs.specs.Hosts.{standing_of}
use Rattle.net_jobs.proofs.Alone.{fresh_set, lent, loaded_one, refused_one, unsifted_one}
use Rattle.net_jobs.proofs.diagrams.load.Goals as goal

pub load_report-requires : goal.load_report-requires
load_report-requires g c =
    let here = lent c.args.manager.now c.args.dump.now.nvars c.args.sessions.now c.index-sessions-0.result c.requires.one c.requires.fresh c.requires.vars in
    record { may = record { own = here.0; bounded = c.requires.bounded; vars = here.1; none = here.2; few = c.requires.few } }

pub returns-clause-fresh : goal.returns-clause-fresh
returns-clause-fresh g c = fresh_set c.args.manager.now c.args.sessions.now c.load_report.new.session c.requires.one c.load_report.ensures.own c.load_report.ensures.none

pub returns-clause-loaded : goal.returns-clause-loaded
returns-clause-loaded g c =
    let dump = c.args.dump.now in
    let sessions = c.args.sessions.now in
    let new = c.load_report.new.session in
    let d = c.index-sessions-0.result in
    let text = c.in_ok-text.text.items in
    loaded_one dump c.args.options.now.patterns sessions new d text c.requires.one
    (subst (λ (all : List (List Bool)). Loads dump all (standing_of (get_or sessions 0 d)) (standing_of new) text) c.as_slice-patterns.ensures c.in_ok-text.ensures.loads)

pub returns-in_err-text-clause-refused : goal.returns-in_err-text-clause-refused
returns-in_err-text-clause-refused g c =
    let m = c.args.manager.now in
    let sessions = c.args.sessions.now in
    let refusal = c.in_err-text.field-0.0 in
    let p = err_from_is_err_and c.from_residual.result c.from_residual.ensures.1 in
    rw p.1 (refusal, p.2, λ cell. refused_one cell m sessions c.load_report.new.session c.index-sessions-0.result refusal c.requires.one (c.in_err-text.ensures.refused cell))

pub returns-clause-unsifted : goal.returns-clause-unsifted
returns-clause-unsifted g c = unsifted_one c.args.sessions.now c.load_report.new.session c.index-sessions-0.result c.requires.one c.load_report.ensures.unsifted
