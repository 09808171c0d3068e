use Rattle.std.proofs.Common.{List, arith, length, map, refl}
use Rattle.net_builds.specs.declared.telling.Findings.{Findings}
use Rattle.std.proofs.lemmas.Result.{err_from_is_err_and}
use Rattle.dd_session.specs.declared.answers.Full.{Full}
use Rattle.net_builds.specs.declared.host.HostRefusal.{HostRefusal}
use Rattle.net_builds.specs.declared.host.HostRefusal.TheVariants as stops
use Rattle.net_builds.specs.Builds.{Builds, FindsOf}
use Rattle.net_builds.specs.Outputs.{AreRefused}
use Rattle.net_builds.specs.Sifting.{BuildsSifted}
use Rattle.net_builds.specs.Standings.{Standing}
use Rattle.net_reports.specs.Reports.{output_functions}
use Rattle.net_jobs.specs.declared.networks.TheConstants.{OUTPUTS_CELL}
use Rattle.net_jobs.specs.Hosts.{TellsFullOf, standing_of}
use Rattle.net_jobs.proofs.BuiltHistories.{all_known, fresh_again, fresh_same, unsifted_same}
use Rattle.net_jobs.proofs.Counted.{all_counted}
use Rattle.net_jobs.proofs.Sharing.{refused_by, shared_by, told_by, wanting}
use Rattle.net_jobs.proofs.networks.built_and_told.Goals as goal

-- want of memory at the start
pub returns-in_err-shares-clause-fresh : goal.returns-in_err-shares-clause-fresh
returns-in_err-shares-clause-fresh g c = fresh_same c.args.manager.now c.args.sessions.now c.built_shares.new.sessions c.in_err-shares.ensures.same c.requires.fresh

pub returns-in_err-shares-clause-unsifted : goal.returns-in_err-shares-clause-unsifted
returns-in_err-shares-clause-unsifted g c = λ no. unsifted_same c.args.sessions.now c.built_shares.new.sessions c.in_err-shares.ensures.same

pub returns-in_err-shares-clause-refused : goal.returns-in_err-shares-clause-refused
returns-in_err-shares-clause-refused g c =
    let p = err_from_is_err_and c.from_residual.result c.from_residual.ensures.1 in
    rw (p.1, p.2) (wanting c.args.manager.now OUTPUTS_CELL c.args.sifts c.args.sessions.now c.built_shares.new.sessions stops.Memory c.requires.fresh c.in_err-shares.ensures.same refl)

pub finish_network-requires-clause-may : goal.finish_network-requires-clause-may
finish_network-requires-clause-may g c =
    let m = c.args.manager.now in
    let net = c.args.net.now in
    let mid = c.built_shares.new.sessions in
    let shared = shared_by m net c.args.sessions.now mid c.in_ok-shares.shares.items c.deref.result.now c.deref.ensures.value c.in_ok-shares.ensures.shared in
    record {
      own = c.in_ok-shares.ensures.own;
      bounded = c.requires.bounded;
      some = λ none. (let some = c.requires.some.0 in let long = shared.1 in omega (arith, none, some, long));
      vars = all_known m mid (length net.inputs) c.requires.vars c.in_ok-shares.ensures.own;
      counted = all_counted mid;
      shared = (map standing_of c.args.sessions.now, shared.0);
    }

pub returns-clause-fresh : goal.returns-clause-fresh
returns-clause-fresh g c = fresh_again c.args.manager.now c.finish_network.new.sessions c.finish_network.ensures.own c.finish_network.ensures.none

pub returns-clause-built : goal.returns-clause-built
returns-clause-built g c =
    let m = c.args.manager.now in
    let net = c.args.net.now in
    let mid = c.built_shares.new.sessions in
    let new = map standing_of c.finish_network.new.sessions in
    let shares = c.deref.result.now in
    let shared = shared_by m net c.args.sessions.now mid c.in_ok-shares.shares.items shares c.deref.ensures.value c.in_ok-shares.ensures.shared in
    told_by m net c.args.sessions.now mid shares shared.0 c.finish_network.result
    (λ (found : Findings) (old : List Standing). Builds (FindsOf net c.args.patterns.now c.args.telling) OUTPUTS_CELL (output_functions net) old new found) c.finish_network.ensures.built

pub returns-clause-sifted : goal.returns-clause-sifted
returns-clause-sifted g c = λ yes.
    let m = c.args.manager.now in
    let net = c.args.net.now in
    let mid = c.built_shares.new.sessions in
    let new = map standing_of c.finish_network.new.sessions in
    let shares = c.deref.result.now in
    let shared = shared_by m net c.args.sessions.now mid c.in_ok-shares.shares.items shares c.deref.ensures.value c.in_ok-shares.ensures.shared in
    told_by m net c.args.sessions.now mid shares shared.0 c.finish_network.result
    (λ (found : Findings) (old : List Standing). BuildsSifted (FindsOf net c.args.patterns.now c.args.telling) m.limit OUTPUTS_CELL (output_functions net) old new found) (c.finish_network.ensures.sifted yes)

pub returns-clause-unsifted : goal.returns-clause-unsifted
returns-clause-unsifted g c = λ no.
    let m = c.args.manager.now in
    let net = c.args.net.now in
    let mid = c.built_shares.new.sessions in
    let shares = c.deref.result.now in
    let shared = shared_by m net c.args.sessions.now mid c.in_ok-shares.shares.items shares c.deref.ensures.value c.in_ok-shares.ensures.shared in
    c.finish_network.ensures.unsifted no (map standing_of c.args.sessions.now) shared.0

pub returns-clause-refused : goal.returns-clause-refused
returns-clause-refused g c =
    let m = c.args.manager.now in
    let net = c.args.net.now in
    let mid = c.built_shares.new.sessions in
    let new = map standing_of c.finish_network.new.sessions in
    let shares = c.deref.result.now in
    let shared = shared_by m net c.args.sessions.now mid c.in_ok-shares.shares.items shares c.deref.ensures.value c.in_ok-shares.ensures.shared in
    refused_by m net c.args.sessions.now mid shares shared.0 c.finish_network.result
    (λ (stop : HostRefusal Full) (old : List Standing). AreRefused (TellsFullOf m) OUTPUTS_CELL c.args.sifts old new stop) c.finish_network.ensures.refused
