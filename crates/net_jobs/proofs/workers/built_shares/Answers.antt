use Rattle.std.proofs.Common.{List, ap, subst, sym, ◌∙◌, arith, length, map}
use Rattle.dd_session.specs.declared.answers.Full.{Full}
use Rattle.net_builds.specs.Outputs.{AreShared}
use Rattle.net_builds.specs.declared.sharing.Share.{Share}
use Rattle.net_jobs.specs.Hosts.{TellsFullOf, standing_of}
use Rattle.net_jobs.specs.Workers.{MayWork}
use Rattle.net_jobs.proofs.BuiltHistories.{fresh_are}
use Rattle.net_jobs.proofs.ListLemmas.{taken_back}
use Rattle.net_jobs.proofs.Sharing.{shared_many}
use Rattle.net_jobs.proofs.workers.built_shares.Goals as goal

pub returns-in_err-shares-clause-own : goal.returns-in_err-shares-clause-own
returns-in_err-shares-clause-own g c = fresh_are c.args.manager.now c.args.sessions.now c.requires.fresh

pub build_shares-requires : goal.build_shares-requires
build_shares-requires g c =
    let few = c.requires.few in
    let may : MayWork c.args.manager.now c.args.net.now (record { number = 0; of = length c.args.sessions.now }) c.args.sessions.now (length c.deref_mut.result.now) =
    record {
      fresh = c.requires.fresh;
      as_many = ap length c.deref_mut.ensures.value ∙ c.in_ok-shares.ensures;
      bounded = c.requires.bounded;
      vars = c.requires.vars;
      within = omega arith;
      few = few;
    }
    in (c.type_bounds.sync-R, (c.type_bounds.sync-G, may))

pub returns-clause-shared : goal.returns-clause-shared
returns-clause-shared g c =
    let m = c.args.manager.now in
    let net = c.args.net.now in
    let old = c.args.sessions.now in
    let new = c.build_shares.new.sessions in
    let shares = c.build_shares.new.shares in
    let is = c.build_shares.ensures.shared in
    subst (λ (l : List (Share Full)). AreShared (TellsFullOf m) net (length old) 0 (map standing_of old) (map standing_of new) l)
    (sym (taken_back shares c.in_ok-shares.shares.items c.in_ok-shares.shares.len
    (shared_many m net (length old) 0 old new shares is ∙ sym c.in_ok-shares.ensures) c.in_ok-shares.shares.ok.0)) is
