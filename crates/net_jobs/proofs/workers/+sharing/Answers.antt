use Rattle.std.proofs.Common.{◌+◌, ◌/◌, eqb-true, length, refl, sym, ◌∙◌, arith}
use Rattle.std.proofs.lemmas.List.Elements.{All-append}
use Rattle.net_jobs.specs.Hosts.{IsSessionOf}
use Rattle.net_jobs.proofs.Alone.{lent}
use Rattle.net_jobs.proofs.BuiltHistories.{fresh_are}
use Rattle.net_jobs.proofs.Sharing.{both_may, both_shared, none_shared, one_own, one_shared}
use Rattle.net_jobs.proofs.workers.+sharing.Goals as goal

pub build_shares-returns-then-is_empty : goal.build_shares-returns-then-is_empty
build_shares-returns-then-is_empty g t c =
    let may = c.requires.may in
    let none = eqb-true (length c.args.sessions.now) 0 (sym c.is_empty.ensures ∙ c.if-is_empty.true) in
    record {
      own = fresh_are c.args.manager.now c.args.sessions.now may.fresh;
      shared = none_shared c.args.manager.now c.args.net.now c.args.first.of c.args.first.number c.args.sessions.now c.args.shares.now none may.as_many;
    }

pub build_shares-build_share-requires-clause-may : goal.build_shares-build_share-requires-clause-may
build_shares-build_share-requires-clause-may g t c =
    let may = c.requires.may in
    let here = lent c.args.manager.now (length c.args.net.now.inputs) c.args.sessions.now c.index-sessions-0.result c.if-sessions-eq1.true may.fresh may.vars in
    record { own = here.0; bounded = may.bounded; vars = here.1; none = here.2 }

pub build_shares-build_share-requires-clause-workers : goal.build_shares-build_share-requires-clause-workers
build_shares-build_share-requires-clause-workers g t c =
    let within = c.requires.may.within in
    let one = c.if-sessions-eq1.true in (omega (arith, within, one), c.requires.may.few)

pub build_shares-returns-then-sessions-eq1 : goal.build_shares-returns-then-sessions-eq1
build_shares-returns-then-sessions-eq1 g t c =
    let m = c.args.manager.now in
    let one = c.if-sessions-eq1.true in
    record {
      own = one_own m c.args.sessions.now c.build_share.new.session one c.build_share.ensures.own;
      shared = one_shared m c.args.net.now c.args.first.of c.args.first.number c.args.sessions.now c.args.shares.now c.index-sessions-0.result c.build_share.new.session c.build_share.result one c.requires.may.as_many c.build_share.ensures.shared;
    }

pub build_shares-both_halves-requires-clause-low : goal.build_shares-both_halves-requires-clause-low
build_shares-both_halves-requires-clause-low g t c κs within =
    let s = c.split_at_mut-low.ensures in
    let l = c.split_at_mut-low_shares.ensures in
    let as_many = c.requires.may.as_many in
    let r = both_may c.args.manager.now c.args.net.now c.args.first (record { number = c.args.first.number + length c.args.sessions.now / 2; of = c.args.first.of }) (length c.args.shares.now) (length c.split_at_mut-low_shares.result.0.now) (length c.split_at_mut-low_shares.result.1.now)
    c.args.sessions.now c.split_at_mut-low.result.0.now c.split_at_mut-low.result.1.now c.requires.may s.value (omega (arith, s.front_len)) refl (omega (arith, s.front_len, l.front_len)) (omega (arith, s.back_len, l.back_len, as_many)) in
    r.0

pub build_shares-both_halves-requires-clause-high : goal.build_shares-both_halves-requires-clause-high
build_shares-both_halves-requires-clause-high g t c κs within =
    let s = c.split_at_mut-low.ensures in
    let l = c.split_at_mut-low_shares.ensures in
    let as_many = c.requires.may.as_many in
    let r = both_may c.args.manager.now c.args.net.now c.args.first (record { number = c.args.first.number + length c.args.sessions.now / 2; of = c.args.first.of }) (length c.args.shares.now) (length c.split_at_mut-low_shares.result.0.now) (length c.split_at_mut-low_shares.result.1.now)
    c.args.sessions.now c.split_at_mut-low.result.0.now c.split_at_mut-low.result.1.now c.requires.may s.value (omega (arith, s.front_len)) refl (omega (arith, s.front_len, l.front_len)) (omega (arith, s.back_len, l.back_len, as_many)) in
    r.1

pub build_shares-returns : goal.build_shares-returns
build_shares-returns g t c =
    let s = c.split_at_mut-low.ensures in
    let halves = c.both_halves.ensures in
    record {
      own = All-append (IsSessionOf c.args.manager.now) _ _ halves.own.0 halves.own.1;
      shared = both_shared c.args.manager.now c.args.net.now c.args.first.of c.args.first.number (c.args.first.number + length c.args.sessions.now / 2) c.args.sessions.now c.split_at_mut-low.result.0.now _ c.split_at_mut-low.result.1.now _ _ _
          s.value (omega (arith, s.front_len)) halves.low halves.high;
    }
