use Rattle.std.proofs.Common.{◌<◌, Bool, subst, arith, get_or, length, slice_set}
use Rattle.std.proofs.lemmas.Bool.{ltb-true}
use Rattle.std.proofs.lemmas.Result.{err_from_is_err_and}
use Rattle.std.proofs.lemmas.List.{length-set}
use Rattle.std.proofs.lemmas.List.Elements.{All-get_or, All-set}
use Rattle.net_builds.specs.Standings.{Fetches, HasRoom}
use Rattle.net_builds.proofs.Slices.{hands_one, live_still, map_all, posted_back}
use Rattle.net_builds.proofs.handing.hand_one.Goals as goal

pub fetch-requires-clause-may : goal.fetch-requires-clause-may
fetch-requires-clause-may g c =
    let sessions = c.args.sessions.now in
    let posted = c.post-posted.new.session in
    let mid = slice_set sessions c.args.giver posted in
    let d = c.index-sessions-0.result in
    let some : 0 < length mid = omega (arith, c.requires.giver, length-set sessions c.args.giver posted) in
    record {
      own = All-get_or (g.H.Host.has c.args.host.now) mid 0 d some (All-set (g.H.Host.has c.args.host.now) sessions c.args.giver posted c.post-posted.ensures.own c.requires.own);
      room = omega (
        arith,
        All-get_or (λ s. HasRoom (g.H.Host.standing s)) mid 0 d some (All-set (λ s. HasRoom (g.H.Host.standing s)) sessions c.args.giver posted
            (omega (arith, c.post-posted.ensures.posts.rows, All-get_or (λ s. HasRoom (g.H.Host.standing s)) sessions c.args.giver c.index-sessions-giver.result c.requires.giver (map_all HasRoom g.H.Host.standing sessions c.requires.room)))
            (map_all HasRoom g.H.Host.standing sessions c.requires.room)),
      );
    }

pub fetch-requires-clause-held : goal.fetch-requires-clause-held
fetch-requires-clause-held g c =
    live_still g.H.Host.standing c.args.cell c.post-posted.result.place c.args.giver c.args.sessions.now c.post-posted.new.session c.index-sessions-giver.result c.index-sessions-0.result c.args.name c.requires.giver
    c.post-posted.ensures.posts c.args.other c.requires.other

pub returns-in_err-fetched-clause-refused : goal.returns-in_err-fetched-clause-refused
returns-in_err-fetched-clause-refused g c =
    let p = err_from_is_err_and c.from_residual.result c.from_residual.ensures.1 in
    rw p.1 (posted_back g.H.Host.standing c.args.cell c.post-posted.result.place c.args.giver c.args.sessions.now c.post-posted.new.session c.index-sessions-giver.result c.index-sessions-0.result c.args.name c.requires.giver
    c.post-posted.ensures.posts c.fetch.new.session c.in_err-fetched.ensures.same)

pub returns-clause-handed : goal.returns-clause-handed
returns-clause-handed g c =
    let fetched = c.in_ok-fetched.fetched in
    let sessions = c.args.sessions.now in
    let mid = slice_set sessions c.args.giver c.post-posted.new.session in
    let first = g.H.Host.standing (get_or mid 0 c.index-sessions-0.result) in
    hands_one g.H.Host.standing c.args.cell c.post-posted.result.place c.args.giver sessions c.post-posted.new.session c.index-sessions-giver.result c.index-sessions-0.result c.args.name c.requires.giver
    c.post-posted.ensures.posts c.fetch.new.session c.args.other fetched.value.name fetched.place
    (subst (λ (posted : Bool). Fetches c.args.cell first (g.H.Host.standing c.fetch.new.session) c.args.other fetched.value.name posted fetched.place) c.wait_unless.ensures c.in_ok-fetched.ensures.fetches)
    (ltb-true c.post-posted.result.place fetched.place c.wait_unless-2.ensures)
