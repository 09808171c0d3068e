use Rattle.std.proofs.Common.{Bool, sym, subst}
use Rattle.net_builds.specs.Standings.{Fetches}
use Rattle.net_jobs.specs.Hosts.{standing_of}
use Rattle.net_jobs.proofs.HostLaws.{fetches, live_is_row}
use Rattle.net_jobs.proofs.hosting.fetch_row.Goals as goal

pub fetch-fetched-requires-clause-live : goal.fetch-fetched-requires-clause-live
fetch-fetched-requires-clause-live g c = live_is_row c.args.session.now c.args.other c.requires.live

pub returns-clause-fetches : goal.returns-clause-fetches
returns-clause-fetches g c =
    let old = c.args.session.now in
    let new = c.fetch-fetched.new.self in
    let fetched = c.fetch-fetched.result in
    subst (λ (b : Bool). Fetches c.args.cell (standing_of old) (standing_of new) c.args.other fetched.value.0 b fetched.place) (sym c.was_posted-posted.ensures)
    (fetches old new c.args.cell c.args.other fetched.value.0 _ fetched.place c.fetch-fetched.ensures.told c.requires.live)
