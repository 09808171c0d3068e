use Rattle.std.proofs.Common.{length}
use Rattle.net_builds.specs.Builds.{FindingsOf, inputs_of, names_of}
use Rattle.net_builds.specs.declared.telling.Telling.TheVariants.{Report}
use Rattle.net_builds.proofs.TellingLemmas.{is_told, looks_listed, looks_same, may_tell}
use Rattle.net_builds.proofs.telling.tell_report.Goals as goal

pub report_listed-requires-clause-may : goal.report_listed-requires-clause-may
report_listed-requires-clause-may g c =
    may_tell g.H.Host.has g.H.Host.standing c.args.host.now c.args.session.now c.list.new.session (inputs_of c.args.reported.now) (length (names_of c.args.reported.now)) c.args.names.now
    c.in_ok-listing.listing c.in_ok-listing.ensures.own c.in_ok-listing.ensures.lists c.requires.may

pub report_listed-requires-clause-listed : goal.report_listed-requires-clause-listed
report_listed-requires-clause-listed g c = (g.H.Host.standing c.args.session.now, c.in_ok-listing.ensures.lists)

pub returns-clause-told : goal.returns-clause-told
returns-clause-told g c =
    let old = g.H.Host.standing c.args.session.now in
    let listing = c.in_ok-listing.listing in
    let lists = c.in_ok-listing.ensures.lists in
    is_told (FindingsOf (inputs_of c.args.reported.now) (names_of c.args.reported.now) c.args.patterns.now Report) old (g.H.Host.standing c.list.new.session)
    (g.H.Host.standing c.report_listed.new.session) c.args.names.now listing (record { text = c.in_ok-text.text; listing = listing }) lists c.in_ok-text.ensures.asks
    (record { told = c.in_ok-text.ensures.report old lists; listed = lists.is_listing })

pub returns-clause-looks : goal.returns-clause-looks
returns-clause-looks g c =
    looks_listed (g.H.Host.standing c.args.session.now) (g.H.Host.standing c.list.new.session) (g.H.Host.standing c.report_listed.new.session) c.args.names.now c.in_ok-listing.listing
    c.in_ok-listing.ensures.lists c.in_ok-text.ensures.asks

pub returns-in_err-listing-clause-looks : goal.returns-in_err-listing-clause-looks
returns-in_err-listing-clause-looks g c = looks_same (g.H.Host.standing c.args.session.now) (g.H.Host.standing c.list.new.session) c.in_err-listing.ensures.same

pub returns-in_err-text-clause-looks : goal.returns-in_err-text-clause-looks
returns-in_err-text-clause-looks g c =
    looks_listed (g.H.Host.standing c.args.session.now) (g.H.Host.standing c.list.new.session) (g.H.Host.standing c.report_listed.new.session) c.args.names.now c.in_ok-listing.listing
    c.in_ok-listing.ensures.lists c.in_err-text.ensures.asks
