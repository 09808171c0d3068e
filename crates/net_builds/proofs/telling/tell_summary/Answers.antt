use Rattle.std.proofs.Common.{[], List}
use Rattle.net_reports.specs.declared.classes.Class.{Class}
use Rattle.net_builds.specs.Builds.{FindsOf}
use Rattle.net_builds.specs.declared.telling.Telling.TheVariants.{Summary}
use Rattle.net_builds.proofs.TellingLemmas.{asks_none, is_told, looks_listed, looks_same, summed_up}
use Rattle.net_builds.proofs.telling.tell_summary.Goals as goal

pub returns-clause-told : goal.returns-clause-told
returns-clause-told g c =
    let net = c.args.net.now in
    let old = g.H.Host.standing c.args.session.now in
    let mid = g.H.Host.standing c.list.new.session in
    let names = c.args.names.now in
    let listing = c.in_ok-listing.listing in
    let lists = c.in_ok-listing.ensures.lists in
    let classes : List Class = c.in_ok-classes.classes.items in
    let seen : List Class = c.deref.result.now in
    let text = c.in_ok-text.text in
    λ patterns. is_told (FindsOf net patterns Summary) old mid mid names listing (record { text = text; listing = listing }) lists (asks_none mid) (record {
      told = summed_up net patterns old mid names listing lists classes c.node_count.result text.items c.requires.may.vars
          (c.in_ok-classes.ensures.by_function listing.order lists.functions lists.is_listing)
          (c.node_count.ensures (record { variables = listing.order; elements = [] }) lists.functions lists.is_listing) seen c.deref.ensures.value c.in_ok-text.ensures.text;
      listed = lists.is_listing;
    })

pub returns-clause-looks : goal.returns-clause-looks
returns-clause-looks g c =
    let mid = g.H.Host.standing c.list.new.session in
    looks_listed (g.H.Host.standing c.args.session.now) mid mid c.args.names.now c.in_ok-listing.listing c.in_ok-listing.ensures.lists (asks_none mid)

pub returns-in_err-listing-clause-looks : goal.returns-in_err-listing-clause-looks
returns-in_err-listing-clause-looks g c = looks_same (g.H.Host.standing c.args.session.now) (g.H.Host.standing c.list.new.session) c.in_err-listing.ensures.same

pub returns-in_err-classes-clause-looks : goal.returns-in_err-classes-clause-looks
returns-in_err-classes-clause-looks g c =
    let mid = g.H.Host.standing c.list.new.session in
    looks_listed (g.H.Host.standing c.args.session.now) mid mid c.args.names.now c.in_ok-listing.listing c.in_ok-listing.ensures.lists (asks_none mid)

pub returns-in_err-text-clause-looks : goal.returns-in_err-text-clause-looks
returns-in_err-text-clause-looks g c =
    let mid = g.H.Host.standing c.list.new.session in
    looks_listed (g.H.Host.standing c.args.session.now) mid mid c.args.names.now c.in_ok-listing.listing c.in_ok-listing.ensures.lists (asks_none mid)
