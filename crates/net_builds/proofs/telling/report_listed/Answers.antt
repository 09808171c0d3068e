use Rattle.std.proofs.Common.{◌≡◌, [], List, ℕ, ◌∙◌}
use Rattle.std.specs.Global.{Vec}
use Rattle.net_reports.specs.Reports.{report_text}
use Rattle.net_reports.specs.declared.classes.Class.{Class}
use Rattle.net_reports.specs.declared.patterns.Evaluation.{Evaluation}
use Rattle.net_builds.specs.Builds.{TellingOf, inputs_of, names_of}
use Rattle.net_builds.specs.Standings.{Lists, Standing}
use Rattle.net_builds.specs.declared.telling.Telling.TheVariants.{Report}
use Rattle.net_builds.proofs.BackLemmas.{ok_weaker}
use Rattle.net_builds.proofs.Classed.{classed_listed}
use Rattle.net_builds.proofs.TellingLemmas.{asks_none, many_classes, reported}
use Rattle.net_builds.proofs.telling.report_listed.Goals as goal

pub classes_of-requires : goal.classes_of-requires
classes_of-requires g c = c.requires.listed.1.is_listing.writable.well_made

pub evaluations-requires-clause-may : goal.evaluations-requires-clause-may
evaluations-requires-clause-may g c =
    let may = c.requires.may in
    let before = c.requires.listed.0 in
    let lists = c.requires.listed.1 in
    let listing = c.args.listing.now in
    record {
      own = may.own;
      room = may.room;
      held = may.held;
      classed = classed_listed before (g.H.Host.standing c.args.session.now) c.args.names.now listing c.in_ok-classes.classes.items c.deref.result.now lists
          (c.in_ok-classes.ensures.by_function listing.order lists.functions lists.is_listing) c.deref.ensures.value;
    }

pub text_of-requires : goal.text_of-requires
text_of-requires g c =
    let before = c.requires.listed.0 in
    let lists = c.requires.listed.1 in
    let listing = c.args.listing.now in
    let seen : List Class = c.deref-2.result.now in
    let classes : List Class = c.in_ok-classes.classes.items in
    many_classes seen classes before (g.H.Host.standing c.args.session.now) c.args.names.now listing lists c.deref-2.ensures.value
    (c.in_ok-classes.ensures.by_function listing.order lists.functions lists.is_listing)
    ∙ c.requires.may.many_are

pub returns-clause-report : goal.returns-clause-report
returns-clause-report g c =
    let n = inputs_of c.args.reported.now in
    let outputs = names_of c.args.reported.now in
    let mid = g.H.Host.standing c.args.session.now in
    let names = c.args.names.now in
    let patterns = c.args.patterns.now in
    let listing = c.args.listing.now in
    let classes : List Class = c.in_ok-classes.classes.items in
    let seen : List Class = c.deref-2.result.now in
    let all : List Evaluation = c.deref-3.result.now in
    let order : List ℕ = c.as_slice-order.result.now in
    let nodes = c.node_count-nodes.result in
    ok_weaker (λ (text : Vec ℕ). text.items ≡ report_text n outputs seen all order nodes)
    (λ (text : Vec ℕ). (before : Standing) (lists : Lists before mid names listing) → TellingOf n outputs patterns Report lists.functions listing.order text.items)
    (λ text is before lists.
    reported n outputs patterns before mid names listing lists classes nodes text.items c.requires.may.vars
    (c.in_ok-classes.ensures.by_function listing.order lists.functions lists.is_listing)
    (c.node_count-nodes.ensures (record { variables = listing.order; elements = [] }) lists.functions lists.is_listing) seen all order c.deref-2.ensures.value
    (c.deref-3.ensures.value ∙ c.in_ok-evaluations.ensures.evaluations) c.as_slice-order.ensures is)
    c.text_of.result c.text_of.ensures

pub returns-in_err-classes-clause-asks : goal.returns-in_err-classes-clause-asks
returns-in_err-classes-clause-asks g c = asks_none (g.H.Host.standing c.args.session.now)
