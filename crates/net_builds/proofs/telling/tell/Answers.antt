use Rattle.std.proofs.Common.{◌∙◌, Bool, List, subst, sym}
use Rattle.std.proofs.lemmas.List.{length-map}
use Rattle.cover_nets.specs.declared.net.Output.{Output}
use Rattle.net_builds.specs.Builds.{FindsOf}
use Rattle.net_builds.specs.Handings.{IsTold}
use Rattle.net_builds.specs.declared.telling.Findings.{Findings}
use Rattle.net_builds.specs.declared.telling.Telling.{Telling}
use Rattle.net_builds.specs.declared.telling.Telling.TheVariants.{Summary}
use Rattle.net_builds.proofs.BackLemmas.{ok_weaker}
use Rattle.net_builds.proofs.telling.tell.Goals as goal

pub tell_report-requires : goal.tell_report-requires
tell_report-requires g c =
    let may = c.requires.may in
    record { may = record { own = may.own; room = may.room; vars = may.vars; held = may.held; many_are = may.many_are ∙ sym (length-map c.args.net.now.outputs (λ (output : Output). output.name)) } }

pub returns-in-Summary-clause-told : goal.returns-in-Summary-clause-told
returns-in-Summary-clause-told g c =
    let net = c.args.net.now in
    let patterns = c.args.patterns.now in
    let old = g.H.Host.standing c.args.session.now in
    let new = g.H.Host.standing c.tell_summary.new.session in
    let names = c.args.names.now in
    ok_weaker (λ (found : Findings). (all : List (List Bool)) → IsTold (FindsOf net all Summary) old new names found) (λ (found : Findings). IsTold (FindsOf net patterns c.args.telling) old new names found)
    (λ found told. subst (λ (t : Telling). IsTold (FindsOf net patterns t) old new names found) (sym c.in-Summary.is) (told patterns)) c.tell_summary.result c.tell_summary.ensures.told
