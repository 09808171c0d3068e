use Rattle.std.proofs.Common.{◌++◌, ◌∙◌, ℕ, All, Err, List, Ok, ap, length, subst, sym}
use Rattle.std.proofs.lemmas.List.{length-map}
use Rattle.std.proofs.lemmas.List.FromFn.{length-range_with_len}
use Rattle.std.proofs.lemmas.Result.{err_from_is_err_and}
use Rattle.std.specs.Fmt.{decimal}
use Rattle.std.specs.List.{range_with_len}
use Rattle.std.specs.Prelude.{codes}
use Rattle.diagram_dumps.specs.Dumps.{root_value}
use Rattle.function_laws.specs.declared.history.Name.{Name}
use Rattle.net_reports.specs.Reports.{root_names}
use Rattle.net_reports.specs.RootClasses.{root_functions}
use Rattle.net_builds.specs.Builds.{FindingsOf}
use Rattle.net_builds.specs.Handings.{IsTold}
use Rattle.net_builds.specs.Standings.{IsLive}
use Rattle.net_builds.specs.declared.host.HostRefusal.TheVariants as stops
use Rattle.net_builds.specs.declared.telling.Telling.TheVariants.{Report}
use Rattle.net_builds.proofs.Built.{all_held, as_many_held}
use Rattle.net_builds.proofs.LoadLemmas.{loads_up, report_noted}
use Rattle.net_builds.proofs.loading.made_and_told.Goals as goal

pub tell_report-requires : goal.tell_report-requires
tell_report-requires g c =
    let dump = c.args.dump.now in
    let mid = g.H.Host.standing c.make_diagram.new.session in
    let names : List Name = c.make_diagram.new.names.items in
    let made = c.in_ok-make_diagram.ensures in
    let count = length dump.roots in
    record {
      may = record {
        own = made.back.own;
        room = made.back.room;
        vars = made.back.works.vars_are ∙ c.requires.may.vars;
        held = subst (All (IsLive mid)) (sym c.deref.ensures.value) (all_held mid (root_functions dump) names made.held);
        many_are = ap length c.deref.ensures.value ∙ as_many_held mid (root_functions dump) names made.held ∙ length-map dump.roots (root_value dump)
            ∙ sym (length-map (range_with_len 0 count) (λ (i : ℕ). codes "r" ++ decimal i) ∙ length-range_with_len 0 count);
      };
    }

pub returns-in_err-found-clause-loads : goal.returns-in_err-found-clause-loads
returns-in_err-found-clause-loads g c =
    let back = c.in_ok-make_diagram.ensures.back in
    let p = err_from_is_err_and c.from_residual-in_err-found.result c.from_residual-in_err-found.ensures.1 in
    rw (p.1, p.2) (loads_up (g.H.Host.tells c.args.host.now) c.args.dump.now c.args.patterns.now (g.H.Host.standing c.args.session.now) (g.H.Host.standing c.make_diagram.new.session)
    (g.H.Host.standing c.tell_report.new.session) c.make_diagram.new.made.items (Err stops.Memory) back.works back.room back.stack c.in_err-found.ensures.looks tt (λ gained. tt))

pub returns-clause-loads : goal.returns-clause-loads
returns-clause-loads g c =
    let dump = c.args.dump.now in
    let old = g.H.Host.standing c.args.session.now in
    let mid = g.H.Host.standing c.make_diagram.new.session in
    let new = g.H.Host.standing c.tell_report.new.session in
    let names : List Name = c.make_diagram.new.names.items in
    let made = c.in_ok-make_diagram.ensures in
    let found = c.in_ok-found.found in
    let told = subst (λ (l : List Name). IsTold (FindingsOf dump.nvars (root_names (length dump.roots)) c.args.patterns.now Report) mid new l found) c.deref.ensures.value c.in_ok-found.ensures.told in
    loads_up (g.H.Host.tells c.args.host.now) dump c.args.patterns.now old mid new c.make_diagram.new.made.items (Ok found.text) made.back.works made.back.room made.back.stack c.in_ok-found.ensures.looks
    (report_noted (g.H.Host.tells c.args.host.now) dump c.args.patterns.now old mid new names found made.back.works (made.back.works.vars_are ∙ c.requires.may.vars) made.held told) (λ gained. tt)
