use Rattle.std.proofs.Common.{◌∙◌, false, List, ap, get_or, length, map, set, subst, sym}
use Rattle.std.proofs.lemmas.List.Elements.{All-set}
use Rattle.cover_nets.specs.declared.net.Output.{Output}
use Rattle.net_reports.specs.Reports.{output_functions}
use Rattle.net_builds.specs.Asked.{MayReport}
use Rattle.net_builds.specs.Builds.{FindsOf}
use Rattle.net_builds.specs.Handings.{Returns}
use Rattle.net_builds.specs.Holdings.{LetsAllGo, MayLetAllGo}
use Rattle.net_builds.specs.Shares.{HandsAndTells, SiftsAndTells}
use Rattle.net_builds.specs.declared.handing.Handover.{Handover}
use Rattle.net_builds.proofs.BackLemmas.{ok_weaker}
use Rattle.net_builds.proofs.Gathered.{as_many_wanted, may_let_go, may_report, some_gathered, told_of, told_returns}
use Rattle.net_builds.proofs.Gathering.{returns_unsifted}
use Rattle.net_builds.proofs.Pairs.{zip_weaker}
use Rattle.net_builds.proofs.Slices.{first_set}
use Rattle.net_builds.proofs.building.told_gathered.Goals as goal

pub returns-in_err-handovers-clause-returns : goal.returns-in_err-handovers-clause-returns
returns-in_err-handovers-clause-returns g c =
    zip_weaker (Returns c.args.cell false) (Returns c.args.cell c.args.sifts) (returns_unsifted c.args.cell c.args.sifts) (map g.H.Host.standing c.args.sessions.now) (map g.H.Host.standing c.gather.new.sessions) c.in_err-handovers.ensures.refused

pub told_fetched-found-requires-clause-may : goal.told_fetched-found-requires-clause-may
told_fetched-found-requires-clause-may g c =
    let net = c.args.net.now in
    let mid = c.gather.new.sessions in
    let d = c.index-sessions-0.result in
    let hs : List Handover = c.in_ok-handovers.handovers.items in
    let gathers = c.in_ok-handovers.ensures.handed (output_functions net) c.requires.may (as_many_wanted net ∙ ap (length {A = Output}) (sym c.outputs-outputs.ensures)) in
    subst (λ (l : List Handover). MayReport g.H.Host.has g.H.Host.standing c.args.host.now (get_or mid 0 d) (length net.inputs) (length net.outputs) (map (λ (h : Handover). h.to) l)) (sym c.deref.ensures.value)
    (may_report g.H.Host.has g.H.Host.standing c.args.host.now c.args.cell net c.args.sessions.now mid hs d gathers c.requires.may.room c.requires.vars c.in_ok-handovers.ensures.own)

pub let_go_fetched-requires : goal.let_go_fetched-requires
let_go_fetched-requires g c =
    let net = c.args.net.now in
    let mid = c.gather.new.sessions in
    let d = c.index-sessions-0.result in
    let told = c.told_fetched-found.new.session in
    let hs : List Handover = c.in_ok-handovers.handovers.items in
    let gathers = c.in_ok-handovers.ensures.handed (output_functions net) c.requires.may (as_many_wanted net ∙ ap (length {A = Output}) (sym c.outputs-outputs.ensures)) in
    let may = may_let_go g.H.Host.has g.H.Host.standing c.args.host.now c.args.cell net c.args.sessions.now mid hs d gathers c.requires.may.room c.requires.vars c.in_ok-handovers.ensures.own told told c.args.sifts
    c.told_fetched-found.ensures.returns c.told_fetched-found.ensures.own in
    record {
      may = subst (λ s. MayLetAllGo g.H.Host.has g.H.Host.standing c.args.host.now s (map (λ (h : Handover). h.to) c.deref-2.result.now))
          (sym (first_set mid told c.index-sessions-0-2.result (some_gathered c.args.cell (output_functions net) (map g.H.Host.standing c.args.sessions.now) g.H.Host.standing mid hs gathers)))
          (subst (λ (l : List Handover). MayLetAllGo g.H.Host.has g.H.Host.standing c.args.host.now told (map (λ (h : Handover). h.to) l)) (sym c.deref-2.ensures.value) may);
    }

pub returns-clause-own : goal.returns-clause-own
returns-clause-own g c =
    All-set (g.H.Host.has c.args.host.now) (set c.gather.new.sessions 0 c.told_fetched-found.new.session) 0 c.let_go_fetched.new.session c.let_go_fetched.ensures.own
    (All-set (g.H.Host.has c.args.host.now) c.gather.new.sessions 0 c.told_fetched-found.new.session c.told_fetched-found.ensures.own c.in_ok-handovers.ensures.own)

pub returns-clause-told : goal.returns-clause-told
returns-clause-told g c =
    let st = g.H.Host.standing in
    let net = c.args.net.now in
    let mid = c.gather.new.sessions in
    let d = c.index-sessions-0.result in
    let told = c.told_fetched-found.new.session in
    let last = c.let_go_fetched.new.session in
    let hs : List Handover = c.in_ok-handovers.handovers.items in
    let Tells = FindsOf net c.args.patterns.now c.args.telling in
    let gathers = c.in_ok-handovers.ensures.handed (output_functions net) c.requires.may (as_many_wanted net ∙ ap (length {A = Output}) (sym c.outputs-outputs.ensures)) in
    let gone : LetsAllGo (st told) (st last) (map (λ (h : Handover). h.to) hs) =
    subst (λ s. LetsAllGo (st s) (st last) (map (λ (h : Handover). h.to) hs)) (first_set mid told c.index-sessions-0-2.result (some_gathered c.args.cell (output_functions net) (map g.H.Host.standing c.args.sessions.now) g.H.Host.standing mid hs gathers))
    (subst (λ (l : List Handover). LetsAllGo (st (get_or (set mid 0 told) 0 c.index-sessions-0-2.result)) (st last) (map (λ (h : Handover). h.to) l)) c.deref-2.ensures.value c.let_go_fetched.ensures.gone) in
    ok_weaker (λ found. SiftsAndTells c.args.sifts (g.H.Host.limit c.args.host.now) Tells (st (get_or mid 0 d)) (st told) (map (λ (h : Handover). h.to) c.deref.result.now) found)
    (λ found. HandsAndTells c.args.sifts (g.H.Host.limit c.args.host.now) Tells c.args.cell (output_functions net) (map st c.args.sessions.now) (map st (set (set mid 0 told) 0 last)) found)
    (λ found tells. told_of g.H.Host.has st c.args.host.now c.args.cell net c.args.sessions.now mid hs d gathers c.requires.may.room c.requires.vars c.in_ok-handovers.ensures.own told last c.args.sifts
    c.told_fetched-found.ensures.returns gone (g.H.Host.limit c.args.host.now) Tells found
    (subst (λ (l : List Handover). SiftsAndTells c.args.sifts (g.H.Host.limit c.args.host.now) Tells (st (get_or mid 0 d)) (st told) (map (λ (h : Handover). h.to) l) found) c.deref.ensures.value tells))
    c.told_fetched-found.result c.told_fetched-found.ensures.told

pub returns-clause-returns : goal.returns-clause-returns
returns-clause-returns g c =
    let st = g.H.Host.standing in
    let net = c.args.net.now in
    let mid = c.gather.new.sessions in
    let d = c.index-sessions-0.result in
    let told = c.told_fetched-found.new.session in
    let last = c.let_go_fetched.new.session in
    let hs : List Handover = c.in_ok-handovers.handovers.items in
    let gathers = c.in_ok-handovers.ensures.handed (output_functions net) c.requires.may (as_many_wanted net ∙ ap (length {A = Output}) (sym c.outputs-outputs.ensures)) in
    let gone : LetsAllGo (st told) (st last) (map (λ (h : Handover). h.to) hs) =
    subst (λ s. LetsAllGo (st s) (st last) (map (λ (h : Handover). h.to) hs)) (first_set mid told c.index-sessions-0-2.result (some_gathered c.args.cell (output_functions net) (map g.H.Host.standing c.args.sessions.now) g.H.Host.standing mid hs gathers))
    (subst (λ (l : List Handover). LetsAllGo (st (get_or (set mid 0 told) 0 c.index-sessions-0-2.result)) (st last) (map (λ (h : Handover). h.to) l)) c.deref-2.ensures.value c.let_go_fetched.ensures.gone) in
    told_returns g.H.Host.has st c.args.host.now c.args.cell net c.args.sessions.now mid hs d gathers c.requires.may.room c.requires.vars c.in_ok-handovers.ensures.own told last c.args.sifts c.told_fetched-found.ensures.returns gone
