use Rattle.std.proofs.Common.{arith, length, ap}
use Rattle.std.proofs.lemmas.Grind.{common_steps}
use Rattle.std.specs.Prelude.{is_some}
use Rattle.std.proofs.lemmas.Result.{err_from_is_err_and}
use Rattle.net_builds.specs.Standings.{IsQuiet}
use Rattle.net_builds.proofs.OutputNames.{built_begun, only_of, own_few, own_rows, own_signals, share_hold}
use Rattle.net_builds.proofs.SignalSteps.{left_more}
use Rattle.net_builds.proofs.StandingLemmas.{gains_then}
use Rattle.net_builds.proofs.signals.make_rows.Goals as goal

pub make_inputs-requires : goal.make_inputs-requires
make_inputs-requires g c =
    let may = c.requires.may in
    record {
      has = record {
        own = may.own;
        plan = record { bounded = may.bounded; long = c.requires.last.long; reads = c.requires.last.reads };
        built = built_begun c.args.net.now c.args.last.now (g.H.Host.standing c.args.session.now) c.args.rows.now c.requires.rows may.vars may.none;
      };
    }

pub make_outputs-requires-clause-within : goal.make_outputs-requires-clause-within
make_outputs-requires-clause-within g c = own_signals c.args.net.now c.args.worker.number c.args.worker.of c.args.own.now c.requires.may.bounded c.requires.signals

pub make_outputs-requires-clause-few : goal.make_outputs-requires-clause-few
make_outputs-requires-clause-few g c = own_few c.args.net.now c.args.worker.number c.args.worker.of c.args.own.now c.requires.may.bounded c.requires.signals

pub note_names-requires-clause-rows : goal.note_names-requires-clause-rows
note_names-requires-clause-rows g c k d less =
    ap is_some (own_rows c.args.net.now c.args.own.now c.args.last.now c.in_ok-next.next (g.H.Host.standing c.let_go_ended.new.session) c.let_go_ended.new.rows c.requires.last
    c.requires.may.bounded c.let_go_ended.ensures.built.built c.in_ok-next.ensures.behind k d less).1

pub returns-clause-built : goal.returns-clause-built
returns-clause-built g c =
    let net = c.args.net.now in
    let old = g.H.Host.standing c.args.session.now in
    let inputs = g.H.Host.standing c.make_inputs.new.session in
    let made = g.H.Host.standing c.make_outputs.new.session in
    let new = g.H.Host.standing c.let_go_ended.new.session in
    let built = c.let_go_ended.ensures.built in
    record {
      works = gains_then IsQuiet old inputs new c.in_ok-make_inputs.ensures.built.works (gains_then IsQuiet inputs made new c.in_ok-next.ensures.built.works built.works);
      holds = share_hold new net c.args.worker.number c.args.worker.of c.args.own.now c.let_go_ended.new.rows built.built.held c.note_names.new.names c.requires.signals c.note_names.ensures.long c.note_names.ensures.noted;
      rows = omega (arith, built.built.few, built.built.within);
    }

pub returns-clause-only : goal.returns-clause-only
returns-clause-only g c =
    only_of c.args.net.now c.args.own.now c.args.last.now c.let_go_ended.new.rows c.note_names.new.names c.requires.may.bounded c.requires.last c.let_go_ended.ensures.gone c.note_names.ensures.long
    (λ i d e less. c.note_names.ensures.noted i d e less)

pub note_names-requires-clause-long : goal.note_names-requires-clause-long
note_names-requires-clause-long g c = grind (arith, common_steps)

pub returns-clause-rows : goal.returns-clause-rows
returns-clause-rows g c = (c.in_ok-next.next, c.let_go_ended.ensures.built.built)

pub returns-in_err-next-clause-back : goal.returns-in_err-next-clause-back
returns-in_err-next-clause-back g c =
    let p = err_from_is_err_and c.from_residual-in_err-next.result c.from_residual-in_err-next.ensures.1 in
    rw (p.1, p.2) (record {
      own = c.in_err-next.ensures.back.own;
      left = left_more (g.H.Host.tells c.args.host.now) c.args.net.now c.args.last.now (length c.args.net.now.inputs) (g.H.Host.standing c.args.session.now) (g.H.Host.standing c.make_inputs.new.session)
          (g.H.Host.standing c.make_outputs.new.session) c.make_inputs.new.rows c.make_outputs.new.rows c.in_err-next.field-0.0 c.in_ok-make_inputs.ensures.built c.in_err-next.ensures.back.left;
    })
