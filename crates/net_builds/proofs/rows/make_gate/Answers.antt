use Rattle.std.proofs.Common.{◌≡◌, ◌-◌, ◌+◌, ◌<◌, ℕ, List, length, get_or, ap, sym, subst, ◌∙◌, arith, Some, All}
use Rattle.std.specs.Prelude.{slice_get}
use Rattle.std.proofs.Math.ListN.{set}
use Rattle.std.proofs.lemmas.Option.{slice_get-get_or}
use Rattle.cover_nets.specs.declared.net.Cover.{Cover}
use Rattle.cover_nets.specs.Bounds.{signal_count}
use Rattle.cover_nets.specs.Networks.{cover_value, signal_value}
use Rattle.std.proofs.lemmas.Result.{err_from_is_err_and}
use Rattle.net_builds.specs.Building.{BuildsTo}
use Rattle.net_builds.specs.Signals.{HaveValues}
use Rattle.net_builds.proofs.SignalSteps.{builds_more, builds_unused, built_made, gate_rows, gate_value, gate_values, left_kept, reads_signals}
use Rattle.net_builds.proofs.rows.make_gate.Given as given
use Rattle.net_builds.proofs.rows.make_gate.Goals as goal
use Rattle.net_builds.proofs.rows.make_gate.Goals.{After-index-gates-signal, After-as_slice}

-- the gate is the one of the signal
gate_at : (g : given.Over) (c : After-index-gates-signal g) → slice_get c.args.net.now.gates (c.args.signal - length c.args.net.now.inputs) ≡ Some c.index-gates-signal.result
gate_at g c =
    let gate = c.index-gates-signal.result in
    let i = c.args.signal - length c.args.net.now.inputs in
    let is : get_or c.args.net.now.gates i gate ≡ gate =
    sym (c.index-gates-signal.is ∙ ap (λ (gates : List Cover). get_or gates (c.args.signal - length c.inputs.result.now) gate) c.gates.ensures
    ∙ ap (λ (n : ℕ). get_or c.args.net.now.gates (c.args.signal - n) gate) (ap length c.inputs.ensures)) in
    slice_get-get_or c.args.net.now.gates i gate (omega (arith, c.requires.gate, c.requires.within)) ∙ ap Some is

place : (g : given.Over) (c : After-index-gates-signal g) → c.args.signal ≡ length c.args.net.now.inputs + (c.args.signal - length c.args.net.now.inputs)
place g c = omega (arith, c.requires.gate)

pub cover-requires-clause-rows : goal.cover-requires-clause-rows
cover-requires-clause-rows g c =
    let here = (goal.at.cover-requires-clause-rows g c).After-index-gates-signal in
    let net = c.args.net.now in
    gate_rows net c.args.last.now c.requires.has.plan c.args.signal (c.args.signal - length net.inputs) c.index-gates-signal.result (gate_at g here) (place g here)
    (g.H.Host.standing c.args.session.now) c.args.rows.now c.if-last-signal-eq0.false c.requires.has.built

-- the gate's row was made
made : (g : given.Over) (c : After-as_slice g) → slice_get c.args.net.now.gates (c.args.signal - length c.args.net.now.inputs) ≡ Some c.index-gates-signal.result
    → BuildsTo c.args.net.now c.args.last.now (c.args.signal + 1) (g.H.Host.standing c.args.session.now) (g.H.Host.standing c.cover.new.session) (set c.args.rows.now c.args.signal (Some c.in_ok-cover.field-0))
made g c at =
    let net = c.args.net.now in
    let last = c.args.last.now in
    let signal = c.args.signal in
    let i = signal - length net.inputs in
    let gate = c.index-gates-signal.result in
    let old = g.H.Host.standing c.args.session.now in
    let rows = c.args.rows.now in
    let place : signal ≡ length net.inputs + i = omega (arith, c.requires.gate) in
    let values : HaveValues old rows (signal_value net) gate.ins =
    gate_values net last c.requires.has.plan signal i gate at place old rows c.if-last-signal-eq0.false c.requires.has.built in
    built_made net last signal old (g.H.Host.standing c.cover.new.session) rows c.in_ok-cover.field-0 (λ k. cover_value gate (λ input. signal_value net input k)) c.requires.within
    (gate_value net last c.requires.has.plan signal i gate at place) c.requires.has.built (c.in_ok-cover.ensures.made (signal_value net) values)

pub let_go_all_read-requires-clause-has : goal.let_go_all_read-requires-clause-has
let_go_all_read-requires-clause-has g c =
    let here = goal.at.let_go_all_read-requires-clause-has g c in
    record {
      own = c.in_ok-cover.ensures.back.own;
      plan = c.requires.has.plan;
      built = (made g here.After-as_slice (gate_at g here.After-index-gates-signal)).built;
    }

pub let_go_all_read-requires-clause-within : goal.let_go_all_read-requires-clause-within
let_go_all_read-requires-clause-within g c =
    let here = (goal.at.let_go_all_read-requires-clause-within g c).After-index-gates-signal in
    let net = c.args.net.now in
    subst (λ (ins : List ℕ). All (λ input. input < signal_count net) ins) (sym c.as_slice.ensures)
    (reads_signals net c.args.last.now c.requires.has.plan c.args.signal (c.args.signal - length net.inputs) c.index-gates-signal.result (gate_at g here) (place g here))

pub returns-clause-built : goal.returns-clause-built
returns-clause-built g c =
    builds_more c.args.net.now c.args.last.now (c.args.signal + 1) (c.args.signal + 1) (g.H.Host.standing c.args.session.now) (g.H.Host.standing c.cover.new.session)
    (g.H.Host.standing c.let_go_all_read.new.session) (set c.args.rows.now c.args.signal (Some c.in_ok-cover.field-0)) c.let_go_all_read.new.rows
    (made g (goal.at.returns-clause-built g c).After-as_slice (gate_at g (goal.at.returns-clause-built g c).After-index-gates-signal)) c.let_go_all_read.ensures.built

pub returns-in_err-cover-clause-back : goal.returns-in_err-cover-clause-back
returns-in_err-cover-clause-back g c =
    let back = c.in_err-cover.ensures.back in
    let p = err_from_is_err_and c.from_residual.result c.from_residual.ensures.1 in
    rw (p.1, p.2) (record {
      own = back.own;
      left = left_kept (g.H.Host.tells c.args.host.now) c.args.net.now c.args.last.now c.args.signal (g.H.Host.standing c.args.session.now) (g.H.Host.standing c.cover.new.session) c.args.rows.now
          c.in_err-cover.field-0.0 c.requires.has.built back.works back.kept back.rows back.caused;
    })

pub returns-then-last-signal-eq0-clause-built : goal.returns-then-last-signal-eq0-clause-built
returns-then-last-signal-eq0-clause-built g c =
    builds_unused c.args.net.now c.args.last.now c.args.signal (g.H.Host.standing c.args.session.now) c.args.rows.now c.requires.within (omega (arith, c.if-last-signal-eq0.true)) c.requires.has.built
