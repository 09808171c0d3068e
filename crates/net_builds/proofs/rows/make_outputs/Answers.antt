use Rattle.std.proofs.Common.{◌<◌, ◌≤◌, ◌+◌, ℕ, List, ap, get_or, length, arith, subst, sym}
use Rattle.net_builds.specs.Building.{BuildsTo}
use Rattle.std.proofs.lemmas.List.{get_or_default}
use mathlib.Core.Logic.{dite}
use native.Mathlib.Decide.{ℕ_discrete}
use Rattle.std.proofs.lemmas.Result.{err_from_is_err_and}
use Rattle.net_builds.proofs.SignalSteps.{builds_more, builds_none, left_more}
use Rattle.net_builds.proofs.rows.make_outputs.Goals as goal

-- one signal more is behind
behind_more : (own : List ℕ) (number next later : ℕ) → number < length own → next ≤ later → get_or own number 0 < later
    → ((i d : ℕ) → i < number → get_or own i d < next) → (i d : ℕ) → i < number + 1 → get_or own i d < later
behind_more own number next later within more here behind i d less = dite (ℕ_discrete i number)
    (λ e. omega (arith, ap (λ k. get_or own k d) e, get_or_default own number d 0 within, here))
    (λ apart. omega (arith, behind i d (omega (arith, less, apart)), more))

pub loop-number-preserved : goal.loop-number-preserved
loop-number-preserved g c = record {
  own = c.make_up_to.ensures.back.own;
  built = builds_more c.args.net.now c.args.last.now c.loop-number.next c.in_ok-next.next (g.H.Host.standing c.args.session.now) (g.H.Host.standing c.loop-number.session)
      (g.H.Host.standing c.make_up_to.new.session) c.loop-number.rows c.make_up_to.new.rows c.loop-number.invariant.built c.in_ok-next.ensures.built;
  later = omega (arith, c.loop-number.invariant.later, c.in_ok-next.ensures.behind.1);
  counted = omega (arith, c.loop-number.invariant.counted, c.requires.workers.1);
  behind = behind_more c.args.own.now c.loop-number.number c.loop-number.next c.in_ok-next.next (omega (arith, c.loop-number-test.true)) c.in_ok-next.ensures.behind.1
      c.in_ok-next.ensures.behind.0 c.loop-number.invariant.behind;
}

pub returns-clause-behind : goal.returns-clause-behind
returns-clause-behind g c k d less = c.loop-number.invariant.behind k d (omega (arith, less, c.loop-number-test.false))

pub returns-in_err-next-clause-back : goal.returns-in_err-next-clause-back
returns-in_err-next-clause-back g c =
    let p = err_from_is_err_and c.from_residual.result c.from_residual.ensures.1 in
    rw (p.1, p.2) (record {
      own = c.in_err-next.ensures.back.own;
      left = left_more (g.H.Host.tells c.args.host.now) c.args.net.now c.args.last.now c.loop-number.next (g.H.Host.standing c.args.session.now) (g.H.Host.standing c.loop-number.session)
          (g.H.Host.standing c.make_up_to.new.session) c.loop-number.rows c.make_up_to.new.rows c.in_err-next.field-0.0 c.loop-number.invariant.built c.in_err-next.ensures.back.left;
    })

pub loop-number-init : goal.loop-number-init
loop-number-init g c = record {
  own = c.requires.has.own;
  built = subst (λ next. BuildsTo c.args.net.now c.args.last.now next (g.H.Host.standing c.args.session.now) (g.H.Host.standing c.args.session.now) c.args.rows.now) (sym (ap length c.inputs-next.ensures))
      (builds_none c.args.net.now c.args.last.now (length c.args.net.now.inputs) (g.H.Host.standing c.args.session.now) c.args.rows.now c.requires.has.built);
  later = omega (arith, ap length c.inputs-next.ensures);
  counted = omega arith;
  behind = λ i d less. absurd (omega (arith, less));
}

pub overflow_cast-output-in-loop-number : goal.overflow_cast-output-in-loop-number
overflow_cast-output-in-loop-number g c = omega (arith, c.loop-number.invariant.counted, c.requires.workers.0, c.requires.workers.1, c.requires.few, c.loop-number-test.true)

pub overflow_add-output : goal.overflow_add-output
overflow_add-output g c = omega (arith, c.loop-number.invariant.counted, c.requires.workers.0, c.requires.workers.1, c.requires.few, c.loop-number-test.true)
