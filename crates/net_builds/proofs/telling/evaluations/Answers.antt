use Rattle.std.proofs.Common.{Bool, List, arith, rules}
use Rattle.std.proofs.lemmas.Grind.{common_steps}
use Rattle.std.proofs.lemmas.List.Elements.{All-weaker}
use Rattle.net_builds.specs.Standings.{IsLive}
use Rattle.net_builds.proofs.Classed.{classed_asked}
use Rattle.net_builds.proofs.TellingLemmas.{asks_none, asks_on, evaluations_more, held_asked}
use Rattle.net_builds.proofs.telling.evaluations.Goals as goal

pub evaluate-requires-clause-may : goal.evaluate-requires-clause-may
evaluate-requires-clause-may g c =
    let old = g.H.Host.standing c.args.session.now in
    let now = g.H.Host.standing c.loop-pattern.session in
    let may = c.requires.may in
    let asks = c.loop-pattern.invariant.asks in
    record {
      own = c.loop-pattern.invariant.own;
      room = omega (arith, may.room, asks.rows);
      held = All-weaker (IsLive old) (IsLive now) (held_asked old now asks) c.args.names.now may.held;
      classed = classed_asked old now asks c.args.names.now c.args.classes.now may.classed;
    }

pub loop-pattern-preserved : goal.loop-pattern-preserved
loop-pattern-preserved g c =
    let old = g.H.Host.standing c.args.session.now in
    let now = g.H.Host.standing c.loop-pattern.session in
    let pattern : List Bool = c.pattern-item.result in
    let seen : List Bool = c.as_slice.result.now in
    let asks = c.loop-pattern.invariant.asks in
    record {
      own = c.in_ok-evaluation.ensures.own;
      asks = asks_on old now (g.H.Host.standing c.evaluate.new.session) asks c.in_ok-evaluation.ensures.asks;
      evaluations = evaluations_more old now c.args.names.now c.args.patterns.now c.loop-pattern.pattern-index pattern seen c.in_ok-evaluation.evaluation
          c.loop-pattern.evaluations.items c.push.new.self.items c.loop-pattern-test.true c.pattern-item.is c.as_slice.ensures asks c.loop-pattern.invariant.evaluations
          c.in_ok-evaluation.ensures.evaluation c.in_ok-push.ensures.items;
    }

pub returns-clause-evaluations : goal.returns-clause-evaluations
returns-clause-evaluations g c = grind (arith, common_steps)

pub loop-pattern-init : goal.loop-pattern-init
loop-pattern-init g c = record { own = c.requires.may.own; asks = asks_none (g.H.Host.standing c.args.session.now); evaluations = search rules }

pub returns-in_err-evaluation-clause-asks : goal.returns-in_err-evaluation-clause-asks
returns-in_err-evaluation-clause-asks g c =
    asks_on (g.H.Host.standing c.args.session.now) (g.H.Host.standing c.loop-pattern.session) (g.H.Host.standing c.evaluate.new.session) c.loop-pattern.invariant.asks c.in_err-evaluation.ensures.asks

pub returns-in_err-push-clause-asks : goal.returns-in_err-push-clause-asks
returns-in_err-push-clause-asks g c =
    asks_on (g.H.Host.standing c.args.session.now) (g.H.Host.standing c.loop-pattern.session) (g.H.Host.standing c.evaluate.new.session) c.loop-pattern.invariant.asks c.in_ok-evaluation.ensures.asks
