use Rattle.std.proofs.Common.{◌≡◌, ◌+◌, ◌<◌, ◌≤◌, ◌⊎◌, ℕ, List, Option, Some, arith, inl, inr, subst, sym, ◌∙◌, ap}
use Rattle.std.specs.Prelude.{slice_index}
use Rattle.std.proofs.lemmas.Bool.{cases_order}
use Rattle.function_laws.specs.declared.history.Name.{Name}
use Rattle.net_builds.specs.Building.{IsEndedAt, ended, row_at}
use Rattle.net_builds.specs.declared.uses.TheConstants.{TO_THE_END}
use Rattle.net_builds.proofs.OutputNames.{built_ended}
use Rattle.net_builds.proofs.SignalSteps.{builds_more, builds_none}
use Rattle.net_builds.proofs.rows.let_go_ended.Goals as goal

pub loop-signal-init : goal.loop-signal-init
loop-signal-init g c =
    let net = c.args.net.now in
    let last = c.args.last.now in
    let s = g.H.Host.standing c.args.session.now in
    record {
      own = c.requires.has.own;
      built = builds_none net (ended last) c.args.next s c.args.rows.now (built_ended net last c.args.next s c.args.rows.now c.requires.has.built);
      gone = λ signal name less at. absurd (omega (arith, less));
    }

-- one signal more is as it is to be
gone_more : (last : List ℕ) (signal : ℕ) (old new : List (Option Name)) → ((other : ℕ) (name : Name) → other < signal → row_at old other ≡ Some name → TO_THE_END ≤ slice_index last other) → IsEndedAt last signal old new
    → (other : ℕ) (name : Name) → other < signal + 1 → row_at new other ≡ Some name → TO_THE_END ≤ slice_index last other
gone_more last signal old new gone one other name less at = by (cases_order other signal)
  where
    by : (other ≡ signal) ⊎ ((other < signal) ⊎ (signal < other)) → TO_THE_END ≤ slice_index last other
    by (inl same) = subst (λ k. TO_THE_END ≤ slice_index last k) (sym same) (one.here name (ap (row_at new) (sym same) ∙ at))
    by (inr (inl before)) = gone other name before (one.others other name at)
    by (inr (inr past)) = absurd (omega (arith, less, past))

pub loop-signal-preserved : goal.loop-signal-preserved
loop-signal-preserved g c =
    let net = c.args.net.now in
    let last = c.args.last.now in
    let start = g.H.Host.standing c.args.session.now in
    record {
      own = c.let_go_unless_ended.ensures.own;
      built = builds_more net (ended last) c.args.next c.args.next start (g.H.Host.standing c.loop-signal.session) (g.H.Host.standing c.let_go_unless_ended.new.session) c.loop-signal.rows c.let_go_unless_ended.new.rows
          c.loop-signal.invariant.built c.let_go_unless_ended.ensures.built;
      gone = gone_more last c.loop-signal.signal c.loop-signal.rows c.let_go_unless_ended.new.rows c.loop-signal.invariant.gone c.let_go_unless_ended.ensures.gone;
    }
