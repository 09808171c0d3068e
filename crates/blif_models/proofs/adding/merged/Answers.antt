use Rattle.std.proofs.Common.{◌≡◌, ◌<◌, ◌∙◌, ◌++◌, arith, false, length, sym, true}
use Rattle.std.specs.Prelude.{slice_get}
use Rattle.blif_models.specs.Additions.{goes_first}
use Rattle.blif_models.specs.ModelFaults.{by_line}
use Rattle.blif_models.proofs.Merging.{one_is_left, one_pushed, other_is_left, other_pushed}
use Rattle.blif_models.proofs.adding.merged.Goals as goal
use Rattle.blif_models.proofs.adding.merged.Goals.{then-taken-ones, else-taken-ones+then-passed-others}

pub loop-taken-preserved-then-goes_first : goal.loop-taken-preserved-then-goes_first
loop-taken-preserved-then-goes_first c =
    let ones = c.args.ones.now in
    let others = c.args.others.now in
    let now = c.loop-taken in
    let first : goes_first (slice_get ones now.taken) (slice_get others now.passed) ≡ true = sym c.goes_first.ensures ∙ c.if-goes_first.true in
    record {
      taken = omega (arith, one_is_left ones others now.taken now.passed first);
      passed = now.invariant.passed;
      all = one_pushed (by_line (ones ++ others)) now.all.items ones others now.taken now.passed _ c.requires.ones c.requires.others first now.invariant.all c.push.new.self.items c.in_ok-push.ensures.items;
    }

pub bounds-others-passed : goal.bounds-others-passed
bounds-others-passed c =
    let ones = c.args.ones.now in
    let others = c.args.others.now in
    let now = c.loop-taken in
    let second : goes_first (slice_get ones now.taken) (slice_get others now.passed) ≡ false = sym c.goes_first.ensures ∙ c.if-goes_first.false in
    elim c.if-taken-ones.branch [
      | then-taken-ones w ↦ other_is_left ones others now.taken now.passed second (omega (arith, w.if-taken-ones.true))
      | else-taken-ones+then-passed-others w ↦ omega (arith, w.if-passed-others.true)
    ]

pub loop-taken-smaller : goal.loop-taken-smaller
loop-taken-smaller c =
    let ones = c.args.ones.now in
    let others = c.args.others.now in
    let now = c.loop-taken in
    let second : goes_first (slice_get ones now.taken) (slice_get others now.passed) ≡ false = sym c.goes_first.ensures ∙ c.if-goes_first.false in
    let there : now.passed < length others =
    elim c.if-taken-ones.branch [
      | then-taken-ones w ↦ other_is_left ones others now.taken now.passed second (omega (arith, w.if-taken-ones.true))
      | else-taken-ones+then-passed-others w ↦ omega (arith, w.if-passed-others.true)
    ] in
    omega (arith, there)

pub loop-taken-preserved : goal.loop-taken-preserved
loop-taken-preserved c =
    let ones = c.args.ones.now in
    let others = c.args.others.now in
    let now = c.loop-taken in
    let second : goes_first (slice_get ones now.taken) (slice_get others now.passed) ≡ false = sym c.goes_first.ensures ∙ c.if-goes_first.false in
    let there : now.passed < length others =
    elim c.if-taken-ones.branch [
      | then-taken-ones w ↦ other_is_left ones others now.taken now.passed second (omega (arith, w.if-taken-ones.true))
      | else-taken-ones+then-passed-others w ↦ omega (arith, w.if-passed-others.true)
    ] in
    record {
      taken = now.invariant.taken;
      passed = omega (arith, there);
      all = other_pushed (by_line (ones ++ others)) now.all.items ones others now.taken now.passed _ c.requires.ones c.requires.others there second now.invariant.all c.push-else-goes_first.new.self.items c.in_ok-push-2.ensures.items;
    }
