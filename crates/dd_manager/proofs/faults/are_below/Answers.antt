use Rattle.std.proofs.Common.{◌<◌, arith, get_or, sym, take}
use Rattle.std.proofs.lemmas.List.{take_all}
use Rattle.std.proofs.lemmas.List.Elements.{All-more, All-same}
use Rattle.dd_manager.proofs.faults.are_below.Goals as goal

pub loop-var-preserved : goal.loop-var-preserved
loop-var-preserved c =
    let below : get_or c.args.vars.now c.loop-var.var-index 0 < c.args.most = omega (arith, c.if-var-most.false) in
    All-more (λ v. v < c.args.most) c.args.vars.now c.loop-var.var-index 0 c.loop-var-test.true c.loop-var.invariant below

pub returns : goal.returns
returns c = All-same (λ v. v < c.args.most) c.args.vars.now (take c.loop-var.var-index c.args.vars.now) (sym (take_all c.loop-var.var-index c.args.vars.now c.loop-var-test.false)) c.loop-var.invariant
