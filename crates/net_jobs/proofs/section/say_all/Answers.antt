use Rattle.std.proofs.Common.{sym, subst, Bool, Option, IfSome, arith}
use Rattle.job_text.specs.declared.job.Command.{Command}
use Rattle.net_jobs.specs.Sections.{counts_of}
use Rattle.net_jobs.specs.Saying.{CanCall, SaysOne}
use Rattle.net_jobs.proofs.ListLemmas.{some_at}
use Rattle.net_jobs.proofs.LoopLemmas.{can_at, next_said, says-first, says_all, stop_said}
use Rattle.net_jobs.proofs.section.say_all.Goals as goal

pub loop-i-init : goal.loop-i-init
loop-i-init g c = record { up = says-first c.args.manager.now c.args.session.now c.args.commands.now c.args.script.now c.requires.can c.requires.start.0 c.requires.start.1 }

pub say-requires-clause-can : goal.say-requires-clause-can
say-requires-clause-can g c =
    let now = c.loop-i.session in
    let script = c.loop-i.script in
    let at = some_at c.args.commands.now c.loop-i.i c.loop-i-test.true in
    subst (λ (o : Option Command). IfSome o (λ command. CanCall (counts_of now.manager) now script.names.items command.act)) (sym at.1)
    (can_at c.args.session.now now c.args.commands.now script c.loop-i.i at.0 c.loop-i.invariant.up at.1)

pub returns-then-not-branch-clause-said : goal.returns-then-not-branch-clause-said
returns-then-not-branch-clause-said g c =
    let commands = c.args.commands.now in
    let now = c.loop-i.session in
    let new = c.say.new.session in
    let i = c.loop-i.i in
    let at = some_at commands i c.loop-i-test.true in
    let one = subst (λ (o : Option Command). IfSome o (λ command. SaysOne now new c.loop-i.script c.say.new.script i command c.in_ok-say.field-0)) at.1 c.in_ok-say.ensures.said in
    (stop_said c.args.session.now now new commands c.loop-i.script c.say.new.script i at.0 c.loop-i.invariant.up at.1
    (subst (λ (b : Bool). SaysOne now new c.loop-i.script c.say.new.script i at.0 b) c.if-not-branch.true one) c.loop-i-test.true).0

pub returns-then-not-branch-clause-names : goal.returns-then-not-branch-clause-names
returns-then-not-branch-clause-names g c =
    let commands = c.args.commands.now in
    let now = c.loop-i.session in
    let new = c.say.new.session in
    let i = c.loop-i.i in
    let at = some_at commands i c.loop-i-test.true in
    let one = subst (λ (o : Option Command). IfSome o (λ command. SaysOne now new c.loop-i.script c.say.new.script i command c.in_ok-say.field-0)) at.1 c.in_ok-say.ensures.said in
    (stop_said c.args.session.now now new commands c.loop-i.script c.say.new.script i at.0 c.loop-i.invariant.up at.1
    (subst (λ (b : Bool). SaysOne now new c.loop-i.script c.say.new.script i at.0 b) c.if-not-branch.true one) c.loop-i-test.true).1

pub loop-i-preserved : goal.loop-i-preserved
loop-i-preserved g c =
    let commands = c.args.commands.now in
    let now = c.loop-i.session in
    let new = c.say.new.session in
    let i = c.loop-i.i in
    let at = some_at commands i c.loop-i-test.true in
    let one = subst (λ (o : Option Command). IfSome o (λ command. SaysOne now new c.loop-i.script c.say.new.script i command c.in_ok-say.field-0)) at.1 c.in_ok-say.ensures.said in
    record {
      up = next_said c.args.session.now now new commands c.loop-i.script c.say.new.script i at.0 c.loop-i.invariant.up at.1
          (subst (λ (b : Bool). SaysOne now new c.loop-i.script c.say.new.script i at.0 b) c.if-not-branch.false one);
    }

pub returns-clause-said : goal.returns-clause-said
returns-clause-said g c =
    (says_all c.args.session.now c.loop-i.session c.args.commands.now c.loop-i.script c.loop-i.i c.loop-i.invariant.up (omega (arith, c.loop-i.auto.i-end, c.loop-i-test.false))).0
