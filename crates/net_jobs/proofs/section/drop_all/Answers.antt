use Rattle.std.proofs.Common.{◌<◌, ap, arith, length, subst, sym, Option, IfSome}
use Rattle.net_jobs.specs.declared.registers.Assigned.{Assigned}
use Rattle.net_jobs.specs.Saying.{AreWithin, DropsOne}
use Rattle.net_jobs.proofs.DropLemmas.{next_drop}
use Rattle.net_jobs.proofs.ListLemmas.{some_at}
use Rattle.net_jobs.proofs.section.drop_all.Goals as goal

pub loop-a-preserved : goal.loop-a-preserved
loop-a-preserved g c =
    let commands = c.args.commands.now in
    let now = c.loop-a.session in
    let script = c.loop-a.script in
    let new = c.drop_at.new.session in
    let up = c.loop-a.invariant.up in
    let below : c.loop-a.a < length script.names.items = omega (arith, c.args.script.now.names.ok.0, ap length up.names, c.len-a-end.ensures, c.loop-a-test.true) in
    let at = some_at script.names.items c.loop-a.a below in
    record {
      up = next_drop c.args.session.now now new commands c.args.script.now script c.drop_at.new.script c.loop-a.a at.0 up at.1
          (subst (λ (o : Option Assigned). IfSome o (λ x. DropsOne commands now new script c.drop_at.new.script c.loop-a.a x)) at.1 c.in_ok-drop_at.ensures.dropped)
          c.in_ok-drop_at.ensures.rows c.in_ok-drop_at.ensures.entries c.in_ok-drop_at.ensures.kept;
    }

pub drop_at-requires-clause-assigned : goal.drop_at-requires-clause-assigned
drop_at-requires-clause-assigned g c = subst (AreWithin c.args.commands.now) (sym c.loop-a.invariant.up.names) c.requires.assigned
