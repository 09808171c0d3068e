use Rattle.std.proofs.Common.{sym, ◌∙◌}
use Rattle.blif_net.proofs.Keeping.{closed_some}
use Rattle.blif_net.proofs.reading.Reading.close.Goals as goal

pub returns-in_ok-push : goal.returns-in_ok-push
returns-in_ok-push c =
    closed_some c.args.self.now c.in-Some.field-0 c.in_ok-rows.rows c.push.new.self c.take.new.self (sym c.take.ensures.value ∙ c.in-Some.is) c.in_ok-rows.ensures c.in_ok-push.ensures.items c.take.ensures.after
