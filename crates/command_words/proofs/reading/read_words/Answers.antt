use Rattle.std.proofs.Common.{sym, subst, map, string_bytes, Option, IfSome}
use Rattle.std.proofs.lemmas.Result.{IfOk-weaker}
use Rattle.command_words.specs.declared.order.Order.{Order}
use Rattle.command_words.specs.Orders.{IsInRange}
use Rattle.command_words.proofs.Ranges.{table_order-range}
use Rattle.command_words.proofs.reading.read_words.Goals as goal

pub returns-clause-in_range : goal.returns-clause-in_range
returns-clause-in_range c =
    IfOk-weaker c.read_table.result _ _
    (λ order is. subst (λ (o : Option Order). IfSome o IsInRange) (sym is) (table_order-range (map string_bytes c.args.words.now))) c.read_table.ensures
