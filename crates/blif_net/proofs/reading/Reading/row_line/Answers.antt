use Rattle.std.proofs.Common.{map}
use Rattle.std.proofs.lemmas.Result.{on_ok_weaker}
use Rattle.blif_net.proofs.Taking.{row_taken}
use Rattle.blif_net.proofs.reading.Reading.row_line.Goals as goal

pub returns-in-Some-clause-ok : goal.returns-in-Some-clause-ok
returns-in-Some-clause-ok c =
    on_ok_weaker c.add_row.result (λ t line. row_taken c.args.self.now c.in-Some.cover c.add_row.new.self line (map (λ word. word.now) c.args.words.now) c.in-Some.is t) c.add_row.ensures.ok
