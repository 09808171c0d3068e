use Rattle.std.proofs.Common.{Option, ap, false, map, subst, sym, ◌∙◌}
use Rattle.std.specs.Global.{Vec}
use Rattle.blif_text.specs.Statements.{model}
use Rattle.blif_wholes.specs.declared.bodies.CoverRows.{CoverRows}
use Rattle.blif_net.specs.declared.reading.Reading.{Reading}
use Rattle.blif_net.specs.Reading.{TakesStatement}
use Rattle.blif_net.proofs.Taking.{further_taken, main_taken}
use Rattle.blif_net.proofs.reading.Reading.model_line.Goals as goal
use Rattle.blif_net.proofs.reading.Reading.model_line.Goals.{then-is_further+in_ok-begin_further+in_ok-push, else-is_further+in_ok-begin_main}

pub returns : goal.returns
returns c =
    let old = c.args.self.now in
    let mid = c.close.new.self in
    let words = map (λ word. word.now) c.args.words.now in
    let Takes : Reading → Type 0 = λ new. TakesStatement old c.args.line (model words) (record new { ended = false }) in
    elim c.if-is_further.branch [
      | then-is_further+in_ok-begin_further+in_ok-push w ↦
          subst Takes (sym w.self-is)
          (further_taken old mid w.begin_further.new.self w.push.new.self w.replace-rows.result w.replace-rows.new.dest c.args.line words w.if-is_further.true c.in_ok-close.ensures w.in_ok-begin_further.ensures.ok
          w.in_ok-begin_further.ensures.names w.in_ok-push.ensures.items w.replace-rows.ensures.value (ap (λ (rows : Vec (Option CoverRows)). rows.items) w.replace-rows.ensures.after ∙ w.new.ensures.items))
      | else-is_further+in_ok-begin_main w ↦
          subst Takes (sym w.self-is)
          (main_taken old mid w.begin_main.new.self w.clear.new.self w.clear-else-is_further.new.self c.args.line words w.if-is_further.false c.in_ok-close.ensures w.in_ok-begin_main.ensures.ok
          w.in_ok-begin_main.ensures.names w.clear.ensures.items w.clear-else-is_further.ensures.items)
    ]
