use Rattle.std.proofs.Common.{map}
use Rattle.std.proofs.lemmas.Result.{err_from_is_err_and}
use Rattle.blif_drafts.specs.Latches.{latch_with}
use Rattle.blif_net.proofs.Taking.{latch_stopped, latch_taken}
use Rattle.blif_net.proofs.reading.Reading.latch_line.Goals as goal

pub returns-in_err-add_latch-clause-stop : goal.returns-in_err-add_latch-clause-stop
returns-in_err-add_latch-clause-stop c =
    let p = err_from_is_err_and c.from_residual-in_err-add_latch.result c.from_residual-in_err-add_latch.ensures.1 in
    rw (p.1, p.2)
    (latch_stopped c.args.self.now c.close.new.self c.args.line (map (λ word. word.now) c.args.words.now) (latch_with c.args.line c.in-Some.input.now c.in-Some.output.now) c.in_err-add_latch.field-0.0 c.in_ok-close.ensures (c.in-Some.ensures c.args.line) c.in_err-add_latch.ensures.stop)

pub returns-clause-ok : goal.returns-clause-ok
returns-clause-ok c =
    latch_taken c.args.self.now c.close.new.self c.add_latch.new.self c.push.new.self c.args.line (map (λ word. word.now) c.args.words.now) (latch_with c.args.line c.in-Some.input.now c.in-Some.output.now) c.in_ok-close.ensures (c.in-Some.ensures c.args.line)
    c.in_ok-add_latch.ensures.ok c.in_ok-add_latch.ensures.names c.in_ok-push.ensures.items
