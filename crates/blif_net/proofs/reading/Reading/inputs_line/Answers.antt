use Rattle.std.proofs.Common.{map}
use Rattle.std.proofs.lemmas.Result.{err_from_is_err_and}
use Rattle.blif_net.proofs.Taking.{inputs_stopped, inputs_taken}
use Rattle.blif_net.proofs.reading.Reading.inputs_line.Goals as goal

pub returns-in_err-add_inputs-clause-stop : goal.returns-in_err-add_inputs-clause-stop
returns-in_err-add_inputs-clause-stop c =
    let p = err_from_is_err_and c.from_residual-in_err-add_inputs.result c.from_residual-in_err-add_inputs.ensures.1 in
    rw (p.1, p.2) (inputs_stopped c.args.self.now c.close.new.self c.args.line (map (λ word. word.now) c.args.words.now) c.in_err-add_inputs.field-0.0 c.in_ok-close.ensures c.in_err-add_inputs.ensures.stop)

pub returns-clause-ok : goal.returns-clause-ok
returns-clause-ok c =
    inputs_taken c.args.self.now c.close.new.self c.add_inputs.new.self c.args.line (map (λ word. word.now) c.args.words.now) c.in_ok-close.ensures c.in_ok-add_inputs.ensures.ok c.in_ok-add_inputs.ensures.names
