use Rattle.std.proofs.Common.{◌≡◌, ◌∙◌, ap, arith, List, length, map}
use Rattle.std.proofs.lemmas.Grind.{common_steps}
use Rattle.net_reports.specs.Evaluations.{evaluation_at, patterns_of}
use Rattle.net_reports.specs.Reports.{output_functions, output_names, report_text}
use Rattle.net_reports.specs.declared.patterns.Evaluation.{Evaluation}
use Rattle.net_reports.proofs.Evaluated.{evaluated}
use Rattle.net_reports.proofs.reports.report.Goals as goal

pub returns-clause-report : goal.returns-clause-report
unfolding report_text
returns-clause-report c = λ orders classes values nodes.
    let net = c.args.net.now in
    let text : c.put_rest.new.text.items ≡ report_text (length net.inputs) (output_names net) c.args.classes.now c.args.evaluations.now c.args.order.now c.args.nodes =
    grind (arith, common_steps) in
    record {
      orders = orders;
      classes = c.args.classes.now;
      are_classes = classes;
      bytes = text
          ∙ ap (λ (evaluations : List Evaluation). report_text (length net.inputs) (output_names net) c.args.classes.now evaluations c.args.order.now c.args.nodes)
          (evaluated (length net.inputs) (output_functions net) c.args.evaluations.now values)
          ∙ ap (λ count. report_text (length net.inputs) (output_names net) c.args.classes.now (map (evaluation_at (length net.inputs) (output_functions net)) (patterns_of c.args.evaluations.now)) c.args.order.now count) nodes;
    }
