use Rattle.std.proofs.Common.{◌∙◌, ap, List, length, map}
use Rattle.net_reports.specs.Evaluations.{evaluation_at, patterns_of}
use Rattle.net_reports.specs.Reports.{report_text, root_names}
use Rattle.net_reports.specs.RootClasses.{root_functions}
use Rattle.net_reports.specs.declared.patterns.Evaluation.{Evaluation}
use Rattle.net_reports.proofs.Evaluated.{evaluated}
use Rattle.net_reports.proofs.Texts.{roots_reported}
use Rattle.net_reports.proofs.reports.dump_report.Goals as goal

pub returns-clause-text : goal.returns-clause-text
returns-clause-text c =
    roots_reported c.args.dump.now.nvars c.len.result (length c.args.dump.now.roots) c.args.nodes c.args.classes.now c.args.evaluations.now c.args.order.now c.in_ok-text.text.items
    c.put_roots.new.text.items c.put_rest.new.text.items c.requires c.len.ensures c.in_ok-text.ensures c.in_ok-put_roots.ensures c.in_ok-put_rest.ensures

pub returns-clause-report : goal.returns-clause-report
returns-clause-report c = λ orders classes values nodes.
    let dump = c.args.dump.now in
    record {
      orders = orders;
      classes = c.args.classes.now;
      are_classes = classes;
      bytes = returns-clause-text c
          ∙ ap (λ (evaluations : List Evaluation). report_text dump.nvars (root_names (length dump.roots)) c.args.classes.now evaluations c.args.order.now c.args.nodes)
          (evaluated dump.nvars (root_functions dump) c.args.evaluations.now values)
          ∙ ap (λ count. report_text dump.nvars (root_names (length dump.roots)) c.args.classes.now (map (evaluation_at dump.nvars (root_functions dump)) (patterns_of c.args.evaluations.now)) c.args.order.now count) nodes;
    }
