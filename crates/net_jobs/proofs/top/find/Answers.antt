use Rattle.std.proofs.Common.{Option, Some, ap, subst, sym, ◌∙◌}
use Rattle.command_words.specs.declared.order.Order.{Order}
use Rattle.net_jobs.specs.Ends.{IsDone}
use Rattle.net_jobs.proofs.WordLemmas.{if_ok_as}
use Rattle.net_jobs.proofs.top.find.Goals as goal

pub returns-in-Ok-Some-Build-clause-text : goal.returns-in-Ok-Some-Build-clause-text
returns-in-Ok-Some-Build-clause-text g c =
    let b = c.in-Ok-Some-Build in
    if_ok_as c.build_source.result c.build_source.ensures.text (λ text all.
    subst (λ (o : Option Order). IsDone o (g.S.Source.left c.args.source.now) (g.S.Source.left c.build_source.new.source) text.items)
    (ap Some (sym b.field-0-0-is) ∙ sym b.field-0-is ∙ b.ensures.order) all)

pub returns-in-Ok-Some-Gen-clause-text : goal.returns-in-Ok-Some-Gen-clause-text
returns-in-Ok-Some-Gen-clause-text g c =
    let b = c.in-Ok-Some-Gen in
    if_ok_as c.made_summary.result c.made_summary.ensures.text (λ text all.
    subst (λ (o : Option Order). IsDone o (g.S.Source.left c.args.source.now) (g.S.Source.left c.args.source.now) text.items)
    (ap Some (sym b.field-0-0-is) ∙ sym b.field-0-is ∙ b.ensures.order) (all 0 0 (g.S.Source.left c.args.source.now)))

pub returns-in-Ok-Some-Load-clause-text : goal.returns-in-Ok-Some-Load-clause-text
returns-in-Ok-Some-Load-clause-text g c =
    let b = c.in-Ok-Some-Load in
    if_ok_as c.load_source.result c.load_source.ensures.text (λ text all.
    subst (λ (o : Option Order). IsDone o (g.S.Source.left c.args.source.now) (g.S.Source.left c.load_source.new.source) text.items)
    (ap Some (sym b.field-0-0-is) ∙ sym b.field-0-is ∙ b.ensures.order) all)
