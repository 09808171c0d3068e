use Rattle.std.proofs.Common.{ap, refl}
use Rattle.job_text.specs.declared.draft.Draft.TheVariants.{Begun}
use Rattle.job_text.specs.Drafts.{adds_command}
use Rattle.job_text.proofs.reader.begun_line.Goals as goal

pub returns-clause-ok : goal.returns-clause-ok
returns-clause-ok c =
    let own = c.in_ok-add_command.ensures.ok in
    adds_command (c.args.limit, c.args.done, c.args.section, own.0, refl, own.1, ap (Begun c.args.limit c.args.done) own.2)
