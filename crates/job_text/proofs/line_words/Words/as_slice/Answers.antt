use Rattle.std.proofs.Common.{ap, sym, ◌∙◌}
use Rattle.job_text.specs.Histories.{spaced}
use Rattle.job_text.proofs.Blanks.{spaced_parts}
use Rattle.job_text.proofs.line_words.Words.as_slice.Goals as goal

pub returns : goal.returns
returns c = c.as_slice.ensures ∙ sym (spaced_parts c.self.inside.text.items) ∙ ap spaced c.self.view_is
