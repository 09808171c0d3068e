use Rattle.std.proofs.Common.{ap, sym, ◌∙◌, ◌==◌}
use Rattle.std.specs.List.{before_first}
use Rattle.job_text.specs.Grammar.{target_of}
use Rattle.job_text.proofs.Blanks.{first_part}
use Rattle.job_text.proofs.line_words.Words.first.Goals as goal

pub returns : goal.returns
returns c =
    c.before_byte.ensures ∙ ap (before_first (λ b. b == 32)) c.as_slice.ensures ∙ sym (first_part c.self.inside.text.items) ∙ ap target_of c.self.view_is
