use Rattle.std.proofs.Common.{ap, sym, ◌∙◌, ◌==◌, ◌∷◌, ◌++◌, [], codes}
use Rattle.std.specs.List.{before_first, slice_split}
use Rattle.job_text.specs.Grammar.{target_of}
use Rattle.job_text.proofs.Blanks.{drop_parts, first_part}
use Rattle.job_text.proofs.line_words.Words.dropping.Goals as goal

pub returns : goal.returns
returns c =
    let text = c.self.inside.text.items in
    let front = before_first (λ b. b == 32) text in
    let first = c.before_byte.ensures ∙ ap (before_first (λ b. b == 32)) c.as_slice.ensures in
    let drops = c.in_ok-extend_from_slice.ensures.ok ∙ ap (λ t. t ++ codes "drop ") c.new-text.ensures.items in
    ap (slice_split (λ b. b == 32)) (c.in_ok-extend_from_slice-2.ensures.ok ∙ ap (λ t. t ++ c.before_byte.result.now) drops ∙ ap (λ t. codes "drop " ++ t) first)
    ∙ drop_parts text ∙ ap (λ t. codes "drop" ∷ t ∷ []) (sym (first_part text) ∙ ap target_of c.self.view_is)
