use Rattle.std.proofs.Common.{◌==◌, ◌∷◌, [], ◌++◌, append_assoc, refl, ap, sym, ◌∙◌}
use Rattle.std.specs.List.{slice_split}
use Rattle.job_words.specs.Text.{split_words}
use Rattle.job_text.proofs.Blanks.{one_part, part_more}
use Rattle.job_text.proofs.line_words.joined.Goals as goal

pub loop-word-init : goal.loop-word-init
loop-word-init c =
    let w = c.args.first.now in (
      [],
      refl,
      ap (slice_split (λ b. b == 32)) (c.in_ok-extend_from_slice.ensures.ok ∙ ap (λ t. t ++ w) c.new-text.ensures.items) ∙ one_part w c.requires,
    )

pub loop-word-preserved : goal.loop-word-preserved
loop-word-preserved c =
    let w = c.in-Some.word.now in
    let text = c.loop-word.text.items in
    let kept = c.loop-word.invariant in (
      kept.0 ++ w ∷ [],
      kept.1 ∙ ap (λ t. kept.0 ++ t) c.in-Some.ensures.words ∙ sym (append_assoc kept.0 (w ∷ []) (split_words c.in-Some.behind.now)),
      ap (slice_split (λ b. b == 32)) (c.in_ok-extend_from_slice-2.ensures.ok ∙ ap (λ t. t ++ w) c.in_ok-push.ensures.ok ∙ append_assoc text (32 ∷ []) w)
          ∙ part_more text w c.in-Some.ensures.whole
          ∙ ap (λ t. t ++ w ∷ []) kept.2,
    )
