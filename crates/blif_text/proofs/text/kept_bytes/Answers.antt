use Rattle.std.proofs.Common.{rules, ◌≡◌, ◌++◌, ◌∙◌, ap, append-nil, sym}
use Rattle.blif_text.specs.Text.{kept_from, kept_piece, lines_of}
use Rattle.blif_text.proofs.Keeping.{kept_nothing, kept_step}
use Rattle.blif_text.proofs.Split.{is_nothing, no_lines}
use Rattle.blif_text.proofs.text.kept_bytes.Goals as goal

pub loop-rest-preserved : goal.loop-rest-preserved
loop-rest-preserved c =
    let line = c.cut_physical.result.0.now in
    let lines = lines_of c.cut_physical.result.1.now in
    let more : c.extend_from_slice.new.self.items ≡ c.loop-rest.kept.items ++ kept_piece c.loop-rest.onward line = search rules in
    kept_step _ c.loop-rest.kept.items c.extend_from_slice.new.self.items c.loop-rest.onward line lines
    (c.loop-rest.invariant ∙ ap (λ t. c.loop-rest.kept.items ++ kept_from c.loop-rest.onward t) c.cut_physical.ensures.lines) more
    ∙ ap (λ b. c.extend_from_slice.new.self.items ++ kept_from b lines) (sym c.goes_on-onward.ensures.value)

pub returns : goal.returns
returns c =
    let empty = is_nothing c.loop-rest.rest.now (sym c.is_empty.ensures ∙ c.loop-rest-test.false) in
    sym (c.loop-rest.invariant ∙ ap (λ t. c.loop-rest.kept.items ++ t) (kept_nothing c.loop-rest.onward (lines_of c.loop-rest.rest.now) (no_lines c.loop-rest.rest.now empty)) ∙ append-nil c.loop-rest.kept.items)
