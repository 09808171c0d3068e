use Rattle.std.proofs.Common.{◌≡◌, ◌<◌, ◌++◌, ◌∷◌, ◌^◌, [], append_assoc, ap, ◌∙◌, arith}
use Rattle.blif_models.specs.Models.{numeral}
use Rattle.blif_drafts.proofs.NamesApart.{written_number}
use Rattle.blif_drafts.proofs.whole_names.put_number.Goals as goal

pub returns : goal.returns
returns c =
    let before = c.args.name.now.items in
    let small : c.args.number < 2 ^ 64 = omega (arith, c.ranges.number.fits) in
    let written : c.as_bytes.result.now ≡ numeral c.args.number = c.as_bytes.ensures.value ∙ c.in_ok-to_string.ensures.ok ∙ written_number c.args.number c.requires small in
    c.in_ok-extend_from_slice-2.ensures.items
    ∙ (λ j. (c.in_ok-extend_from_slice.ensures.items ∙ ap (λ t. before ++ t) written) j ++ c.as_slice.ensures j)
    ∙ append_assoc before (numeral c.args.number) (35 ∷ [])
