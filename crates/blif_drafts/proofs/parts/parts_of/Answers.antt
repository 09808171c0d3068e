use Rattle.std.proofs.Common.{◌++◌, ◌∷◌, [], List, length, ap, sym, ◌∙◌, append_assoc, arith}
use Rattle.std.specs.Vec.Iter.{into_iter_items}
use Rattle.blif_drafts.specs.declared.drafts.Draft.{Draft}
use Rattle.blif_drafts.proofs.parts.parts_of.Goals as goal

pub loop-draft-preserved : goal.loop-draft-preserved
loop-draft-preserved c =
    let front = c.loop-draft.yielded in
    let draft = c.in-Some.draft in
    let rest = into_iter_items c.next.new.self in
    let inv = c.loop-draft.invariant in
    let steps = c.in-Some.ensures.steps in (
      inv.0 ∙ ap (λ (xs : List Draft). front ++ xs) steps.0 ∙ sym (append_assoc front (draft ∷ []) rest),
      (let a = inv.1 in let b = ap length steps.0 in let d = steps.1 in omega (arith, a, b, d)),
      c.in_ok-add.ensures front inv.2,
    )
