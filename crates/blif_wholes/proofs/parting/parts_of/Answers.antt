use Rattle.std.proofs.Common.{◌++◌, ◌∷◌, [], List, length, ap, sym, ◌∙◌, append_assoc, append-nil, arith}
use Rattle.std.specs.Vec.Iter.{into_iter_items}
use Rattle.blif_models.specs.declared.numbered.Laid.{Laid}
use Rattle.blif_wholes.specs.Parting.{covers_laid, latches_laid}
use Rattle.blif_wholes.proofs.PartSteps.{covers_both, latches_both}
use Rattle.blif_wholes.proofs.parting.parts_of.Goals as goal

pub loop-one-preserved-in-Continue-1 : goal.loop-one-preserved-in-Continue-1
loop-one-preserved-in-Continue-1 c =
    let front = c.loop-one.yielded in
    let one = c.in-Some.one in
    let rest = into_iter_items c.next.new.self in
    let inv = c.loop-one.invariant in
    let steps = c.in-Some.ensures.steps in
    record {
      all = inv.all ∙ ap (λ (xs : List Laid). front ++ xs) steps.0 ∙ sym (append_assoc front (one ∷ []) rest);
      many = let b = ap length steps.0 in let d = steps.1 in omega (arith, inv.many, b, d);
      covers = c.in_ok-push-in-Cover.ensures.items
          ∙ (λ j. inv.covers j ++ covers_laid (sym c.in-Cover.is j ∷ []))
          ∙ sym (covers_both front (one ∷ []));
      latches = inv.latches ∙ sym (append-nil (latches_laid front)) ∙ ap (λ (o : Laid). latches_laid front ++ latches_laid (o ∷ [])) (sym c.in-Cover.is) ∙ sym (latches_both front (one ∷ []));
    }

pub loop-one-preserved : goal.loop-one-preserved
loop-one-preserved c =
    let front = c.loop-one.yielded in
    let one = c.in-Some.one in
    let rest = into_iter_items c.next.new.self in
    let inv = c.loop-one.invariant in
    let steps = c.in-Some.ensures.steps in
    record {
      all = inv.all ∙ ap (λ (xs : List Laid). front ++ xs) steps.0 ∙ sym (append_assoc front (one ∷ []) rest);
      many = let b = ap length steps.0 in let d = steps.1 in omega (arith, inv.many, b, d);
      covers = inv.covers ∙ sym (append-nil (covers_laid front)) ∙ ap (λ (o : Laid). covers_laid front ++ covers_laid (o ∷ [])) (sym c.in-Latch.is) ∙ sym (covers_both front (one ∷ []));
      latches = c.in_ok-push-in-Latch.ensures.items
          ∙ (λ j. inv.latches j ++ latches_laid (sym c.in-Latch.is j ∷ []))
          ∙ sym (latches_both front (one ∷ []));
    }
