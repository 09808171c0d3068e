use Rattle.std.proofs.Common.{subst, sym}
use Rattle.held_slots.specs.Arcs.{IsNamedIn, IsOf}
use Rattle.hold_store.proofs.held_words.HeldWords.is_named.Goals as goal
use Rattle.hold_store.proofs.held_words.HeldWords.is_named.Goals.{then-not-is_known, else-not-is_known}

pub returns-clause-no : goal.returns-clause-no
returns-clause-no c = λ told named.
    let words = c.self.inside.words in
    let here = subst (λ ws. IsNamedIn ws c.args.slot) (sym c.self.view_is) named in
    elim c.if-not-is_known.branch [
      | then-not-is_known w ↦ c.is_named.ensures.no told words (subst (λ t. IsOf t.arcs words) (sym w.self-inside-is) (w.count.ensures.of words w.words.ensures.words)) here
      | else-not-is_known w ↦ c.is_named.ensures.no told words (subst (λ t. IsOf t.arcs words) (sym w.self-inside-is) c.self.invariant.arcs_are) here
    ]
