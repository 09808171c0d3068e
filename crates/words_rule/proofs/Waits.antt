-- Shares that were waited for.
use Rattle.std.proofs.Common.{subst, ◌∙◌}
use Rattle.function_laws.specs.SessionEntries.{Each}
use Rattle.words_rule.specs.declared.view.Draws.{Draws}
use Rattle.words_rule.specs.declared.view.Row.{Row}
use Rattle.words_rule.specs.Shapes.{shape_in}
use Rattle.words_rule.specs.Kept.{IsHeldBy}
use Rattle.words_rule.specs.Known.{noted_content}
use Rattle.words_rule.specs.Loads.{sees_of}
use Rattle.words_rule.specs.Passes.{view}
use Rattle.words_rule.specs.declared.seat.Pass.{Pass}
use Rattle.words_rule.specs.Tokens.{Begins, Enters, Keeps, SetsBegun, SetsOut}

module _ {S : Type 0} where
  pub keeps_trans : (p q r : Pass S) → Keeps p q → Keeps q r → Keeps p r
  keeps_trans p q r a b = (record { draws = b.0.draws ∙ a.0.draws; counts = b.0.counts ∙ a.0.counts; hand = b.0.hand ∙ a.0.hand; work = b.0.work ∙ a.0.work; stored = b.0.stored ∙ a.0.stored }, b.1 ∙ a.1)

  pub begins : (p q r : Pass S) → Keeps p q → Enters q r → Begins p r
  begins p q r a b = let e = b.0.1 in ((record { draws = e.draws ∙ a.0.draws; counts = e.counts ∙ a.0.counts; hand = e.hand ∙ a.0.hand; work = e.work ∙ a.0.work; stored = e.stored ∙ a.0.stored }, b.1 ∙ a.1), (e.stands, subst (λ (d : Draws). Each (λ (row : Row). IsHeldBy (shape_in d) (noted_content (view r)).function row.held) d.rows) a.0.draws e.rows))

  pub sets_begun : (p q r : Pass S) → Keeps p q → SetsOut q r → SetsBegun p r
  sets_begun p q r a b = let e = b.0.1 in (
    (record { draws = e.draws ∙ a.0.draws; counts = e.counts ∙ a.0.counts; hand = e.hand ∙ a.0.hand; work = e.work ∙ a.0.work; stored = e.stored ∙ a.0.stored }, b.1 ∙ a.1),
    e.stands,
    e.inside,
    subst (λ (d : Draws). Each (λ (row : Row). IsHeldBy (shape_in d) (sees_of (view r)).content row.held) d.rows) a.0.draws e.rows,
  )
