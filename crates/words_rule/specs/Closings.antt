-- What contracts say of the closing seat.
use Rattle.std.specs.Prelude.{◌≡◌}
use Rattle.words_rule.specs.declared.closing.Closing.{Closing}
use Rattle.words_rule.specs.declared.seat.Guard.{Guard}
use Rattle.words_rule.specs.declared.view.Draws.{Draws}

module _ {S : Type 0} where
  -- what it knows of the journal, which is all that it knows
  abbrev pub known : Closing S → Draws
  known c = c.seat.me.0.draws

  abbrev pub IsClosingOf : Guard S → Closing S → Type 0
  IsClosingOf g c = c.seat.table_id ≡ g.table.shared.table_id
