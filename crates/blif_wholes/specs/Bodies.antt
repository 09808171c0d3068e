-- The rows of covers, kept beside models by number.
use Rattle.std.specs.Prelude.{◌≡◌, ℕ, true, List, [], Option, Some, None, get_or, map, slice_get}
use Rattle.std.specs.Global.{Vec}
use Rattle.blif_models.specs.Circuits.{Cover}
use Rattle.blif_models.specs.Models.{Model}
use Rattle.blif_models.specs.Numberings.{cover_at}
use Rattle.blif_wholes.specs.declared.bodies.CoverRows.{CoverRows}
use Rattle.blif_wholes.specs.Networks.{is_on, literals_of}

-- the rows are those of the cover
pub record AreRowsOf (cover : Cover) (body : CoverRows) : Type 0 where
  pub rows : body.rows ≡ map literals_of cover.rows
  pub on : body.on ≡ is_on cover.rows

abbrev pub rows_or_none : Option CoverRows → CoverRows
rows_or_none None = record { rows = []; on = true }
rows_or_none (Some body) = body

abbrev pub items_kept : Option (Vec (Option CoverRows)) → List (Option CoverRows)
items_kept None = []
items_kept (Some kept) = kept.items

-- the rows that are kept at a place of a model
abbrev pub rows_at : List (Vec (Option CoverRows)) → ℕ → ℕ → CoverRows
rows_at kept m place = rows_or_none (get_or (items_kept (slice_get kept m)) place None)

-- the rows of the cover at each place of a model are kept at that place
abbrev pub KeepRows : List Model → List (Vec (Option CoverRows)) → Type 0
KeepRows models kept = (m place : ℕ) → AreRowsOf (cover_at models m place) (rows_at kept m place)
