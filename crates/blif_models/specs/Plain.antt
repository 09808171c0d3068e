-- Models without instances.
use Rattle.std.specs.Prelude.{◌≡◌, List, [], ◌∷◌}
use Rattle.blif_models.specs.Models.{Model, Item, covered, latched, held, whole_items}

-- no item is an instance
abbrev pub HoldsNone : List Item → Type 0
HoldsNone [] = Unit {0}
HoldsNone (covered cover ∷ items) = HoldsNone items
HoldsNone (latched latch ∷ items) = HoldsNone items
HoldsNone (held instance ∷ items) = ⊥

-- such a model's whole is what stands in it, whatever models stand beside it
abbrev pub PlainIsWhole : Type 0
PlainIsWhole = (models : List Model) (main : Model) → HoldsNone main.items → whole_items models main ≡ main.items
