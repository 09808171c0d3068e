-- A store in a place of its own.
use Rattle.std.specs.Prelude.{List, [], ◌∷◌, false, None}
use Rattle.node_slots.specs.Stores.{Plain}

-- the store that stands first: there is always one
abbrev pub first_of : List Plain → Plain
first_of [] = record { variable_levels = []; element_levels = []; variables_at = []; elements_at = []; words = []; counts = []; marks = []; pins = []; sweeping = false; fulls = 0; due = None; memo = []; scratch_room = 0 }
first_of (store ∷ others) = store
