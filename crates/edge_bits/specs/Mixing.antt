-- Where a word is looked up among so many places: its bits are mixed by products, and the high ones tell the place.
use Rattle.std.specs.Prelude.{ℕ, ◌+◌, ◌*◌, ◌/◌, ◌%◌, ◌^◌}

-- the product of a word and an odd number, in 64 bits
abbrev pub spread : ℕ → ℕ
spread bits = bits * 11400714819323198485 % 2 ^ 64

-- a product with its high half added to it, times another odd number
abbrev pub mixed : ℕ → ℕ
mixed product = (product + product / 2 ^ 32) % 2 ^ 64 * 14029467366897019727 % 2 ^ 64

-- the high half of the mixed bits as a part of 2^32, of so many places
unfoldable pub scattered : ℕ → ℕ → ℕ
scattered bits places = mixed (spread bits) / 2 ^ 32 * places / 2 ^ 32
