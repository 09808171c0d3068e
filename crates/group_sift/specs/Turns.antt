-- The blocks of an order, as the code has them.
use Rattle.std.specs.Prelude.{ℕ, ◌<◌, ◌==◌, Bool, List, [], ◌∷◌, map, take, if◌then◌else◌}
use Rattle.std.specs.declared.cmp.Reverse.{Reverse}
use Rattle.function_laws.specs.declared.orders.Mode.{Mode}
use Rattle.function_laws.specs.declared.orders.Mode.TheVariants.{Default}
use Rattle.function_laws.specs.SiftedOrders.{Block}
use Rattle.group_sift.specs.declared.turns.BlockEnd.{BlockEnd}

abbrev pub block_of : BlockEnd → Block
block_of b = record { end = b.end; mode = b.mode }

abbrev pub blocks_of : List BlockEnd → List Block
blocks_of bs = map block_of bs

-- the ends rise, each above the one before and the first above this
abbrev pub Rise : ℕ → List Block → Type 0
Rise least [] = Unit {0}
Rise least (b ∷ bs) = (least < b.end) × Rise b.end bs

abbrev pub last_end : ℕ → List Block → ℕ
last_end end [] = end
last_end end (b ∷ bs) = last_end b.end bs

-- one of the list that a sift goes by: its width and itself
abbrev pub width_entry : (ℕ → ℕ) → ℕ → Reverse ℕ × ℕ
width_entry width v = (record { 0 = width v }, v)

-- the first so many, if they are sifted
abbrev pub some_ones : Bool → ℕ → List ℕ → List ℕ
some_ones sifted many order = if sifted then take many order else []

-- one default block of n levels, none for 0
abbrev pub one_block : ℕ → List Block
one_block n = if n == 0 then [] else record { end = n; mode = Default } ∷ []

-- blocks with these ends and modes, as many as there are of both
abbrev pub paired : List ℕ → List Mode → List Block
paired [] ms = []
paired (e ∷ es) [] = []
paired (e ∷ es) (m ∷ ms) = record { end = e; mode = m } ∷ paired es ms
