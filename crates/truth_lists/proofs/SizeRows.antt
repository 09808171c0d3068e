-- The worked rows on sizes and sifts, computed. Those beyond the store F were computed by another program too.
use Rattle.std.specs.Prelude.{◌≡◌, ℕ, ◌==◌, Bool, ◌&&◌, ◌||◌, if◌then◌else◌, ℤ, pos, negsuc, ◌+ℤ◌, List, [], ◌∷◌, ◌++◌, refl}
use Rattle.edge_bits.specs.Assignments.{bit, set_bit}
use Rattle.function_laws.specs.Lists.{any_below, all_below, list_of}
use Rattle.function_laws.specs.declared.orders.Mode.{Mode}
use Rattle.function_laws.specs.declared.orders.Mode.TheVariants.{Default, Fixed}
use Rattle.function_laws.specs.declared.orders.Order.TheVariants.{Variables, Elements}
use Rattle.function_laws.specs.Kinds.{BddFunction, AddFunction, ZddFamily}
use Rattle.function_laws.specs.Sizes.{Orders, size, permanent, distinct, parts, all_parts, topmost}
use Rattle.function_laws.specs.SiftedOrders.{Block, sifted, reach}

store_f : ℕ → Bool
store_f k = (bit k 0 && bit k 2) || (bit k 1 && bit k 3)

-- x0 + 2 x2 - 3 x1 x3
numbers_a : ℕ → ℤ
numbers_a k =
    (if bit k 0 then pos 1 else pos 0) +ℤ ((if bit k 2 then pos 2 else pos 0) +ℤ (if bit k 1 && bit k 3 then negsuc 2 else pos 0))

-- {{0,2},{1,3},{0,1,2,3}}
family_g : ℕ → Bool
family_g a = (a == 5) || ((a == 10) || (a == 15))

abbrev variables : List ℕ → Orders
variables order = record { variables = order; elements = [] }

abbrev start : List ℕ
start = 0 ∷ 1 ∷ 2 ∷ 3 ∷ []

abbrev block : ℕ → Mode → Block
block end mode = record { end = end; mode = mode }

empty_set : size (variables start) [] ≡ 0
unfolding all_parts distinct
empty_set = refl

before : size (variables start) (permanent 4 ++ BddFunction store_f ∷ []) ≡ 13
unfolding store_f parts all_parts distinct topmost any_below all_below list_of set_bit
before = refl

one_block : sifted (variables start) Variables (block 4 Default ∷ []) 1000 (BddFunction store_f ∷ [])
    ≡ record { order = 0 ∷ 2 ∷ 1 ∷ 3 ∷ []; before = 13; after = 12; swaps = 23 }
unfolding store_f parts all_parts distinct topmost any_below all_below list_of set_bit reach
one_block = refl

two_blocks : sifted (variables start) Variables (block 2 Default ∷ block 4 Default ∷ []) 1000 (BddFunction store_f ∷ [])
    ≡ record { order = start; before = 13; after = 13; swaps = 8 }
unfolding store_f parts all_parts distinct topmost any_below all_below list_of set_bit reach
two_blocks = refl

limit_20 : sifted (variables start) Variables (block 4 Default ∷ []) 20 (BddFunction store_f ∷ [])
    ≡ record { order = start; before = 13; after = 13; swaps = 8 }
unfolding store_f parts all_parts distinct topmost any_below all_below list_of set_bit reach
limit_20 = refl

limit_21 : sifted (variables start) Variables (block 4 Default ∷ []) 21 (BddFunction store_f ∷ [])
    ≡ record { order = 0 ∷ 2 ∷ 1 ∷ 3 ∷ []; before = 13; after = 12; swaps = 23 }
unfolding store_f parts all_parts distinct topmost any_below all_below list_of set_bit reach
limit_21 = refl

-- a block may end before the last place: what stands past it stays
short_block : sifted (variables start) Variables (block 2 Default ∷ []) 1000 (BddFunction store_f ∷ [])
    ≡ record { order = start; before = 13; after = 13; swaps = 4 }
unfolding store_f parts all_parts distinct topmost any_below all_below list_of set_bit reach
short_block = refl

both_kinds : sifted (variables (3 ∷ 1 ∷ 0 ∷ 2 ∷ [])) Variables (block 2 Fixed ∷ block 4 Default ∷ []) 1000 (BddFunction store_f ∷ AddFunction numbers_a ∷ [])
    ≡ record { order = 3 ∷ 1 ∷ 0 ∷ 2 ∷ []; before = 25; after = 25; swaps = 4 }
unfolding store_f numbers_a parts all_parts distinct topmost any_below all_below list_of set_bit reach
both_kinds = refl

families : sifted (record { variables = 0 ∷ 1 ∷ []; elements = start }) Elements (block 4 Default ∷ []) 1000 (ZddFamily family_g ∷ [])
    ≡ record { order = 0 ∷ 2 ∷ 1 ∷ 3 ∷ []; before = 13; after = 12; swaps = 23 }
unfolding family_g parts all_parts distinct topmost any_below all_below list_of set_bit reach
families = refl
