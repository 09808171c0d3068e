-- The network that is generated: the sums and carries of two numbers of so many bits.
use Rattle.std.specs.Prelude.{ℕ, zero, suc, ◌+◌, List, [], ◌++◌, codes}
use Rattle.std.specs.Fmt.{decimal}
use Rattle.std.specs.List.{flat_map, range_with_len}

-- a blank, a letter and a number
abbrev pub name : List ℕ → ℕ → List ℕ
name letter i = codes " " ++ letter ++ decimal i

-- `aj bj` for each j below k, from the greatest down
abbrev pub inputs_below : ℕ → List ℕ
inputs_below zero = []
inputs_below (suc j) = name (codes "a") j ++ name (codes "b") j ++ inputs_below j

-- `si di ni`
abbrev pub outputs_of : ℕ → List ℕ
outputs_of i = name (codes "s") i ++ name (codes "d") i ++ name (codes "n") i

-- `ai bi ci`: the bits of both numbers, and the carry
abbrev pub bits_of : ℕ → List ℕ
bits_of i = name (codes "a") i ++ name (codes "b") i ++ name (codes "c") i

-- the sum of three bits, by its ones
unfoldable pub sum_cover : ℕ → List ℕ
sum_cover i = codes ".names" ++ bits_of i ++ name (codes "s") i ++ codes "\n001 1\n010 1\n100 1\n111 1\n"

-- the same, by its zeros
unfoldable pub zeros_cover : ℕ → List ℕ
zeros_cover i = codes ".names" ++ bits_of i ++ name (codes "d") i ++ codes "\n000 0\n011 0\n101 0\n110 0\n"

-- its complement
unfoldable pub complement_cover : ℕ → List ℕ
complement_cover i = codes ".names" ++ name (codes "s") i ++ name (codes "n") i ++ codes "\n0 1\n"

-- the next carry
unfoldable pub carry_cover : ℕ → List ℕ
carry_cover i = codes ".names" ++ bits_of i ++ name (codes "c") (i + 1) ++ codes "\n11- 1\n1-1 1\n-11 1\n"

abbrev pub bit_covers : ℕ → List ℕ
bit_covers i = sum_cover i ++ zeros_cover i ++ complement_cover i ++ carry_cover i

unfoldable pub gen_text : ℕ → List ℕ
gen_text k =
    codes ".model gen\n.inputs" ++ inputs_below k ++ codes "\n.outputs" ++ flat_map outputs_of (range_with_len 0 k) ++ name (codes "c") k
    ++ codes "\n.names c0\n" ++ flat_map bit_covers (range_with_len 0 k) ++ codes ".end\n"
