-- Some readings, computed.
use Rattle.std.specs.Prelude.{◌≡◌, ℕ, Bool, true, false, Some, None, List, [], ◌∷◌, pos, negsuc, refl, map}
use Rattle.edge_bits.specs.declared.edges.Edge.{Edge}
use Rattle.edge_bits.specs.declared.words.Word.{Word}
use Rattle.edge_bits.specs.declared.words.Word.TheVariants.{Inner, Leaf}
use Rattle.edge_bits.specs.Words.{pack_of}
use Rattle.edge_bits.specs.Assignments.{set_bit}
use Rattle.edge_bits.specs.Reading.{slots_of, read_bdd, read_add, read_zdd}

-- a node, and an edge
abbrev node : ℕ → ℕ → ℕ → Bool → Word
node var hi lo complement = Inner (record { var = var; hi = hi; lo = record { index = lo; complement = complement } })

abbrev edge : ℕ → Bool → Edge
edge index complement = record { index = index; complement = complement }

-- one, Empty, Base, 0, 1, the projections of variables 0 and 1, their exclusive or, and the family {{1}, {0, 1}}
abbrev words : List ℕ
words = map pack_of (Leaf (pos 1) ∷ Leaf (pos 0) ∷ Leaf (pos 1) ∷ Leaf (pos 0) ∷ Leaf (pos 1) ∷ node 0 0 0 true ∷ node 1 0 0 true ∷ node 0 6 6 true
    ∷ node 16385 2 1 false ∷ node 16384 8 8 false ∷ node 0 4 3 false ∷ Leaf (negsuc 4) ∷ node 1 11 10 false ∷ [])

-- the exclusive or of variables 0 and 1 is the complement of slot 7
xor_rows : map (read_bdd 3 (slots_of words) (edge 7 true)) (0 ∷ 1 ∷ 2 ∷ 3 ∷ []) ≡ Some false ∷ Some true ∷ Some true ∷ Some false ∷ []
unfolding read_bdd
xor_rows = refl

-- the family {{1}, {0, 1}}
family_rows : map (read_zdd 3 (slots_of words) (edge 9 false)) (0 ∷ 1 ∷ 2 ∷ 3 ∷ 4 ∷ []) ≡ Some false ∷ Some false ∷ Some true ∷ Some true ∷ Some false ∷ []
unfolding read_zdd set_bit
family_rows = refl

-- -5 where variable 1 is 1, else variable 0 as a number
add_rows : map (read_add 3 (slots_of words) (edge 12 false)) (0 ∷ 1 ∷ 2 ∷ 3 ∷ []) ≡ Some (pos 0) ∷ Some (pos 1) ∷ Some (negsuc 4) ∷ Some (negsuc 4) ∷ []
unfolding read_add
add_rows = refl

-- a free slot has no value, nor does a word whose bit 63 is clear
free_rows : read_bdd 3 (slots_of words) (edge 13 false) 0 ≡ None
unfolding read_bdd
free_rows = refl
