-- The permanent slots, and where the ranges of numbers begin and end.
use Rattle.std.specs.Prelude.{ℕ, ◌^◌, ◌-◌, Bool, false, not, ℤ, pos, negsuc}
use Rattle.edge_bits.specs.declared.edges.Edge.{Edge}

-- the BDD that is true everywhere, the families without members and with the one member that has no element, the ADDs 0 and 1
abbrev pub true_slot : ℕ
true_slot = 0

abbrev pub empty_slot : ℕ
empty_slot = 1

abbrev pub base_slot : ℕ
base_slot = 2

abbrev pub zero_slot : ℕ
zero_slot = 3

abbrev pub one_slot : ℕ
one_slot = 4

-- the projection of variable 0; those of the variables of an opening stand one after another
abbrev pub first_projection : ℕ
first_projection = 5

-- a node's number of element 0; numbers below are variables
abbrev pub first_element : ℕ
first_element = 16384

-- the least value of a leaf, and the first number beyond them
abbrev pub least_value : ℤ
least_value = negsuc (2 ^ 46 - 1)

abbrev pub value_end : ℤ
value_end = pos (2 ^ 46)

abbrev pub truth_edge : Bool → Edge
truth_edge b = record { index = true_slot; complement = not b }

abbrev pub empty_edge : Edge
empty_edge = record { index = empty_slot; complement = false }

abbrev pub base_edge : Edge
base_edge = record { index = base_slot; complement = false }

abbrev pub zero_edge : Edge
zero_edge = record { index = zero_slot; complement = false }

abbrev pub one_edge : Edge
one_edge = record { index = one_slot; complement = false }
