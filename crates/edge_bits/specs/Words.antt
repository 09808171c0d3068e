-- The 32 bits of an edge, and the 64 bits of a node word.
use Rattle.std.specs.Prelude.{ℕ, ◌+◌, ◌-◌, ◌*◌, ◌/◌, ◌%◌, ◌^◌, ◌<◌, ◌==◌, nat_lt, Bool, true, false, if◌then◌else◌, ℤ, pos, negsuc, ◌≤ℤ◌, ◌<ℤ◌, Option, Some, None}
use Rattle.edge_bits.specs.declared.edges.Edge.{Edge}
use Rattle.edge_bits.specs.declared.words.Node.{Node}
use Rattle.edge_bits.specs.declared.words.Word.{Word}
use Rattle.edge_bits.specs.declared.words.Word.TheVariants.{Inner, Leaf}
use Rattle.edge_bits.specs.Permanent.{least_value, value_end}

-- a truth value as a bit
abbrev pub digit : Bool → ℕ
digit true = 1
digit false = 0

-- the edge of a word, and the word of an edge: twice the slot, and 1 more where the arc complements
abbrev pub edge_of_word : ℕ → Edge
edge_of_word word = record { index = word / 2; complement = word % 2 == 1 }

abbrev pub word_of_edge : Edge → ℕ
word_of_edge edge = edge.index * 2 + digit edge.complement

-- a whole number in two's complement of 47 bits, and back
abbrev pub low_bits : ℤ → ℕ
low_bits (pos n) = n
low_bits (negsuc n) = 2 ^ 47 - 1 - n

abbrev pub signed : ℕ → ℤ
signed low = if nat_lt low (2 ^ 46) then pos low else negsuc (2 ^ 47 - 1 - low)

-- from -2 ^ 46 to 2 ^ 46 - 1
abbrev pub IsLeafValue : ℤ → Type 0
IsLeafValue z = (least_value ≤ℤ z) × (z <ℤ value_end)

-- each field fits its bits
abbrev pub IsInRange : Word → Type 0
IsInRange (Inner node) = (node.var < 2 ^ 15) × (node.hi < 2 ^ 23) × (node.lo.index < 2 ^ 23)
IsInRange (Leaf value) = IsLeafValue value

-- bit 63: in use; 62..47: the variable, 65535 for a leaf; 46..24: the then index; 23: the else complement; 22..0: the else index; of a leaf 46..0: its value
abbrev pub pack_of : Word → ℕ
pack_of (Inner node) = 2 ^ 63 + node.var * 2 ^ 47 + node.hi * 2 ^ 24 + digit node.lo.complement * 2 ^ 23 + node.lo.index
pack_of (Leaf value) = 2 ^ 63 + 65535 * 2 ^ 47 + low_bits value

abbrev pub variable_field : ℕ → ℕ
variable_field bits = bits / 2 ^ 47 % 2 ^ 16

abbrev pub inner_of : ℕ → Node
inner_of bits = record {
  var = variable_field bits;
  hi = bits / 2 ^ 24 % 2 ^ 23;
  lo = record { index = bits % 2 ^ 23; complement = bits / 2 ^ 23 % 2 == 1 };
}

-- no word where bit 63 is clear or the variable field is 32,768 to 65,534
abbrev pub unpack_of : ℕ → Option Word
unpack_of bits =
    if nat_lt bits (2 ^ 63) then None else
    if variable_field bits == 65535 then Some (Leaf (signed (bits % 2 ^ 47))) else
    if nat_lt (variable_field bits) 32768 then Some (Inner (inner_of bits)) else None
