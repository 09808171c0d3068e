-- What the slots of a store denote.
use Rattle.std.specs.Prelude.{ℕ, zero, suc, true, Option, Some, None}
use Rattle.edge_bits.specs.declared.words.Word.{Word}
use Rattle.edge_bits.specs.declared.words.Word.TheVariants.{Inner, Leaf}
use Rattle.edge_bits.specs.Reading.{element_of}
use Rattle.function_laws.specs.Values.{choice, constant}
use Rattle.function_laws.specs.Families.{empty, base, joined}
use Rattle.function_laws.specs.Kinds.{Denoted, BddFunction, AddFunction, ZddFamily, flipped}

-- what a node stands for, from what its children stand for, which are of one kind
abbrev pub node_of : ℕ → Option Denoted → Option Denoted → Option Denoted
node_of v (Some (BddFunction f)) (Some (BddFunction g)) = Some (BddFunction (choice v f g))
node_of v (Some (BddFunction f)) (Some (AddFunction g)) = None
node_of v (Some (BddFunction f)) (Some (ZddFamily g)) = None
node_of v (Some (BddFunction f)) None = None
node_of v (Some (AddFunction f)) (Some (BddFunction g)) = None
node_of v (Some (AddFunction f)) (Some (AddFunction g)) = Some (AddFunction (choice v f g))
node_of v (Some (AddFunction f)) (Some (ZddFamily g)) = None
node_of v (Some (AddFunction f)) None = None
node_of v (Some (ZddFamily f)) (Some (BddFunction g)) = None
node_of v (Some (ZddFamily f)) (Some (AddFunction g)) = None
node_of v (Some (ZddFamily f)) (Some (ZddFamily g)) = Some (ZddFamily (joined (element_of v) f g))
node_of v (Some (ZddFamily f)) None = None
node_of v None l = None

abbrev pub word_function : (ℕ → Option Denoted) → Option Word → Option Denoted
word_function rec None = None
word_function rec (Some (Leaf x)) = Some (AddFunction (constant x))
word_function rec (Some (Inner node)) = node_of node.var (rec node.hi) (flipped node.lo.complement (rec node.lo.index))

-- slots 0, 1 and 2 are told by their number: logic one, Empty, Base
abbrev pub slot_function : (ℕ → Option Denoted) → (ℕ → Option Word) → ℕ → Option Denoted
slot_function rec slots zero = Some (BddFunction (constant true))
slot_function rec slots (suc zero) = Some (ZddFamily empty)
slot_function rec slots (suc (suc zero)) = Some (ZddFamily base)
slot_function rec slots (suc (suc (suc s))) = word_function rec (slots (suc (suc (suc s))))

-- what a slot denotes, by paths of at most so many words
unfoldable pub function_at_most : (ℕ → Option Word) → ℕ → ℕ → Option Denoted
function_at_most slots zero s = None
function_at_most slots (suc m) s = slot_function (function_at_most slots m) slots s
