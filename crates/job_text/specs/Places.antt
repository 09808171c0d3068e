-- The words of a command: what each stands for at its place, and which fit those to their left.
use Rattle.std.specs.Prelude.{◌≡◌, ◌≢◌, ℕ, ◌+◌, ◌*◌, ◌<◌, ◌≤◌, ◌==◌, Bool, true, false, List, [], ◌∷◌, ◌++◌, Option, Some, None, All, length, slice_get, if◌then◌else◌}
use Rattle.std.specs.List.{list_any, position_or_len}
use Rattle.std.specs.Str.{bytes_eq}
use Rattle.edge_bits.specs.declared.limits.TheConstants.{CELLS}
use Rattle.edge_bits.specs.declared.edges.Kind.{Kind}
use Rattle.edge_bits.specs.declared.edges.Kind.TheVariants.{Bdd, Add, Zdd}
use Rattle.function_laws.specs.declared.orders.Order.{Order}
use Rattle.function_laws.specs.declared.orders.Order.TheVariants.{Variables, Elements}
use Rattle.function_laws.specs.Numbers.{is_value}
use Rattle.job_commands.specs.declared.commands.Place.{Place}
use Rattle.job_commands.specs.declared.commands.Place.TheVariants as places
use Rattle.job_words.specs.Text.{Word, IsNumber, IsInteger, is_name, bit_word}
use Rattle.job_text.specs.declared.faults.FaultKind.{FaultKind}
use Rattle.job_text.specs.declared.faults.FaultKind.TheVariants as kinds
use Rattle.job_text.specs.declared.job.Counts.{Counts}
use Rattle.job_text.specs.declared.job.Register.{Register}
use Rattle.job_text.specs.declared.operands.Operand.{Operand}
use Rattle.job_text.specs.declared.operands.Operand.TheVariants as operands
use Rattle.job_commands.specs.declared.operands.Operands.{Operands}

-- the word is a name that was not assigned in this section
abbrev pub IsFresh : List Register → Word → Type 0
IsFresh registers word = (is_name word ≡ true) × All (λ register. register.name ≢ word) registers

-- the register has this name
abbrev pub is_called : Word → Register → Bool
is_called word register = bytes_eq register.name word

-- the word names the register that was assigned as number a and was not dropped, the first of this name; it has this kind
abbrev pub Refers : List Register → Word → ℕ → Kind → Type 0
Refers registers word a kind =
    (is_name word ≡ true) × (slice_get registers a ≡ Some (record { name = word; live = true; kind = kind }))
    × (position_or_len (is_called word) registers ≡ a)

-- how many levels an order has: one for each variable, or for each element
abbrev pub levels_of : Counts → Order → ℕ
levels_of n Variables = n.vars
levels_of n Elements = n.elements

-- the word stands for this, over these registers and these numbers of variables and elements
abbrev pub StandsFor : Counts → List Register → Word → Operand → Type 0
StandsFor n registers word operands.Target = IsFresh registers word
StandsFor n registers word (operands.Register kind a) = Refers registers word a kind
StandsFor n registers word (operands.Any a) = (kind : Kind) × Refers registers word a kind
StandsFor n registers word (operands.Alike a) = (kind : Kind) × Refers registers word a kind
StandsFor n registers word (operands.Variable v) = IsNumber word v × (v < n.vars)
StandsFor n registers word (operands.NewVariable v) = IsNumber word v × (v < n.vars)
StandsFor n registers word (operands.Element e) = IsNumber word e × (e < n.elements)
StandsFor n registers word (operands.Level order l) = IsNumber word l × (l + 1 < levels_of n order)
StandsFor n registers word (operands.Cell k) = IsNumber word k × (k < CELLS)
StandsFor n registers word (operands.Value w) = IsInteger word w × (is_value w ≡ true)
StandsFor n registers word (operands.Bit b) = word ≡ bit_word (b ∷ [])
StandsFor n registers word (operands.Bits bits) = word ≡ bit_word bits
StandsFor n registers word operands.Literals = (is_name word ≡ true) × (2 * n.vars ≤ n.elements)

-- the words stand for these, one by one
abbrev pub AllStandFor : Counts → List Register → List Word → List Operand → Type 0
AllStandFor n registers [] [] = Unit {0}
AllStandFor n registers (word ∷ words) (operand ∷ operands) = StandsFor n registers word operand × AllStandFor n registers words operands
AllStandFor n registers _ _ = ⊥

-- the place at which such an operand is due
abbrev pub place_of : Operand → Place
place_of operands.Target = places.Fresh
place_of (operands.Register kind a) = places.Held kind
place_of (operands.Any a) = places.Any
place_of (operands.Alike a) = places.Alike
place_of (operands.Variable v) = places.Variable
place_of (operands.NewVariable v) = places.NewVariable
place_of (operands.Element e) = places.Element
place_of (operands.Level order l) = places.Level order
place_of (operands.Cell k) = places.Cell
place_of (operands.Value w) = places.Value
place_of (operands.Bit b) = places.Bit
place_of (operands.Bits bits) = places.Bits
place_of operands.Literals = places.Literals

-- these operands stand at the places, and then at those that repeat, any number of times
abbrev pub Follows : List Place → List Place → List Operand → Type 0
Follows [] repeated [] = Unit {0}
Follows (place ∷ due) repeated [] = ⊥
Follows [] [] (o ∷ os) = ⊥
Follows [] (place ∷ repeated) (o ∷ os) = (place_of o ≡ place) × Follows repeated (place ∷ repeated) os
Follows (place ∷ due) repeated (o ∷ os) = (place_of o ≡ place) × Follows due repeated os

-- the kind of the register that was assigned as number a
abbrev pub kind_of : Option Register → Kind
kind_of None = Bdd
kind_of (Some register) = register.kind

abbrev pub kind_at : List Register → ℕ → Kind
kind_at registers a = kind_of (slice_get registers a)

-- how many bits a diagram of the kind is evaluated at: one for each element for a family, else one for each variable
abbrev pub bits_for : Counts → Kind → ℕ
bits_for n Bdd = n.vars
bits_for n Add = n.vars
bits_for n Zdd = n.elements

-- the operands with one more register
abbrev pub with_register : List Register → Operands → ℕ → Operands
with_register registers others a = record others { registers = others.registers ++ a ∷ []; kind = kind_at registers a }

-- the operands with one more; that a target is new is all there is to it, and that there are elements for all literals to another
abbrev pub with_operand : List Register → Operands → Operand → Operands
with_operand registers others operands.Target = others
with_operand registers others (operands.Register kind a) = with_register registers others a
with_operand registers others (operands.Any a) = with_register registers others a
with_operand registers others (operands.Alike a) = with_register registers others a
with_operand registers others (operands.Variable v) = record others { variables = others.variables ++ v ∷ [] }
with_operand registers others (operands.NewVariable v) = record others { variables = others.variables ++ v ∷ [] }
with_operand registers others (operands.Element e) = record others { elements = others.elements ++ e ∷ [] }
with_operand registers others (operands.Level order l) = record others { levels = others.levels ++ l ∷ [] }
with_operand registers others (operands.Cell k) = record others { cells = others.cells ++ k ∷ [] }
with_operand registers others (operands.Value w) = record others { values = others.values ++ w ∷ [] }
with_operand registers others (operands.Bit b) = record others { bits = others.bits ++ b ∷ [] }
with_operand registers others (operands.Bits bits) = record others { bits = bits }
with_operand registers others operands.Literals = others

abbrev pub with_operands : List Register → Operands → List Operand → Operands
with_operands registers others [] = others
with_operands registers others (operand ∷ operands) = with_operands registers (with_operand registers others operand) operands

abbrev pub same_kind : Kind → Kind → Bool
same_kind Bdd Bdd = true
same_kind Add Add = true
same_kind Zdd Zdd = true
same_kind _ _ = false

-- the fault where this kind is due, and a register of that kind is named
abbrev pub kind_fault : Kind → Kind → Option FaultKind
kind_fault due kind = if same_kind due kind then None else Some kinds.Kind

-- what is wrong with an operand beside those to its left: a register of another kind than the last, a variable that was named, bits
-- of another number than is due for the last register
abbrev pub misfit : Counts → List Register → Operands → Operand → Option FaultKind
misfit n registers others operands.Target = None
misfit n registers others (operands.Register kind a) = None
misfit n registers others (operands.Any a) = None
misfit n registers others (operands.Alike a) = kind_fault others.kind (kind_at registers a)
misfit n registers others (operands.Variable v) = None
misfit n registers others (operands.NewVariable v) = if list_any (λ other. other == v) others.variables then Some kinds.Range else None
misfit n registers others (operands.Element e) = None
misfit n registers others (operands.Level order l) = None
misfit n registers others (operands.Cell k) = None
misfit n registers others (operands.Value w) = None
misfit n registers others (operands.Bit b) = None
misfit n registers others (operands.Bits bits) = if length bits == bits_for n others.kind then None else Some kinds.Range
misfit n registers others operands.Literals = None

-- each operand fits those to its left
abbrev pub AllFit : Counts → List Register → Operands → List Operand → Type 0
AllFit n registers others [] = Unit {0}
AllFit n registers others (operand ∷ operands) =
    (misfit n registers others operand ≡ None) × AllFit n registers (with_operand registers others operand) operands
