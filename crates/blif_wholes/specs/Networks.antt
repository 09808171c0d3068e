-- What a network is of a circuit.
use Rattle.std.specs.Prelude.{◌≡◌, ℕ, ◌==◌, Bool, true, List, [], ◌∷◌, ◌++◌, Some, map, slice_get, IsPermutation, if◌then◌else◌}
use Rattle.cover_nets.specs.declared.net.Net.{Net}
use Rattle.cover_nets.specs.declared.net.Cover.{Cover as Gate}
use Rattle.cover_nets.specs.declared.net.Cube.{Cube}
use Rattle.cover_nets.specs.declared.net.Literal.{Literal}
use Rattle.cover_nets.specs.declared.net.Literal.TheVariants.{Zero, One, Any}
use Rattle.job_words.specs.Text.{Word}
use Rattle.blif_models.specs.Circuits.{Circuit, Cover, Row}

-- the numbers are the places of these words among the names
abbrev pub AreNumbers : List Word → List Word → List ℕ → Type 0
AreNumbers names words signals = map (slice_get names) signals ≡ map Some words

abbrev pub literal_of : ℕ → Literal
literal_of b = if b == 48 then Zero else if b == 49 then One else Any

abbrev pub literals_of : Row → Cube
literals_of row = record { literals = map literal_of row.literals }

-- false exactly where there are rows and their output is 0
abbrev pub is_on : List Row → Bool
is_on [] = true
is_on (row ∷ rows) = row.output

-- the gate is the cover, over these names of signals
pub record IsGateOf (names : List Word) (cover : Cover) (gate : Gate) : Type 0 where
  pub ins : AreNumbers names cover.ins gate.ins
  pub rows : gate.rows ≡ map literals_of cover.rows
  pub on : gate.on ≡ is_on cover.rows

-- the gates are the covers one by one, each over the names of the signals before it
abbrev pub AreGates : List Word → List Cover → List Gate → Type 0
AreGates names [] [] = Unit {0}
AreGates names (cover ∷ covers) (gate ∷ gates) = IsGateOf names cover gate × AreGates (names ++ cover.name ∷ []) covers gates
AreGates names _ _ = ⊥

-- The network is that of a circuit: its gates are the circuit's covers, each once, in some order in which each stands after
-- its inputs. Signals are the inputs, and then the gates.
pub record IsNetOf (circuit : Circuit) (net : Net) : Type 0 where
  pub inputs : net.inputs ≡ circuit.inputs
  pub arranged : List Cover
  pub each_once : IsPermutation circuit.covers arranged
  pub gates : AreGates circuit.inputs arranged net.gates
  pub names : map (λ output. output.name) net.outputs ≡ circuit.outputs
  pub signals : AreNumbers (circuit.inputs ++ map (λ cover. cover.name) arranged) circuit.outputs (map (λ output. output.signal) net.outputs)
