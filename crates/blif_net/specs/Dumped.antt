-- What is asked of a dump and of the names of its variables and roots, and what the text of its multiplexers is.
use Rattle.std.specs.Prelude.{◌≡◌, ◌≢◌, ℕ, ◌≤◌, Bool, true, not, ◌&&◌, List, ◌++◌, ℤ, None, Some, length, map, slice_get}
use Rattle.std.specs.List.{AllPairs, list_all}
use Rattle.edge_bits.specs.Assignments.{bit}
use Rattle.edge_bits.specs.declared.limits.TheConstants.{MOST_SIGNALS, MOST_VARIABLES}
use Rattle.job_words.specs.declared.cutting.ByteClass.TheVariants.{Blank, Extended}
use Rattle.job_words.specs.Classes.{has_bytes, is_in}
use Rattle.job_words.specs.Text.{Word}
use Rattle.diagram_dumps.specs.declared.dump.Dump.{Dump}
use Rattle.diagram_dumps.specs.Dumps.{root_value}
use Rattle.diagram_dumps.specs.Listings.{IsListing, dump_of}
use Rattle.diagram_dumps.specs.WellMade.{IsWritable}
use Rattle.diagram_dumps.specs.declared.listings.Listing.{Listing}
use Rattle.cover_nets.specs.declared.net.Net.{Net}
use Rattle.cover_nets.specs.declared.net.Output.{Output}
use Rattle.blif_net.specs.Faults.{fault_of}
use Rattle.cover_nets.specs.Networks.{signal_value}
use Rattle.blif_net.specs.Networks.{IsBlifText}
use Rattle.blif_dump.specs.Calls.{signals_needed}
use Rattle.blif_dump.specs.Multiplexers.{multiplexers}
use Rattle.blif_dump.specs.Names.{called, naming_of}

-- a byte that may stand in a name, `#` too: from 33 on, but 127
abbrev pub is_name_byte : ℕ → Bool
is_name_byte b = is_in Extended b && not (is_in Blank b)

abbrev pub is_name : Word → Bool
is_name name = has_bytes name && list_all is_name_byte name

-- The variables have names that differ, as many as there are, and so have the roots, of which there is one. Outputs of one name
-- have one root, which is the variable's projection where the name is an input's.
pub record AreNames (dump : Dump) (inputs outputs : List Word) : Type 0 where
  pub few : dump.nvars ≤ MOST_VARIABLES
  pub as_many_inputs : length inputs ≡ dump.nvars
  pub as_many_outputs : length outputs ≡ length dump.roots
  pub some : 1 ≤ length dump.roots
  pub names : list_all is_name (inputs ++ outputs) ≡ true
  pub once : AllPairs (λ name other. name ≢ other) inputs
  pub one_root : (i j : ℕ) (name : Word) (root other : ℤ) → slice_get outputs i ≡ Some name → slice_get outputs j ≡ Some name → slice_get dump.roots i ≡ Some root → slice_get dump.roots j ≡ Some other
      → root ≡ other
  pub projected : (i v k : ℕ) (name : Word) (root : ℤ) → slice_get outputs i ≡ Some name → slice_get dump.roots i ≡ Some root → slice_get inputs v ≡ Some name → root_value dump root k ≡ bit k v

-- The network has these inputs and outputs, under the names that are written, and gives each output its root's function.
pub record IsNetOfDump (dump : Dump) (inputs outputs : List Word) (net : Net) : Type 0 where
  pub inputs_are : net.inputs ≡ map (called (naming_of inputs outputs)) inputs
  pub outputs_are : map (λ (output : Output). output.name) net.outputs ≡ map (called (naming_of inputs outputs)) outputs
  pub values : (i k : ℕ) (output : Output) (root : ℤ) → slice_get net.outputs i ≡ Some output → slice_get dump.roots i ≡ Some root → signal_value net output.signal k ≡ root_value dump root k

-- The text has no fault, and each network of it is the dump's.
pub record IsDumped (dump : Dump) (inputs outputs : List Word) (text : List ℕ) : Type 0 where
  pub faultless : fault_of text ≡ None
  pub networks : (net : Net) → IsBlifText text net → IsNetOfDump dump inputs outputs net

-- The multiplexers of a dump are read again, where they are no more signals than a text may have.
abbrev pub DumpsAreRead : Type 0
DumpsAreRead = (dump : Dump) (inputs outputs : List Word) → IsWritable dump → AreNames dump inputs outputs → signals_needed dump inputs outputs ≤ MOST_SIGNALS
    → IsDumped dump inputs outputs (multiplexers dump inputs outputs)

-- The names of each network of a text are such names, for the dump of each listing of its outputs' functions under an order of its inputs.
abbrev pub NetworksHaveNames : Type 0
NetworksHaveNames = (text : List ℕ) (net : Net) (order : List ℕ) (listing : Listing) → IsBlifText text net → length order ≡ length net.inputs
    → IsListing order (map (λ output. signal_value net output.signal) net.outputs) listing
    → AreNames (dump_of listing) net.inputs (map (λ output. output.name) net.outputs)
