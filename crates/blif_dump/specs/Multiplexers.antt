-- The text of a network of multiplexers, one for each node line of a stored diagram.
use Rattle.std.specs.Prelude.{ℕ, Bool, false, List, [], ◌∷◌, ◌++◌, ℤ, pos, negsuc, Option, Some, None, ◌==◌, codes, map, nat_abs, if◌then◌else◌}
use Rattle.std.specs.List.{enumerate_from, flat_map, slice_index_or}
use Rattle.edge_bits.specs.declared.edges.Line.{Line}
use Rattle.job_words.specs.Text.{Word}
use Rattle.diagram_dumps.specs.declared.dump.Dump.{Dump}
use Rattle.blif_dump.specs.Lines.{text_of}
use Rattle.blif_dump.specs.Names.{Naming, called, naming_of, node_name}

-- the byte that a row has for the signal of an index: `1`, or `0` where the index is negative
abbrev pub literal_for : ℤ → ℕ
literal_for (pos index) = 49
literal_for (negsuc below) = 48

-- what declares the inputs, the outputs and the constant
abbrev pub head_lines : Word → List Word → List Word → List (List Word)
head_lines front ins outs =
    (codes ".model" ∷ codes "dd" ∷ []) ∷ (codes ".inputs" ∷ ins) ∷ (codes ".outputs" ∷ outs)
    ∷ (codes ".names" ∷ node_name front 1 ∷ []) ∷ (codes "1" ∷ []) ∷ []

-- a node line: `v then else node`, which is the then child where v is 1, and else the else child or its complement
abbrev pub node_lines : Word → Word → ℕ → Line → List (List Word)
node_lines front var index line =
    (codes ".names" ∷ var ∷ node_name front line.hi ∷ node_name front (nat_abs line.lo) ∷ node_name front index ∷ [])
    ∷ (codes "11-" ∷ codes "1" ∷ []) ∷ ((48 ∷ 45 ∷ literal_for line.lo ∷ []) ∷ codes "1" ∷ []) ∷ []

-- an output: its root, or the root's complement
abbrev pub output_lines : Word → Word → ℤ → List (List Word)
output_lines front name root =
    (codes ".names" ∷ node_name front (nat_abs root) ∷ name ∷ []) ∷ ((literal_for root ∷ []) ∷ codes "1" ∷ []) ∷ []

abbrev pub end_lines : List (List Word)
end_lines = (codes ".end" ∷ []) ∷ []

abbrev pub name_at : List Word → ℕ → Word
name_at names place = slice_index_or names place []

abbrev pub is_at : Option ℕ → ℕ → Bool
is_at None place = false
is_at (Some first) place = first == place

-- an output is defined at its first place, unless it is an input
abbrev pub is_due : Option ℕ → Option ℕ → ℕ → Bool
is_due None output place = is_at output place
is_due (Some input) output place = false

-- the lines of the nodes, whose indices are counted from 2
abbrev pub nodes_lines : Naming → List Word → List Line → List (List Word)
nodes_lines naming inputs nodes =
    flat_map (λ numbered. node_lines naming.front (called naming (name_at inputs numbered.1.var)) numbered.0 numbered.1) (enumerate_from 2 nodes)

-- the lines of the output at a place
abbrev pub lines_at : Naming → ℕ → Word → ℤ → List (List Word)
lines_at naming place name root =
    if is_due (naming.input_place name) (naming.output_place name) place then output_lines naming.front (called naming name) root else []

abbrev pub outputs_lines : Naming → List Word → List ℤ → List (List Word)
outputs_lines naming outputs roots = flat_map (λ placed. lines_at naming placed.0 (name_at outputs placed.0) placed.1) (enumerate_from 0 roots)

abbrev pub lines_of : Naming → Dump → List Word → List Word → List (List Word)
lines_of naming dump inputs outputs =
    head_lines naming.front (map (called naming) inputs) (map (called naming) outputs)
    ++ nodes_lines naming inputs dump.nodes ++ outputs_lines naming outputs dump.roots ++ end_lines

-- the text of a dump whose variables are the inputs and whose roots are the outputs
unfoldable pub multiplexers : Dump → List Word → List Word → List ℕ
multiplexers dump inputs outputs = text_of (lines_of (naming_of inputs outputs) dump inputs outputs)
