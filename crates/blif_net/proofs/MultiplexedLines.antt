-- The lines that are written for a dump are those of a circuit.
use Rattle.std.proofs.Common.{◌≡◌, ℕ, ◌+◌, Bool, true, false, cond, List, [], ◌∷◌, ◌++◌, ℤ, codes, map, nat_abs, refl, ap, sym, ◌∙◌}
use Rattle.std.specs.List.{enumerate_from, flat_map}
use Rattle.std.proofs.lemmas.Grind.{flat_map-append}
use Rattle.edge_bits.specs.declared.edges.Line.{Line}
use Rattle.diagram_dumps.specs.declared.dump.Dump.{Dump}
use Rattle.blif_models.specs.Circuits.{Circuit, Cover, Row}
use Rattle.job_words.specs.Text.{Word}
use Rattle.blif_dump.specs.Lines.{text_of}
use Rattle.blif_dump.specs.Multiplexers.{end_lines, head_lines, is_due, lines_at, lines_of, literal_for, multiplexers, name_at, node_lines, output_lines, outputs_lines}
use Rattle.blif_dump.specs.Names.{Naming, called, naming_of, node_name}
use Rattle.blif_net.proofs.WrittenCircuits.{circuit_lines, cover_lines}

-- a row of output 1
abbrev pub row_of : Word → Row
row_of literals = record { literals = literals; output = true }

abbrev pub cover_of : List Word → Word → List Row → Cover
cover_of ins name rows = record { line = 0; ins = ins; name = name; rows = rows }

-- the constant, a node line, and an output
abbrev pub constant_cover : Word → Cover
constant_cover front = cover_of [] (node_name front 1) (row_of [] ∷ [])

abbrev pub node_cover : Word → Word → ℕ → Line → Cover
node_cover front var index line =
    cover_of (var ∷ node_name front line.hi ∷ node_name front (nat_abs line.lo) ∷ []) (node_name front index)
    (row_of (codes "11-") ∷ row_of (48 ∷ 45 ∷ literal_for line.lo ∷ []) ∷ [])

abbrev pub output_cover : Word → Word → ℤ → Cover
output_cover front name root = cover_of (node_name front (nat_abs root) ∷ []) name (row_of (literal_for root ∷ []) ∷ [])

-- node lines, whose indices are counted from here on
abbrev pub node_covers : Naming → List Word → ℕ → List Line → List Cover
node_covers naming inputs index [] = []
node_covers naming inputs index (line ∷ lines) =
    node_cover naming.front (called naming (name_at inputs line.var)) index line ∷ node_covers naming inputs (index + 1) lines

-- the cover, if it is due
abbrev pub cover_if : Bool → Cover → List Cover
cover_if true cover = cover ∷ []
cover_if false cover = []

abbrev pub cover_at : Naming → ℕ → Word → ℤ → List Cover
cover_at naming place name root = cover_if (is_due (naming.input_place name) (naming.output_place name) place) (output_cover naming.front (called naming name) root)

-- outputs, whose places are counted from here on
abbrev pub output_covers : Naming → List Word → ℕ → List ℤ → List Cover
output_covers naming outputs place [] = []
output_covers naming outputs place (root ∷ roots) = cover_at naming place (name_at outputs place) root ++ output_covers naming outputs (place + 1) roots

abbrev pub circuit_for : Naming → Dump → List Word → List Word → Circuit
circuit_for naming dump inputs outputs = record {
  inputs = map (called naming) inputs;
  outputs = map (called naming) outputs;
  covers = constant_cover naming.front ∷ (node_covers naming inputs 2 dump.nodes ++ output_covers naming outputs 0 dump.roots);
}

nodes-lines : (naming : Naming) (inputs : List Word) (index : ℕ) (lines : List Line)
    → flat_map (λ numbered. node_lines naming.front (called naming (name_at inputs numbered.1.var)) numbered.0 numbered.1) (enumerate_from index lines) ≡ flat_map cover_lines (node_covers naming inputs index lines)
nodes-lines naming inputs index [] = refl
nodes-lines naming inputs index (line ∷ lines) =
    ap (λ t. node_lines naming.front (called naming (name_at inputs line.var)) index line ++ t) (nodes-lines naming inputs (index + 1) lines)

at-lines : (due : Bool) (front name : Word) (root : ℤ) → cond due (output_lines front name root) [] ≡ flat_map cover_lines (cover_if due (output_cover front name root))
at-lines true front name root = refl
at-lines false front name root = refl

outputs-lines : (naming : Naming) (outputs : List Word) (place : ℕ) (roots : List ℤ)
    → flat_map (λ placed. lines_at naming placed.0 (name_at outputs placed.0) placed.1) (enumerate_from place roots) ≡ flat_map cover_lines (output_covers naming outputs place roots)
outputs-lines naming outputs place [] = refl
outputs-lines naming outputs place (root ∷ roots) =
    let name = name_at outputs place in
    let here = cover_at naming place name root in
    ap (λ t. t ++ flat_map (λ placed. lines_at naming placed.0 (name_at outputs placed.0) placed.1) (enumerate_from (place + 1) roots))
    (at-lines (is_due (naming.input_place name) (naming.output_place name) place) naming.front (called naming name) root)
    ∙ ap (λ t. flat_map cover_lines here ++ t) (outputs-lines naming outputs (place + 1) roots)
    ∙ sym (flat_map-append cover_lines here (output_covers naming outputs (place + 1) roots))

pub lines-circuit : (naming : Naming) (dump : Dump) (inputs outputs : List Word) → lines_of naming dump inputs outputs ≡ circuit_lines (codes "dd") (circuit_for naming dump inputs outputs)
lines-circuit naming dump inputs outputs =
    let nodes = node_covers naming inputs 2 dump.nodes in
    let outs = output_covers naming outputs 0 dump.roots in
    ap (λ t. head_lines naming.front (map (called naming) inputs) (map (called naming) outputs) ++ t ++ outputs_lines naming outputs dump.roots ++ end_lines) (nodes-lines naming inputs 2 dump.nodes)
    ∙ ap (λ t. head_lines naming.front (map (called naming) inputs) (map (called naming) outputs) ++ flat_map cover_lines nodes ++ t ++ end_lines) (outputs-lines naming outputs 0 dump.roots)
    ∙ ap (λ t. head_lines naming.front (map (called naming) inputs) (map (called naming) outputs) ++ (t ++ end_lines)) (sym (flat_map-append cover_lines nodes outs))

pub text-circuit : (dump : Dump) (inputs outputs : List Word)
    → multiplexers dump inputs outputs ≡ text_of (circuit_lines (codes "dd") (circuit_for (naming_of inputs outputs) dump inputs outputs))
unfolding multiplexers
text-circuit dump inputs outputs = ap text_of (lines-circuit (naming_of inputs outputs) dump inputs outputs)
