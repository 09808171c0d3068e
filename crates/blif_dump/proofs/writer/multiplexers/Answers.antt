use Rattle.std.proofs.Common.{◌++◌, ◌<◌, ◌∙◌, ap, codes, subst, sym, get_or, length, map, List, ℕ, ℤ, arith}
use Rattle.edge_bits.specs.declared.edges.Line.{Line}
use Rattle.blif_dump.specs.Calls.{names_in}
use Rattle.blif_dump.specs.Lines.{text_of}
use Rattle.blif_dump.specs.Multiplexers.{end_lines, head_lines, lines_of, multiplexers, nodes_lines, outputs_lines}
use Rattle.blif_dump.specs.Names.{Naming, called}
use Rattle.blif_dump.specs.Naming.{naming_in}
use Rattle.blif_dump.proofs.Texts.{whole_joined}
use Rattle.blif_dump.proofs.Variables.{variables_within}
use Rattle.blif_dump.proofs.writer.multiplexers.Goals as goal

pub put_nodes-requires-clause-below : goal.put_nodes-requires-clause-below
put_nodes-requires-clause-below c = λ k d low.
    let nodes = c.args.dump.now.nodes in
    subst (λ (lines : List Line). (get_or lines k d).var < length c.args.inputs.now) (sym c.as_slice.ensures)
    (omega (arith, variables_within c.args.dump.now c.requires.writable k d (subst (λ (lines : List Line). k < length lines) c.as_slice.ensures low), c.requires.inputs))

pub returns : goal.returns
unfolding multiplexers
returns c =
    let naming = naming_in c.in_ok-naming.naming in
    let inputs = names_in c.args.inputs.now in
    let outputs = names_in c.args.outputs.now in
    let dump = c.args.dump.now in
    let head = head_lines naming.front (map (called naming) inputs) (map (called naming) outputs) in
    c.in_ok-extend_from_slice.ensures.items
    ∙ ap (λ (t : List ℕ). t ++ codes ".end\n")
    (c.in_ok-put_outputs.ensures
    ∙ ap (λ (roots : List ℤ). c.put_nodes.new.text.items ++ text_of (outputs_lines naming outputs roots)) c.as_slice-2.ensures
    ∙ ap (λ (t : List ℕ). t ++ text_of (outputs_lines naming outputs dump.roots))
    (c.in_ok-put_nodes.ensures
    ∙ ap (λ (nodes : List Line). c.in_ok-text.text.items ++ text_of (nodes_lines naming inputs nodes)) c.as_slice.ensures
    ∙ ap (λ (t : List ℕ). t ++ text_of (nodes_lines naming inputs dump.nodes)) c.in_ok-text.ensures))
    ∙ whole_joined head (nodes_lines naming inputs dump.nodes) (outputs_lines naming outputs dump.roots) end_lines
    ∙ ap (λ (naming : Naming). text_of (lines_of naming dump inputs outputs)) c.in_ok-naming.ensures
