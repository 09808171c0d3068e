use Rattle.std.proofs.Common.{◌≡◌, ◌+◌, ◌<◌, ◌++◌, ◌∙◌, ap, ℕ, get_or, length, pos, arith}
use Rattle.std.proofs.lemmas.List.{length-map}
use Rattle.std.specs.Borrow.{Bor}
use Rattle.edge_bits.specs.declared.edges.Line.{Line}
use Rattle.job_words.specs.Text.{Word}
use Rattle.blif_dump.specs.Calls.{names_in}
use Rattle.blif_dump.specs.Lines.{text_of}
use Rattle.blif_dump.specs.Multiplexers.{name_at, node_lines}
use Rattle.blif_dump.specs.Names.{called}
use Rattle.blif_dump.specs.Naming.{naming_in}
use Rattle.blif_dump.proofs.Texts.{lines_more, word_is}
use Rattle.blif_dump.proofs.writer.put_nodes.Goals as goal

nothing : Line
nothing = record { var = 0; hi = 0; lo = pos 0 }

pub loop-place-preserved : goal.loop-place-preserved
unfolding nothing
loop-place-preserved c =
    let naming = naming_in c.args.naming.now in
    let inputs = names_in c.args.inputs.now in
    let nodes = c.args.nodes.now in
    let place = c.loop-place.place in
    let text = c.loop-place.text.items in
    let line = get_or nodes place nothing in
    let below : line.var < length inputs = omega (arith, c.requires.below place nothing c.loop-place-test.true, length-map c.args.inputs.now (λ (name : Bor Word). name.now)) in
    let var : c.deref.result.now ≡ called naming (name_at inputs line.var) =
    c.deref.ensures.value ∙ word_is (called naming) inputs c.args.words.now line.var c.index-words-line.result c.requires.words below c.index-words-line.is in
    let same : place + 2 ≡ 2 + place = omega arith in
    lines_more (λ numbered. node_lines naming.front (called naming (name_at inputs numbered.1.var)) numbered.0 numbered.1) 2 nodes place nothing text c.args.text.now.items c.put_node.new.text.items
    c.loop-place-test.true c.loop-place.invariant
    (c.in_ok-put_node.ensures ∙ ap (λ (v : Word). text ++ text_of (node_lines naming.front v (place + 2) line)) var
    ∙ ap (λ (n : ℕ). text ++ text_of (node_lines naming.front (called naming (name_at inputs line.var)) n line)) same)
