use Rattle.std.proofs.Common.{◌++◌, ◌∷◌, ◌∙◌, ap, codes, nat_abs, ℕ, List}
use Rattle.blif_dump.specs.Multiplexers.{literal_for}
use Rattle.blif_dump.specs.Names.{called, node_name}
use Rattle.blif_dump.specs.Naming.{naming_in}
use Rattle.blif_dump.proofs.Texts.{output_joined}
use Rattle.blif_dump.proofs.writer.put_output.Goals as goal

pub returns : goal.returns
returns c =
    let naming = naming_in c.args.naming.now in
    let root = node_name naming.front (nat_abs c.args.root.now) in
    let name = called naming c.args.name.now in
    let old = c.args.text.now.items in
    c.in_ok-put_rows.ensures
    ∙ ap (λ (text : List ℕ). text ++ codes "\n" ++ c.literal_for.result ∷ codes " 1\n")
    (c.in_ok-put_word.ensures ∙ ap (λ (text : List ℕ). text ++ 32 ∷ name) (c.in_ok-put_index.ensures ∙ ap (λ (text : List ℕ). text ++ 32 ∷ root) c.in_ok-extend_from_slice.ensures.items))
    ∙ ap (λ (b : ℕ). (((old ++ codes ".names") ++ 32 ∷ root) ++ 32 ∷ name) ++ codes "\n" ++ b ∷ codes " 1\n") c.literal_for.ensures
    ∙ output_joined old root name (literal_for c.args.root.now ∷ codes " 1\n")
