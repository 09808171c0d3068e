use Rattle.std.proofs.Common.{◌++◌, ◌∷◌, [], ◌∙◌, ap, codes, nat_abs, ℕ, List}
use Rattle.blif_dump.specs.Lines.{spaced}
use Rattle.blif_dump.specs.Multiplexers.{literal_for}
use Rattle.blif_dump.specs.Names.{node_name}
use Rattle.blif_dump.specs.Naming.{naming_in}
use Rattle.blif_dump.proofs.Texts.{node_joined}
use Rattle.blif_dump.proofs.writer.put_node.Goals as goal

pub returns : goal.returns
returns c =
    let front = (naming_in c.args.naming.now).front in
    let line = c.args.line.now in
    let signals : List ℕ = spaced (node_name front line.hi ∷ node_name front (nat_abs line.lo) ∷ node_name front c.args.index ∷ []) in
    c.in_ok-put_rows.ensures
    ∙ ap (λ (text : List ℕ). text ++ codes "\n11- 1\n0-" ++ c.literal_for.result ∷ codes " 1\n") (c.in_ok-put_signals.ensures ∙ ap (λ (text : List ℕ). text ++ signals) c.in_ok-put_opening.ensures)
    ∙ ap (λ (b : ℕ). ((c.args.text.now.items ++ codes ".names " ++ c.args.var.now) ++ signals) ++ codes "\n11- 1\n0-" ++ b ∷ codes " 1\n") c.literal_for.ensures
    ∙ node_joined c.args.text.now.items c.args.var.now signals (codes "11- 1\n0-") (literal_for line.lo ∷ codes " 1\n")
