use Rattle.std.proofs.Common.{◌≡◌, ◌+◌, ◌∙◌, List, [], ap, length, refl, true≢false, sym}
use Rattle.edge_bits.specs.declared.edges.Line.{Line}
use Rattle.diagram_dumps.proofs.Counted.{lines_counted, none_counted}
use Rattle.diagram_dumps.proofs.sizes.node_count.Goals as goal

pub returns-then-is_empty : goal.returns-then-is_empty
returns-then-is_empty c = λ orders under. none_counted c.args.dump.now orders (c.if-is_empty.ensures.0 refl)

pub returns : goal.returns
returns c = λ orders under.
    let some : c.args.dump.now.roots ≡ [] → ⊥ = λ e. true≢false (sym (c.if-is_empty.ensures.1 e)) in
    ap (λ (lines : List Line). length lines + 1) c.as_slice.ensures ∙ lines_counted c.args.dump.now c.requires orders under some
