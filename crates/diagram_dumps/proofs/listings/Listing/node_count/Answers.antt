use Rattle.std.proofs.Common.{◌∙◌, List, ap, length, ◌+◌, [], ◌≡◌, true≢false, sym, refl}
use Rattle.edge_bits.specs.declared.edges.Line.{Line}
use Rattle.diagram_dumps.specs.Listings.{dump_of}
use Rattle.diagram_dumps.proofs.Counted.{lines_counted, none_counted}
use Rattle.diagram_dumps.proofs.Listed.{listed_size}
use Rattle.diagram_dumps.proofs.listings.Listing.node_count.Goals as goal

pub returns-then-is_empty : goal.returns-then-is_empty
returns-then-is_empty c = λ orders functions l.
    none_counted (dump_of c.args.self.now) orders (c.if-is_empty.ensures.0 refl) ∙ listed_size orders c.args.self.now functions l

pub returns-else-is_empty : goal.returns-else-is_empty
returns-else-is_empty c = λ orders functions l.
    let some : c.args.self.now.roots ≡ [] → ⊥ = λ e. true≢false (sym (c.if-is_empty.ensures.1 e)) in
    ap (λ (lines : List Line). length lines + 1) c.as_slice.ensures ∙ lines_counted (dump_of c.args.self.now) l.writable.well_made orders l.under some
    ∙ listed_size orders c.args.self.now functions l
