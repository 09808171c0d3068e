use Rattle.std.proofs.Common.{◌≡◌, ◌∙◌, ℕ, ℤ, List, subst, sym}
use Rattle.edge_bits.specs.declared.edges.Line.{Line}
use Rattle.diagram_dumps.specs.WellMade.{IsWritable}
use Rattle.diagram_dumps.proofs.Writable.{may_be_written, two_lines}
use Rattle.reader_rows.proofs.stored.exclusive_or.Goals as goal

-- a dump with these lists
is_writable : (ids permids : List ℕ) (nodes : List Line) (roots : List ℤ) → ids ≡ two_lines.ids → permids ≡ two_lines.permids → nodes ≡ two_lines.nodes → roots ≡ two_lines.roots
    → IsWritable (record { nvars = 2; ids = ids; permids = permids; nodes = nodes; roots = roots })
is_writable ids permids nodes roots a b c d =
    subst (λ (xs : List ℕ). IsWritable (record { nvars = 2; ids = xs; permids = permids; nodes = nodes; roots = roots })) (sym a)
    (subst (λ (xs : List ℕ). IsWritable (record { nvars = 2; ids = two_lines.ids; permids = xs; nodes = nodes; roots = roots })) (sym b)
    (subst (λ (xs : List Line). IsWritable (record { nvars = 2; ids = two_lines.ids; permids = two_lines.permids; nodes = xs; roots = roots })) (sym c)
    (subst (λ (xs : List ℤ). IsWritable (record { nvars = 2; ids = two_lines.ids; permids = two_lines.permids; nodes = two_lines.nodes; roots = xs })) (sym d) may_be_written)))

pub returns : goal.returns
returns c =
    is_writable c.from_vec.result c.from_vec-2.result c.from_vec-3.result c.from_vec-4.result
    (c.from_vec.ensures ∙ c.in_ok-ids.ensures.items) (c.from_vec-2.ensures ∙ c.in_ok-permids.ensures.items)
    (c.from_vec-3.ensures ∙ c.in_ok-nodes.ensures.items) (c.from_vec-4.ensures ∙ c.in_ok-roots.ensures.items)
