-- The variables of the lines of a dump that may be written.
use Rattle.std.proofs.Common.{◌≡◌, ℕ, ◌<◌, Contains, Some, get_or, length, slice_get, subst, sym}
use Rattle.std.proofs.lemmas.Option.{get_or_from_slice_get, slice_get-get_or, slice_get_within}
use Rattle.edge_bits.specs.declared.edges.Line.{Line}
use Rattle.diagram_dumps.specs.declared.dump.Dump.{Dump}
use Rattle.diagram_dumps.specs.WellMade.{IsWritable}

pub variable_within : (dump : Dump) → IsWritable dump → (place : ℕ) (line : Line) → slice_get dump.nodes place ≡ Some line → line.var < dump.nvars
variable_within dump writable place line at =
    let here : line ≡ get_or dump.nodes place line = sym (get_or_from_slice_get dump.nodes place line line at) in
    let held : Contains dump.ids line.var = subst (λ (t : Line). Contains dump.ids t.var) (sym here) (writable.holds place line (slice_get_within dump.nodes place line at)) in
    subst (λ (v : ℕ). v < dump.nvars) held.2 (writable.below held.0 line.var held.1)

pub variables_within : (dump : Dump) → IsWritable dump → (place : ℕ) (d : Line) → place < length dump.nodes → (get_or dump.nodes place d).var < dump.nvars
variables_within dump writable place d h = variable_within dump writable place (get_or dump.nodes place d) (slice_get-get_or dump.nodes place d h)
