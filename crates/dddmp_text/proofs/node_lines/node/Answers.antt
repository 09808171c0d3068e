use Rattle.std.proofs.Common.{rules, ◌∙◌, ap, sym, arith, SFits, w32, ℤ}
use Rattle.std.specs.Prelude.{slice_index}
use Rattle.std.proofs.lemmas.Int.{to_z-of_z}
use Rattle.dddmp_text.specs.Reading.{fields_in}
use Rattle.dddmp_text.proofs.ReadDumps.{node-read}
use Rattle.dddmp_text.proofs.node_lines.node.Goals as goal

pub returns-clause-ok : goal.returns-clause-ok
returns-clause-ok c =
    let fits : SFits w32 c.in-Some.lo = search rules in
    let read = fields_in c.args.words.now in
    let told = node-read c.args.variables.now c.args.index read c.number_value-hi.result c.number_value-internal.result c.in-Some.lo c.requires.few
    (sym c.is_node.ensures ∙ c.if-not-is_node.false) c.requires.index c.number_value-hi.ensures (omega (arith, c.if-hi-index.false)) c.in-Some.ensures.0 c.in-Some.ensures.1
    c.number_value-internal.ensures (omega (arith, c.if-internal-variables.false)) in
    (told.0, ap (λ (z : ℤ). record { var = slice_index c.args.variables.now c.number_value-internal.result; hi = c.number_value-hi.result; lo = z }) (to_z-of_z w32 c.in-Some.lo fits) ∙ told.1)
